use Rattle.std.proofs.Common.{◌≡◌, [], ◌∷◌, ◌++◌, slice_set, refl, ap, ◌∙◌, arith}
use Rattle.logic3.proofs.CallerLemmas.{OnErr_always}
use Rattle.cmb_channels.specs.Lists.{update}
use Rattle.kernel_uses.specs.Records.{Recorded, messages_in}
use Rattle.kernel_uses.proofs.EndsOf.{record_more, record_same}
use Rattle.kernel_uses.proofs.Histories.{length-messages_in, messages_more, messages_same}
use Rattle.kernel_uses.proofs.recording.RecorderFabric.send.Goals as goal
use Rattle.kernel_uses.proofs.recording.RecorderFabric.send.Goals.{After-reserve, After-push_reserved}

-- room alone changes nothing that is seen
same : (g : _) (c : After-reserve g) →
    messages_in (slice_set c.self.inside.history.items c.args.net c.reserve.new.self) ≡ messages_in c.self.inside.history.items
same g c =
    messages_same c.self.inside.history.items c.args.net c.index_mut-history.result.now c.reserve.new.self c.index_mut-history.ensures.value
    c.reserve.ensures.items

-- the message stands behind those of its net
more : (g : _) (c : After-push_reserved g) →
    messages_in (slice_set c.self.inside.history.items c.args.net c.push_reserved.new.self)
    ≡ update (λ list. list ++ c.args.message ∷ []) c.args.net (messages_in c.self.inside.history.items)
more g c =
    let nets = ap (λ (r : Recorded). r.nets) c.self.view_is in
    let one_each = c.self.invariant.one_each in
    let long = length-messages_in c.self.inside.history.items in
    messages_more c.self.inside.history.items c.args.net c.args.message c.index_mut-history.result.now c.push_reserved.new.self
    (omega (arith, c.requires, nets, one_each, long)) c.index_mut-history.ensures.value
    (c.push_reserved.ensures.items ∙ ap (λ items. items ++ c.args.message ∷ []) c.reserve.ensures.items)

pub invariant_of-self : goal.invariant_of-self
invariant_of-self g c = record_same refl refl refl (same g (goal.at.invariant_of-self g c).After-reserve) c.self.invariant

pub returns-in_err-reserve-clause-kept : goal.returns-in_err-reserve-clause-kept
returns-in_err-reserve-clause-kept g c =
    OnErr_always c.from_residual.result
    (same g (goal.at.returns-in_err-reserve-clause-kept g c).After-reserve ∙ ap (λ (r : Recorded). r.history) c.self.view_is)

pub invariant_of-self-in_err-send : goal.invariant_of-self-in_err-send
invariant_of-self-in_err-send g c =
    record_same c.in_err-send.ensures.err c.send.ensures.sources c.send.ensures.nets
    (same g (goal.at.invariant_of-self-in_err-send g c).After-reserve) c.self.invariant

pub returns-in_err-send-clause-kept : goal.returns-in_err-send-clause-kept
returns-in_err-send-clause-kept g c =
    OnErr_always c.from_residual-in_err-send.result
    (same g (goal.at.returns-in_err-send-clause-kept g c).After-reserve ∙ ap (λ (r : Recorded). r.history) c.self.view_is)

pub invariant_of-self-2 : goal.invariant_of-self-2
invariant_of-self-2 g c =
    let nets = ap (λ (r : Recorded). r.nets) c.self.view_is in
    record_same c.in_ok-send.ensures.ok c.send.ensures.sources c.send.ensures.nets (more g (goal.at.invariant_of-self-2 g c).After-push_reserved)
    (record_more _ _ _ _ c.self.invariant c.args.net c.args.message (omega (arith, c.requires, nets)))

pub returns-clause-history : goal.returns-clause-history
returns-clause-history g c =
    more g (goal.at.returns-clause-history g c).After-push_reserved
    ∙ ap (λ (r : Recorded). update (λ list. list ++ c.args.message ∷ []) c.args.net r.history) c.self.view_is
