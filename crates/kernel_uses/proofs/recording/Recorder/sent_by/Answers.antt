use Rattle.std.proofs.Common.{List, [], slice_get, slice_index_or, subst, sym, ap, ◌∙◌, arith}
use Rattle.cmb_channels.specs.declared.message.Message.{Message}
use Rattle.kernel_uses.specs.Records.{IsEndOf, Recorded}
use Rattle.kernel_uses.proofs.Histories.{length-messages_in, messages_at}
use Rattle.kernel_uses.proofs.recording.Recorder.sent_by.Goals as goal

pub returns-clause-waits : goal.returns-clause-waits
returns-clause-waits g c = λ pin feeds.
    let nets = ap (λ (r : Recorded). r.nets) c.self.view_is in
    let one_each = c.self.invariant.one_each in
    let long = length-messages_in c.self.inside.history.items in
    let sent = messages_at c.self.inside.history.items c.args.net c.index.result.now (omega (arith, c.requires, nets, one_each, long)) c.index.ensures
    ∙ sym c.as_slice.ensures.value in
    let P : List Message → Type 0 = λ all. IsEndOf (slice_index_or c.args.self.now.lists pin []) all in
    let Q : Recorded → Type 0 = λ r. IsEndOf (slice_index_or r.lists pin []) (slice_index_or r.history c.args.net []) in
    subst P (sym (ap (λ (r : Recorded). slice_index_or r.history c.args.net []) c.self.view_is) ∙ sent)
    (subst Q c.self.view_is
    (c.self.invariant.ends pin c.args.net (ap (λ (r : Recorded). slice_get r.sources pin) c.self.view_is ∙ feeds)))
