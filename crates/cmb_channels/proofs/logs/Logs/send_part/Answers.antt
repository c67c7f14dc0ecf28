use Rattle.std.proofs.Common.{◌≡◌, ℕ, ◌<◌, List, [], ◌∷◌, length, Some, slice_get, ap, refl, sym, ◌∙◌, arith}
use Rattle.std.proofs.lemmas.Bool.{eqb-true, eqb-false}
use Rattle.std.proofs.lemmas.Option.{slice_get_read}
use Rattle.design.specs.Pins.{pins_fed}
use Rattle.cmb_channels.specs.Channels.{Channels}
use Rattle.cmb_channels.specs.declared.message.Message.{Message}
use Rattle.cmb_channels.specs.Lists.{sent}
use Rattle.cmb_channels.specs.Parts.{messages_in}
use Rattle.cmb_channels.proofs.AllLogs.{length-counts, logs_written, lists_written, stored_set}
use Rattle.logic3.proofs.CallerLemmas.{OnErr_always}
use Rattle.cmb_channels.proofs.Places.{length-sent, sent-none}
use Rattle.cmb_channels.proofs.logs.Logs.send_part.Goals as goal
use Rattle.cmb_channels.proofs.logs.Logs.send_part.Goals.{After-index_mut}

log_at : (c : After-index_mut) → slice_get c.self.inside.logs.items c.args.net ≡ Some c.index_mut.result.now
log_at c =
    slice_get_read c.self.inside.logs.items _ c.args.net _ refl
    (omega (arith, c.requires, ap (λ (channels : Channels). channels.nets) (c.self.view_is ∙ c.make_room.ensures))) c.index_mut.ensures.value

some : (c : After-index_mut) → 0 < length (messages_in c.args.messages)
some c = let none = eqb-false (length (messages_in c.args.messages)) 0 (sym c.is_empty.ensures ∙ c.if-is_empty.false) in omega (arith, none)

pub invariant_of-self-2 : goal.invariant_of-self-2
invariant_of-self-2 c =
    let at = log_at (goal.at.invariant_of-self-2 c).After-index_mut in
    stored_set c.self.invariant c.args.net c.write.new.self c.self.inside.counts.items
    (logs_written c.self.inside.logs.items c.self.inside.sources.items c.self.inside.counts.items c.self.invariant.logs_are c.args.net
    c.index_mut.result.now at (messages_in c.args.messages) c.write.new.self c.in_ok-write.ensures.ok (some (goal.at.invariant_of-self-2 c).After-index_mut))

pub returns-clause-ok : goal.returns-clause-ok
returns-clause-ok c =
    lists_written c.self.inside.logs.items c.self.inside.sources.items c.self.inside.counts.items c.self.invariant.logs_are c.args.net
    c.index_mut.result.now (log_at (goal.at.returns-clause-ok c).After-index_mut) (messages_in c.args.messages) c.write.new.self c.in_ok-write.ensures.ok
    ∙ ap (λ (channels : Channels). sent c.args.net (messages_in c.args.messages) channels.sources channels.lists) (c.self.view_is ∙ c.make_room.ensures)

pub returns-clause-pins : goal.returns-clause-pins
returns-clause-pins c =
    ap length (lists_written c.self.inside.logs.items c.self.inside.sources.items c.self.inside.counts.items c.self.invariant.logs_are c.args.net
    c.index_mut.result.now (log_at (goal.at.returns-clause-pins c).After-index_mut) (messages_in c.args.messages) c.write.new.self c.in_ok-write.ensures.ok)
    ∙ length-sent c.args.net (messages_in c.args.messages) c.self.inside.sources.items _
    ∙ ap (λ (channels : Channels). length channels.lists) (c.self.view_is ∙ c.make_room.ensures)

-- a log with readers is one of a net that feeds pins
pub returns-in_err-write-clause-fed : goal.returns-in_err-write-clause-fed
returns-in_err-write-clause-fed c =
    let at = log_at (goal.at.returns-in_err-write-clause-fed c).After-index_mut in
    let is = c.self.invariant.logs_are.logs_are c.args.net c.index_mut.result.now at in
    let fed : 0 < length (pins_fed c.args.net c.args.self.now.sources) =
    omega (
      arith,
      c.in_err-write.ensures.memory,
      is.readers,
      length-counts c.args.net c.self.inside.sources.items c.self.inside.counts.items c.self.invariant.logs_are.one_count_each,
      ap (λ (channels : Channels). length (pins_fed c.args.net channels.sources)) (c.self.view_is ∙ c.make_room.ensures),
    ) in
    OnErr_always c.from_residual.result fed

-- where there is nothing to send
nothing_sent : (net : ℕ) (messages : List Message) (sources : List ℕ) (lists : List (List Message)) → length messages ≡ 0 →
    lists ≡ sent net messages sources lists
nothing_sent net [] sources lists none = sym (sent-none net sources lists)
nothing_sent net (message ∷ messages) sources lists none = absurd (omega (arith, none))

pub returns-then-is_empty-clause-ok : goal.returns-then-is_empty-clause-ok
returns-then-is_empty-clause-ok c =
    nothing_sent c.args.net (messages_in c.args.messages) c.args.self.now.sources c.args.self.now.lists
    (eqb-true (length (messages_in c.args.messages)) 0 (sym c.is_empty.ensures ∙ c.if-is_empty.true))
