use Rattle.std.proofs.Common.{◌≡◌, take, slice_index_or, slice_set, ap, sym, subst, ◌∙◌}
use Rattle.std.specs.List.{list_any}
use Rattle.std.proofs.lemmas.Option.{slice_get-get_or}
use Rattle.logic3.proofs.CallerLemmas.{OnErr_always}
use Rattle.cmb_channels.specs.Kinds.{is_change}
use Rattle.gate_process.specs.Knowledge.{told_all, wanted, keeping}
use Rattle.gate_process.specs.Outputs.{OutputView, state_of}
use Rattle.gate_process.specs.Step.{running, oldest_asked, kept, heard_below}
use Rattle.gate_process.specs.Truth.{IsProcess}
use Rattle.gate_process.proofs.HeardAll.{HeardBelow, heard_below_at}
use Rattle.gate_process.proofs.output.Output.receive_below.Given.{Over}
use Rattle.gate_process.proofs.output.Output.receive_below.Goals as goal
use Rattle.gate_process.proofs.output.Output.receive_below.Goals.{After-index-received-place, After-keep, After-oldest_asked-oldest}

facts : (g : Over) (c : After-index-received-place g) →
    HeardBelow (state_of c.args.self.now c.args.received.now) c.args.place c.args.tick (slice_index_or c.args.received.now c.args.place c.index-received-place.result) c.args.messages.now
facts g c =
    heard_below_at (state_of c.args.self.now c.args.received.now) c.args.place c.args.tick (slice_index_or c.args.received.now c.args.place c.index-received-place.result) c.args.messages.now
    c.requires.process
    (slice_get-get_or c.args.received.now c.args.place c.index-received-place.result c.requires.place)
    c.requires.can_hear

-- the oldest tick that the net asks for is that of the process as it was
oldest : (g : Over) (c : After-oldest_asked-oldest g) →
    c.oldest_asked-oldest.result ≡ oldest_asked c.args.self.now.net c.args.place c.args.self.now.known.frontier
oldest g c =
    c.oldest_asked-oldest.ensures ∙ ap (λ (o : OutputView). oldest_asked o.net c.args.place o.known.frontier) c.self.view_is

pub hear_below-requires : goal.hear_below-requires
hear_below-requires g c =
    let known = facts g (goal.at.hear_below-requires g c).After-index-received-place in
    known.continue

pub returns-in_err-count-clause-memory : goal.returns-in_err-count-clause-memory
returns-in_err-count-clause-memory g c =
    let known = facts g (goal.at.returns-in_err-count-clause-memory g c).After-index-received-place in
    OnErr_always c.from_residual.result (ap (list_any is_change) (sym known.taken) ∙ c.in_err-count.ensures.memory)

pub keep-requires : goal.keep-requires
keep-requires g c =
    let known = facts g (goal.at.keep-requires g c).After-index-received-place in
    rw c.in_ok-count.ensures.ok
    (rw (oldest g (goal.at.keep-requires g c).After-oldest_asked-oldest) known.begins)

pub returns-clause-count : goal.returns-clause-count
returns-clause-count g c =
    let known = facts g (goal.at.returns-clause-count g c).After-index-received-place in
    c.in_ok-count.ensures.count ∙ known.count

state : (g : Over) (c : After-keep g) →
    HeardBelow (state_of c.args.self.now c.args.received.now) c.args.place c.args.tick (slice_index_or c.args.received.now c.args.place c.index-received-place.result) c.args.messages.now →
    c.oldest_asked-oldest.result ≡ oldest_asked c.args.self.now.net c.args.place c.args.self.now.known.frontier → record {
      net = c.self.inside.net;
      end = c.self.inside.end;
      floor = c.self.inside.floor;
      known = record { wave = g.W.KeptWave.wave c.self.inside.wave; frontier = c.self.inside.frontier };
      received = slice_set c.args.received.now c.args.place c.keep.new.self;
    } ≡ heard_below c.args.tick c.args.place c.args.messages.now (state_of c.args.self.now c.args.received.now)
state g c known oldest_is =
    let process = state_of c.args.self.now c.args.received.now in
    let kept_is : c.keep.new.self ≡ kept process c.args.place (told_all (slice_index_or c.args.received.now c.args.place c.index-received-place.result)
    (take (wanted c.args.tick (slice_index_or c.args.received.now c.args.place c.index-received-place.result).frontier c.args.messages.now) c.args.messages.now)) =
    c.keep.ensures
    ∙ ap (λ oldest. keeping oldest c.hear_below.new.self) oldest_is
    ∙ ap (kept process c.args.place) c.in_ok-count.ensures.ok in
    (λ i. state_of (c.self.view_is i) (slice_set c.args.received.now c.args.place (kept_is i))) ∙ known.once

pub returns-clause-ok : goal.returns-clause-ok
returns-clause-ok g c =
    let known = facts g (goal.at.returns-clause-ok g c).After-index-received-place in
    ap running (state g (goal.at.returns-clause-ok g c).After-keep known (oldest g (goal.at.returns-clause-ok g c).After-oldest_asked-oldest))

pub returns-clause-process : goal.returns-clause-process
returns-clause-process g c =
    let known = facts g (goal.at.returns-clause-process g c).After-index-received-place in
    subst IsProcess (sym (state g (goal.at.returns-clause-process g c).After-keep known (oldest g (goal.at.returns-clause-process g c).After-oldest_asked-oldest))) known.ok
