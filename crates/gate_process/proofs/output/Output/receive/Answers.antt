use Rattle.std.proofs.Common.{◌≡◌, ◌+◌, ◌≤◌, slice_index_or, ap, sym, subst, ◌∙◌, arith}
use Rattle.std.proofs.lemmas.Option.{slice_get-get_or}
use Rattle.timing_text.specs.Ranges.{most_ticks}
use Rattle.gate_process.specs.Knowledge.{Knowledge, told, keeping, Continues}
use Rattle.gate_process.specs.Outputs.{state_of}
use Rattle.gate_process.specs.Step.{kept}
use Rattle.gate_process.specs.Truth.{IsProcess}
use Rattle.gate_process.proofs.Hears.{told_fits}
use Rattle.gate_process.proofs.Heard.{nothing_forgotten_told, heard_at, heard-set, heard_at_is_process}
use Rattle.gate_process.proofs.output.Output.receive.Given.{Over}
use Rattle.gate_process.proofs.output.Output.receive.Goals as goal
use Rattle.gate_process.proofs.output.Output.receive.Goals.{After-index-received-place, After-keep}

-- what the pin knows before
abbrev before : (g : Over) → After-index-received-place g → Knowledge
before g c = slice_index_or c.args.received.now c.args.place c.index-received-place.result

-- the message continues it
continues : (g : Over) (c : After-index-received-place g) → Continues c.args.self.now.end (before g c) c.args.message
continues g c =
    c.requires.can_hear (before g c) (slice_get-get_or c.args.received.now c.args.place c.index-received-place.result c.requires.place)

fits : (g : Over) (c : After-index-received-place g) → (told (before g c) c.args.message).frontier ≤ most_ticks + 1
fits g c = omega (arith, (continues g c).1, c.requires.process.end)

pub of-requires : goal.of-requires
of-requires g c =
    let after = (goal.at.of-requires g c).After-index-received-place in
    told_fits (before g after) c.args.message (fits g after)

pub hear-requires-clause-raises : goal.hear-requires-clause-raises
hear-requires-clause-raises g c = rw c.of.ensures (continues g (goal.at.hear-requires-clause-raises g c).After-index-received-place).0

pub hear-requires-clause-fits : goal.hear-requires-clause-fits
hear-requires-clause-fits g c = rw c.of.ensures (fits g (goal.at.hear-requires-clause-fits g c).After-index-received-place)

pub hear-requires-clause-wave : goal.hear-requires-clause-wave
hear-requires-clause-wave g c = rw c.of.ensures (continues g (goal.at.hear-requires-clause-wave g c).After-index-received-place).2

pub keep-requires : goal.keep-requires
keep-requires g c =
    let process = state_of c.args.self.now c.args.received.now in
    let known = slice_index_or c.args.received.now c.args.place c.index-received-place.result in
    let at = slice_get-get_or c.args.received.now c.args.place c.index-received-place.result c.requires.place in
    rw (c.in_ok-hear.ensures.ok, c.of.ensures)
    (rw c.oldest_asked.ensures
    (nothing_forgotten_told process c.args.place known c.args.message c.requires.process at
    (c.requires.can_hear known at).0))

-- what the pin keeps
written : (g : Over) (c : After-keep g) → c.keep.new.self
    ≡ kept (state_of c.args.self.now c.args.received.now) c.args.place (told (slice_index_or c.args.received.now c.args.place c.index-received-place.result) c.args.message)
written g c =
    c.keep.ensures
    ∙ ap (λ oldest. keeping oldest c.hear.new.self) c.oldest_asked.ensures
    ∙ ap (kept (state_of c.args.self.now c.args.received.now) c.args.place)
    (c.in_ok-hear.ensures.ok ∙ ap (told (slice_index_or c.args.received.now c.args.place c.index-received-place.result)) c.of.ensures)

pub returns-clause-ok : goal.returns-clause-ok
returns-clause-ok g c =
    let process = state_of c.args.self.now c.args.received.now in
    let known = slice_index_or c.args.received.now c.args.place c.index-received-place.result in
    let at = slice_get-get_or c.args.received.now c.args.place c.index-received-place.result c.requires.place in
    ap (λ pin. heard_at c.args.place pin process) (written g (goal.at.returns-clause-ok g c).After-keep)
    ∙ heard-set process c.args.place known c.args.message at

pub returns-clause-process : goal.returns-clause-process
returns-clause-process g c =
    let process = state_of c.args.self.now c.args.received.now in
    let known = slice_index_or c.args.received.now c.args.place c.index-received-place.result in
    let at = slice_get-get_or c.args.received.now c.args.place c.index-received-place.result c.requires.place in
    subst (λ pin. IsProcess (heard_at c.args.place pin process)) (sym (written g (goal.at.returns-clause-process g c).After-keep))
    (heard_at_is_process process c.args.place known c.args.message c.requires.process at
    (c.requires.can_hear known at).0)
