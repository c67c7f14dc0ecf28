use Rattle.std.proofs.Common.{◌≡◌, ℕ, ◌<◌, ◌≤◌, List, ◌++◌, length, take, drop, ap, sym, subst, ◌∙◌, arith, rules, append-nil}
use Rattle.std.proofs.lemmas.List.{length-take}
use Rattle.logic3.specs.declared.value.Value.{Value}
use Rattle.logic3.specs.declared.change.Change.{Change}
use Rattle.logic3.specs.Wave.{Wave, changes_below, without_below, value_in_the_end, IsWave}
use Rattle.logic3.proofs.Cuts.{due_below, first_below, rest_behind, Alternates-cut}
use Rattle.logic3.proofs.Results.{OnErr_always}
use Rattle.logic3.proofs.Rising.{value_in_the_end-last}
use Rattle.logic3.proofs.waveform.Waveform.split_below_into.Goals as goal
use Rattle.logic3.proofs.waveform.Waveform.split_below_into.Goals.{After-due_below-due, After-drop_front}

-- as many as come first below the tick
due_is : (c : After-due_below-due) → c.due_below-due.result ≡ due_below c.args.tick c.self.inside.changes
due_is c = c.due_below-due.ensures.count ∙ ap (due_below c.args.tick) c.as_slice-changes.ensures

within : (c : After-due_below-due) → c.due_below-due.result ≤ length c.self.inside.changes
within c = rw c.as_slice-changes.ensures at c.due_below-due.ensures.within

first_part : (c : After-due_below-due) → take c.due_below-due.result c.self.inside.changes ≡ changes_below c.args.tick c.args.self.now.changes
first_part c =
    ap (λ n. take n c.self.inside.changes) (due_is c)
    ∙ first_below c.self.inside.before 0 c.args.tick c.self.inside.changes c.self.invariant
    ∙ ap (λ (w : Wave). changes_below c.args.tick w.changes) c.self.view_is

-- what is left, with the value before it
left : (c : After-due_below-due) → ◌≡◌ {A = Wave} (record {
  before = value_in_the_end c.self.inside.before (take c.due_below-due.result c.self.inside.changes);
  changes = drop c.due_below-due.result c.self.inside.changes;
}) (without_below c.args.tick c.args.self.now)
left c =
    let before = ap (λ n. value_in_the_end c.self.inside.before (take n c.self.inside.changes)) (due_is c)
    ∙ ap (value_in_the_end c.self.inside.before) (first_below c.self.inside.before 0 c.args.tick c.self.inside.changes c.self.invariant) in
    let changes = ap (λ n. drop n c.self.inside.changes) (due_is c)
    ∙ rest_behind c.self.inside.before 0 c.args.tick c.self.inside.changes c.self.invariant in
    (λ i. record { before = before i; changes = changes i }) ∙ ap (without_below c.args.tick) c.self.view_is

-- where none is before the tick, none is taken out and all stay
pub returns-then-due-eq0-clause-below : goal.returns-then-due-eq0-clause-below
returns-then-due-eq0-clause-below c =
    let at = (goal.at.returns-then-due-eq0-clause-below c).After-due_below-due in
    let none = ap (λ n. take n c.self.inside.changes) (sym c.if-due-eq0.true) ∙ first_part at in
    sym (append-nil c.args.below.now.items) ∙ ap (λ cs. c.args.below.now.items ++ cs) none

pub returns-then-due-eq0-clause-rest : goal.returns-then-due-eq0-clause-rest
returns-then-due-eq0-clause-rest c =
    let at = (goal.at.returns-then-due-eq0-clause-rest c).After-due_below-due in
    sym c.self.view_is ∙ ap (kept c.self.inside.before c.self.inside.changes) (sym c.if-due-eq0.true) ∙ left at
  where
    kept : Value → List Change → ℕ → Wave
    kept before changes due = record { before = value_in_the_end before (take due changes); changes = drop due changes }

-- some were taken out
pub returns-in_err-extend_from_slice-clause-memory : goal.returns-in_err-extend_from_slice-clause-memory
returns-in_err-extend_from_slice-clause-memory c =
    let at = (goal.at.returns-in_err-extend_from_slice-clause-memory c).After-due_below-due in
    OnErr_always _ (some c.due_below-due.result c.self.inside.changes _ c.if-due-eq0.false (within at) (first_part at))
  where
    some : (due : ℕ) (changes below : List Change) → (due ≡ 0 → ⊥) → due ≤ length changes → take due changes ≡ below → 0 < length below
    some due changes below apart within is = omega (arith, apart, within, ap length (sym is) ∙ length-take due changes)

-- the value of the last that was taken out
before_is : (c : After-drop_front) → c.map_or-self-inside.result ≡ value_in_the_end c.self.inside.before (take c.due_below-due.result c.self.inside.changes)
before_is c =
    rw (value_in_the_end-last c.self.inside.before (take c.due_below-due.result c.self.inside.changes), ← c.as_slice-changes.ensures, ← c.last.ensures.value)
    (search rules)

view_after : (c : After-drop_front) → ◌≡◌ {A = Wave} (record { before = c.map_or-self-inside.result; changes = c.drop_front.new.self })
    (record {
      before = value_in_the_end c.self.inside.before (take c.due_below-due.result c.self.inside.changes);
      changes = drop c.due_below-due.result c.self.inside.changes;
    })
view_after c = λ i. record { before = before_is c i; changes = c.drop_front.ensures i }

pub invariant_of-self : goal.invariant_of-self
invariant_of-self c =
    let at = (goal.at.invariant_of-self c).After-due_below-due in
    subst IsWave (sym (view_after c))
    (Alternates-cut c.self.inside.before 0 c.self.inside.changes c.due_below-due.result c.self.invariant (within at))

pub returns-clause-below : goal.returns-clause-below
returns-clause-below c =
    let at = (goal.at.returns-clause-below c).After-due_below-due in
    c.in_ok-extend_from_slice.ensures.items
    ∙ ap (λ cs. c.args.below.now.items ++ take c.due_below-due.result cs) c.as_slice-changes.ensures
    ∙ ap (λ cs. c.args.below.now.items ++ cs) (first_part at)

pub returns-clause-rest : goal.returns-clause-rest
returns-clause-rest c = view_after c ∙ left (goal.at.returns-clause-rest c).After-due_below-due
