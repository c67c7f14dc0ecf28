use Rattle.std.proofs.Common.{◌≡◌, ℕ, ◌<◌, ◌≤◌, List, ◌++◌, length, take, drop, ap, sym, subst, ◌∙◌, arith, append-nil}
use Rattle.std.proofs.lemmas.List.{length-take}
use Rattle.logic3.specs.declared.value.Value.{Value}
use Rattle.logic3.specs.declared.change.Change.{Change}
use Rattle.logic3.specs.Rising.{TicksRise}
use Rattle.logic3.specs.Wave.{Wave, changes_below, without_below, value_in_the_end, IsWave}
use Rattle.logic3.proofs.CallerLemmas.{AllPairs-Alternates, due_below, OnErr_always}
use Rattle.gate_process.proofs.Below.{first_below, rest_behind, Alternates-cut}
use Rattle.gate_process.proofs.kept_wave.PackedWaveKeptWave.take_below.Goals as goal
use Rattle.gate_process.proofs.kept_wave.PackedWaveKeptWave.take_below.Goals.{After-kept_below-count, After-drop_front}

pub kept_below-count-requires : goal.kept_below-count-requires
kept_below-count-requires c =
    subst TicksRise (sym c.as_slice-changes.ensures) (AllPairs-Alternates c.self.inside.before 0 c.self.inside.changes c.self.invariant)

-- as many as come first below the tick
count_is : (c : After-kept_below-count) → c.kept_below-count.result ≡ due_below c.args.tick c.self.inside.changes
count_is c = c.kept_below-count.ensures.count ∙ ap (due_below c.args.tick) c.as_slice-changes.ensures

within : (c : After-kept_below-count) → c.kept_below-count.result ≤ length c.self.inside.changes
within c = rw c.as_slice-changes.ensures at c.kept_below-count.ensures.within

first_part : (c : After-kept_below-count) → take c.kept_below-count.result c.self.inside.changes ≡ changes_below c.args.tick c.args.self.now.changes
first_part c =
    ap (λ n. take n c.self.inside.changes) (count_is c)
    ∙ first_below c.self.inside.before 0 c.args.tick c.self.inside.changes c.self.invariant
    ∙ ap (λ (w : Wave). changes_below c.args.tick w.changes) c.self.view_is

-- what is left, with the value before it
left : (c : After-kept_below-count) → ◌≡◌ {A = Wave} (record {
  before = value_in_the_end c.self.inside.before (take c.kept_below-count.result c.self.inside.changes);
  changes = drop c.kept_below-count.result c.self.inside.changes;
}) (without_below c.args.tick c.args.self.now)
left c =
    let before = ap (λ n. value_in_the_end c.self.inside.before (take n c.self.inside.changes)) (count_is c)
    ∙ ap (value_in_the_end c.self.inside.before) (first_below c.self.inside.before 0 c.args.tick c.self.inside.changes c.self.invariant) in
    let changes = ap (λ n. drop n c.self.inside.changes) (count_is c)
    ∙ rest_behind c.self.inside.before 0 c.args.tick c.self.inside.changes c.self.invariant in
    (λ i. record { before = before i; changes = changes i }) ∙ ap (without_below c.args.tick) c.self.view_is

-- where none is before the tick, none is taken out and all stay
pub returns-then-count-eq0-clause-below : goal.returns-then-count-eq0-clause-below
returns-then-count-eq0-clause-below c =
    let at = (goal.at.returns-then-count-eq0-clause-below c).After-kept_below-count in
    let none = ap (λ n. take n c.self.inside.changes) (sym c.if-count-eq0.true) ∙ first_part at in
    sym (append-nil c.args.below.now.items) ∙ ap (λ cs. c.args.below.now.items ++ cs) none

pub returns-then-count-eq0-clause-rest : goal.returns-then-count-eq0-clause-rest
returns-then-count-eq0-clause-rest c =
    let at = (goal.at.returns-then-count-eq0-clause-rest c).After-kept_below-count in
    sym c.self.view_is ∙ ap (kept c.self.inside.before c.self.inside.changes) (sym c.if-count-eq0.true) ∙ left at
  where
    kept : Value → List Change → ℕ → Wave
    kept before changes count = record { before = value_in_the_end before (take count changes); changes = drop count changes }

-- some were taken out
some : (count : ℕ) (changes below : List Change) → (count ≡ 0 → ⊥) → count ≤ length changes → take count changes ≡ below → 0 < length below
some count changes below apart within is = omega (arith, apart, within, ap length (sym is) ∙ length-take count changes)

pub returns-in_err-unpack-clause-memory : goal.returns-in_err-unpack-clause-memory
returns-in_err-unpack-clause-memory c =
    let at = (goal.at.returns-in_err-unpack-clause-memory c).After-kept_below-count in
    OnErr_always _ (some c.kept_below-count.result c.self.inside.changes _ c.if-count-eq0.false (within at) (first_part at))

-- the value of the last that was taken out
view_after : (c : After-drop_front) → ◌≡◌ {A = Wave} (record { before = c.last_kept-self-inside.result; changes = c.drop_front.new.self })
    (record {
      before = value_in_the_end c.self.inside.before (take c.kept_below-count.result c.self.inside.changes);
      changes = drop c.kept_below-count.result c.self.inside.changes;
    })
view_after c =
    let last = c.last_kept-self-inside.ensures
    ∙ ap (λ cs. value_in_the_end c.self.inside.before (take c.kept_below-count.result cs)) c.as_slice-changes.ensures in
    λ i. record { before = last i; changes = c.drop_front.ensures i }

pub invariant_of-self : goal.invariant_of-self
invariant_of-self c =
    let at = (goal.at.invariant_of-self c).After-kept_below-count in
    subst IsWave (sym (view_after (goal.at.invariant_of-self c).After-drop_front))
    (Alternates-cut c.self.inside.before 0 c.self.inside.changes c.kept_below-count.result c.self.invariant (within at))

pub returns-clause-below : goal.returns-clause-below
returns-clause-below c =
    let at = (goal.at.returns-clause-below c).After-kept_below-count in
    c.in_ok-unpack.ensures.ok
    ∙ ap (λ cs. c.args.below.now.items ++ take c.kept_below-count.result cs) c.as_slice-changes.ensures
    ∙ ap (λ cs. c.args.below.now.items ++ cs) (first_part at)

pub returns-clause-rest : goal.returns-clause-rest
returns-clause-rest c =
    view_after (goal.at.returns-clause-rest c).After-drop_front ∙ left (goal.at.returns-clause-rest c).After-kept_below-count
