use Rattle.std.proofs.Common.{◌≡◌, ◌++◌, List, take, drop, ap, sym, subst, ◌∙◌, ◌<◌, arith}
use Rattle.std.specs.Prelude.{All}
use Rattle.std.proofs.lemmas.List.{take-append-le, drop-append-le}
use Rattle.logic3.specs.Rising.{TicksRise}
use Rattle.logic3.specs.declared.change.Change.{Change}
use Rattle.logic3.specs.Wave.{Wave, value_at, value_after, value_in_the_end}
use Rattle.gate_process.specs.Knowledge.{unknown_from}
use Rattle.gate_process.proofs.Delayed.{not_due, unknown_there}
use Rattle.gate_process.specs.LaterChanges.{due_by}
use Rattle.gate_process.proofs.Passed.{due_with, due_within, left_shows, left_after, left_rises, value_now}
use Rattle.gate_process.proofs.cursor.Cursor.pass.Goals as goal

-- where nothing is known at the tick
pub returns-then-is_unknown_at-clause-value : goal.returns-then-is_unknown_at-clause-value
returns-then-is_unknown_at-clause-value c =
    sym (unknown_there c.self.inside.unknown c.self.inside.value c.self.inside.later c.args.tick c.args.tick
    (sym c.is_unknown_at.ensures ∙ c.if-is_unknown_at.true) (omega arith))
    ∙ ap (λ (wave : Wave). value_at wave c.args.tick) c.self.view_is

pub returns-then-is_unknown_at-clause-left : goal.returns-then-is_unknown_at-clause-left
returns-then-is_unknown_at-clause-left c = λ t late.
    ap (λ (wave : Wave). value_at wave t) (c.self-then-is_unknown_at.view_is ∙ c.default.ensures)
    ∙ sym (unknown_there c.self.inside.unknown c.self.inside.value c.self.inside.later c.args.tick t
    (sym c.is_unknown_at.ensures ∙ c.if-is_unknown_at.true) late)
    ∙ ap (λ (wave : Wave). value_at wave t) c.self.view_is

-- ---- else some changes are due

-- the changes that are left, and that to X after them
seen : goal.After-result-1 → List Change
seen c = c.self.inside.later ++ unknown_from c.self.inside.unknown

-- X isn't due
due_are : (c : goal.After-result-1) → due_by c.args.tick c.self.inside.later ≡ due_by c.args.tick (seen c)
unfolding seen
due_are c =
    sym (due_with c.self.inside.later (unknown_from c.self.inside.unknown) c.args.tick
    (not_due c.self.inside.unknown c.args.tick (sym c.is_unknown_at.ensures ∙ c.if-is_unknown_at.false)))

last_is : (c : goal.After-result-1) → c.pass-self-inside.result ≡ value_in_the_end c.self.inside.value (take (due_by c.args.tick (seen c)) (seen c))
unfolding seen
last_is c =
    c.pass-self-inside.ensures.value
    ∙ ap (value_in_the_end c.self.inside.value)
    (sym (take-append-le (due_by c.args.tick c.self.inside.later) c.self.inside.later (unknown_from c.self.inside.unknown)
    (due_within c.self.inside.later c.args.tick)))
    ∙ ap (λ count. value_in_the_end c.self.inside.value (take count (seen c))) (due_are c)

-- what is left after the due changes
rest_is : (c : goal.After-result-1) → c.pass-self-inside.new.self ++ unknown_from c.self.inside.unknown ≡ drop (due_by c.args.tick (seen c)) (seen c)
unfolding seen
rest_is c =
    ap (λ rest. rest ++ unknown_from c.self.inside.unknown) c.pass-self-inside.ensures.left
    ∙ sym (drop-append-le (due_by c.args.tick c.self.inside.later) c.self.inside.later (unknown_from c.self.inside.unknown)
    (due_within c.self.inside.later c.args.tick))
    ∙ ap (λ count. drop count (seen c)) (due_are c)

pub returns-clause-value : goal.returns-clause-value
unfolding seen
returns-clause-value c =
    last_is c ∙ value_now c.self.inside.value (seen c) c.args.tick c.self.invariant.0
    ∙ ap (λ (wave : Wave). value_at wave c.args.tick) c.self.view_is

pub invariant_of-self-2 : goal.invariant_of-self-2
unfolding seen
invariant_of-self-2 c =
    (subst TicksRise (sym (rest_is c)) (left_rises (seen c) (due_by c.args.tick (seen c)) c.self.invariant.0), c.first_tick-self-inside.ensures)

pub returns-clause-left : goal.returns-clause-left
unfolding seen
returns-clause-left c = λ t late.
    (λ i. value_after (last_is c i) (rest_is c i) t)
    ∙ left_shows c.self.inside.value (seen c) c.args.tick t late
    ∙ ap (λ (wave : Wave). value_at wave t) c.self.view_is

pub returns-clause-passed : goal.returns-clause-passed
unfolding seen
returns-clause-passed c =
    subst (λ changes. All (λ (change : Change). c.args.tick < change.tick) changes) (sym (rest_is c))
    (left_after (seen c) c.args.tick c.self.invariant.0)
