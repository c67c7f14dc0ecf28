use Rattle.std.proofs.Common.{◌≡◌, ◌≤◌, ◌∙◌, ℕ, arith, false, nat_lt, sym, true, true≢false}
use Rattle.std.proofs.lemmas.Bool.Decides.{nat_tests}
use Rattle.net_words.proofs.Passing.{takes-first, takes-more, takes-nothing}
use Rattle.net_words.proofs.pattern.takes.Goals as goal
use Rattle.net_words.proofs.pattern.takes.Goals.{then-left-gt0-2, else-left-gt0-2}

none : (left : ℕ) → left ≤ 0 → true ≡ nat_lt 0 left → ⊥
none left few some = let test : nat_lt 0 left ≡ false = grind (arith, nat_tests) in true≢false (some ∙ test)

pub returns-then-ends-left : goal.returns-then-ends-left
returns-then-ends-left c =
    λ passes known fewer. takes-nothing c.args.byte passes c.args.name.now c.args.ends.now known c.args.left c.requires.left
    c.if-byte-eq42.true c.if-ends-left.true

pub returns-then-left-gt0 : goal.returns-then-left-gt0
returns-then-left-gt0 c =
    λ passes known fewer. takes-more c.args.byte passes c.args.name.now c.args.ends.now known c.args.left c.requires.left c.if-left-gt0.true
    c.if-byte-eq42.true c.if-ends-left.false c.args.more.now fewer

pub returns-then-name-left : goal.returns-then-name-left
returns-then-name-left c =
    elim c.if-left-gt0-2.branch [
      | then-left-gt0-2 w ↦
          λ passes known fewer. takes-first c.args.byte passes c.args.name.now c.args.ends.now known c.args.left c.requires.left
          w.if-left-gt0-2.true c.if-byte-eq42.false (sym w.value-is ∙ c.if-name-left.true)
      | else-left-gt0-2 w ↦ λ passes known fewer. absurd (none c.args.left w.if-left-gt0-2.false (sym c.if-name-left.true ∙ w.value-is))
    ]
