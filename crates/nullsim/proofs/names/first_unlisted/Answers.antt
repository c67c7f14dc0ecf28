use Rattle.std.proofs.Common.{◌∙◌, ℕ, Bor, List, sym}
use Rattle.nullsim.specs.AtFault.{in_neither}
use Rattle.nullsim.proofs.Firsts.{find-here, find-later}
use Rattle.nullsim.proofs.names.first_unlisted.Goals as goal

pub returns-then-branch : goal.returns-then-branch
returns-then-branch c =
    sym (find-here (λ (word : Bor (List ℕ)). word.now) (in_neither c.args.one.now c.args.other.now) c.args.words.now c.loop-word.word-index _ c.loop-word-test.true
    (sym c.in_ok-in_neither.ensures ∙ c.if-branch.true))
    ∙ c.loop-word.invariant

pub loop-word-preserved : goal.loop-word-preserved
loop-word-preserved c =
    find-later (λ (word : Bor (List ℕ)). word.now) (in_neither c.args.one.now c.args.other.now) c.args.words.now c.loop-word.word-index _ c.loop-word-test.true
    (sym c.in_ok-in_neither.ensures ∙ c.if-branch.false)
    ∙ c.loop-word.invariant
