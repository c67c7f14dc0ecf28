use Rattle.std.proofs.Common.{◌∙◌, ℕ, Bor, List, sym}
use Rattle.nullsim.specs.AtFault.{means_nothing}
use Rattle.nullsim.proofs.Firsts.{find-here, find-later}
use Rattle.nullsim.proofs.names.first_meaning_nothing.Goals as goal

pub returns-then-branch : goal.returns-then-branch
returns-then-branch c =
    sym (find-here (λ (name : Bor (List ℕ)). name.now) (means_nothing c.args.netlist.now) c.args.words.now c.loop-word.word-index _ c.loop-word-test.true
    (sym c.in_ok-means_nothing.ensures ∙ c.if-branch.true))
    ∙ c.loop-word.invariant

pub loop-word-preserved : goal.loop-word-preserved
loop-word-preserved c =
    find-later (λ (name : Bor (List ℕ)). name.now) (means_nothing c.args.netlist.now) c.args.words.now c.loop-word.word-index _ c.loop-word-test.true
    (sym c.in_ok-means_nothing.ensures ∙ c.if-branch.false)
    ∙ c.loop-word.invariant
