use Rattle.std.proofs.Common.{◌∙◌}
use Rattle.mistakes.proofs.Edits.{exact_test}
use Rattle.mistakes.proofs.near.is_one_edit.Goals as goal

pub returns-clause-exact : goal.returns-clause-exact
returns-clause-exact c = exact_test c.edits_first.result c.args.one.now c.args.other.now (c.edits_first.ensures ∙ c.after_same.ensures)
