use Rattle.std.proofs.Common.{sym, ◌∙◌}
use Rattle.kernel_runs.proofs.DiffNames.{is_name_among-None, is_name_among-Some}
use Rattle.kernel_runs.proofs.diff_names.is_marked.Goals as goal

pub returns-in-Some : goal.returns-in-Some
returns-in-Some c =
    c.requires.marks c.in-Some.net
    ∙ sym (is_name_among-Some c.args.netlist.now c.outputs.ensures.well_formed c.args.nets.now c.requires.nets c.args.name.now c.in-Some.net (sym c.in-Some.ensures))

pub returns-in-None : goal.returns-in-None
returns-in-None c =
    sym (is_name_among-None c.args.netlist.now c.outputs.ensures.well_formed c.args.nets.now c.requires.nets c.args.name.now (sym c.in-None.ensures))
