use Rattle.std.proofs.Common.{sym, ◌∷◌}
use Rattle.netlist.specs.Names.{seen_names}
use Rattle.bench_text.proofs.SeenNames.{with_names-ok}
use Rattle.bench_text.proofs.statement.assignment.Goals as goal

pub returns : goal.returns
returns c =
    let names = c.args.name.now ∷ seen_names c.args.pins.items in
    let may = rw c.as_slice.ensures at c.in_ok-check_names.ensures in
    rw (c.definition_of.ensures, c.part_of.ensures) (sym (with_names-ok c.args.line names _ (sym may)))
