use Rattle.std.proofs.Common.{map, ◌∙◌, ap, ◌++◌}
use Rattle.netlist.specs.Netlist.{name_at}
use Rattle.circuit_info.proofs.Infos.{All-outside, IsInfoOf-made}
use Rattle.circuit_info.proofs.design_info.info.Goals as goal

pub info_text-requires : goal.info_text-requires
info_text-requires c =
    let netlist = c.netlist-netlist.result.now in
    rw c.as_slice.ensures.value (All-outside netlist (map (name_at netlist) netlist.outputs) _ (rw c.outputs.ensures.outputs at c.in_ok-unobserved.ensures))

pub returns : goal.returns
returns c =
    let netlist = c.netlist-netlist.result.now in
    IsInfoOf-made c.args.design.now netlist c.netlist-netlist.ensures c.in_ok-unobserved.unobserved.items c.as_slice.result.now c.in_ok-text.text.items c.in_ok-paths.paths.items _
    (rw c.outputs.ensures.outputs at c.in_ok-unobserved.ensures) c.as_slice.ensures.value c.in_ok-text.ensures c.in_ok-paths.ensures
    (c.in_ok-extend_from_slice.ensures.items ∙ ap (λ paths. c.in_ok-text.text.items ++ paths) c.as_slice-2.ensures.value)
