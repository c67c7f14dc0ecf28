use Rattle.std.proofs.Common.{◌<◌, length}
use Rattle.std.proofs.lemmas.List.Elements.{All-append}
use Rattle.netlist.specs.Netlist.{all_pins}
use Rattle.netlist.proofs.CallerLemmas.{pins_exist}
use Rattle.plain_runs.proofs.unused.used_nets.Goals as goal

pub marked-requires : goal.marked-requires
marked-requires c =
    rw (c.as_slice.ensures.value, c.in_ok-extend_from_slice.ensures.items, c.in_ok-used.ensures, c.outputs.ensures.outputs, c.nets.ensures.nets)
    (All-append (λ net. net < length c.args.netlist.now.nets) (all_pins c.args.netlist.now.nets) c.args.netlist.now.outputs
    (pins_exist c.args.netlist.now c.nets.ensures.well_formed) c.nets.ensures.well_formed.outputs)
