-- The nets so far, and those of the bits to come, are all.
use Rattle.std.proofs.Common.{◌≡◌, ◌-◌, map}
use Rattle.std.specs.List.{range_with_len}
use Rattle.netlist.specs.Netlist.{net_named}
use Rattle.net_words.specs.Meant.{bit_name, nets_of_range, seen_range}
use Rattle.net_words.proofs.AllFound.{found_after}
use Rattle.net_words.proofs.meant.nets_of_range.Given as goal

abbrev pub invariant-loop-step : goal.invariant-loop-step
invariant-loop-step l =
    found_after (net_named l.netlist) l.nets.items (map (bit_name (seen_range l.range)) (range_with_len l.step (l.step-end - l.step)))
    ≡ nets_of_range l.netlist (seen_range l.range)
