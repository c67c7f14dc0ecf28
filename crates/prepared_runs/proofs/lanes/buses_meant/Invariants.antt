-- The buses so far, and those of the words to come, are all.
use Rattle.std.proofs.Common.{◌≡◌, drop, map}
use Rattle.netlist.specs.Names.{seen_names}
use Rattle.prepared_runs.specs.Lanes.{bus_meant, bus_view, buses_meant}
use Rattle.net_words.proofs.CallerLemmas.{found_after}
use Rattle.prepared_runs.proofs.lanes.buses_meant.Given as goal

abbrev pub invariant-loop-name : goal.invariant-loop-name
invariant-loop-name l =
    found_after (bus_meant l.netlist) (map bus_view l.buses.items) (drop l.name-index (seen_names l.words)) ≡ buses_meant l.netlist (seen_names l.words)
