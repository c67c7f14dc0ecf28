use Rattle.std.proofs.Common.{◌≡◌, map, drop}
use Rattle.std.specs.List.{flat_map}
use Rattle.bench_text.specs.NetlistOf.{undefined_fault, unless, uses_in}
use Rattle.netlist.specs.Joined.{seen_net}
use Rattle.bench_text.specs.Stages.{seen_lines, wiring}
use Rattle.bench_text.proofs.Wired.{wired_from}
use Rattle.bench_text.proofs.reader.connected.Given as goal

-- the wiring so far and that of the lines left is all
abbrev pub invariant-loop-line : goal.invariant-loop-line
invariant-loop-line l =
    wired_from l.names (map seen_net l.nets.items) l.outputs.items (seen_lines (drop l.line-index l.lines))
    ≡ unless (undefined_fault l.names (flat_map uses_in (seen_lines l.lines))) (wiring l.names (seen_lines l.lines))
