use Rattle.std.proofs.Common.{◌≡◌, ◌-◌, ◌^◌, min, length, take}
use Rattle.std.specs.List.{sum_by}
use Rattle.netlist.specs.declared.netlist.Net.{Net}
use Rattle.bench_text.proofs.reader.is_over_limit.Given as goal

abbrev pub invariant-loop-net : goal.invariant-loop-net
invariant-loop-net l = l.pins ≡ min (2 ^ 64 - 1) (sum_by (λ (net : Net). length net.pins.items) (take l.net-index l.nets))
