-- What a stream keeps for its next call.
use Rattle.std.specs.Prelude.{◌≡◌, ◌-◌, ◌<◌, ◌≤◌, [], length, All}
use Rattle.netlist.specs.Netlist.{most_nets}
use Rattle.timing_text.specs.Ranges.{most_ticks}
use Rattle.vcd_dump.specs.declared.stream.Stream.TheInside.{Inside}
use Rattle.vcd_dump.specs.Codes.{AreCodes}
use Rattle.vcd_dump.specs.Lines.{LineView}

-- a stream that hasn't failed
pub record IsReady (stream : Inside) : Type 0 where
  pub codes : AreCodes stream.codes.items
  pub few : length stream.codes.items ≤ most_nets
  pub near : stream.horizon ≤ most_ticks
  pub early : stream.time ≤ stream.written - 1
  pub places : All (λ (line : LineView). line.place < length stream.codes.items) stream.lines.items
  pub sent : stream.text.items ≡ []
