-- What a span that is written in order is: the text of its ticks.
use Rattle.std.proofs.Common.{◌≡◌, ℕ, ◌-◌, ◌<◌, ◌≤◌, ◌==◌, Bool, true, false, cond, List, [], ◌∷◌, length, ap, arith}
use Rattle.vcd_dump.specs.Lines.{LineView}
use Rattle.vcd_dump.specs.Spans.{at_tick, lines_text, latest}
use Rattle.vcd_dump.specs.Written.{InOrder, last_tick, written_span}
use Rattle.vcd_dump.proofs.Gathered.{AllByRecursion-map}
use Rattle.vcd_dump.proofs.Ordered.{OfSpan, written_span-in_order, last_tick-in_order, latest-least}

-- the lines of a span in order
pub record Stepped (nets from time to : ℕ) (gathered sorted : List LineView) : Type 0 where
  pub places : from ≡ 0 → nets ≤ length sorted
  pub text : written_span nets from time sorted ≡ lines_text from to gathered
  pub last : last_tick time sorted ≡ latest time gathered
  pub bound : last_tick time sorted ≤ to - 1

at_most : (tick : ℕ) (lines : List LineView) → length (at_tick lines tick) ≤ length lines
at_most tick [] = omega arith
at_most tick (line ∷ lines) = go (line.tick == tick) (at_most tick lines)
  where
    go : (b : Bool) → length (at_tick lines tick) ≤ length lines →
        length (cond b (line ∷ at_tick lines tick) (at_tick lines tick)) ≤ length (line ∷ lines)
    go true h = omega arith
    go false h = omega arith

pub Stepped-in_order : (nets from time to : ℕ) (gathered sorted : List LineView) → InOrder gathered sorted → OfSpan nets from to gathered →
    from < to → time ≤ from - 1 → Stepped nets from time to gathered sorted
Stepped-in_order nets from time to gathered sorted order of_span ahead early =
    let last = last_tick-in_order nets from time to gathered sorted order of_span ahead early in
    let least = latest-least time (to - 1) gathered (omega arith)
    (AllByRecursion-map (λ (line : LineView). line.tick < to) (λ (line : LineView). line.tick ≤ to - 1) gathered
    (λ line h. omega arith) of_span.high) in
    record {
      places = λ e. omega (arith, at_most 0 sorted, ap length (order.stable 0), of_span.count e);
      text = written_span-in_order nets from time to gathered sorted order of_span ahead early;
      last = last;
      bound = omega (arith, last, least);
    }
