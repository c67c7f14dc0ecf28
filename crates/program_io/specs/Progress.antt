-- The progress that an order reports.
use Rattle.std.specs.Prelude.{◌≡◌, ℕ, ◌+◌, List, []}
use Rattle.command_line.specs.declared.order.Order.{Order}
use Rattle.command_line.specs.declared.order.Order.TheVariants.{Run, Plain, Draw, Why}
use Rattle.prepared_runs.specs.Reported.{CountsBelow, CountsTo, RisesBelow, RisesTo}

-- the horizon up to which it reports ticks; it has no meaning for an order that reports none
abbrev pub horizon_reported : Order → ℕ
horizon_reported (Run options view counts) = view.horizon
horizon_reported (Plain options view) = view.horizon
horizon_reported (Draw options view form) = view.horizon
horizon_reported (Why options net tick) = tick
horizon_reported other = 0

-- the numbers of ticks that it reports if it is done: those of a run by the kernel rise to the number of all ticks, those of the plain
-- engine count up to it
abbrev pub DoneTicks : Order → List ℕ → Type 0
DoneTicks (Run options view counts) = RisesTo (view.horizon + 1)
DoneTicks (Plain options view) = CountsTo (view.horizon + 1)
DoneTicks (Draw options view form) = CountsTo (view.horizon + 1)
DoneTicks (Why options net tick) = RisesTo (tick + 1)
DoneTicks other = λ ticks. ticks ≡ []

-- and if it ends with a fault: none of them is greater than that
abbrev pub BrokenTicks : Order → List ℕ → Type 0
BrokenTicks (Run options view counts) = RisesBelow (view.horizon + 2)
BrokenTicks (Plain options view) = CountsBelow (view.horizon + 2)
BrokenTicks (Draw options view form) = CountsBelow (view.horizon + 2)
BrokenTicks (Why options net tick) = RisesBelow (tick + 2)
BrokenTicks other = λ ticks. ticks ≡ []
