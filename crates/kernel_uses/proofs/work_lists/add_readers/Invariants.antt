-- The nets of the pins so far.
use Rattle.std.proofs.Common.{◌≡◌, ◌++◌, map, take}
use Rattle.design.specs.Pins.{net_of_pin, pins_fed, sources_of}
use Rattle.kernel_uses.proofs.work_lists.add_readers.Given as goal

abbrev pub invariant-loop-pin : goal.invariant-loop-pin
invariant-loop-pin l =
    l.work.items ≡ l.fn.work.items
    ++ map (net_of_pin l.design.circuit) (take l.pin-index (pins_fed l.net (sources_of l.design.circuit)))
