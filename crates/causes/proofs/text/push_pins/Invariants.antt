use Rattle.std.proofs.Common.{◌≡◌, ◌++◌, drop}
use Rattle.causes.specs.Text.{pins_text}
use Rattle.causes.proofs.text.push_pins.Given as goal

-- the pins so far and those left are all
abbrev pub invariant-loop-place : goal.invariant-loop-place
invariant-loop-place l =
    l.text.items ++ pins_text l.design (drop l.place l.pins) (drop l.place l.wires) l.asked ≡ l.fn.text.items ++ pins_text l.design l.pins l.wires l.asked
