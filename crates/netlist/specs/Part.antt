-- What drives a net.
use Rattle.std.specs.Prelude.{ℕ, ◌==◌, ◌&&◌, nat_le, Bool, true, false}
use Rattle.logic3.specs.declared.gates.GateKind.TheVariants.{Not, Buf}
use Rattle.netlist.specs.declared.part.Part.{Part}
use Rattle.netlist.specs.declared.part.Part.TheVariants.{Input, Gate, Flop}

-- the numbers of pins that a part may have
abbrev pub takes_pins : Part → ℕ → Bool
takes_pins Input pins = pins == 0
takes_pins (Gate Not) pins = pins == 1
takes_pins (Gate Buf) pins = pins == 1
takes_pins (Gate kind) pins = nat_le 1 pins && nat_le pins 1024
takes_pins Flop pins = pins == 1

abbrev pub is_input : Part → Bool
is_input Input = true
is_input (Gate kind) = false
is_input Flop = false

abbrev pub is_gate : Part → Bool
is_gate Input = false
is_gate (Gate kind) = true
is_gate Flop = false

abbrev pub is_flop : Part → Bool
is_flop Input = false
is_flop (Gate kind) = false
is_flop Flop = true
