-- The net with a number, and how many pins a part takes.
use Rattle.std.proofs.Common.{◌≡◌, ℕ, ◌<◌, ◌≤◌, true, leb, length, option_map, Some, slice_get, ap, arith}
use Rattle.std.proofs.lemmas.Bool.{eqb-true, leb-true, and_parts}
use Rattle.std.proofs.lemmas.Option.{slice_get-get_or}
use Rattle.logic3.specs.declared.gates.GateKind.TheVariants.{Not, Buf}
use Rattle.netlist.specs.declared.part.Part.{Part}
use Rattle.netlist.specs.declared.part.Part.TheVariants.{Input, Gate, Flop}
use Rattle.netlist.specs.Part.{takes_pins}
use Rattle.timing_text.specs.Ranges.{most_delay, HasDelay}
use Rattle.design.specs.Circuit.{Net, Circuit, IsTimed}
use Rattle.design.specs.Design.{DesignView, IsDesign}
use Rattle.design.proofs.CallerLemmas.{All-slice_get, takes_its_pins}
use Rattle.gate_process.specs.Truth.{IsNet, net_at}

-- no part takes more pins than a gate may have
pub takes_few : (part : Part) (pins : ℕ) → takes_pins part pins ≡ true → pins ≤ 1024
takes_few Input pins takes = let none = eqb-true pins 0 takes in omega arith
takes_few Flop pins takes = let one = eqb-true pins 1 takes in omega arith
takes_few (Gate Not) pins takes = let one = eqb-true pins 1 takes in omega arith
takes_few (Gate Buf) pins takes = let one = eqb-true pins 1 takes in omega arith
takes_few (Gate _) pins takes = leb-true pins 1024 (and_parts (leb 1 pins) (leb pins 1024) takes).1

-- the net with a number is in the circuit
pub slice_get-net_at : (circuit : Circuit) (number : ℕ) → number < length circuit → slice_get circuit number ≡ Some (net_at circuit number)
slice_get-net_at circuit number within = slice_get-get_or circuit number _ within

-- the nets of a design are nets
pub is_net : (design : DesignView) → IsDesign design → (number : ℕ) (net : Net) → slice_get design.circuit number ≡ Some net → IsNet net
is_net design ok number net there = record {
  timed = All-slice_get IsTimed design.circuit number net ok.timed there;
  arity = takes_its_pins design ok number net.part net.pins (ap (option_map (λ (n : Net). n.part)) there)
      (ap (option_map (λ (n : Net). n.pins)) there);
}

-- no delay is longer than the longest one
pub delay_within : (part : Part) (delay : ℕ) → HasDelay part delay → delay ≤ most_delay
delay_within Input delay none = omega (arith, none)
delay_within Flop delay some = some.1
delay_within (Gate kind) delay some = some.1
