-- The equations if all flip-flops have one period, sample at its multiples and begin with X, as in a delay text of version 1.
use Rattle.std.specs.Prelude.{◌≡◌, ℕ, ◌+◌, ◌-◌, ◌*◌, ◌/◌, nat_lt, if◌then◌else◌, List, map, slice_get, Option, None, Some, Ok}
use Rattle.logic3.specs.declared.value.Value.{Value}
use Rattle.logic3.specs.declared.value.Value.TheVariants.{Unknown}
use Rattle.logic3.specs.Gate.{value_of_gate, only_pin}
use Rattle.logic3.specs.Wave.{value_after}
use Rattle.netlist.specs.declared.part.Part.{Part}
use Rattle.netlist.specs.declared.part.Part.TheVariants.{Input, Gate, Flop}
use Rattle.netlist.specs.Netlist.{IsNetlist, NetlistView}
use Rattle.timing_text.specs.Timings.{IsFirstVersion}
use Rattle.design.specs.Build.{circuit_of}
use Rattle.design.specs.Circuit.{Net, Circuit}
use Rattle.design.specs.Equations.{values_at}

-- a circuit that is made with a delay text of version 1
pub record OnePeriodCircuit : Type 0 where
  pub netlist : NetlistView
  pub is_netlist : IsNetlist netlist
  pub delays : List ℕ
  pub first_version : IsFirstVersion delays
  pub stimuli : List ℕ
  pub default_delay : ℕ
  pub period : ℕ
  pub circuit : Circuit
  pub made : circuit_of netlist delays stimuli default_delay period ≡ Ok circuit

module _ (period : ℕ) where
  -- a flip-flop shows its pin at the last multiple of the period that is a delay ago, from the first multiple on
  abbrev pub periodic_of_part : Part → Net → List (ℕ → Value) → ℕ → Value
  periodic_of_part Input net signals tick = value_after Unknown net.stimuli tick
  periodic_of_part (Gate kind) net signals tick =
      if nat_lt tick net.timing.delay then Unknown else value_of_gate kind (values_at (tick - net.timing.delay) signals)
  periodic_of_part Flop net signals tick =
      if nat_lt tick (net.timing.delay + period) then Unknown
      else only_pin (values_at (period * ((tick - net.timing.delay) / period)) signals)

  abbrev pub periodic_at : Option Net → (ℕ → ℕ → Value) → ℕ → Value
  periodic_at None signals tick = Unknown
  periodic_at (Some net) signals tick = periodic_of_part net.part net (map signals net.pins) tick

  -- a family of signals that meets these equations
  abbrev pub IsPeriodicSolution : Circuit → (ℕ → ℕ → Value) → Type 0
  IsPeriodicSolution circuit signals = (net tick : ℕ) → signals net tick ≡ periodic_at (slice_get circuit net) signals tick
