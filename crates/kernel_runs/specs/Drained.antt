-- A run's kernel out of which changes are taken.
use Rattle.std.specs.Prelude.{◌≡◌, ℕ, ◌<◌, ◌↔◌, false, List, map, length, Contains}
use Rattle.logic3.specs.declared.value.Value.{Value}
use Rattle.logic3.specs.Rising.{Rises}
use Rattle.design.specs.Circuit.{Circuit}
use Rattle.design.specs.Equations.{value_of}
use Rattle.cmb_kernel.specs.State.{KernelView, floor_at}
use Rattle.cmb_kernel.specs.Sound.{IsSound}
use Rattle.cmb_kernel.specs.Drains.{apart_from_waves}
use Rattle.prepared_runs.specs.Marked.{is_among}

-- this holds of the floor of each net
abbrev pub EachFloor : KernelView → (ℕ → Type 0) → Type 0
EachFloor kernel P = (net : ℕ) → net < length kernel.circuit → P (floor_at kernel.state net)

-- only drains lead from the one kernel to the other
pub record DrainsTo (start now : KernelView) : Type 0 where
  pub run : now ≡ record start { state = now.state }
  pub sound : IsSound now.circuit now.end now.state
  pub alike : apart_from_waves now.state ≡ apart_from_waves start.state

-- what the equations give each of these nets
abbrev pub values_of : Circuit → List ℕ → List (ℕ → Value)
values_of circuit nets = map (value_of circuit) nets

-- those of this number of nets that aren't among these, in rising order
pub record IsRest (count : ℕ) (nets rest : List ℕ) : Type 0 where
  pub rising : Rises rest
  pub others : (net : ℕ) → Contains rest net ↔ ((net < count) × (is_among nets net ≡ false))
