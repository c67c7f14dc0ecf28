-- How a run advances to its end.
use Rattle.std.specs.Prelude.{◌≡◌, ℕ, ◌+◌, ◌<◌, ◌≤◌, min, List, All, length}
use Rattle.design.specs.Circuit.{Circuit}
use Rattle.design.specs.Segments.{IsCutUp}
use Rattle.cmb_kernel.specs.State.{KernelView, State, floor_at, frontier_at, least_delay, least_frontier}
use Rattle.cmb_kernel.specs.Sound.{IsSound}
use Rattle.cmb_kernel.specs.Sweeps.{EventsLead, HoldsAll}
use Rattle.cmb_kernel.specs.Useful.{NoneFalls}
use Rattle.kernel_runs.specs.Windows.{most_sent}
use Rattle.kernel_runs.specs.declared.pace.Pace.{Pace}
use Rattle.kernel_runs.specs.declared.pace.Pace.TheVariants.{Rounds, Sweeps}
use Rattle.kernel_runs.specs.declared.sweeps.Sweeps as of_sweeps

-- sweeps go over each net of a circuit, and to the end of its run
pub record Covers (sweeps : of_sweeps.Sweeps) (circuit : Circuit) (end : ℕ) : Type 0 where
  pub within : All (λ net. net < length circuit) sweeps.order.items
  pub all : HoldsAll circuit sweeps.order.items
  pub cut_up : IsCutUp circuit sweeps.order.items sweeps.segments.items
  pub to_end : sweeps.end ≡ end
  pub most : sweeps.most ≡ most_sent (length circuit)

-- a run of a circuit to an end can advance at this pace
abbrev pub Suits : Pace → Circuit → ℕ → Type 0
Suits Rounds circuit end = Unit {0}
Suits (Sweeps sweeps) circuit end = Covers sweeps circuit end

-- a run advances over the same circuit, by events: no frontier falls, and nothing is taken out
pub record GoesOn (old new : KernelView) : Type 0 where
  pub run : new ≡ record old { state = new.state }
  pub sound : IsSound new.circuit new.end new.state
  pub led : EventsLead old.circuit old.state new.state
  pub none_falls : NoneFalls old.state new.state
  pub floors : (net : ℕ) → floor_at new.state net ≡ floor_at old.state net

-- every net is known the least delay past the tick up to which every net was known before, or to the end
abbrev pub RaisesLeast : KernelView → KernelView → Type 0
RaisesLeast old new = min old.end (least_frontier old.end old.state + least_delay old.end old.circuit) ≤ least_frontier new.end new.state

-- more is known of every net than before, unless all was known
abbrev pub LeastRises : KernelView → KernelView → Type 0
LeastRises old new = least_frontier old.end old.state < old.end → least_frontier old.end old.state < least_frontier new.end new.state

-- in a state of a run each of these nets is known the least delay past a tick, or to the end
abbrev pub AllFarther : KernelView → ℕ → State → List ℕ → Type 0
AllFarther run tick state nets = All (λ net. min run.end (tick + least_delay run.end run.circuit) ≤ frontier_at state net) nets
