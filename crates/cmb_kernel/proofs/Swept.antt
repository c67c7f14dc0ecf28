-- What a sweep makes of a kernel.
use Rattle.std.proofs.Common.{◌≡◌, ℕ, ◌<◌, List, length, All, sym, subst}
use Rattle.design.specs.Circuit.{IsCircuit}
use Rattle.cmb_kernel.specs.State.{KernelView}
use Rattle.cmb_kernel.specs.Sweeps.{swept, IsSwept, EventsLead}
use Rattle.cmb_kernel.specs.Sound.{IsSound}
use Rattle.cmb_kernel.proofs.EventsLead.{lead_falls, lead_floor}
use Rattle.cmb_kernel.proofs.Sweeping.{sweep_farther, sweep_leads, sweep_raises}
use Rattle.cmb_kernel.proofs.UsefulEvents.{rises_by_delay}

module _ (tick : ℕ) (order : List ℕ) (start : KernelView) (ok : IsCircuit start.circuit) (sound : IsSound start.circuit start.end start.state)
    (exist : All (λ net. net < length start.circuit) order) where
  lead : EventsLead start.circuit start.state (swept tick order start.state)
  lead = sweep_leads start.circuit ok start.end tick order start.state sound exist

  pub is_swept : {now : KernelView} → now ≡ record start { state = swept tick order start.state } → IsSwept tick order start now
  is_swept {now} came =
      subst (IsSwept tick order start) (sym came) (record {
        raises = sweep_raises start.circuit ok start.end start.state sound tick order exist;
        rises = λ holds in_time below.
            rises_by_delay start.circuit start.end _ _ ok
            (sweep_raises start.circuit ok start.end start.state sound tick order exist holds in_time) below;
        farther = λ low known in_time within.
            sweep_farther start.circuit ok start.end low tick in_time within order start.state sound known exist;
        none_falls = lead_falls start.circuit ok start.end lead sound;
        floors = lead_floor start.circuit lead;
      })
