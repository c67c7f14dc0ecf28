-- A work list: what is not on it has nothing to do.
use Rattle.std.proofs.Common.{◌≡◌, ◌≢◌, ℕ, zero, suc, ◌<◌, ◌==◌, Bool, true, false, cond, List, [], ◌∷◌, ◌++◌, map, length, Some, slice_get, slice_index_or, refl, ap, sym, subst, ◌∙◌, arith, ◌⊎◌, inl, inr}
use Rattle.std.specs.List.{All, Contains}
use Rattle.std.proofs.lemmas.Bool.{cases_eq, eq-eqb}
use Rattle.std.proofs.lemmas.List.{get_or-map, length-map}
use Rattle.std.proofs.lemmas.List.Elements.{Contains-append_left, Contains-append_right, Contains-push_cases}
use Rattle.design.specs.Circuit.{Circuit, IsCircuit}
use Rattle.design.specs.Pins.{pins_fed, sources_of}
use Rattle.cmb_events.specs.declared.event.Event.{Event}
use Rattle.cmb_events.specs.declared.event.Event.TheVariants.{Advance}
use Rattle.cmb_events.specs.Schedule.{Exists}
use Rattle.cmb_kernel.specs.State.{KernelView, State}
use Rattle.cmb_kernel.specs.Step.{step, steps}
use Rattle.cmb_kernel.specs.Sound.{ForSound}
use Rattle.cmb_kernel.specs.Useful.{IsUnheard, is_useful}
use Rattle.kernel_uses.specs.Work.{IsIdle}

-- ---- what the pins are that a net feeds

found_later : (source : ℕ) (same : Bool) (pins : List ℕ) (pin : ℕ) → Contains pins pin →
    Contains (cond same (0 ∷ map suc pins) (map suc pins)) (suc pin)
found_later source true pins pin found =
    let long = length-map pins suc in (
      suc found.0,
      (let f = found.1 in omega (arith, f, long)),
      get_or-map suc pins found.0 pin (suc pin) found.1 ∙ ap suc found.2,
    )
found_later source false pins pin found =
    let long = length-map pins suc in
    (found.0, (let f = found.1 in omega (arith, f, long)), get_or-map suc pins found.0 pin (suc pin) found.1 ∙ ap suc found.2)

found_first : (same : Bool) (pins : List ℕ) → same ≡ true → Contains (cond same (0 ∷ map suc pins) (map suc pins)) 0
found_first true pins e = (0, omega arith, refl)
found_first false pins e = cc

pub fed_contains : (net : ℕ) (sources : List ℕ) (pin : ℕ) → slice_get sources pin ≡ Some net → Contains (pins_fed net sources) pin
fed_contains net [] pin e = cc
fed_contains net (source ∷ sources) zero e =
    let same : source ≡ net = cc in found_first (source == net) (pins_fed net sources) (eq-eqb source net same)
fed_contains net (source ∷ sources) (suc pin) e =
    found_later source (source == net) (pins_fed net sources) pin (fed_contains net sources pin e)

-- a number is among those of some pins, or of none of them
pub among : (owner : ℕ → ℕ) (number : ℕ) (pins : List ℕ) →
    Contains (map owner pins) number ⊎ ((pin : ℕ) → Contains pins pin → owner pin ≡ number → ⊥)
among owner number [] = inr (λ pin found same. absurd (let f = found.1 in omega (arith, f)))
among owner number (first ∷ pins) = go (cases_eq (owner first) number) (among owner number pins)
  where
    at : (owner first ≡ number → ⊥) → ((pin : ℕ) → Contains pins pin → owner pin ≡ number → ⊥) → (pin : ℕ) (place : ℕ) →
        place < length (first ∷ pins) → slice_index_or (first ∷ pins) place pin ≡ pin → owner pin ≡ number → ⊥
    at apart none pin zero below is same = apart (ap owner is ∙ same)
    at apart none pin (suc place) below is same = none pin (place, omega (arith, below), is) same

    go : (owner first ≡ number) ⊎ (owner first ≡ number → ⊥) →
        Contains (map owner pins) number ⊎ ((pin : ℕ) → Contains pins pin → owner pin ≡ number → ⊥) →
        Contains (owner first ∷ map owner pins) number ⊎ ((pin : ℕ) → Contains (first ∷ pins) pin → owner pin ≡ number → ⊥)
    go (inl same) later = inl (0, omega arith, same)
    go (inr apart) (inl there) = inl (suc there.0, (let f = there.1 in omega (arith, f)), there.2)
    go (inr apart) (inr none) = inr (λ pin found same. at apart none pin found.0 found.1 found.2 same)

-- ---- what the kernel's laws say of an advance

abbrev pub OthersStay : Type 0
OthersStay = ForSound (λ circuit last state. (net other : ℕ) → other < length circuit → other ≢ net →
    is_useful (step state (Advance net)) (Advance other) ≡ is_useful state (Advance other))

abbrev pub ListsStay : Type 0
ListsStay = ForSound (λ circuit last state. (net pin : ℕ) → slice_get (sources_of circuit) pin ≢ Some net →
    slice_index_or (step state (Advance net)).lists pin [] ≡ slice_index_or state.lists pin [])

abbrev pub IsQuiet : Type 0
IsQuiet = ForSound (λ circuit last state. (net : ℕ) → net < length circuit → (events : List Event) → All (Exists circuit) events →
    All (IsUnheard circuit net) events → is_useful (steps (step state (Advance net)) events) (Advance net) ≡ false)

-- ---- the list

-- each net is on the list, or has nothing to do
abbrev pub AllListed : Circuit → State → List ℕ → Type 0
AllListed circuit state work = (net : ℕ) → net < length circuit → Contains work net ⊎ IsIdle circuit state net

module _ (circuit : Circuit) (ok : IsCircuit circuit) (last : ℕ) (work : List ℕ) (net : ℕ) (old : KernelView) (heard next : State)
    (listed : AllListed circuit old.state (work ++ net ∷ [])) where
  -- a net that is not the one that was taken off the list
  other_net : (other : ℕ) → ((other ≡ net) → ⊥) → Contains (work ++ net ∷ []) other ⊎ IsIdle circuit old.state other →
      Contains work other ⊎ IsIdle circuit old.state other
  other_net other apart (inr idle) = inr idle
  other_net other apart (inl found) = go (Contains-push_cases work net other found)
    where
      go : Contains work other ⊎ (net ≡ other) → Contains work other ⊎ IsIdle circuit old.state other
      go (inl there) = inl there
      go (inr same) = absurd (apart (sym same))

  -- what is listed when nets that were idle stay so, and this one is idle then
  pub goes_on : (more : List ℕ) → ((other : ℕ) → other < length circuit → other ≢ net → IsIdle circuit old.state other → Contains more other ⊎ IsIdle circuit next other) →
      (Contains more net ⊎ IsIdle circuit next net) → AllListed circuit next (work ++ more)
  goes_on more others own other below = go (cases_eq other net)
    where
      later : Contains more other ⊎ IsIdle circuit next other → Contains (work ++ more) other ⊎ IsIdle circuit next other
      later (inl there) = inl (Contains-append_right work more other there)
      later (inr idle) = inr idle

      elsewhere : (other ≡ net → ⊥) → Contains work other ⊎ IsIdle circuit old.state other → Contains (work ++ more) other ⊎ IsIdle circuit next other
      elsewhere apart (inl there) = inl (Contains-append_left work more other there)
      elsewhere apart (inr idle) = later (others other below apart idle)

      go : (other ≡ net) ⊎ (other ≡ net → ⊥) → Contains (work ++ more) other ⊎ IsIdle circuit next other
      go (inl same) = later (subst (λ n. Contains more n ⊎ IsIdle circuit next n) (sym same) own)
      go (inr apart) = elsewhere apart (other_net other apart (listed other below))
