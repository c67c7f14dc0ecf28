-- What it tells that a list of events is refused or not.
use Rattle.std.proofs.Common.{◌≡◌, ◌≢◌, ℕ, ◌+◌, nat_lt, Bool, true, false, cond, List, [], ◌∷◌, length, Option, None, Some, Result, Ok, Err, All, refl, ltb-true}
use Rattle.std.specs.Option.{option_or}
use Rattle.std.proofs.lemmas.List.Elements.{All-nil, All-cons}
use Rattle.design.specs.Circuit.{Circuit, pin_count}
use Rattle.cmb_events.specs.declared.event.Event.{Event}
use Rattle.cmb_events.specs.declared.event.Event.TheVariants.{Deliver, Advance}
use Rattle.cmb_kernel.specs.declared.fault.KernelFault.{KernelFault}
use Rattle.cmb_kernel.specs.declared.fault.KernelFault.TheVariants.{NoSuchPin, NoSuchNet, TooManyEvents, Memory, Failed}
use Rattle.cmb_kernel.specs.State.{KernelView}
use Rattle.cmb_kernel.specs.Refusals.{first_fault, list_fault, refusal, answer}
use Rattle.cmb_events.specs.Schedule.{most_events, Exists}

-- a call that isn't refused is one of a kernel that hasn't failed
pub not_failed : (kernel : KernelView) (done : Unit {0}) →
    ◌≡◌ {A = Result (Unit {0}) KernelFault} (Ok done) (answer (refusal kernel None) tt) → kernel.failed ≡ false
not_failed kernel done e = go kernel.failed refl e
  where
    go : (failed : Bool) → kernel.failed ≡ failed →
        ◌≡◌ {A = Result (Unit {0}) KernelFault} (Ok done) (answer (cond failed (Some Failed) None) tt) → kernel.failed ≡ false
    go true same e = cc
    go false same e = same

-- no list is refused for want of memory
first_fault-memory : (circuit : Circuit) (at : ℕ) (events : List Event) → first_fault circuit at events ≢ Some Memory
first_fault-memory circuit at [] e = cc
first_fault-memory circuit at (Deliver pin ∷ events) e = go (nat_lt pin (pin_count circuit)) e (first_fault-memory circuit (at + 1) events)
  where
    go : (there : Bool) → option_or (cond there None (Some (NoSuchPin at))) (first_fault circuit (at + 1) events) ≡ Some Memory →
        first_fault circuit (at + 1) events ≢ Some Memory → ⊥
    go true e rest = rest e
    go false e rest = cc
first_fault-memory circuit at (Advance net ∷ events) e = go (nat_lt net (length circuit)) e (first_fault-memory circuit (at + 1) events)
  where
    go : (there : Bool) → option_or (cond there None (Some (NoSuchNet at))) (first_fault circuit (at + 1) events) ≡ Some Memory →
        first_fault circuit (at + 1) events ≢ Some Memory → ⊥
    go true e rest = rest e
    go false e rest = cc

pub never_memory : (circuit : Circuit) (events : List Event) (fault : KernelFault) →
    ◌≡◌ {A = Result (Unit {0}) KernelFault} (Err fault) (answer (list_fault circuit events) tt) → fault ≢ Memory
never_memory circuit events fault e is = go (nat_lt most_events (length events)) e
  where
    refused : (found : Option KernelFault) → found ≢ Some Memory →
        ◌≡◌ {A = Result (Unit {0}) KernelFault} (Err fault) (answer found tt) → ⊥
    refused None other e = cc
    refused (Some first) other e = other (cc)

    go : (many : Bool) →
        ◌≡◌ {A = Result (Unit {0}) KernelFault} (Err fault) (answer (cond many (Some TooManyEvents) (first_fault circuit 0 events)) tt) → ⊥
    go true e = cc
    go false e = refused (first_fault circuit 0 events) (first_fault-memory circuit 0 events) e

-- the events of a list that isn't refused are there
first_fault-none : (circuit : Circuit) (at : ℕ) (events : List Event) → first_fault circuit at events ≡ None → All (Exists circuit) events
first_fault-none circuit at [] e = All-nil (Exists circuit)
first_fault-none circuit at (Deliver pin ∷ events) e =
    go (nat_lt pin (pin_count circuit)) refl e (first_fault-none circuit (at + 1) events)
  where
    go : (there : Bool) → nat_lt pin (pin_count circuit) ≡ there →
        option_or (cond there None (Some (NoSuchPin at))) (first_fault circuit (at + 1) events) ≡ None →
        (first_fault circuit (at + 1) events ≡ None → All (Exists circuit) events) → All (Exists circuit) (Deliver pin ∷ events)
    go true below e rest = All-cons (Exists circuit) (Deliver pin) events (ltb-true pin (pin_count circuit) below) (rest e)
    go false below e rest = cc
first_fault-none circuit at (Advance net ∷ events) e =
    go (nat_lt net (length circuit)) refl e (first_fault-none circuit (at + 1) events)
  where
    go : (there : Bool) → nat_lt net (length circuit) ≡ there →
        option_or (cond there None (Some (NoSuchNet at))) (first_fault circuit (at + 1) events) ≡ None →
        (first_fault circuit (at + 1) events ≡ None → All (Exists circuit) events) → All (Exists circuit) (Advance net ∷ events)
    go true below e rest = All-cons (Exists circuit) (Advance net) events (ltb-true net (length circuit) below) (rest e)
    go false below e rest = cc

pub all_exist : (circuit : Circuit) (events : List Event) (done : Unit {0}) →
    ◌≡◌ {A = Result (Unit {0}) KernelFault} (Ok done) (answer (list_fault circuit events) tt) → All (Exists circuit) events
all_exist circuit events done e = go (nat_lt most_events (length events)) e
  where
    accepted : (found : Option KernelFault) → ◌≡◌ {A = Result (Unit {0}) KernelFault} (Ok done) (answer found tt) → found ≡ None
    accepted None e = refl
    accepted (Some first) e = cc

    go : (many : Bool) →
        ◌≡◌ {A = Result (Unit {0}) KernelFault} (Ok done) (answer (cond many (Some TooManyEvents) (first_fault circuit 0 events)) tt) →
        All (Exists circuit) events
    go true e = cc
    go false e = first_fault-none circuit 0 events (accepted (first_fault circuit 0 events) e)
