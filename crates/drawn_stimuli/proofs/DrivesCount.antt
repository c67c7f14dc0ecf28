-- Where no drive is faulty, each counts.
use Rattle.std.proofs.Common.{◌≡◌, ℕ, ◌&&◌, ◌||◌, not, Bool, true, false, cond, List, [], ◌∷◌, ◌++◌, get_or, All, Option, None, Some, append_assoc, append-nil, refl, sym, ap, ◌∙◌, subst, true≢false}
use Rattle.std.specs.List.{list_any}
use Rattle.std.specs.Option.{option_or}
use Rattle.std.specs.Str.{bytes_eq}
use Rattle.std.proofs.lemmas.List.Elements.{All-cons, All-head, All-nil, All-push, All-tail}
use Rattle.std.proofs.lemmas.Slice.Eq.{bytes_eq-Decides}
use Rattle.logic3.specs.declared.value.Value.TheVariants.{One}
use Rattle.netlist.specs.Netlist.{NetlistView}
use Rattle.netlist.proofs.CallerLemmas.{bytes_eq-same}
use Rattle.drawn_stimuli.specs.declared.drive.Drive.{Drive}
use Rattle.drawn_stimuli.specs.declared.drive.Drive.TheVariants.{Clock, ClockFrom, Hold, HoldBits, Pulse}
use Rattle.drawn_stimuli.specs.declared.drive.Rounds.{Rounds}
use Rattle.drawn_stimuli.specs.declared.fault.DriveFault.{DriveFault}
use Rattle.drawn_stimuli.specs.declared.fault.DriveFault.TheVariants.{NotAnInput, Twice}
use Rattle.drawn_stimuli.specs.Signals.{bit, drives_value, in_pulse, is_pulse, signal_of}
use Rattle.drawn_stimuli.specs.Inputs.{InputDriveView, can_follow, drives_named, fault_behind, first_fault, form_fault, names_input}
use Rattle.drawn_stimuli.proofs.KeptDrives.{drives_named-other, drives_named-own}

abbrev IsPulse : Drive → Type 0
IsPulse drive = is_pulse drive ≡ true

-- several drives are pulses
abbrev AreAllowed : List Drive → Type 0
AreAllowed [] = Unit {0}
AreAllowed (first ∷ []) = Unit {0}
AreAllowed (first ∷ second ∷ others) = All IsPulse (first ∷ second ∷ others)

both_true : (a b : Bool) → (a && b) ≡ true → (a ≡ true) × (b ≡ true)
both_true true true h = (refl, refl)
both_true true false h = (cc)
both_true false b h = (cc)

allowed-push : (drives : List Drive) (drive : Drive) → can_follow drives drive ≡ true → AreAllowed drives → AreAllowed (drives ++ drive ∷ [])
allowed-push [] drive fits allowed = tt
allowed-push (first ∷ []) drive fits allowed =
    let pulses = both_true (is_pulse first) (is_pulse drive) fits in
    All-cons IsPulse first (drive ∷ []) pulses.0 (All-cons IsPulse drive [] pulses.1 (All-nil IsPulse))
allowed-push (first ∷ second ∷ others) drive fits allowed =
    All-push IsPulse (first ∷ second ∷ others) drive allowed (both_true (is_pulse first) (is_pulse drive) fits).1

-- a drive without a fault fits to the earlier ones of its name
fits_behind : (netlist : NetlistView) (earlier : List InputDriveView) (driven : InputDriveView) → fault_behind netlist earlier driven ≡ None →
    can_follow (drives_named earlier driven.name) driven.drive ≡ true
fits_behind netlist earlier driven none = go (names_input netlist driven.name) (can_follow (drives_named earlier driven.name) driven.drive) none
  where
    go : (named fits : Bool) →
        cond (not named) (Some (NotAnInput driven.place)) (cond (not fits) (Some (Twice driven.place)) (form_fault driven.place driven.drive)) ≡ None →
        fits ≡ true
    go false fits none = (cc)
    go true false none = (cc)
    go true true none = refl

allowed_from : (netlist : NetlistView) (earlier drives : List InputDriveView) → first_fault netlist earlier drives ≡ None →
    ((name : List ℕ) → AreAllowed (drives_named earlier name)) → (name : List ℕ) → AreAllowed (drives_named (earlier ++ drives) name)
allowed_from netlist earlier [] none allowed name =
    subst (λ all. AreAllowed (drives_named all name)) (sym (append-nil earlier)) (allowed name)
allowed_from netlist earlier (driven ∷ drives) none allowed name =
    let parts = both (fault_behind netlist earlier driven) none in
    subst (λ all. AreAllowed (drives_named all name)) (append_assoc earlier (driven ∷ []) drives)
    (allowed_from netlist (earlier ++ driven ∷ []) drives parts.1
    (λ name. with_one name (fits_behind netlist earlier driven parts.0) (bytes_eq driven.name name) refl) name)
  where
    both : (own : Option DriveFault) → option_or own (first_fault netlist (earlier ++ driven ∷ []) drives) ≡ None →
        (own ≡ None) × (first_fault netlist (earlier ++ driven ∷ []) drives ≡ None)
    both None none = (refl, none)
    both (Some fault) none = (cc)

    with_one : (name : List ℕ) → can_follow (drives_named earlier driven.name) driven.drive ≡ true → (same : Bool) → bytes_eq driven.name name ≡ same →
        AreAllowed (drives_named (earlier ++ driven ∷ []) name)
    with_one name fits true same =
        let names : driven.name ≡ name = (bytes_eq-Decides driven.name name).0 same in
        subst AreAllowed (sym (drives_named-own earlier driven name same))
        (allowed-push (drives_named earlier name) driven.drive
        (subst (λ name. can_follow (drives_named earlier name) driven.drive ≡ true) names fits) (allowed name))
    with_one name fits false apart = subst AreAllowed (sym (drives_named-other earlier driven name apart)) (allowed name)

-- what holds of the drives of a name holds of each drive with this name
each_named : (P : Drive → Type 0) (drives : List InputDriveView) (name : List ℕ) → All P (drives_named drives name) →
    All (λ (driven : InputDriveView). bytes_eq driven.name name ≡ true → P driven.drive) drives
each_named P [] name each = All-nil (λ (driven : InputDriveView). bytes_eq driven.name name ≡ true → P driven.drive)
each_named P (driven ∷ drives) name each = go (bytes_eq driven.name name) refl (each_named P drives name)
  where
    Q : InputDriveView → Type 0
    Q driven = bytes_eq driven.name name ≡ true → P driven.drive

    go : (same : Bool) → bytes_eq driven.name name ≡ same → (All P (drives_named drives name) → All Q drives) → All Q (driven ∷ drives)
    go true same rest =
        let own : All P (driven.drive ∷ drives_named drives name) = rw same at each in
        All-cons Q driven drives (λ _. All-head P driven.drive (drives_named drives name) own) (rest (All-tail P driven.drive (drives_named drives name) own))
    go false apart rest =
        let others : All P (drives_named drives name) = rw apart at each in
        All-cons Q driven drives (λ same. absurd (true≢false (sym same ∙ apart))) (rest others)

module _ (drives : List InputDriveView) (name : List ℕ) where
  -- a drive with the name is among those of the name
  abbrev Among : List Drive → Type 1
  Among own = (P : Drive → Type 0) → All P own → All (λ (driven : InputDriveView). bytes_eq driven.name name ≡ true → P driven.drive) drives

  alone : (own : List Drive) → Among own → AreAllowed own →
      All (λ (driven : InputDriveView). bytes_eq driven.name name ≡ true → is_pulse driven.drive ≡ false → own ≡ driven.drive ∷ []) drives
  alone [] among allowed = λ k d within same still.
      absurd (true≢false (among (λ _. true ≡ false) (All-nil (λ _. true ≡ false)) k d within same))
  alone (first ∷ []) among allowed = λ k d within same still.
      ap (λ drive. drive ∷ []) (among (λ drive. first ≡ drive) (All-cons (λ drive. first ≡ drive) first [] refl (All-nil (λ drive. first ≡ drive))) k d within same)
  alone (first ∷ second ∷ others) among allowed = λ k d within same still.
      absurd (true≢false (sym (among IsPulse allowed k d within same) ∙ still))

  -- where one is a pulse the first is one
  shown : (first : Drive) (others : List Drive) (tick : ℕ) → is_pulse first ≡ true →
      drives_value first others tick ≡ bit (in_pulse first tick || list_any (λ drive. in_pulse drive tick) others)
  shown (Clock half) others tick is = (cc)
  shown (ClockFrom half start begins_high) others tick is = (cc)
  shown (Hold value) others tick is = (cc)
  shown (HoldBits ones unknown) others tick is = (cc)
  shown (Pulse from to) others tick is = go (in_pulse (Pulse from to) tick) (list_any (λ drive. in_pulse drive tick) others)
    where
      go : (own other : Bool) → cond other One (bit own) ≡ bit (own || other)
      go true true = refl
      go true false = refl
      go false true = refl
      go false false = refl

  pulses : (rounds : Rounds) (place tick : ℕ) (own : List Drive) → Among own → AreAllowed own →
      All (λ (driven : InputDriveView). bytes_eq driven.name name ≡ true → is_pulse driven.drive ≡ true →
      signal_of rounds own place tick ≡ bit (list_any (λ drive. in_pulse drive tick) own)) drives
  pulses rounds place tick [] among allowed = λ k d within same is.
      absurd (true≢false (among (λ _. true ≡ false) (All-nil (λ _. true ≡ false)) k d within same))
  pulses rounds place tick (first ∷ []) among allowed = λ k d within same is.
      let this = among (λ drive. first ≡ drive) (All-cons (λ drive. first ≡ drive) first [] refl (All-nil (λ drive. first ≡ drive))) k d within same in
      shown first [] tick (ap is_pulse this ∙ is)
  pulses rounds place tick (first ∷ second ∷ others) among allowed = λ k d within same is.
      shown first (second ∷ others) tick (All-head IsPulse first (second ∷ others) allowed)

module _ (netlist : NetlistView) (drives : List InputDriveView) (none : first_fault netlist [] drives ≡ None) where
  allowed : (name : List ℕ) → AreAllowed (drives_named drives name)
  allowed = allowed_from netlist [] drives none (λ name. tt)

  pub drives_alone : All (λ (driven : InputDriveView). is_pulse driven.drive ≡ false → drives_named drives driven.name ≡ driven.drive ∷ []) drives
  drives_alone = λ k d within.
      let name = (get_or drives k d).name in
      alone drives name (drives_named drives name) (λ P. each_named P drives name) (allowed name) k d within (bytes_eq-same name)

  pub drives_pulses : (rounds : Rounds) (place tick : ℕ) →
      All (λ (driven : InputDriveView). is_pulse driven.drive ≡ true →
      signal_of rounds (drives_named drives driven.name) place tick ≡ bit (list_any (λ drive. in_pulse drive tick) (drives_named drives driven.name))) drives
  drives_pulses rounds place tick = λ k d within.
      let name = (get_or drives k d).name in
      pulses drives name rounds place tick (drives_named drives name) (λ P. each_named P drives name) (allowed name) k d within (bytes_eq-same name)
