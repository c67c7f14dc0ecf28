-- The drives kept so far, by net number.
use Rattle.std.proofs.Common.{◌≡◌, ℕ, ◌≢◌, ◌+◌, ◌<◌, ◌≤◌, All, true, false, cond, not, List, [], ◌∷◌, ◌++◌, drop, filter, length, map, get_or, set, replicate, Option, None, Some, append_assoc, append-nil, refl, sym, ap, ◌∙◌, subst, arith}
use Rattle.std.specs.Option.{option_or}
use Rattle.std.specs.Str.{bytes_eq}
use Rattle.std.proofs.lemmas.List.{drop_more, get_or-map, length-map, map-append}
use Rattle.std.proofs.lemmas.List.Elements.{All-push, All-set, filter-append}
use Rattle.netlist.specs.Netlist.{NetView, NetlistView, net_at, net_named}
use Rattle.netlist.specs.Part.{is_input}
use Rattle.netlist.proofs.CallerLemmas.{HasDistinctNames, bytes_eq-other, bytes_eq-same, map-named, net_at-named, no_net}
use Rattle.drawn_stimuli.specs.declared.drive.Drive.{Drive}
use Rattle.drawn_stimuli.specs.declared.fault.DriveFault.{DriveFault}
use Rattle.drawn_stimuli.specs.declared.fault.DriveFault.TheVariants.{NotAnInput, Twice}
use Rattle.drawn_stimuli.specs.Signals.{IsDrive}
use Rattle.drawn_stimuli.specs.Inputs.{InputDriveView, InputView, can_follow, drives_named, drives_of_nets, fault_behind, first_fault, form_fault, inputs_from, inputs_of, names_input, next_place}

-- ---- the drives of a name with one drive more

module _ (earlier : List InputDriveView) (driven : InputDriveView) (name : List ℕ) where
  drives_named-push : drives_named (earlier ++ driven ∷ []) name
      ≡ drives_named earlier name ++ map (λ (driven : InputDriveView). driven.drive) (cond (bytes_eq driven.name name) (driven ∷ []) [])
  drives_named-push =
      ap (map (λ (driven : InputDriveView). driven.drive)) (filter-append (λ (driven : InputDriveView). bytes_eq driven.name name) earlier (driven ∷ []))
      ∙ map-append (λ (driven : InputDriveView). driven.drive) (filter (λ (driven : InputDriveView). bytes_eq driven.name name) earlier) (filter (λ (driven : InputDriveView). bytes_eq driven.name name) (driven ∷ []))

  pub drives_named-own : bytes_eq driven.name name ≡ true → drives_named (earlier ++ driven ∷ []) name ≡ drives_named earlier name ++ driven.drive ∷ []
  drives_named-own same =
      drives_named-push ∙ ap (λ same. drives_named earlier name ++ map (λ (driven : InputDriveView). driven.drive) (cond same (driven ∷ []) [])) same

  pub drives_named-other : bytes_eq driven.name name ≡ false → drives_named (earlier ++ driven ∷ []) name ≡ drives_named earlier name
  drives_named-other apart =
      drives_named-push
      ∙ ap (λ same. drives_named earlier name ++ map (λ (driven : InputDriveView). driven.drive) (cond same (driven ∷ []) [])) apart
      ∙ append-nil (drives_named earlier name)

-- ---- what is kept

-- earlier drives are kept for each net, and some are left of all
pub record Kept (netlist : NetlistView) (all left : List InputDriveView) (kept : List (List Drive)) : Type 0 where
  pub earlier : List InputDriveView
  pub whole : earlier ++ left ≡ all
  pub rest : first_fault netlist [] all ≡ first_fault netlist earlier left
  pub held : kept ≡ drives_of_nets earlier netlist.nets

-- at first nothing is kept
none-kept : (nets : List NetView) → replicate (length nets) [] ≡ drives_of_nets [] nets
none-kept [] = refl
none-kept (net ∷ nets) = ap (λ kept. [] ∷ kept) (none-kept nets)

pub Kept-first : (netlist : NetlistView) (all : List InputDriveView) (kept : List (List Drive)) → kept ≡ replicate (length netlist.nets) [] →
    Kept netlist all all kept
Kept-first netlist all kept none = record { earlier = []; whole = refl; rest = refl; held = none ∙ none-kept netlist.nets }

-- there are the drives of each net
pub Kept-length : {netlist : NetlistView} {all left : List InputDriveView} {kept : List (List Drive)} → Kept netlist all left kept →
    length kept ≡ length netlist.nets
Kept-length {netlist = netlist} k = ap length k.held ∙ length-map netlist.nets (λ (net : NetView). drives_named k.earlier net.name)

-- those of one net, where the code keeps them in another form
pub had-in : {V : Type 0} (drives_of : V → List Drive) (kept : List V) {net : ℕ} {had : V} → net < length kept → had ≡ get_or kept net had →
    drives_of had ≡ get_or (map drives_of kept) net (drives_of had)
had-in drives_of kept {net = net} {had = had} room here =
    ap drives_of here ∙ sym (get_or-map drives_of kept net had (drives_of had) room)

-- and those with one more
pub All-kept : (kept : List (List Drive)) (net : ℕ) (had : List Drive) (drive : Drive) → net < length kept → had ≡ get_or kept net had → IsDrive drive →
    All (All IsDrive) kept → All (All IsDrive) (set kept net (had ++ drive ∷ []))
All-kept kept net had drive within here own each =
    All-set (All IsDrive) kept net (had ++ drive ∷ [])
    (All-push IsDrive had drive (subst (All IsDrive) (sym here) (each net had within)) own) each

module _ {netlist : NetlistView} {all left rest : List InputDriveView} {kept : List (List Drive)} {driven : InputDriveView}
    (k : Kept netlist all left kept) (turn : left ≡ driven ∷ rest) where
  next-fault : (fault : Option DriveFault) → fault_behind netlist k.earlier driven ≡ fault →
      first_fault netlist [] all ≡ option_or fault (first_fault netlist (k.earlier ++ driven ∷ []) rest)
  next-fault fault same =
      k.rest ∙ ap (first_fault netlist k.earlier) turn ∙ ap (λ fault. option_or fault (first_fault netlist (k.earlier ++ driven ∷ []) rest)) same

  -- another is kept for its net
  pub Kept-more : {net : ℕ} {had : List Drive} → HasDistinctNames netlist.nets → net_named netlist driven.name ≡ Some net →
      had ≡ get_or kept net had → fault_behind netlist k.earlier driven ≡ None →
      Kept netlist all rest (set kept net (had ++ driven.drive ∷ []))
  Kept-more {net = net} {had = had} distinct found here sound = record {
    earlier = k.earlier ++ driven ∷ [];
    whole = append_assoc k.earlier (driven ∷ []) rest ∙ ap (λ left. k.earlier ++ left) (sym turn) ∙ k.whole;
    rest = next-fault None sound;
    held = ap (λ kept. set kept net (had ++ driven.drive ∷ [])) k.held
        ∙ ap (set (drives_of_nets k.earlier netlist.nets) net) (sym own)
        ∙ sym (map-named netlist.nets (drives_named k.earlier) (drives_named (k.earlier ++ driven ∷ [])) net distinct at.0 others);
  }
    where
      at : (net < length netlist.nets) × ((net_at netlist net).name ≡ driven.name)
      at = net_at-named netlist driven.name net found

      own : drives_named (k.earlier ++ driven ∷ []) (net_at netlist net).name ≡ had ++ driven.drive ∷ []
      own =
          drives_named-own k.earlier driven (net_at netlist net).name (ap (λ name. bytes_eq driven.name name) at.1 ∙ bytes_eq-same driven.name)
          ∙ ap (λ had. had ++ driven.drive ∷ [])
          (sym (here
          ∙ ap (λ kept. get_or kept net had) k.held
          ∙ get_or-map (λ (other : NetView). drives_named k.earlier other.name) netlist.nets net no_net had at.0))

      others : (name : List ℕ) → name ≢ (net_at netlist net).name → drives_named (k.earlier ++ driven ∷ []) name ≡ drives_named k.earlier name
      others name apart = drives_named-other k.earlier driven name (bytes_eq-other driven.name name (λ same. apart (sym same ∙ sym at.1)))

-- ---- the fault of one drive

module _ {V : Type 0} (netlist : NetlistView) (earlier : List InputDriveView) (drives_of : V → List Drive) (kept : List V) (driven : InputDriveView)
    (held : map drives_of kept ≡ drives_of_nets earlier netlist.nets) where
  -- an input by what is kept of its net
  fault_behind-named : {net : ℕ} {had : V} → names_input netlist driven.name ≡ true → net_named netlist driven.name ≡ Some net →
      had ≡ get_or kept net had →
      fault_behind netlist earlier driven ≡ cond (not (can_follow (drives_of had) driven.drive)) (Some (Twice driven.place)) (form_fault driven.place driven.drive)
  fault_behind-named {net = net} {had = had} named found here =
      ap (λ named. cond (not named) (Some (NotAnInput driven.place))
      (cond (not (can_follow (drives_named earlier driven.name) driven.drive)) (Some (Twice driven.place)) (form_fault driven.place driven.drive))) named
      ∙ ap (λ had. cond (not (can_follow had driven.drive)) (Some (Twice driven.place)) (form_fault driven.place driven.drive)) had-named
    where
      at : (net < length netlist.nets) × ((net_at netlist net).name ≡ driven.name)
      at = net_at-named netlist driven.name net found

      lengths : length kept ≡ length netlist.nets
      lengths =
          sym (length-map kept drives_of) ∙ ap length held ∙ length-map netlist.nets (λ (net : NetView). drives_named earlier net.name)

      had-named : drives_named earlier driven.name ≡ drives_of had
      had-named =
          ap (drives_named earlier) (sym at.1)
          ∙ sym (had-in drives_of kept (omega (arith, lengths, at.0)) here
          ∙ ap (λ kept. get_or kept net (drives_of had)) held
          ∙ get_or-map (λ (other : NetView). drives_named earlier other.name) netlist.nets net no_net (drives_of had) at.0)

  -- one that has drives beside which there can't be this one
  pub fault_behind-twice : {net : ℕ} {had : V} → names_input netlist driven.name ≡ true → net_named netlist driven.name ≡ Some net →
      had ≡ get_or kept net had → can_follow (drives_of had) driven.drive ≡ false → fault_behind netlist earlier driven ≡ Some (Twice driven.place)
  fault_behind-twice named found here twice =
      fault_behind-named named found here ∙ ap (λ fits. cond (not fits) (Some (Twice driven.place)) (form_fault driven.place driven.drive)) twice

  -- otherwise the drive by itself decides
  pub fault_behind-once : {net : ℕ} {had : V} → names_input netlist driven.name ≡ true → net_named netlist driven.name ≡ Some net →
      had ≡ get_or kept net had → can_follow (drives_of had) driven.drive ≡ true → fault_behind netlist earlier driven ≡ form_fault driven.place driven.drive
  fault_behind-once named found here fits =
      fault_behind-named named found here ∙ ap (λ fits. cond (not fits) (Some (Twice driven.place)) (form_fault driven.place driven.drive)) fits

-- ---- the inputs

-- what is kept of a net is what its name has
pub kept-named : {V : Type 0} (netlist : NetlistView) (given : List InputDriveView) (drives_of : V → List Drive) (kept : List V) {net : ℕ} {own : V} →
    map drives_of kept ≡ drives_of_nets given netlist.nets → net < length netlist.nets → net < length kept → own ≡ get_or kept net own →
    drives_of own ≡ drives_named given (net_at netlist net).name
kept-named netlist given drives_of kept {net = net} {own = own} held within room here =
    had-in drives_of kept room here
    ∙ ap (λ kept. get_or kept net (drives_of own)) held
    ∙ get_or-map (λ (other : NetView). drives_named given other.name) netlist.nets net no_net (drives_of own) within

-- a place is at most one after the last
pub next_place-limit : (place : ℕ) (drives : List Drive) → next_place place drives ≤ place + 1
next_place-limit place [] = omega arith
next_place-limit place (first ∷ others) = omega arith

-- one input more
pub inputs-more : (netlist : NetlistView) (given : List InputDriveView) (before : List InputView) (net place : ℕ) (own : List Drive) →
    net < length netlist.nets → is_input (net_at netlist net).part ≡ true → own ≡ drives_named given (net_at netlist net).name →
    before ++ inputs_from given place (drop net netlist.nets) ≡ inputs_of netlist given →
    (before ++ record { name = (net_at netlist net).name; drives = own; place = place } ∷ []) ++ inputs_from given (next_place place own) (drop (net + 1) netlist.nets)
    ≡ inputs_of netlist given
inputs-more netlist given before net place own within is owns so_far =
    append_assoc before (input own ∷ []) (inputs_from given (next_place place own) rest)
    ∙ ap (λ own. before ++ input own ∷ inputs_from given (next_place place own) rest) owns
    ∙ ap (λ b. before ++ cond (not b) (inputs_from given place rest) (input named ∷ inputs_from given (next_place place named) rest)) (sym is)
    ∙ ap (λ nets. before ++ inputs_from given place nets) (sym (drop_more netlist.nets net no_net within))
    ∙ so_far
  where
    rest : List NetView
    rest = drop (net + 1) netlist.nets

    named : List Drive
    named = drives_named given (net_at netlist net).name

    input : List Drive → InputView
    input own = record { name = (net_at netlist net).name; drives = own; place = place }
