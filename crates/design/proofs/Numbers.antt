-- Each pin has one number.
use Rattle.std.proofs.Common.{◌≡◌, ℕ, zero, suc, ◌+◌, ◌-◌, ◌<◌, ◌≤◌, nat_lt, Bool, true, false, cond, List, [], ◌∷◌, ◌++◌, length, get_or, option_map, None, Some, slice_get, ◌⊎◌, inl, inr, refl, ap, sym, ◌∙◌, arith, ltb-true, ltb-false, zero-add, suc-add}
use Rattle.std.proofs.lemmas.List.{length-append}
use Rattle.std.proofs.lemmas.List.Sums.{sum_by-cons}
use Rattle.std.specs.Option.{ForSome}
use Rattle.std.proofs.lemmas.Option.{slice_get_within, slice_get_cases, slice_get-get_or, same_Some}
use Rattle.std.proofs.lemmas.Bool.{lt-ltb, le-ltb}
use Rattle.design.specs.Circuit.{Net, Circuit, IsCircuit, pin_count}
use Rattle.design.specs.Pins.{sources_of, wires_of, first_pin, net_of_pin, place_of_pin}
use Rattle.design.proofs.WellFormed.{timed_at}

get-append_left : {A : Type 0} (xs ys : List A) (place : ℕ) (x : A) → slice_get xs place ≡ Some x → slice_get (xs ++ ys) place ≡ Some x
get-append_left [] ys place x e = cc
get-append_left (y ∷ xs) ys zero x e = e
get-append_left (y ∷ xs) ys (suc place) x e = get-append_left xs ys place x e

get-append_right : {A : Type 0} (xs ys : List A) (place : ℕ) → slice_get (xs ++ ys) (length xs + place) ≡ slice_get ys place
get-append_right [] ys place = ap (λ n. slice_get ys n) (zero-add place)
get-append_right (y ∷ xs) ys place =
    ap (λ n. slice_get (y ∷ (xs ++ ys)) n) (suc-add (length xs) place) ∙ get-append_right xs ys place

pub pin_count-cons : (net : Net) (nets : Circuit) → pin_count (net ∷ nets) ≡ length net.pins + pin_count nets
pin_count-cons net nets = sum_by-cons (λ (n : Net). length n.pins) net nets

pub length-sources : (circuit : Circuit) → length (sources_of circuit) ≡ pin_count circuit
length-sources [] = refl
length-sources (net ∷ nets) = length-append net.pins (sources_of nets) ∙ ap (λ n. length net.pins + n) (length-sources nets)
    ∙ sym (pin_count-cons net nets)

-- the source of a pin, by its net and place
pub source_at : (circuit : Circuit) (number place source : ℕ) (net : Net) → slice_get circuit number ≡ Some net →
    slice_get net.pins place ≡ Some source → slice_get (sources_of circuit) (first_pin circuit number + place) ≡ Some source
source_at [] number place source net e h = cc
source_at (first ∷ nets) zero place source net e h =
    let same : first ≡ net = cc in
    ap (λ n. slice_get (sources_of (first ∷ nets)) n) (zero-add place)
    ∙ get-append_left first.pins (sources_of nets) place source (rw same h)
source_at (first ∷ nets) (suc number) place source net e h =
    ap (λ n. slice_get (sources_of (first ∷ nets)) n)
    (let s : length first.pins + first_pin nets number + place ≡ length first.pins + (first_pin nets number + place) = omega arith in s)
    ∙ get-append_right first.pins (sources_of nets) (first_pin nets number + place)
    ∙ source_at nets number place source net e h

-- the wire of a pin, by its net and place, where each pin has one
pub wire_of_pin : (circuit : Circuit) → ((number : ℕ) (net : Net) → slice_get circuit number ≡ Some net → length net.wires ≡ length net.pins) →
    (number place wire : ℕ) (net : Net) → slice_get circuit number ≡ Some net →
    slice_get net.wires place ≡ Some wire → slice_get (wires_of circuit) (first_pin circuit number + place) ≡ Some wire
wire_of_pin [] each number place wire net e h = cc
wire_of_pin (first ∷ nets) each zero place wire net e h =
    let same : first ≡ net = cc in
    ap (λ n. slice_get (wires_of (first ∷ nets)) n) (zero-add place)
    ∙ get-append_left first.wires (wires_of nets) place wire (rw same h)
wire_of_pin (first ∷ nets) each (suc number) place wire net e h =
    let long = each 0 first refl in
    ap (λ n. slice_get (wires_of (first ∷ nets)) n)
    (let s : length first.pins + first_pin nets number + place ≡ length first.wires + (first_pin nets number + place) = omega arith in s)
    ∙ get-append_right first.wires (wires_of nets) (first_pin nets number + place)
    ∙ wire_of_pin nets (λ n. each (suc n)) number place wire net e h

pub pin_below : (circuit : Circuit) (number place source : ℕ) (net : Net) → slice_get circuit number ≡ Some net →
    slice_get net.pins place ≡ Some source → first_pin circuit number + place < pin_count circuit
pin_below circuit number place source net e h =
    let within = slice_get_within (sources_of circuit) (first_pin circuit number + place) source (source_at circuit number place source net e h) in
    let count = length-sources circuit in
    omega arith

-- the pins of a net are among all pins
pub pins_after : (circuit : Circuit) (number : ℕ) (net : Net) → slice_get circuit number ≡ Some net →
    first_pin circuit number + length net.pins ≤ pin_count circuit
pins_after [] number net at = cc
pins_after (first ∷ nets) zero net at =
    let same = ap (λ (n : Net). length n.pins) (same_Some first net at) in
    omega (arith, same, pin_count-cons first nets)
pins_after (first ∷ nets) (suc number) net at = omega (arith, pins_after nets number net at, pin_count-cons first nets)

-- a pin's net and place
pub record PinIs (circuit : Circuit) (pin number place : ℕ) : Type 0 where
  pub net : Net
  pub at : slice_get circuit number ≡ Some net
  pub within : place < length net.pins
  pub number_is : first_pin circuit number + place ≡ pin

pub pin_is : (circuit : Circuit) (pin : ℕ) → pin < pin_count circuit → PinIs circuit pin (net_of_pin circuit pin) (place_of_pin circuit pin)
pin_is [] pin h = absurd (omega arith)
pin_is (net ∷ nets) pin h = go (nat_lt pin (length net.pins)) refl (pin_is nets (pin - length net.pins))
  where
    go : (early : Bool) → nat_lt pin (length net.pins) ≡ early →
        (pin - length net.pins < pin_count nets →
        PinIs nets (pin - length net.pins) (net_of_pin nets (pin - length net.pins)) (place_of_pin nets (pin - length net.pins))) →
        PinIs (net ∷ nets) pin (cond early 0 (suc (net_of_pin nets (pin - length net.pins))))
        (cond early pin (place_of_pin nets (pin - length net.pins)))
    go true e rest = record { net = net; at = refl; within = ltb-true _ _ e; number_is = zero-add pin }
    go false e rest =
        let late : length net.pins ≤ pin = ltb-false _ _ e in
        let r : PinIs nets (pin - length net.pins) (net_of_pin nets (pin - length net.pins)) (place_of_pin nets (pin - length net.pins)) =
        rest (let c = pin_count-cons net nets in omega (arith, h, late, c)) in
        record { net = r.net; at = r.at; within = r.within; number_is = let n = r.number_is in omega arith }

pub net_of_pin-at : (circuit : Circuit) (number place : ℕ) (net : Net) → slice_get circuit number ≡ Some net → place < length net.pins →
    net_of_pin circuit (first_pin circuit number + place) ≡ number
net_of_pin-at [] number place net e h = cc
net_of_pin-at (first ∷ nets) zero place net e h =
    let same : first ≡ net = cc in
    let below : 0 + place < length first.pins = (let l = ap (λ (n : Net). length n.pins) same in omega arith) in
    ap (λ b. cond b 0 (suc (net_of_pin nets (0 + place - length first.pins)))) (lt-ltb (0 + place) (length first.pins) below)
net_of_pin-at (first ∷ nets) (suc number) place net e h =
    let late : length first.pins ≤ length first.pins + first_pin nets number + place = omega arith in
    let left : length first.pins + first_pin nets number + place - length first.pins ≡ first_pin nets number + place = omega arith in
    ap (λ b. cond b 0 (suc (net_of_pin nets (length first.pins + first_pin nets number + place - length first.pins))))
    (le-ltb (length first.pins + first_pin nets number + place) (length first.pins) late)
    ∙ ap (λ n. suc (net_of_pin nets n)) left
    ∙ ap suc (net_of_pin-at nets number place net e h)

pub place_of_pin-at : (circuit : Circuit) (number place : ℕ) (net : Net) → slice_get circuit number ≡ Some net → place < length net.pins →
    place_of_pin circuit (first_pin circuit number + place) ≡ place
place_of_pin-at [] number place net e h = cc
place_of_pin-at (first ∷ nets) zero place net e h =
    let same : first ≡ net = cc in
    let below : 0 + place < length first.pins = (let l = ap (λ (n : Net). length n.pins) same in omega arith) in
    ap (λ b. cond b (0 + place) (place_of_pin nets (0 + place - length first.pins))) (lt-ltb (0 + place) (length first.pins) below)
    ∙ zero-add place
place_of_pin-at (first ∷ nets) (suc number) place net e h =
    let late : length first.pins ≤ length first.pins + first_pin nets number + place = omega arith in
    let left : length first.pins + first_pin nets number + place - length first.pins ≡ first_pin nets number + place = omega arith in
    ap (λ b. cond b (length first.pins + first_pin nets number + place)
    (place_of_pin nets (length first.pins + first_pin nets number + place - length first.pins)))
    (le-ltb (length first.pins + first_pin nets number + place) (length first.pins) late)
    ∙ ap (λ n. place_of_pin nets n) left
    ∙ place_of_pin-at nets number place net e h

-- places of different pins have different numbers
pub same_pin : (circuit : Circuit) (m n p q : ℕ) (x y : Net) → slice_get circuit m ≡ Some x → slice_get circuit n ≡ Some y →
    p < length x.pins → q < length y.pins → first_pin circuit m + p ≡ first_pin circuit n + q → (m ≡ n) × (p ≡ q)
same_pin circuit m n p q x y a b h k e =
    let nets : m ≡ n = sym (net_of_pin-at circuit m p x a h) ∙ ap (λ pin. net_of_pin circuit pin) e ∙ net_of_pin-at circuit n q y b k in
    let places : p ≡ q = sym (place_of_pin-at circuit m p x a h) ∙ ap (λ pin. place_of_pin circuit pin) e ∙ place_of_pin-at circuit n q y b k in
    (nets, places)

-- a pin by the number and a place of its net lies below the number of pins
pub pin_within : (circuit : Circuit) (number place : ℕ) → number < length circuit →
    ForSome (slice_get circuit number) (λ (net : Net). place < length net.pins) → first_pin circuit number + place < pin_count circuit
pin_within circuit number place h inside = go (slice_get_cases circuit number).1
  where
    go : ((net : Net) × (number < length circuit) × (slice_get circuit number ≡ Some net) × (get_or circuit number net ≡ net))
        ⊎ ((length circuit ≤ number) × (slice_get circuit number ≡ None)) →
        first_pin circuit number + place < pin_count circuit
    go (inl (net, less, at, is)) =
        pin_below circuit number place _ net at (slice_get-get_or net.pins place 0 (inside net at))
    go (inr (past, none)) = absurd (omega arith)

pub net_of_pin_below : (circuit : Circuit) (pin : ℕ) → pin < pin_count circuit → net_of_pin circuit pin < length circuit
net_of_pin_below circuit pin h = let there = pin_is circuit pin h in slice_get_within circuit _ there.net there.at

-- a pin is not before the first of its net
pub first_pin_le : (circuit : Circuit) (pin : ℕ) → pin < pin_count circuit → first_pin circuit (net_of_pin circuit pin) ≤ pin
first_pin_le circuit pin h = let there = pin_is circuit pin h in let n = there.number_is in omega arith

-- the wire of a pin, by the first pin and the wires of its net
pub wire_there : (circuit : Circuit) → IsCircuit circuit → (pin number first : ℕ) (wires : List ℕ) → pin < pin_count circuit →
    number ≡ net_of_pin circuit pin → first ≡ first_pin circuit number →
    option_map (λ (net : Net). net.wires) (slice_get circuit number) ≡ Some wires →
    (pin - first < length wires) × (slice_get (wires_of circuit) pin ≡ Some (get_or wires (pin - first) 0))
wire_there circuit ok pin number first wires h number_is starts wires_are =
    let there = pin_is circuit pin h in
    let own : option_map (λ (net : Net). net.wires) (Some there.net) ≡ Some wires = rw (number_is, there.at) at wires_are in
    let same : there.net.wires ≡ wires = same_Some _ _ own in
    let first_there : first ≡ first_pin circuit (net_of_pin circuit pin) = starts ∙ ap (first_pin circuit) number_is in
    let place : pin - first ≡ place_of_pin circuit pin = (let n = there.number_is in omega arith) in
    let each : (number : ℕ) (net : Net) → slice_get circuit number ≡ Some net → length net.wires ≡ length net.pins =
    λ number net at. (timed_at circuit ok number net at).wires.each in
    let long = each (net_of_pin circuit pin) there.net there.at in
    let inside : place_of_pin circuit pin < length there.net.wires = (let w = there.within in omega arith) in (
      (let l = ap length same in omega arith),
      ap (slice_get (wires_of circuit)) (sym there.number_is)
          ∙ wire_of_pin circuit each (net_of_pin circuit pin) (place_of_pin circuit pin) _ there.net there.at
          (slice_get-get_or there.net.wires (place_of_pin circuit pin) 0 inside)
          ∙ (λ i. Some (get_or (same i) (sym place i) 0)),
    )
