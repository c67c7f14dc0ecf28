-- The first pins of the nets, as a design stores them.
use Rattle.std.proofs.Common.{◌≡◌, ℕ, zero, suc, ◌+◌, ◌-◌, ◌<◌, ◌≤◌, ◌⊎◌, inl, inr, nat_le, nat_lt, true, false, List, [], ◌∷◌, length, map, get_or, refl, ap, sym, ◌∙◌, arith, suc-add}
use Rattle.std.specs.List.{sum_by}
use Rattle.std.specs.List.Sorted.{IsPartitionPoint, IsNonDecreasing}
use Rattle.std.proofs.lemmas.List.{length-map, get_or-map}
use Rattle.std.proofs.lemmas.List.Sums.{sum_by-cons}
use Rattle.std.proofs.lemmas.Bool.{cases_lt, lt-ltb, le-ltb, le-leb, leb-true}
use Rattle.design.specs.Circuit.{Net, Circuit, pin_count}
use Rattle.netlist.specs.Netlist.{NetView, NetlistView, IsNetlist, net_at}
use Rattle.netlist.proofs.CallerLemmas.{sum_by-map}
use Rattle.design.specs.Joined.{starts_from, first_pins_of}
use Rattle.design.specs.Pins.{first_pin, net_of_pin}
use Rattle.design.proofs.Numbers.{pin_count-cons}

pub length-starts_from : (first : ℕ) (nets : List (List ℕ)) → length (starts_from first nets) ≡ length nets + 1
length-starts_from first [] = refl
length-starts_from first (pins ∷ nets) = let rest = length-starts_from (first + length pins) nets in omega arith

pub head-starts_from : (first : ℕ) (nets : List (List ℕ)) (d : ℕ) → get_or (starts_from first nets) 0 d ≡ first
head-starts_from first [] d = refl
head-starts_from first (pins ∷ nets) d = refl

-- the next net starts past the pins of this one
pub starts_from_more : (first : ℕ) (nets : List (List ℕ)) (net d : ℕ) → net < length nets →
    get_or (starts_from first nets) (net + 1) d ≡ get_or (starts_from first nets) net d + length (get_or nets net [])
starts_from_more first [] net d within = absurd (omega arith)
starts_from_more first (pins ∷ nets) zero d within = head-starts_from (first + length pins) nets d
starts_from_more first (pins ∷ nets) (suc net) d within =
    ap (λ n. get_or (starts_from first (pins ∷ nets)) n d) (suc-add net 1)
    ∙ starts_from_more (first + length pins) nets net d (omega arith)

-- no net starts past the last pin
pub starts_from-limit : (first : ℕ) (nets : List (List ℕ)) (net : ℕ) → net ≤ length nets →
    get_or (starts_from first nets) net 0 ≤ first + sum_by length nets
starts_from-limit first nets zero within = rw head-starts_from (omega arith)
starts_from-limit first [] (suc net) within = absurd (omega arith)
starts_from-limit first (pins ∷ nets) (suc net) within =
    let rest = starts_from-limit (first + length pins) nets net (omega arith) in
    omega (arith, sum_by-cons length pins nets)

pub get_or-starts_from : (circuit : Circuit) (first net d : ℕ) → net ≤ length circuit →
    get_or (starts_from first (map (λ (net : Net). net.pins) circuit)) net d ≡ first + first_pin circuit net
get_or-starts_from [] first zero d within = omega arith
get_or-starts_from [] first (suc net) d within = absurd (omega arith)
get_or-starts_from (here ∷ circuit) first zero d within = omega arith
get_or-starts_from (here ∷ circuit) first (suc net) d within =
    get_or-starts_from circuit (first + length here.pins) net d (omega arith) ∙ omega arith

-- the first pin of the next net comes after those of a net
pub first_pin-next : (circuit : Circuit) (number : ℕ) (d : Net) → number < length circuit →
    first_pin circuit (suc number) ≡ first_pin circuit number + length (get_or circuit number d).pins
first_pin-next [] number d within = absurd (omega arith)
first_pin-next (net ∷ []) zero d within = omega arith
first_pin-next (net ∷ next ∷ nets) zero d within = omega arith
first_pin-next (net ∷ nets) (suc number) d within =
    let later = first_pin-next nets number d (omega arith) in omega arith

-- past the last net comes the number of pins
pub first_pin-end : (circuit : Circuit) → first_pin circuit (length circuit) ≡ pin_count circuit
first_pin-end [] = refl
first_pin-end (net ∷ circuit) = ap (λ n. length net.pins + n) (first_pin-end circuit) ∙ sym (pin_count-cons net circuit)

starts_at_least : (first : ℕ) (nets : List (List ℕ)) (i d : ℕ) → i < length (starts_from first nets) → first ≤ get_or (starts_from first nets) i d
starts_at_least first [] zero d within = omega arith
starts_at_least first [] (suc i) d within = absurd (omega arith)
starts_at_least first (pins ∷ nets) zero d within = omega arith
starts_at_least first (pins ∷ nets) (suc i) d within =
    let later = starts_at_least (first + length pins) nets i d (omega arith) in omega arith

pub IsNonDecreasing-starts_from : (first : ℕ) (nets : List (List ℕ)) → IsNonDecreasing (starts_from first nets)
IsNonDecreasing-starts_from first [] zero zero d le within = omega arith
IsNonDecreasing-starts_from first [] i (suc j) d le within = absurd (omega arith)
IsNonDecreasing-starts_from first [] (suc i) zero d le within = absurd (omega arith)
IsNonDecreasing-starts_from first (pins ∷ nets) zero j d le within = starts_at_least first (pins ∷ nets) j d within
IsNonDecreasing-starts_from first (pins ∷ nets) (suc i) zero d le within = absurd (omega arith)
IsNonDecreasing-starts_from first (pins ∷ nets) (suc i) (suc j) d le within =
    IsNonDecreasing-starts_from (first + length pins) nets i j d (omega arith) (omega arith)

-- halving finds the net of a pin: it is the last that starts at the pin or before
pub net_of_pin-partition : (circuit : Circuit) (first pin after : ℕ) → first ≤ pin → pin < first + pin_count circuit →
    after ≤ length (starts_from first (map (λ (net : Net). net.pins) circuit)) →
    IsPartitionPoint (λ start. nat_le start pin ≡ true) (λ start. nat_le start pin ≡ false)
    (starts_from first (map (λ (net : Net). net.pins) circuit)) after →
    after ≡ suc (net_of_pin circuit (pin - first))
net_of_pin-partition [] first pin after le less inside point = absurd (omega arith)
net_of_pin-partition (net ∷ circuit) first pin zero le less inside point =
    let late : nat_le first pin ≡ false = point.1 0 0 (omega arith) (omega arith) in
    let early = le-leb first pin le in
    cc
net_of_pin-partition (net ∷ circuit) first pin (suc after) le less inside point = go (cases_lt pin (first + length net.pins)) point.0
    (λ late. net_of_pin-partition circuit (first + length net.pins) pin after late (let c = pin_count-cons net circuit in omega arith) (omega arith)
    ((λ k d low high. point.0 (suc k) d (omega arith) (omega arith)), λ k d low high. point.1 (suc k) d (omega arith) (omega arith)))
  where
    rest : List ℕ
    rest = starts_from (first + length net.pins) (map (λ (n : Net). n.pins) circuit)

    go : (pin < first + length net.pins) ⊎ (first + length net.pins ≤ pin) →
        ((k d : ℕ) → 0 ≤ k → k < suc after → nat_le (get_or (first ∷ rest) k d) pin ≡ true) →
        (first + length net.pins ≤ pin → after ≡ suc (net_of_pin circuit (pin - (first + length net.pins)))) →
        suc after ≡ suc (net_of_pin (net ∷ circuit) (pin - first))
    go (inl early) before later =
        let own : nat_lt (pin - first) (length net.pins) ≡ true = lt-ltb _ _ (omega arith) in
        rw own (ap suc (none (cases_lt 0 after) before))
      where
        none : (0 < after) ⊎ (after ≤ 0) → ((k d : ℕ) → 0 ≤ k → k < suc after → nat_le (get_or (first ∷ rest) k d) pin ≡ true) → after ≡ 0
        none (inl more) before =
            let second : nat_le (first + length net.pins) pin ≡ true =
            rw (head-starts_from (first + length net.pins) (map (λ (n : Net). n.pins) circuit) 0) at (before 1 0 (omega arith) (omega arith)) in
            let le = leb-true _ _ second in
            absurd (omega arith)
        none (inr no_more) before = omega arith
    go (inr late) before later =
        let others : nat_lt (pin - first) (length net.pins) ≡ false = le-ltb _ _ (omega arith) in
        let left : pin - first - length net.pins ≡ pin - (first + length net.pins) = omega arith in
        rw (others, left) (ap suc (later late))

-- ---- the first pins of a netlist

pub length-first_pins_of : (netlist : NetlistView) → length (first_pins_of netlist) ≡ length netlist.nets + 1
length-first_pins_of netlist =
    length-starts_from 0 (map (λ (net : NetView). net.pins) netlist.nets)
    ∙ ap (λ n. n + 1) (length-map netlist.nets (λ (net : NetView). net.pins))

pub first_pins_of-more : (netlist : NetlistView) (net : ℕ) (pins : List ℕ) → net < length netlist.nets → pins ≡ (net_at netlist net).pins →
    get_or (first_pins_of netlist) (net + 1) 0 ≡ get_or (first_pins_of netlist) net 0 + length pins
first_pins_of-more netlist net pins within same =
    starts_from_more 0 (map (λ (n : NetView). n.pins) netlist.nets) net 0 (omega (arith, length-map netlist.nets (λ (n : NetView). n.pins)))
    ∙ ap (λ ps. get_or (first_pins_of netlist) net 0 + length ps) (get_or-map (λ (n : NetView). n.pins) netlist.nets net _ [] within ∙ sym same)

pub first_pins_of-limit : (netlist : NetlistView) (net : ℕ) → IsNetlist netlist → net ≤ length netlist.nets →
    get_or (first_pins_of netlist) net 0 ≤ 1_000_000
first_pins_of-limit netlist net ok within =
    let pins = map (λ (n : NetView). n.pins) netlist.nets in
    let limit = starts_from-limit 0 pins net (omega (arith, length-map netlist.nets (λ (n : NetView). n.pins))) in
    omega (arith, ok.pin_limit, sum_by-map length (λ (n : NetView). n.pins) netlist.nets)
