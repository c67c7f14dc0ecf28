-- What gates give at X pins, and that an answer 0 or 1 stays when X pins get a value.
use Rattle.std.proofs.Common.{◌≡◌, ◌≢◌, ℕ, zero, suc, ◌<◌, Bool, true, false, cond, ◌||◌, List, [], ◌∷◌, length, All, Some, slice_get, slice_set, refl, ap, sym, arith, ◌⊎◌, inl, inr}
use Rattle.std.specs.List.{list_any, list_all}
use Rattle.std.proofs.lemmas.List.Elements.{All-head}
use Rattle.std.proofs.lemmas.List.Folds.{list_any_none}
use Rattle.logic3.specs.declared.value.Value.{Value}
use Rattle.logic3.specs.declared.value.Value.TheVariants.{Zero, One, Unknown}
use Rattle.logic3.specs.declared.gates.GateKind.{GateKind}
use Rattle.logic3.specs.declared.gates.GateKind.TheVariants.{And, Nand, Or, Nor, Xor, Xnor, Not, Buf}
use Rattle.logic3.specs.Value.{is_same, opposite}
use Rattle.logic3.specs.Gate.{parity, only_pin, value_of_gate, HasArity, Refines}

-- AND is `decided Zero One`, and OR is `decided One Zero`
abbrev decided : Value → Value → List Value → Value
decided v w pins = cond (list_any (is_same v) pins) v (cond (list_all (is_same w) pins) w Unknown)

-- ---- X pins

-- AND and OR of X pins are X
decided-Unknown : (v w : Value) → is_same v Unknown ≡ false → is_same w Unknown ≡ false → (pins : List Value) →
    0 < length pins → All (λ pin. pin ≡ Unknown) pins → decided v w pins ≡ Unknown
decided-Unknown v w a b [] h x = absurd (omega arith)
decided-Unknown v w a b (pin ∷ pins) h x =
    let none : list_any (is_same v) (pin ∷ pins) ≡ false = list_any_none (is_same v) (pin ∷ pins) (λ k d l. rw (x k d l) a) in
    let first : pin ≡ Unknown = All-head (λ pin. pin ≡ Unknown) pin pins x in
    rw none (rw (first, b) refl)

-- XOR is X as soon as the first pin is
parity-Unknown : (pins : List Value) → only_pin pins ≡ Unknown → 0 < length pins → parity pins ≡ Unknown
parity-Unknown [] e h = absurd (omega arith)
parity-Unknown (pin ∷ pins) e h = rw e refl

only_pin-Unknown : (pins : List Value) → All (λ pin. pin ≡ Unknown) pins → only_pin pins ≡ Unknown
only_pin-Unknown [] x = refl
only_pin-Unknown (pin ∷ pins) x = All-head (λ pin. pin ≡ Unknown) pin pins x

-- with all pins X every gate gives X
pub value_of_gate-Unknown : (kind : GateKind) (pins : List Value) → HasArity kind (length pins) →
    All (λ pin. pin ≡ Unknown) pins → value_of_gate kind pins ≡ Unknown
value_of_gate-Unknown And pins h x = decided-Unknown Zero One refl refl pins h x
value_of_gate-Unknown Nand pins h x = ap opposite (decided-Unknown Zero One refl refl pins h x)
value_of_gate-Unknown Or pins h x = decided-Unknown One Zero refl refl pins h x
value_of_gate-Unknown Nor pins h x = ap opposite (decided-Unknown One Zero refl refl pins h x)
value_of_gate-Unknown Xor pins h x = parity-Unknown pins (only_pin-Unknown pins x) h
value_of_gate-Unknown Xnor pins h x = ap opposite (parity-Unknown pins (only_pin-Unknown pins x) h)
value_of_gate-Unknown Not pins h x = ap opposite (only_pin-Unknown pins x)
value_of_gate-Unknown Buf pins h x = only_pin-Unknown pins x

-- ---- refined pins

-- a pin that is 0 or 1 stays so
list_any-Refines : (v : Value) → is_same v Unknown ≡ false → (pins refined : List Value) → Refines pins refined →
    list_any (is_same v) pins ≡ true → list_any (is_same v) refined ≡ true
list_any-Refines v known [] [] r e = e
list_any-Refines v known (pin ∷ pins) (new ∷ others) (kept, rest) e =
    go kept (is_same v new) refl (list_any-Refines v known pins others rest)
  where
    go : (pin ≡ Unknown) ⊎ (pin ≡ new) → (here : Bool) → is_same v new ≡ here →
        (list_any (is_same v) pins ≡ true → list_any (is_same v) others ≡ true) → (here || list_any (is_same v) others) ≡ true
    go k true h more = refl
    go (inl x) false h more = more (rw (x, known) at e)
    go (inr s) false h more = more (rw (s, h) at e)
list_any-Refines v known _ _ r e = absurd r

-- where no pin is X, all stay
same_from_Refines : (pins refined : List Value) → Refines pins refined → list_any (is_same Unknown) pins ≡ false → refined ≡ pins
same_from_Refines [] [] r none = refl
same_from_Refines (Unknown ∷ pins) (new ∷ others) r none = cc
same_from_Refines (pin ∷ pins) (new ∷ others) (inl x, rest) none = cc
same_from_Refines (Zero ∷ pins) (new ∷ others) (inr e, rest) none = let more = same_from_Refines pins others rest none in cc
same_from_Refines (One ∷ pins) (new ∷ others) (inr e, rest) none = let more = same_from_Refines pins others rest none in cc
same_from_Refines _ _ r none = absurd r

-- pins that are all 0 or all 1 are none of them X
pub no_unknown : (w : Value) → is_same w Unknown ≡ false → (pins : List Value) →
    list_all (is_same w) pins ≡ true → list_any (is_same Unknown) pins ≡ false
no_unknown w known [] all = refl
no_unknown Zero known (Zero ∷ pins) all = no_unknown Zero known pins all
no_unknown One known (One ∷ pins) all = no_unknown One known pins all
no_unknown _ known (_ ∷ _) all = cc

-- an answer 0 or 1 of AND or OR stays
decided-Refines : (v w : Value) → is_same v Unknown ≡ false → is_same w Unknown ≡ false → (pins refined : List Value) →
    Refines pins refined → decided v w pins ≢ Unknown → decided v w refined ≡ decided v w pins
decided-Refines v w a b pins refined r known = go (list_any (is_same v) pins) refl (list_all (is_same w) pins) refl
  where
    go : (some : Bool) → list_any (is_same v) pins ≡ some → (all : Bool) → list_all (is_same w) pins ≡ all →
        decided v w refined ≡ decided v w pins
    go true s all t = rw (s, list_any-Refines v a pins refined r s) refl
    go false s true t = ap (decided v w) (same_from_Refines pins refined r (no_unknown w b pins t))
    go false s false t = absurd (known (rw (s, t) refl))

-- where XOR gives 0 or 1 no pin is X
parity-Refines : (pins refined : List Value) → Refines pins refined → parity pins ≢ Unknown → parity refined ≡ parity pins
parity-Refines pins refined r known = go (list_any (is_same Unknown) pins) refl
  where
    go : (some : Bool) → list_any (is_same Unknown) pins ≡ some → parity refined ≡ parity pins
    go true s = absurd (known (rw s refl))
    go false s = ap parity (same_from_Refines pins refined r s)

only_pin-Refines : (pins refined : List Value) → Refines pins refined → only_pin pins ≢ Unknown → only_pin refined ≡ only_pin pins
only_pin-Refines [] refined r known = absurd (known refl)
only_pin-Refines (pin ∷ pins) [] r known = absurd r
only_pin-Refines (pin ∷ pins) (new ∷ others) (inl x, rest) known = absurd (known x)
only_pin-Refines (pin ∷ pins) (new ∷ others) (inr e, rest) known = sym e

-- a gate's answer 0 or 1 stays when X pins get a value
pub value_of_gate-Refines : (kind : GateKind) (pins refined : List Value) → Refines pins refined →
    value_of_gate kind pins ≢ Unknown → value_of_gate kind refined ≡ value_of_gate kind pins
value_of_gate-Refines And pins refined r known = decided-Refines Zero One refl refl pins refined r known
value_of_gate-Refines Nand pins refined r known =
    ap opposite (decided-Refines Zero One refl refl pins refined r (λ e. known (ap opposite e)))
value_of_gate-Refines Or pins refined r known = decided-Refines One Zero refl refl pins refined r known
value_of_gate-Refines Nor pins refined r known =
    ap opposite (decided-Refines One Zero refl refl pins refined r (λ e. known (ap opposite e)))
value_of_gate-Refines Xor pins refined r known = parity-Refines pins refined r known
value_of_gate-Refines Xnor pins refined r known = ap opposite (parity-Refines pins refined r (λ e. known (ap opposite e)))
value_of_gate-Refines Not pins refined r known = ap opposite (only_pin-Refines pins refined r (λ e. known (ap opposite e)))
value_of_gate-Refines Buf pins refined r known = only_pin-Refines pins refined r known

Refines-refl : (pins : List Value) → Refines pins pins
Refines-refl [] = tt
Refines-refl (pin ∷ pins) = (inr refl, Refines-refl pins)

-- giving one X pin a value refines the pins
pub Refines-slice_set : (pins : List Value) (place : ℕ) (value : Value) → slice_get pins place ≡ Some Unknown →
    Refines pins (slice_set pins place value)
Refines-slice_set [] place value x = tt
Refines-slice_set (pin ∷ pins) zero value x = (inl (cc), Refines-refl pins)
Refines-slice_set (pin ∷ pins) (suc place) value x = (inr refl, Refines-slice_set pins place value x)
