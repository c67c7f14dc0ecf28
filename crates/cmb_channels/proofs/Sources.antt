-- The net that feeds each pin, found among the pins that nets feed.
use Rattle.std.proofs.Common.{◌≡◌, ℕ, zero, suc, ◌+◌, ◌<◌, ◌≤◌, ◌==◌, Bool, true, false, cond, List, [], ◌∷◌, map, length, All, Some, slice_get, refl, ap, sym, ◌∙◌, arith}
use Rattle.std.specs.List.{range_with_len}
use Rattle.std.proofs.Math.Dec.{eqb-suc-zero}
use Rattle.std.proofs.lemmas.Bool.{eqb-true, eqb-false}
use Rattle.std.proofs.lemmas.List.FromFn.{fill_by_all}
use Rattle.std.proofs.lemmas.Option.{slice_get-get_or}
use Rattle.design.specs.Pins.{pins_fed, all_fed}
use Rattle.cmb_channels.specs.Channels.{is_among, source_in, sources_in}

same_after : (p pin : ℕ) → (suc p == suc pin) ≡ (p == pin)
same_after p pin = go (suc p == suc pin) (p == pin) refl refl
  where
    go : (one other : Bool) → (suc p == suc pin) ≡ one → (p == pin) ≡ other → one ≡ other
    go true true e f = refl
    go true false e f = absurd (eqb-false p pin f (omega (arith, eqb-true (suc p) (suc pin) e)))
    go false true e f = absurd (eqb-false (suc p) (suc pin) e (omega (arith, eqb-true p pin f)))
    go false false e f = refl

among_zero : (pins : List ℕ) → is_among 0 (map suc pins) ≡ false
among_zero [] = refl
among_zero (pin ∷ pins) = ap (λ b. cond b true (is_among 0 (map suc pins))) (eqb-suc-zero pin) ∙ among_zero pins

among_suc : (pin : ℕ) (pins : List ℕ) → is_among (suc pin) (map suc pins) ≡ is_among pin pins
among_suc pin [] = refl
among_suc pin (p ∷ pins) =
    let first = same_after p pin in
    let rest = among_suc pin pins in
    λ i. cond (first i) true (rest i)

zero_differs : (pin : ℕ) → (0 == suc pin) ≡ false
zero_differs pin = go (0 == suc pin) refl
  where
    go : (same : Bool) → (0 == suc pin) ≡ same → same ≡ false
    go true e = absurd (omega (arith, eqb-true 0 (suc pin) e))
    go false e = refl

-- a pin is among those of a net just where the net is its source
fed_by : (net : ℕ) (sources : List ℕ) (pin source : ℕ) → slice_get sources pin ≡ Some source →
    is_among pin (pins_fed net sources) ≡ (source == net)
fed_by net [] pin source e = cc
fed_by net (first ∷ sources) zero source e =
    let is : first ≡ source = cc in
    go (first == net) ∙ ap (λ s. s == net) is
  where
    go : (same : Bool) →
        is_among 0 (cond {A = List ℕ} same (0 ∷ map suc (pins_fed net sources)) (map suc (pins_fed net sources))) ≡ same
    go true = refl
    go false = among_zero (pins_fed net sources)
fed_by net (first ∷ sources) (suc pin) source e = go (first == net) (fed_by net sources pin source e)
  where
    go : (same : Bool) → is_among pin (pins_fed net sources) ≡ (source == net) →
        is_among (suc pin) (cond {A = List ℕ} same (0 ∷ map suc (pins_fed net sources)) (map suc (pins_fed net sources)))
        ≡ (source == net)
    go true later =
        ap (λ b. cond b true (is_among (suc pin) (map suc (pins_fed net sources)))) (zero_differs pin) ∙ among_suc pin (pins_fed net sources) ∙ later
    go false later = among_suc pin (pins_fed net sources) ∙ later

source_found : (nets from : ℕ) (sources : List ℕ) (pin source : ℕ) → slice_get sources pin ≡ Some source → from ≤ source →
    source < from + nets → source_in (map (λ net. pins_fed net sources) (range_with_len from nets)) pin + from ≡ source
source_found zero from sources pin source e low high = absurd (omega (arith, low, high))
source_found (suc nets) from sources pin source e low high =
    go (is_among pin (pins_fed from sources)) refl (source_found nets (from + 1) sources pin source e)
  where
    later : ℕ
    later = source_in (map (λ net. pins_fed net sources) (range_with_len (from + 1) nets)) pin

    go : (here : Bool) → is_among pin (pins_fed from sources) ≡ here →
        (from + 1 ≤ source → source < from + 1 + nets → later + (from + 1) ≡ source) →
        cond here 0 (suc later) + from ≡ source
    go true is rest = omega (arith, eqb-true source from (sym (fed_by from sources pin source e) ∙ is))
    go false is rest =
        let differs = eqb-false source from (sym (fed_by from sources pin source e) ∙ is) in
        omega (arith, rest (omega (arith, low, differs)) (omega (arith, high)))

-- the sources that are found are those by which the pins were given to nets
pub sources_found : (nets : ℕ) (sources : List ℕ) → All (λ source. source < nets) sources →
    sources_in (all_fed nets sources) (length sources) ≡ sources
sources_found nets sources below =
    sym (fill_by_all (source_in (all_fed nets sources)) sources (length sources) 0 refl
    (λ pin h.
    omega (arith, source_found nets 0 sources pin _ (slice_get-get_or sources pin 0 h) (omega arith) (omega (arith, below pin 0 h)))))
