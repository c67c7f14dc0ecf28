-- The pins that nets feed.
use Rattle.std.proofs.Common.{◌≡◌, ℕ, zero, suc, ◌+◌, ◌<◌, ◌≤◌, ◌==◌, Bool, true, false, cond, List, [], ◌∷◌, ◌++◌, map, length, take, replicate, Some, slice_get, slice_index_or, slice_set, All, refl, ap, sym, ◌∙◌, arith, zero-add}
use Rattle.std.proofs.lemmas.List.{length-map, length-set, map-append, get_or-map, get_or-set_same, get_or-set_other, take_more, length-take-le, map-set}
use Rattle.std.proofs.lemmas.Option.{slice_get_within, get_or_from_slice_get}
use Rattle.std.proofs.lemmas.List.FromFn.{length-map-range_with_len, get_or-map-range_with_len, fill_by_all}
use Rattle.std.proofs.lemmas.Bool.{eqb-true, eqb-false}
use Rattle.std.specs.List.{range_with_len}
use Rattle.logic3.specs.Rising.{Rises}
use Rattle.design.specs.Pins.{pins_fed, all_fed}

-- a pin more, of this source
pub pins_fed-push : (net : ℕ) (sources : List ℕ) (source : ℕ) →
    pins_fed net (sources ++ source ∷ []) ≡ cond (source == net) (pins_fed net sources ++ length sources ∷ []) (pins_fed net sources)
pins_fed-push net [] source = go (source == net)
  where
    go : (same : Bool) → cond {A = List ℕ} same (0 ∷ []) [] ≡ cond {A = List ℕ} same (0 ∷ []) []
    go same = refl
pins_fed-push net (first ∷ sources) source = go (first == net) (source == net) (pins_fed-push net sources source)
  where
    go : (one same : Bool) →
        pins_fed net (sources ++ source ∷ []) ≡ cond same (pins_fed net sources ++ length sources ∷ []) (pins_fed net sources) →
        cond {A = List ℕ} one (0 ∷ map suc (pins_fed net (sources ++ source ∷ []))) (map suc (pins_fed net (sources ++ source ∷ [])))
        ≡ cond {A = List ℕ} same
        (cond {A = List ℕ} one (0 ∷ map suc (pins_fed net sources)) (map suc (pins_fed net sources)) ++ suc (length sources) ∷ [])
        (cond {A = List ℕ} one (0 ∷ map suc (pins_fed net sources)) (map suc (pins_fed net sources)))
    go true true e = ap (λ pins. 0 ∷ map suc pins) e ∙ ap (λ pins. 0 ∷ pins) (map-append suc (pins_fed net sources) (length sources ∷ []))
    go true false e = ap (λ pins. 0 ∷ map suc pins) e
    go false true e = ap (λ pins. map suc pins) e ∙ map-append suc (pins_fed net sources) (length sources ∷ [])
    go false false e = ap (λ pins. map suc pins) e

all_fed-nothing : (from nets : ℕ) → map (λ net. pins_fed net []) (range_with_len from nets) ≡ replicate nets []
all_fed-nothing from zero = refl
all_fed-nothing from (suc nets) = ap (λ rest. [] ∷ rest) (all_fed-nothing (from + 1) nets)

-- with no pins, no net feeds one
pub all_fed-first : (nets : ℕ) → all_fed nets [] ≡ replicate nets []
all_fed-first nets = all_fed-nothing 0 nets

pub length-all_fed : (nets : ℕ) (sources : List ℕ) → length (all_fed nets sources) ≡ nets
length-all_fed nets sources = length-map-range_with_len (λ net. pins_fed net sources) 0 nets

pub all_fed-at : (nets : ℕ) (sources : List ℕ) (net : ℕ) → net < nets → slice_index_or (all_fed nets sources) net [] ≡ pins_fed net sources
all_fed-at nets sources net within = get_or-map-range_with_len (λ n. pins_fed n sources) 0 nets net net [] within (zero-add net)

-- a pin more, of this source: it goes to the pins of its source, and to no others
pub all_fed-push : (nets : ℕ) (sources : List ℕ) (source : ℕ) → source < nets →
    slice_set (all_fed nets sources) source (slice_index_or (all_fed nets sources) source [] ++ length sources ∷ [])
    ≡ all_fed nets (sources ++ source ∷ [])
all_fed-push nets sources source within =
    fill_by_all (λ net. pins_fed net (sources ++ source ∷ [])) _ nets [] (length-set _ _ _ ∙ length-all_fed nets sources) at
  where
    new : List (List ℕ)
    new = slice_set (all_fed nets sources) source (slice_index_or (all_fed nets sources) source [] ++ length sources ∷ [])

    go : (net : ℕ) → net < nets → (same : Bool) → (source == net) ≡ same →
        slice_index_or new net [] ≡ cond same (pins_fed net sources ++ length sources ∷ []) (pins_fed net sources)
    go net h true e =
        let is : source ≡ net = eqb-true source net e in
        ap (λ n. slice_index_or new n []) (sym is)
        ∙ get_or-set_same (all_fed nets sources) source _ [] (omega (arith, within, length-all_fed nets sources))
        ∙ ap (λ pins. pins ++ length sources ∷ []) (all_fed-at nets sources source within ∙ ap (λ n. pins_fed n sources) is)
    go net h false e =
        get_or-set_other (all_fed nets sources) source net _ [] (λ is. eqb-false source net e (sym is)) ∙ all_fed-at nets sources net h

    at : (net : ℕ) → net < nets → slice_index_or new net [] ≡ pins_fed net (sources ++ source ∷ [])
    at net h = go net h (source == net) refl ∙ sym (pins_fed-push net sources source)

suc-within : (limit : ℕ) (pins : List ℕ) → All (λ pin. pin < limit) pins → All (λ pin. pin < suc limit) (map suc pins)
suc-within limit pins within k d h =
    let small : k < length pins = omega (arith, h, length-map pins suc) in
    let at = get_or-map suc pins k 0 d small in
    omega (arith, at, within k 0 small)

suc-rising : (pins : List ℕ) → Rises pins → Rises (map suc pins)
suc-rising pins rising i j d before h =
    let small : j < length pins = omega (arith, h, length-map pins suc) in
    let first = get_or-map suc pins i 0 d (omega arith) in
    let second = get_or-map suc pins j 0 d small in
    omega (arith, first, second, rising i j 0 before small)

zero-rising : (pins : List ℕ) → Rises (map suc pins) → Rises (0 ∷ map suc pins)
zero-rising pins rising i zero d before h = absurd (omega arith)
zero-rising pins rising zero (suc j) d before h =
    let small : j < length pins = omega (arith, h, length-map pins suc) in
    let second = get_or-map suc pins j 0 d small in
    omega (arith, second)
zero-rising pins rising (suc i) (suc j) d before h = rising i j d (omega arith) (omega arith)

-- a net feeds pins of the circuit
pub pins_fed-within : (net : ℕ) (sources : List ℕ) → All (λ pin. pin < length sources) (pins_fed net sources)
pins_fed-within net [] = λ k d h. absurd (omega arith)
pins_fed-within net (source ∷ sources) = go (source == net) (suc-within _ _ (pins_fed-within net sources))
  where
    go : (same : Bool) → All (λ pin. pin < suc (length sources)) (map suc (pins_fed net sources)) →
        All (λ pin. pin < suc (length sources)) (cond {A = List ℕ} same (0 ∷ map suc (pins_fed net sources)) (map suc (pins_fed net sources)))
    go true later zero d h = omega arith
    go true later (suc k) d h = later k d (omega arith)
    go false later k d h = later k d h

-- the pins that a net feeds stand in order, each once
pub pins_fed-rising : (net : ℕ) (sources : List ℕ) → Rises (pins_fed net sources)
pins_fed-rising net [] = λ i j d before h. absurd (omega arith)
pins_fed-rising net (source ∷ sources) = go (source == net) (suc-rising _ (pins_fed-rising net sources))
  where
    go : (same : Bool) → Rises (map suc (pins_fed net sources)) →
        Rises (cond {A = List ℕ} same (0 ∷ map suc (pins_fed net sources)) (map suc (pins_fed net sources)))
    go true later = zero-rising (pins_fed net sources) later
    go false later = later

-- it feeds no more of them than there are
pub length-pins_fed : (net : ℕ) (sources : List ℕ) → length (pins_fed net sources) ≤ length sources
length-pins_fed net [] = omega arith
length-pins_fed net (source ∷ sources) =
    go (source == net) (let long = length-map (pins_fed net sources) suc in let rest = length-pins_fed net sources in omega (arith, long, rest))
  where
    go : (same : Bool) → length (map suc (pins_fed net sources)) ≤ length sources →
        length (cond {A = List ℕ} same (0 ∷ map suc (pins_fed net sources)) (map suc (pins_fed net sources))) ≤ suc (length sources)
    go true rest = omega (arith, rest)
    go false rest = omega (arith, rest)

-- sources one pin on
pub take-source : (sources : List ℕ) (pin source : ℕ) → slice_get sources pin ≡ Some source →
    take (pin + 1) sources ≡ take pin sources ++ source ∷ []
take-source sources pin source e =
    take_more sources pin source (slice_get_within sources pin source e)
    ∙ ap (λ n. take pin sources ++ n ∷ []) (get_or_from_slice_get sources pin source source e)

module _ {V : Type 0} (items : V → List ℕ) where
  -- the pins that are stored for each net
  abbrev pins_in : List V → List (List ℕ)
  pins_in fed = map items fed

  pins_in-at : (fed : List V) (net : ℕ) (pins : V) → net < length fed → pins ≡ slice_index_or fed net pins →
      slice_index_or (pins_in fed) net [] ≡ items pins
  pins_in-at fed net pins within read = get_or-map items fed net pins [] within ∙ ap items (sym read)

  -- a pin stored for its source
  pub stored_more : (fed : List V) (nets pin source : ℕ) (sources : List ℕ) (old new : V) →
      pins_in fed ≡ all_fed nets (take pin sources) → slice_get sources pin ≡ Some source → source < nets →
      old ≡ slice_index_or fed source old → items new ≡ items old ++ pin ∷ [] →
      pins_in (slice_set fed source new) ≡ all_fed nets (take (pin + 1) sources)
  stored_more fed nets pin source sources old new e at below read more =
      let long = length-map fed items in
      let within : source < length fed = omega (arith, below, long, ap length e, length-all_fed nets (take pin sources)) in
      let stands = slice_get_within sources pin source at in
      let done : length (take pin sources) ≡ pin = length-take-le pin sources (omega arith) in
      map-set items fed source new
      ∙ ap (λ pins. slice_set (pins_in fed) source pins)
      (more ∙ ap (λ pins. pins ++ pin ∷ []) (sym (pins_in-at fed source old within read))
      ∙ ap (λ n. slice_index_or (pins_in fed) source [] ++ n ∷ []) (sym done))
      ∙ ap (λ all. slice_set all source (slice_index_or all source [] ++ length (take pin sources) ∷ [])) e
      ∙ all_fed-push nets (take pin sources) source below
      ∙ ap (all_fed nets) (sym (take-source sources pin source at))
