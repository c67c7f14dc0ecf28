-- Lists of data, and that none has a float.
use Rattle.std.proofs.Common.{◌≡◌, ◌∙◌, refl, ap, ℕ, zero, suc, Bool, true, false, cond, ◌&&◌, ◌||◌, List, [], ◌∷◌, ◌++◌, map, flat_map, replicate, append_assoc, codes}
use Rattle.std.proofs.lemmas.List.{map-append}
use Rattle.std.specs.List.{range_with_len}
use Rattle.serde_json.specs.Data.{Data}
use Rattle.serde_json.specs.View.{items_of, view}
use Rattle.serde_json.specs.Written.{compact_text, has_float, items_have_float}
use Rattle.serde_json.specs.declared.value.Value.{Value}
use Rattle.vcd_dump.specs.Dump.{Trace}
use Rattle.timing_diagram.specs.Bus.{BusTrace, begins, shows_bits}
use Rattle.timing_diagram.specs.Columns.{Ticks, column_count}
use Rattle.timing_diagram.specs.Ruler.{label_column, label_count}
use Rattle.timing_diagram.specs.WaveJson.{bus_data, bus_value, bus_values, label_data, labels_data, lanes_data, net_data, text_data, wave_data, wave_json_text}

-- one more value
pub viewed-more : (old new : List Value) (value : Value) (one : Data) → new ≡ old ++ value ∷ [] → view value ≡ one →
    map view new ≡ map view old ++ one ∷ []
viewed-more old new value one longer is =
    ap (map view) longer ∙ map-append view old (value ∷ []) ∙ ap (λ d. map view old ++ d ∷ []) is

-- the data of one more of some items
pub lanes-next : {A B : Type 0} (lane : A → B) (x : A) (items rest : List A) (xs ys : List B) → items ≡ x ∷ rest → ys ≡ xs ++ lane x ∷ [] →
    ys ++ map lane rest ≡ xs ++ map lane items
lanes-next lane x items rest xs ys next is = rw (next, is) (append_assoc xs (lane x ∷ []) (map lane rest))

-- ---- floats

abbrev HasNone : List Data → Type 0
HasNone items = items_have_float (items_of items) ≡ false

both : (a b : Bool) → (a || b) ≡ false → (a ≡ false) × (b ≡ false)
both true b e = absurd (cc)
both false b e = (refl, e)

none-append : (xs ys : List Data) → HasNone xs → HasNone ys → HasNone (xs ++ ys)
none-append [] ys none rest = rest
none-append (x ∷ xs) ys none rest =
    let parts = both (has_float x) (items_have_float (items_of xs)) none in
    rw parts.0 (none-append xs ys parts.1 rest)

none-replicate : (count : ℕ) (x : Data) → has_float x ≡ false → HasNone (replicate count x)
none-replicate zero x none = refl
none-replicate (suc count) x none = rw none (none-replicate count x none)

pub none-map : {A : Type 0} (data_of : A → Data) → ((x : A) → has_float (data_of x) ≡ false) → (xs : List A) → HasNone (map data_of xs)
none-map data_of each [] = refl
none-map data_of each (x ∷ xs) = rw (each x) (none-map data_of each xs)

none-flat_map : {A : Type 0} (data_of : A → List Data) → ((x : A) → HasNone (data_of x)) → (xs : List A) → HasNone (flat_map data_of xs)
none-flat_map data_of each [] = refl
none-flat_map data_of each (x ∷ xs) = none-append (data_of x) (flat_map data_of xs) (each x) (none-flat_map data_of each xs)

none-bus_values : (bus : BusTrace) (ticks : Ticks) → HasNone (bus_values bus.1 ticks)
none-bus_values bus ticks = none-flat_map (bus_value bus.1 ticks) one (range_with_len 0 (column_count ticks))
  where
    go : (b : Bool) (x : List ℕ) → HasNone (cond b (text_data x ∷ []) [])
    go true x = refl
    go false x = refl

    one : (column : ℕ) → HasNone (bus_value bus.1 ticks column)
    one column = go (begins bus.1 ticks column && shows_bits bus.1 ticks column) _

none-labels_data : (ticks : Ticks) → HasNone (labels_data ticks)
none-labels_data ticks =
    none-append (replicate (label_column ticks 0) (text_data [])) (flat_map (label_data ticks) (range_with_len 0 (label_count ticks)))
    (none-replicate (label_column ticks 0) (text_data []) refl)
    (none-flat_map (label_data ticks) (λ place. refl) (range_with_len 0 (label_count ticks)))

none-lanes_data : (ticks : Ticks) (traces : List Trace) (buses : List BusTrace) → HasNone (lanes_data ticks traces buses)
none-lanes_data ticks traces buses =
    none-append (map (net_data ticks) traces) (map (bus_data ticks) buses) (none-map (net_data ticks) net traces) (none-map (bus_data ticks) bus buses)
  where
    net : (trace : Trace) → has_float (net_data ticks trace) ≡ false
    net (name, signal) = refl

    bus : (trace : BusTrace) → has_float (bus_data ticks trace) ≡ false
    bus (name, bits) = rw (none-bus_values (name, bits) ticks) refl

pub none-wave_data : (ticks : Ticks) (traces : List Trace) (buses : List BusTrace) → has_float (wave_data ticks traces buses) ≡ false
none-wave_data ticks traces buses = rw (none-labels_data ticks, none-lanes_data ticks traces buses) refl

-- its text, and a line feed
pub wave_json-joined : (ticks : Ticks) (traces : List Trace) (buses : List BusTrace) (made : Data) (old json slice more all : List ℕ) →
    made ≡ wave_data ticks traces buses → (has_float made ≡ false → json ≡ compact_text made) → slice ≡ json → more ≡ old ++ slice →
    all ≡ more ++ codes "\n" → all ≡ old ++ wave_json_text ticks traces buses
unfolding wave_json_text
wave_json-joined ticks traces buses made old json slice more all is text same longer end =
    end ∙ ap (λ xs. xs ++ codes "\n")
    (longer ∙ ap (λ xs. old ++ xs) (same ∙ text (ap has_float is ∙ none-wave_data ticks traces buses) ∙ ap compact_text is))
    ∙ append_assoc old (compact_text (wave_data ticks traces buses)) (codes "\n")
