-- The shown nets, one after the other.
use Rattle.std.proofs.Common.{◌≡◌, ◌∙◌, refl, ap, arith, ℕ, suc, ◌+◌, ◌<◌, map, max, sym, List, [], ◌∷◌, ◌++◌, length, drop, flat_map, get_or, Option, None, Some, slice_get, option_map, drop-cons, add-one, append_assoc, codes}
use Rattle.std.specs.List.{enumerate_from}
use Rattle.std.proofs.lemmas.List.{length-map, get_or-map}
use Rattle.std.specs.Option.{option_map_or}
use Rattle.logic3.specs.Wave.{Wave, value_at}
use Rattle.design.specs.Circuit.{Net, Circuit}
use Rattle.vcd_dump.specs.Dump.{Trace}
use Rattle.vcd_dump.specs.Traces.{traces}
use Rattle.timing_diagram.specs.declared.bus.Bus.{Bus}
use Rattle.timing_diagram.specs.Bus.{BusTrace, seen_bus}
use Rattle.timing_diagram.specs.Columns.{Ticks, column_count}
use Rattle.timing_diagram.specs.Picture.{widest, left_edge, picture_height, heading, grid, trace_row, bus_row, svg_text}
use Rattle.timing_diagram.proofs.Joined.{joined₅}

named : (entry : Option Net) (name : List ℕ) → option_map (λ (n : Net). n.name) entry ≡ Some name → option_map_or (λ (n : Net). n.name) entry [] ≡ name
named None name e = cc
named (Some n) name e = cc

-- the next of them
pub traces-next : (circuit : Circuit) (shown : List ℕ) (waves : List Wave) (place : ℕ) (name : List ℕ) (wave : Wave) →
    place < length shown → length waves ≡ length shown → option_map (λ (n : Net). n.name) (slice_get circuit (get_or shown place 0)) ≡ Some name →
    traces circuit (drop place shown) (drop place waves)
    ≡ (name, value_at (get_or waves place wave)) ∷ traces circuit (drop (place + 1) shown) (drop (place + 1) waves)
traces-next circuit shown waves place name wave inside same is =
    rw (drop-cons shown place 0 inside, drop-cons waves place wave (omega arith), add-one)
    (ap (λ n. (n, value_at (get_or waves place wave)) ∷ traces circuit (drop (suc place) shown) (drop (suc place) waves))
    (named (slice_get circuit (get_or shown place 0)) name is))

pub length-traces : (circuit : Circuit) (shown : List ℕ) (waves : List Wave) → length waves ≡ length shown → length (traces circuit shown waves) ≡ length shown
length-traces circuit [] waves same = refl
length-traces circuit (net ∷ shown) [] same = absurd (omega arith)
length-traces circuit (net ∷ shown) (wave ∷ waves) same = ap suc (length-traces circuit shown waves (omega arith))

-- a text for each of them
pub texts-next : {A : Type 0} (text : A → List ℕ) (x : A) (items rest : List A) (xs ys : List ℕ) → items ≡ x ∷ rest → ys ≡ xs ++ text x →
    ys ++ flat_map text rest ≡ xs ++ flat_map text items
texts-next text x items rest xs ys next is = rw (next, is) (append_assoc xs (text x) (flat_map text rest))

-- a row for each of them
pub rows-next : {A : Type 0} (row : ℕ × A → List ℕ) (place : ℕ) (x : A) (items rest : List A) (xs ys : List ℕ) → items ≡ x ∷ rest →
    ys ≡ xs ++ row (place, x) →
    ys ++ flat_map row (enumerate_from (place + 1) rest) ≡ xs ++ flat_map row (enumerate_from place items)
rows-next row place x items rest xs ys next is =
    rw (next, is) (append_assoc xs (row (place, x)) (flat_map row (enumerate_from (place + 1) rest)))

longest : (width name rest : ℕ) → max (max name width) rest ≡ max width (max name rest)
longest width name rest = omega arith

-- the longest name so far and of the others
pub widest-next : {A : Type 0} (lane : List ℕ × A) (items rest : List (List ℕ × A)) (width : ℕ) → items ≡ lane ∷ rest →
    max (max (length lane.0) width) (widest rest) ≡ max width (widest items)
widest-next (name, shown) items rest width next = rw next (longest width (length name) (widest rest))

pub svg-joined : (ticks : Ticks) (shown : List Trace) (buses : List BusTrace) (left height count places : ℕ) (l l₁ l₂ l₃ l₄ l₅ : List ℕ) →
    left ≡ left_edge shown buses → height ≡ picture_height shown buses → count ≡ column_count ticks → places ≡ length shown →
    l₁ ≡ l ++ heading left height count → l₂ ≡ l₁ ++ grid left height ticks →
    l₃ ≡ l₂ ++ flat_map (trace_row left ticks) (enumerate_from 0 shown) → l₄ ≡ l₃ ++ flat_map (bus_row left ticks) (enumerate_from places buses) →
    l₅ ≡ l₄ ++ codes "</svg>\n" → l₅ ≡ l ++ svg_text ticks shown buses
svg-joined ticks shown buses left height count places l l₁ l₂ l₃ l₄ l₅ a b d e p q r s t =
    joined₅ l l₁ l₂ l₃ l₄ l₅ (heading left height count) (grid left height ticks) (flat_map (trace_row left ticks) (enumerate_from 0 shown))
    (flat_map (bus_row left ticks) (enumerate_from places buses)) (codes "</svg>\n") p q r s t
    ∙ rw (a, b, d, e) refl

-- ---- buses

-- the next of some bits
pub bit-next : (bits : List Wave) (place : ℕ) (bit : Wave) → place < length bits → bit ≡ get_or bits place bit →
    drop place (map value_at bits) ≡ value_at bit ∷ drop (place + 1) (map value_at bits)
bit-next bits place bit inside is =
    rw (drop-cons (map value_at bits) place (value_at bit) (omega (arith, length-map bits value_at)), add-one)
    (ap (λ b. b ∷ drop (suc place) (map value_at bits)) (get_or-map value_at bits place bit (value_at bit) inside ∙ ap value_at (sym is)))

-- the next of them
pub bus-next : (buses : List Bus) (place : ℕ) (bus : Bus) → place < length buses → bus ≡ get_or buses place bus →
    drop place (map seen_bus buses) ≡ seen_bus bus ∷ drop (place + 1) (map seen_bus buses)
bus-next buses place bus inside is =
    rw (drop-cons (map seen_bus buses) place (seen_bus bus) (omega (arith, length-map buses seen_bus)), add-one)
    (ap (λ b. b ∷ drop (suc place) (map seen_bus buses)) (get_or-map seen_bus buses place bus (seen_bus bus) inside ∙ ap seen_bus (sym is)))
