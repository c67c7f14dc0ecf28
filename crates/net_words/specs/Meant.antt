-- Which nets a word means: one net by its name, or the bits of a bus by a range.
use Rattle.std.specs.Prelude.{ℕ, ◌+◌, ◌-◌, ◌==◌, ◌^◌, nat_lt, if◌then◌else◌, List, [], ◌∷◌, ◌++◌, drop, filter_map, length, map, slice_get, slice_index, take, codes, decimal, option_and_then, option_map, Option, None, Some}
use Rattle.std.specs.List.{position_or_len, range_with_len}
use Rattle.std.specs.Option.{option_map_or}
use Rattle.texts.specs.Text.{is_empty, number_of}
use Rattle.netlist.specs.Netlist.{NetlistView, net_named}
use Rattle.net_words.specs.declared.meant.BusRange.{BusRange}

-- ---- a range

-- what is before the first such byte of a text and what is after it, if there is one
abbrev pub cut_at : ℕ → List ℕ → Option (List ℕ × List ℕ)
cut_at byte text =
    let place = position_or_len (λ other. other == byte) text in
    if nat_lt place (length text) then Some (take place text, drop (place + 1) text) else None

-- a number of a bit: of 32 bits at most
abbrev pub if_small : ℕ → Option ℕ
if_small number = if nat_lt number (2 ^ 32) then Some number else None

abbrev pub bit_of : List ℕ → Option ℕ
bit_of word = option_and_then if_small (number_of word)

-- the number before the first such byte of a text, and what is after that
abbrev pub bit_before : ℕ → List ℕ → Option (ℕ × List ℕ)
bit_before byte text = option_and_then (λ parts. option_map (λ bit. (bit, parts.1)) (bit_of parts.0)) (cut_at byte text)

-- the last number of `LAST]`
abbrev pub last_of : List ℕ → Option ℕ
last_of text = option_and_then (λ last. if is_empty last.1 then Some last.0 else None) (bit_before 93 text)

-- the numbers of `FIRST:LAST]`
abbrev pub ends_of : List ℕ → Option (ℕ × ℕ)
ends_of text = option_and_then (λ first. option_map (λ last. (first.0, last)) (last_of first.1)) (bit_before 58 text)

-- `BASE[FIRST:LAST]`: the bits of a bus from one number to another
pub record RangeView : Type 0 where
  pub base : List ℕ
  pub first : ℕ
  pub last : ℕ

abbrev pub seen_range : BusRange → RangeView
seen_range range = record { base = range.base.now; first = range.first; last = range.last }

-- a range whose bracket is at this place of a word
abbrev pub range_at : List ℕ → ℕ → Option RangeView
range_at word place =
    if slice_index word place == 91
    then option_map (λ (ends : ℕ × ℕ). record { base = take place word; first = ends.0; last = ends.1 }) (ends_of (drop (place + 1) word))
    else None

-- the range that a word is; there is one at most, since no number has a bracket
abbrev pub range_of : List ℕ → Option RangeView
range_of word = slice_get (filter_map (range_at word) (range_with_len 0 (length word))) 0

-- how far the numbers are apart, and the number so many steps from the first on towards the last
abbrev pub steps_of : RangeView → ℕ
steps_of range = (range.first - range.last) + (range.last - range.first)

abbrev pub bit_after : RangeView → ℕ → ℕ
bit_after range step = if nat_lt range.last range.first then range.first - step else range.first + step

-- `BASE[BIT]`
abbrev pub bit_name : RangeView → ℕ → List ℕ
bit_name range step = range.base ++ codes "[" ++ decimal (bit_after range step) ++ codes "]"

-- the names of its bits, from the first number to the last
abbrev pub bit_names : RangeView → List (List ℕ)
bit_names range = map (bit_name range) (range_with_len 0 (steps_of range + 1))

-- ---- the nets

-- what is found for each, if something is found for all
abbrev pub all_found : {A B : Type 0} → (A → Option B) → List A → Option (List B)
all_found find [] = Some []
all_found find (x ∷ xs) = option_and_then (λ y. option_map (λ ys. y ∷ ys) (all_found find xs)) (find x)

abbrev pub nets_of_range : NetlistView → RangeView → Option (List ℕ)
nets_of_range netlist range = all_found (net_named netlist) (bit_names range)

-- the nets that a word means: the net with exactly this name, whatever it looks like; or else, of a range, the nets of its bits,
-- if there is a net for each
unfoldable pub nets_meant : NetlistView → List ℕ → Option (List ℕ)
nets_meant netlist word =
    option_map_or (λ net. Some (net ∷ [])) (net_named netlist word) (option_and_then (nets_of_range netlist) (range_of word))
