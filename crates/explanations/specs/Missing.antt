-- What a name that no line of a .bench text defines may mean: a constant, a bit of a bus, a name with a mark after it, or the
-- inverse of a net.
use Rattle.std.specs.Prelude.{ℕ, ◌+◌, ◌-◌, ◌==◌, ◌^◌, ◌||◌, ◌&&◌, nat_le, nat_lt, min, Bool, false, if◌then◌else◌, List, [], ◌∷◌, ◌++◌, drop, filter, length, take, bytes_eq, codes, is_some, option_and_then, option_map, Option, None, Some}
use Rattle.std.specs.List.{list_any, position_or_len}
use Rattle.std.specs.Option.{option_map_or}
use Rattle.explanations.specs.declared.other_parts.OtherPart.{OtherPart}
use Rattle.explanations.specs.declared.other_parts.OtherPart.TheVariants.{Zero}
use Rattle.mistakes.specs.BenchLines.{is_among}
use Rattle.explanations.specs.AtFault.{quoted_told}
use Rattle.explanations.specs.Excerpt.{shown_line}
use Rattle.mistakes.specs.Near.{differ_by_case, only_one}
use Rattle.explanations.specs.Nets.{defined_told, nets_in}
use Rattle.explanations.specs.OtherParts.{constant_or_digit}
use Rattle.texts.specs.Text.{is_empty, number_of}

-- ---- a constant

abbrev pub is_number : List ℕ → Bool
is_number name = is_some (number_of name)

-- some net has such a name: for 0 and 1 one of digits alone, as in texts that number their nets, and for words one that differs by case alone
abbrev pub has_kin : List ℕ → List (List ℕ) → Bool
has_kin name nets = if is_number name then list_any is_number nets else list_any (differ_by_case name) nets

unfoldable pub missing_constant : List ℕ → List (List ℕ) → Option OtherPart
missing_constant name nets = if has_kin name nets then None else constant_or_digit name

abbrev pub constant_value : OtherPart → List ℕ
constant_value Zero = codes "0"
constant_value other = codes "1"

-- ---- a bit of a bus

-- what is before the first such byte of a text and what is after it, if there is one
abbrev pub cut_at : ℕ → List ℕ → Option (List ℕ × List ℕ)
cut_at byte text =
    let place = position_or_len (λ other. other == byte) text in
    if nat_lt place (length text) then Some (take place text, drop (place + 1) text) else None

-- the inside of brackets, if the text ends with them
abbrev pub up_to_bracket : List ℕ × List ℕ → Option (List ℕ)
up_to_bracket parts = if is_empty parts.1 then Some parts.0 else None

abbrev pub inside_of : List ℕ → Option (List ℕ)
inside_of opened = option_and_then up_to_bracket (cut_at 93 opened)

-- `BASE[INSIDE]`
abbrev pub bracketed : List ℕ → Option (List ℕ × List ℕ)
bracketed name = option_and_then (λ parts. option_map (λ inside. (parts.0, inside)) (inside_of parts.1)) (cut_at 91 name)

-- a number as it is read: one above all of 64 bits is the largest of them
abbrev pub read_number : List ℕ → Option ℕ
read_number word = option_map (min (2 ^ 64 - 1)) (number_of word)

-- a number is from one to another one, in either order
abbrev pub is_between : Option ℕ → Option ℕ → Option ℕ → Bool
is_between (Some bit) (Some high) (Some low) =
    (nat_le low bit && nat_le bit high) || (nat_le high bit && nat_le bit low)
is_between bit high low = false

-- a bit is in a range `HIGH:LOW`
abbrev pub is_in_range : List ℕ → Option (List ℕ × List ℕ) → Bool
is_in_range bit None = false
is_in_range bit (Some range) = is_between (read_number bit) (read_number range.0) (read_number range.1)

-- `B[I]` is a bit of `B[H:L]`
abbrev pub has_bit : Option (List ℕ × List ℕ) → Option (List ℕ × List ℕ) → Bool
has_bit None net = false
has_bit (Some name) None = false
has_bit (Some name) (Some net) = bytes_eq name.0 net.0 && is_in_range name.1 (cut_at 58 net.1)

unfoldable pub is_bit_of : List ℕ → List ℕ → Bool
is_bit_of name net = has_bit (bracketed name) (bracketed net)

-- ---- a name and a mark

-- a text is the name with one of some marks after it, or before it
abbrev pub is_followed : List (List ℕ) → List ℕ → List ℕ → Bool
is_followed marks name text = bytes_eq (take (length name) text) name && is_among marks (drop (length name) text)

abbrev pub is_preceded : List (List ℕ) → List ℕ → List ℕ → Bool
is_preceded marks name text = is_among marks (take 1 text) && bytes_eq (drop 1 text) name

-- the marks with which other languages go on after a name
abbrev pub marks_after : List (List ℕ)
marks_after = codes ":" ∷ codes ";" ∷ codes "<" ∷ []

-- ---- the inverse of a net

abbrev pub is_inverse_of : List ℕ → List ℕ → Bool
is_inverse_of name net = is_preceded (codes "~" ∷ codes "!" ∷ []) net name || is_followed (codes "'" ∷ []) net name

-- ---- the message about it

abbrev pub is_alike : List ℕ → List ℕ → Bool
is_alike name net = is_bit_of name net || (is_followed marks_after name net || is_inverse_of name net)

-- the only net that is alike
unfoldable pub only_alike : List ℕ → List (List ℕ) → Option (List ℕ)
only_alike name nets = only_one (filter (is_alike name) nets)

-- a gate whose output has the missing name
unfoldable pub not_text : List ℕ → List ℕ
not_text net = codes " = NOT(" ++ shown_line net ++ codes ")\n"

unfoldable pub for_inverse : List ℕ
for_inverse = codes "for its inverse add the line "

unfoldable pub inverse_told : List ℕ → List ℕ → List ℕ
inverse_told name net = for_inverse ++ shown_line name ++ not_text net

unfoldable pub alike_hint : List ℕ → List ℕ → List ℕ
alike_hint name net =
    if is_bit_of name net then quoted_told (codes "a name with a range is one net; write a line for each bit, such as one for ") name
    else if is_followed marks_after name net then codes "a ':', ';' or '<' after a name is part of it\n"
    else inverse_told name net

unfoldable pub alike_told : List ℕ → List ℕ → List ℕ → List ℕ
alike_told text name net = defined_told [] text net ++ alike_hint name net

-- an input for a constant, and its stimulus
unfoldable pub its_stimulus : List ℕ → List ℕ → List ℕ
its_stimulus name value = codes "), and the stimulus 0 " ++ shown_line name ++ codes " " ++ value ++ codes "\n"

unfoldable pub its_input : List ℕ → List ℕ
its_input name = codes "add the line INPUT(" ++ shown_line name

unfoldable pub no_constants : List ℕ
no_constants = codes "there are no constants: "

unfoldable pub no_constant_told : List ℕ → List ℕ → List ℕ
no_constant_told name value =
    no_constants ++ its_input name ++ its_stimulus name value

-- if the name may mean something
unfoldable pub missing_told : List ℕ → List ℕ → List ℕ
missing_told text name =
    option_map_or (λ constant. no_constant_told name (constant_value constant))
    (missing_constant name (nets_in text))
    (option_map_or (alike_told text name) (only_alike name (nets_in text)) [])
