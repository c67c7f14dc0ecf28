-- Names of nets that look like something else, though they are names as any other.
use Rattle.std.specs.Prelude.{ℕ, ◌-◌, ◌==◌, ◌||◌, ◌&&◌, nat_eq, Bool, false, if◌then◌else◌, List, [], ◌∷◌, codes, filter, flat_map, length, take}
use Rattle.std.specs.List.{after_first, before_first, ends_with, range_with_len, starts_with}
use Rattle.std.specs.Option.{is_some, option_map_or}
use Rattle.texts.specs.Text.{code_lines, number_of}
use Rattle.mistakes.specs.BenchLines.{defined_by}
use Rattle.netlist.specs.Netlist.{NetlistView, name_at}
use Rattle.plain_runs.specs.declared.likeness.Likeness.{Likeness}
use Rattle.plain_runs.specs.declared.likeness.Likeness.TheVariants.{Bus, Comment, Marked}

abbrev pub begins_with : List ℕ → List ℕ → Bool
begins_with front name = starts_with nat_eq name front

abbrev pub closes_with : List ℕ → List ℕ → Bool
closes_with tail name = ends_with nat_eq name tail

-- a number and a bracket after it
abbrev pub is_closed_number : List ℕ → Bool
is_closed_number text = closes_with (codes "]") text && is_some (number_of (take (length text - 1) text))

-- two numbers with ':' between them, and a bracket
abbrev pub is_inside_range : List ℕ → Bool
is_inside_range text =
    is_some (number_of (before_first (λ byte. byte == 58) text)) && is_closed_number (after_first (λ byte. byte == 58) text)

-- `[N:M]`
abbrev pub is_range : List ℕ → Bool
is_range [] = false
is_range (first ∷ after) = (first == 91) && is_inside_range after

-- a range is at the end of a name
abbrev pub ends_with_range : List ℕ → Bool
ends_with_range [] = false
ends_with_range (first ∷ after) = is_range (first ∷ after) || ends_with_range after

-- a name begins as comments of other notations do, ends with a mark of theirs, or ends with a range
abbrev pub is_like : Likeness → List ℕ → Bool
is_like Comment name =
    begins_with (codes "//") name || begins_with (codes "/*") name || begins_with (codes "--") name || begins_with (codes ";") name
is_like Marked name = closes_with (codes ";") name || closes_with (codes ":") name || closes_with (codes "<") name
is_like Bus name = ends_with_range name

abbrev pub has_likeness : NetlistView → Likeness → ℕ → Bool
has_likeness netlist likeness net = is_like likeness (name_at netlist net)

-- the numbers of the nets whose names look so, in rising order
abbrev pub nets_like : NetlistView → Likeness → List ℕ
nets_like netlist likeness = filter (has_likeness netlist likeness) (range_with_len 0 (length netlist.nets))

-- the number of a line of a .bench text, if it defines a net whose name looks so; and those of the lines of a text
abbrev pub number_if_like : Likeness → ℕ × List ℕ → List ℕ
number_if_like likeness line = if option_map_or (is_like likeness) (defined_by line.1) false then line.0 ∷ [] else []

abbrev pub lines_like : Likeness → List ℕ → List ℕ
lines_like likeness text = flat_map (number_if_like likeness) (code_lines text)

-- what a line says of the nets that it names
abbrev pub said_of : Likeness → List ℕ
said_of Comment = codes "nets named like comments, which begin with # here"
said_of Marked = codes "nets whose names end with ';', ':' or '<', as part of the name"
said_of Bus = codes "nets named like buses, each of one bit"
