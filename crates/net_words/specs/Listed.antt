-- Which nets the words of a list mean: what a word means alone, all outputs, or all nets whose names have a pattern.
use Rattle.std.specs.Prelude.{ℕ, if◌then◌else◌, List, [], ◌∷◌, filter, flat_map, length, bytes_eq, codes, option_map, Option, None, Some}
use Rattle.std.specs.List.{range_with_len}
use Rattle.std.specs.Option.{option_or}
use Rattle.netlist.specs.Netlist.{NetlistView, name_at}
use Rattle.net_words.specs.Meant.{all_found, nets_meant}
use Rattle.net_words.specs.Pattern.{has_pattern}

-- the nets whose names have a pattern, in their order
abbrev pub nets_like : NetlistView → List ℕ → List ℕ
nets_like netlist pattern = filter (λ net. has_pattern pattern (name_at netlist net)) (range_with_len 0 (length netlist.nets))

-- the nets that a word means which is neither a name nor a range
abbrev pub other_nets : NetlistView → List ℕ → List ℕ
other_nets netlist word = if bytes_eq word (codes "outputs") then netlist.outputs else nets_like netlist word

-- a list, if it isn't empty
abbrev pub if_any : List ℕ → Option (List ℕ)
if_any [] = None
if_any (net ∷ nets) = Some (net ∷ nets)

-- the nets that a word of a list means
unfoldable pub nets_listed : NetlistView → List ℕ → Option (List ℕ)
nets_listed netlist word = option_or (nets_meant netlist word) (if_any (other_nets netlist word))

-- the nets that words mean, one word after the other, if each means some
unfoldable pub nets_of_words : NetlistView → List (List ℕ) → Option (List ℕ)
nets_of_words netlist words = option_map (flat_map (λ nets. nets)) (all_found (nets_listed netlist) words)
