-- Arguments that ask for help.
use Rattle.std.specs.Prelude.{Bool, List, [], ◌∷◌, ℕ, String, codes, bytes_eq, string_bytes, IsTrue}
use Rattle.std.specs.List.{list_any}
use Rattle.std.specs.declared.alloc.Global.{Global}
use Rattle.command_line.specs.declared.words.NoOrder.{NoOrder}
use Rattle.command_line.specs.declared.words.NoOrder.TheVariants.{Help}

-- one of these arguments asks for help
abbrev pub is_help_word : List ℕ → Bool
is_help_word word = list_any (bytes_eq word) (codes "help" ∷ codes "--help" ∷ codes "-h" ∷ [])

abbrev pub asks_for_help : List (String Global) → Bool
asks_for_help words = list_any (λ word. is_help_word (string_bytes word)) words

-- help is printed only if it is requested
abbrev pub HelpsIfAsked : List (String Global) → NoOrder → Type 0
HelpsIfAsked words (Help text) = IsTrue (asks_for_help words)
HelpsIfAsked words other = Unit {0}
