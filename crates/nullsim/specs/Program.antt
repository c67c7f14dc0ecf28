-- What arguments ask the program for: a deck from standard input, or a command.
use Rattle.std.specs.Prelude.{◌==◌, ◌&&◌, not, Bool, List, [], ◌∷◌, ℕ, length, bytes_eq, codes, Option, String, string_bytes}
use Rattle.std.specs.List.{list_any}
use Rattle.std.specs.declared.alloc.Global.{Global}
use Rattle.explanations.specs.declared.table.Table.{Table}
use Rattle.explanations.specs.Explained.{AreTables}
use Rattle.program_io.specs.declared.exit.Exit.{Exit}
use Rattle.nullsim.specs.Decks.{TellsVerbosely}

-- the argument asks for explanations
abbrev pub is_verbose_word : List ℕ → Bool
is_verbose_word word = list_any (bytes_eq word) (codes "--verbose" ∷ codes "-v" ∷ [])

abbrev pub has_verbose_word : List (String Global) → Bool
has_verbose_word words = list_any (λ word. is_verbose_word (string_bytes word)) words

-- and is the only one
abbrev pub asks_for_verbose_deck : List (String Global) → Bool
asks_for_verbose_deck words = (length words == 1) && has_verbose_word words

-- the arguments ask for something else than a deck
abbrev pub ask_for_command : List (String Global) → Bool
ask_for_command words = not (length words == 0) && not (asks_for_verbose_deck words)

-- a deck is answered verbosely, by the tables of all faults
abbrev pub VerboseDeckEnds : Option (List ℕ) → Option (List ℕ) → Option (List ℕ) → Option (List ℕ) → Option (List ℕ) → Exit → Type 0
VerboseDeckEnds out out_new err err_new bytes exit =
    (tables : List Table) × AreTables tables × TellsVerbosely tables err err_new exit out out_new bytes
