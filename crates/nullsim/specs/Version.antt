-- The version, and the arguments that ask for it.
use Rattle.std.specs.Prelude.{ℕ, ◌==◌, ◌&&◌, Bool, List, [], ◌∷◌, length, String, codes, bytes_eq, string_bytes}
use Rattle.std.specs.List.{list_any}
use Rattle.std.specs.declared.alloc.Global.{Global}
use Rattle.texts.specs.Written.{line}

-- the version of the dumps, which is the program's
abbrev pub version : List ℕ
version = codes "nullsim 1"

-- what is written if it is requested
abbrev pub version_line : List ℕ
version_line = line version

-- one of these arguments asks for it
abbrev pub is_version_word : List ℕ → Bool
is_version_word word = list_any (bytes_eq word) (codes "--version" ∷ codes "-V" ∷ [])

abbrev pub has_version_word : List (String Global) → Bool
has_version_word words = list_any (λ word. is_version_word (string_bytes word)) words

-- and is the only one
abbrev pub asks_for_version : List (String Global) → Bool
asks_for_version words = (length words == 1) && has_version_word words
