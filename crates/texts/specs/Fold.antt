-- Texts that are read line after line.
use Rattle.std.specs.Prelude.{ℕ, List, [], ◌∷◌, ◌++◌, Result, Ok}
use Rattle.texts.specs.Text.{◌>>=◌, code_lines}

-- the result of lines, each applied to the result of the earlier ones, or the first fault
abbrev pub fold_lines : {A E : Type 0} → (A → ℕ × List ℕ → Result A E) → A → List (ℕ × List ℕ) → Result A E
fold_lines after made [] = Ok made
fold_lines after made (line ∷ lines) = after made line >>= λ more. fold_lines after more lines

-- the result of the lines of a text that have words
abbrev pub fold_text : {A E : Type 0} → (A → ℕ × List ℕ → Result A E) → A → List ℕ → Result A E
fold_text after made text = fold_lines after made (code_lines text)

-- one element per line, regardless of the earlier lines
abbrev pub one_a_line : {A E : Type 0} → (ℕ × List ℕ → Result A E) → List A → ℕ × List ℕ → Result (List A) E
one_a_line meaning given line = meaning line >>= λ thing. Ok (given ++ thing ∷ [])
