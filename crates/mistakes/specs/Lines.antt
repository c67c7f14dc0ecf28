-- The lines of a text.
use Rattle.std.specs.Prelude.{ℕ, ◌-◌, ◌==◌, if◌then◌else◌, List, slice_get, Option, None}
use Rattle.texts.specs.Text.{is_empty, lines_of}

-- the line of a text by its number, from 1
abbrev pub line_at : ℕ → List ℕ → Option (List ℕ)
line_at number text = if number == 0 then None else slice_get (lines_of text) (number - 1)

-- a text, or another one if it is empty
abbrev pub unless_empty : List ℕ → List ℕ → List ℕ
unless_empty text other = if is_empty text then other else text
