-- Lines of a text, as they are shown.
use Rattle.std.specs.Prelude.{ℕ, ◌==◌, ◌||◌, ◌&&◌, nat_lt, if◌then◌else◌, List, [], ◌++◌, map, take, length, codes, decimal, Option, None, Some}

-- white space as a space, and what isn't printable as ?
abbrev pub shown_byte : ℕ → ℕ
shown_byte byte = if byte == 9 || byte == 13 then 32 else if nat_lt 31 byte && nat_lt byte 127 then byte else 63

-- the mark after a line of more than a hundred bytes
abbrev pub cut_mark : ℕ → List ℕ
cut_mark count = (if nat_lt 100 count then codes " .." else [])

-- its first hundred bytes
abbrev pub shown_line : List ℕ → List ℕ
shown_line line = map shown_byte (take 100 line) ++ cut_mark (length line)

-- the line with a number, if any, after the message about it
abbrev pub line_told : List ℕ → ℕ → Option (List ℕ) → List ℕ
line_told said number None = []
line_told said number (Some line) = codes "line " ++ decimal number ++ said ++ shown_line line ++ codes "\n"

abbrev pub excerpt : ℕ → Option (List ℕ) → List ℕ
excerpt number line = line_told (codes ": ") number line
