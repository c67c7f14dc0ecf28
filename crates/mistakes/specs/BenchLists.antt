-- .bench lines with too few or too many commas, or with more after the end.
use Rattle.std.specs.Prelude.{ℕ, ◌-◌, ◌||◌, ◌&&◌, not, Bool, false, if◌then◌else◌, List, [], ◌∷◌, ◌++◌, filter, length, take, codes, bytes_eq}
use Rattle.mistakes.specs.Corrections.{Refused, is_accepted, word_of, written_line}
use Rattle.mistakes.specs.Tokens.{is_mark_word}

abbrev pub is_comma : List ℕ → Bool
is_comma word = bytes_eq word (codes ",")

abbrev pub without_commas : List (List ℕ) → List (List ℕ)
without_commas words = filter (λ word. not (is_comma word)) words

-- another word, and no mark, comes right after a word
abbrev pub meets_word : List ℕ → List (List ℕ) → Bool
meets_word word [] = false
meets_word word (after ∷ words) = not (is_mark_word word || is_mark_word after)

abbrev pub comma_between : List ℕ → List (List ℕ) → List (List ℕ)
comma_between word words = if meets_word word words then codes "," ∷ [] else []

abbrev pub with_commas : List (List ℕ) → List (List ℕ)
with_commas [] = []
with_commas (word ∷ words) = word ∷ comma_between word words ++ with_commas words

-- the words and marks with a comma wherever two words are neighbours, and with no other comma
abbrev pub relisted : List (List ℕ) → List (List ℕ)
relisted words = with_commas (without_commas words)

-- a line, if the reader takes it
unfoldable pub line_told : Refused → List (List ℕ) → List ℕ
line_told refused words = if is_accepted refused words then codes "write " ++ written_line words else []

abbrev pub list_told : Refused → List ℕ
list_told refused = line_told refused (relisted refused.words)

-- a line whose end is a `)` or a `;`, without it, if the reader takes it
unfoldable pub end_told : Refused → List ℕ → List (List ℕ) → List ℕ
end_told refused last front =
    if bytes_eq last (codes ")") then line_told refused front
    else if bytes_eq last (codes ";") && is_accepted refused front then codes "a line ends without a ';'\n"
    else []

abbrev pub ended_told : Refused → List ℕ
ended_told refused =
    let place = length refused.words - 1 in
    end_told refused (word_of place refused.words) (take place refused.words)
