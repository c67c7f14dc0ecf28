-- A deck: a whole run in one text.
use Rattle.std.specs.Prelude.{ℕ, ◌+◌, ◌==◌, ◌||◌, ◌&&◌, not, nat_lt, Bool, false, if◌then◌else◌, List, [], ◌∷◌, length, take, find, Option, None, Result, Ok, Err, codes, bytes_eq}
use Rattle.std.specs.List.{list_any, before_first, after_first, onto_first, concat, enumerate_from}
use Rattle.std.specs.Option.{option_map_or}
use Rattle.texts.specs.Text.{words_of, number_of, is_empty, longest_text}
use Rattle.prepared_runs.specs.declared.deck_fault.DeckFault.{DeckFault}
use Rattle.prepared_runs.specs.declared.deck_fault.DeckFault.TheVariants.{TooLong, BadDeck}
use Rattle.prepared_runs.specs.declared.run_texts.RunTexts.{RunTexts}

-- the horizon and the texts of a deck
pub record Sections : Type 0 where
  pub horizon : ℕ
  pub texts : RunTexts (List ℕ)

-- ---- lines and their words

-- the lines of a text, each with the newline that ends it
abbrev pub ended_lines : List ℕ → List (List ℕ)
ended_lines [] = []
ended_lines (byte ∷ text) = if byte == 10 then (byte ∷ []) ∷ ended_lines text else onto_first byte (ended_lines text)

-- the words of such a line: the newline isn't part of them
abbrev pub line_words : List ℕ → List (List ℕ)
line_words line = words_of (before_first (λ byte. byte == 10) line)

abbrev pub has_words : List ℕ → Bool
has_words line = not (is_empty (line_words line))

-- the line has exactly this one word
abbrev pub is_just : List ℕ → List ℕ → Bool
is_just word line = is_one (line_words line)
  where
    is_one : List (List ℕ) → Bool
    is_one (found ∷ []) = bytes_eq found word
    is_one _ = false

-- the horizon in a line `%nullsim N`
abbrev pub horizon_in : List ℕ → Option ℕ
horizon_in line = said_by (line_words line)
  where
    said_by : List (List ℕ) → Option ℕ
    said_by (mark ∷ number ∷ []) = if bytes_eq mark (codes "%nullsim") then number_of number else None
    said_by _ = None

-- ---- the rules of the lines after the first one

-- the words that, alone on a line, begin a section
abbrev pub markers : List (List ℕ)
markers = codes "%bench" ∷ codes "%delays" ∷ codes "%stimuli" ∷ codes "%schedule" ∷ []

abbrev pub is_marker : List ℕ → Bool
is_marker line = list_any (λ marker. is_just marker line) markers

-- the line begins a section that an earlier line begins
abbrev pub is_second_marker : List (List ℕ) → List ℕ → Bool
is_second_marker earlier line =
    list_any (λ marker. is_just marker line && list_any (is_just marker) earlier) markers

-- the line has words outside every section
abbrev pub is_stray : List (List ℕ) → List ℕ → Bool
is_stray earlier line = has_words line && not (is_marker line) && not (list_any is_marker earlier)

-- the line breaks a rule, after these lines
abbrev pub breaks_rule : List (List ℕ) → List ℕ → Bool
breaks_rule earlier line = is_second_marker earlier line || is_stray earlier line

-- a line, by place from 0, breaks a rule
abbrev pub is_bad : List (List ℕ) → ℕ × List ℕ → Bool
is_bad lines (place, line) = breaks_rule (take place lines) line

-- the first line that does
abbrev pub first_bad : List (List ℕ) → Option (ℕ × List ℕ)
first_bad lines = find (is_bad lines) (enumerate_from 0 lines)

-- ---- the sections

-- the bytes after a marker's line, up to the next marker or the end; none if the marker is absent
abbrev pub section : List ℕ → List (List ℕ) → List ℕ
section marker lines = concat (before_first is_marker (after_first (is_just marker) lines))

abbrev pub sections_at : ℕ → List (List ℕ) → Sections
sections_at horizon lines = record {
  horizon = horizon;
  texts = record {
    bench = section (codes "%bench") lines;
    delays = section (codes "%delays") lines;
    stimuli = section (codes "%stimuli") lines;
    schedule = section (codes "%schedule") lines;
  };
}

-- the sections of the lines after the first one, which is line 1, or their first fault
unfoldable pub sections_behind : ℕ → List (List ℕ) → Result Sections DeckFault
sections_behind horizon lines =
    option_map_or (λ (bad : ℕ × List ℕ). Err (BadDeck (bad.0 + 2))) (first_bad lines) (Ok (sections_at horizon lines))

abbrev pub sections_of_lines : List (List ℕ) → Result Sections DeckFault
sections_of_lines [] = Err (BadDeck 1)
sections_of_lines (first ∷ lines) =
    option_map_or (λ horizon. sections_behind horizon lines) (horizon_in first) (Err (BadDeck 1))

-- the sections of a deck, or its first fault
unfoldable pub sections_of : List ℕ → Result Sections DeckFault
sections_of text = if nat_lt longest_text (length text) then Err TooLong else sections_of_lines (ended_lines text)
