-- How many events a text can give: no more than a list of events may have.
use Rattle.std.proofs.Common.{◌≡◌, ℕ, suc, ◌+◌, ◌*◌, ◌≤◌, Bool, true, false, cond, not, ◌==◌, List, [], ◌∷◌, length, map, filter, Ok, refl, arith}
use Rattle.std.specs.List.{enumerate_from, onto_first}
use Rattle.texts.specs.Fold.{fold_text}
use Rattle.texts.proofs.CallerLemmas.{length-one_a_line}
use Rattle.texts.specs.Text.{code_lines, code_of, is_empty, lines_of, longest_text, words_of}
use Rattle.design.specs.Circuit.{Circuit}
use Rattle.cmb_events.specs.declared.event.Event.{Event}
use Rattle.cmb_events.specs.Schedule.{event_or_fault, events_after, most_events}

-- the bytes of lines, each with its line feed
abbrev bytes_in : List (List ℕ) → ℕ
bytes_in [] = 0
bytes_in (line ∷ lines) = length line + 1 + bytes_in lines

bytes_in-onto_first : (byte bytes : ℕ) (lines : List (List ℕ)) → bytes_in lines ≡ bytes + 1 → bytes_in (onto_first byte lines) ≡ suc bytes + 1
bytes_in-onto_first byte bytes [] same = omega arith
bytes_in-onto_first byte bytes (line ∷ lines) same = omega arith

-- the lines of a text hold its bytes, and a last line feed
bytes_in-lines_of : (text : List ℕ) → bytes_in (lines_of text) ≡ length text + 1
bytes_in-lines_of [] = refl
bytes_in-lines_of (byte ∷ text) = go (byte == 10) (bytes_in-lines_of text)
  where
    go : (ends : Bool) → bytes_in (lines_of text) ≡ length text + 1 →
        bytes_in (cond ends ([] ∷ lines_of text) (onto_first byte (lines_of text))) ≡ suc (length text) + 1
    go true same = omega arith
    go false same = bytes_in-onto_first byte (length text) (lines_of text) same

abbrev has_words : ℕ × List ℕ → Bool
has_words line = not (is_empty (words_of line.1))

-- a line that says something has a byte before its line feed
two_bytes_each : (number : ℕ) (lines : List (List ℕ)) →
    2 * length (filter has_words (enumerate_from number (map code_of lines))) ≤ bytes_in lines
two_bytes_each number [] = omega arith
two_bytes_each number ([] ∷ lines) = let rest = two_bytes_each (number + 1) lines in omega arith
two_bytes_each number ((byte ∷ bytes) ∷ lines) =
    go (has_words (number, code_of (byte ∷ bytes))) (two_bytes_each (number + 1) lines)
  where
    code : List (ℕ × List ℕ)
    code = filter has_words (enumerate_from (number + 1) (map code_of lines))

    go : (says : Bool) → 2 * length code ≤ bytes_in lines →
        2 * length (cond says ((number, code_of (byte ∷ bytes)) ∷ code) code) ≤ suc (length bytes) + 1 + bytes_in lines
    go true rest = omega arith
    go false rest = omega arith

pub few-events_of : (circuit : Circuit) (text : List ℕ) (events : List Event) → length text ≤ longest_text →
    fold_text (events_after circuit) [] text ≡ Ok events → length events ≤ most_events
few-events_of circuit text events short same =
    omega (arith, two_bytes_each 1 (lines_of text), bytes_in-lines_of text, length-one_a_line (event_or_fault circuit) (code_lines text) events same)
