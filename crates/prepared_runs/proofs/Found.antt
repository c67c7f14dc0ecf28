-- The lines of a deck behind the first one, taken a section at a time.
use Rattle.std.proofs.Common.{◌≡◌, ℕ, ◌+◌, ◌||◌, Bool, true, false, List, [], ◌∷◌, ◌++◌, length, drop, Option, None, Some, MatchBool, MatchOption, IsSome, IfSome, refl, sym, ap, ◌∙◌, arith, append_assoc, append-nil, bytes_eq, codes, unwrap_or, length-append}
use denote.Ref.{Bor}
use Rattle.std.specs.List.{list_any, position_or_len, before_first, after_first, concat}
use Rattle.std.proofs.Math.Bool.{or-false, and-false}
use Rattle.std.proofs.lemmas.Bool.{or_parts, or_from, or_left, or_right}
use Rattle.std.proofs.lemmas.List.{take-append-drop, length-take-le}
use Rattle.std.proofs.lemmas.List.Folds.{list_any-append}
use Rattle.std.proofs.lemmas.List.Sums.{prefix_len-le-length}
use Rattle.prepared_runs.specs.declared.sections.Marker.{Marker}
use Rattle.prepared_runs.specs.declared.sections.Marker.TheVariants.{Bench, Delays, Stimuli, Schedule}
use Rattle.prepared_runs.specs.Deck.{line_words, has_words, is_just, is_marker, breaks_rule, first_bad, section}
use Rattle.prepared_runs.specs.Seen.{Found, word_of, FillsIfNamed, FillsOwnPlace, IsRefused}
use Rattle.prepared_runs.proofs.First.{passes-stop, after_first-none, after_first-append, list_any-before_first}
use Rattle.prepared_runs.proofs.Rules.{bad_behind, find-bad_behind, bad_behind-front, is_marker-blank, breaks_rule-blank, breaks_rule-unmarked, is_just-marker}

-- ---- the text of one section

-- the text of a section, which is there where an earlier line is its marker
abbrev pub IsFound : List (List ℕ) → List (List ℕ) → List ℕ → Option (Bor (List ℕ)) → Type 0
IsFound all earlier word found =
    MatchOption found (list_any (is_just word) earlier ≡ false)
    (λ text. (list_any (is_just word) earlier ≡ true) × (text.now ≡ section word all))

-- a section's word, which a line that is no marker hasn't
module _ (word : List ℕ) (fails : (line : List ℕ) → is_marker line ≡ false → is_just word line ≡ false) where
  -- no line before the first words has it
  none-blank : (all : List (List ℕ)) → list_any (is_just word) (before_first has_words all) ≡ false
  none-blank all = list_any-before_first (is_just word) has_words (λ line none. fails line (is_marker-blank line none)) all

  -- nor has one of a section's own lines
  list_any-more : (earlier : List (List ℕ)) (line : List ℕ) (lines : List (List ℕ)) →
      list_any (is_just word) (earlier ++ line ∷ before_first is_marker lines) ≡ (list_any (is_just word) earlier || is_just word line)
  list_any-more earlier line lines =
      rw (list_any-append (is_just word) earlier (line ∷ before_first is_marker lines), list_any-before_first (is_just word) is_marker fails lines, or-false (is_just word line)) refl

  -- one more section, be it this one or another
  IsFound-more : (all earlier : List (List ℕ)) (line : List ℕ) (lines : List (List ℕ)) (marker_word : List ℕ) (text : Bor (List ℕ)) (old new : Option (Bor (List ℕ))) →
      all ≡ earlier ++ line ∷ lines → is_just word line ≡ bytes_eq marker_word word → text.now ≡ concat (before_first is_marker lines) →
      IsFound all earlier word old → FillsIfNamed word marker_word text old new →
      IsFound all (earlier ++ line ∷ before_first is_marker lines) word new
  IsFound-more all earlier line lines marker_word text old new whole marked bytes found keeps = go (bytes_eq marker_word word) marked old found keeps
    where
      go : (this : Bool) → is_just word line ≡ this → (before : Option (Bor (List ℕ))) → IsFound all earlier word before →
          MatchBool this ((before ≡ None) × (new ≡ Some text)) (new ≡ before) →
          IsFound all (earlier ++ line ∷ before_first is_marker lines) word new
      go true this before seen (none, some) =
          let unseen : list_any (is_just word) earlier ≡ false = rw none at seen in
          rw some (
            list_any-more earlier line lines ∙ or_right (list_any (is_just word) earlier) (is_just word line) this,
            bytes ∙ ap (λ behind. concat (before_first is_marker behind))
                (sym (ap (after_first (is_just word)) whole ∙ after_first-append (is_just word) earlier line lines unseen this)),
          )
      go false other None seen same =
          rw same (list_any-more earlier line lines ∙ or_from (list_any (is_just word) earlier) (is_just word line) seen other)
      go false other (Some before) seen same =
          rw same (list_any-more earlier line lines ∙ or_left (list_any (is_just word) earlier) (is_just word line) seen.0, seen.1)

  -- a section that was found has its marker on an earlier line
  seen-some : (all earlier : List (List ℕ)) (found : Option (Bor (List ℕ))) → IsFound all earlier word found → IsSome found → list_any (is_just word) earlier ≡ true
  seen-some all earlier None seen some = cc
  seen-some all earlier (Some text) seen some = seen.0

  -- at the end
  found-section : (all : List (List ℕ)) (found : Option (Bor (List ℕ))) (empty : Bor (List ℕ)) → empty.now ≡ [] →
      IsFound all all word found → (unwrap_or found empty).now ≡ section word all
  found-section all None empty e seen =
      e ∙ sym (ap (λ lines. concat (before_first is_marker lines)) (after_first-none (is_just word) all seen))
  found-section all (Some text) empty e seen = seen.1

-- a line that is no marker has none of the words
unmarked : (marker : Marker) (line : List ℕ) → is_marker line ≡ false → is_just (word_of marker) line ≡ false
unmarked Bench line none = (or_parts (is_just (codes "%bench") line) _ none).0
unmarked Delays line none = (or_parts (is_just (codes "%delays") line) _ (or_parts (is_just (codes "%bench") line) _ none).1).0
unmarked Stimuli line none =
    (or_parts (is_just (codes "%stimuli") line) _ (or_parts (is_just (codes "%delays") line) _ (or_parts (is_just (codes "%bench") line) _ none).1).1).0
unmarked Schedule line none =
    (or_parts (is_just (codes "%schedule") line) _
    (or_parts (is_just (codes "%stimuli") line) _ (or_parts (is_just (codes "%delays") line) _ (or_parts (is_just (codes "%bench") line) _ none).1).1).1).0

-- ---- all sections

-- so many lines were passed, and the rest begins with a marker or a line that breaks a rule
pub record Reached (all : List (List ℕ)) (found : Found) (passed : ℕ) (rest : List (List ℕ)) : Type 0 where
  pub earlier : List (List ℕ)
  pub count : length earlier ≡ passed
  pub whole : all ≡ earlier ++ rest
  pub bad : first_bad all ≡ bad_behind breaks_rule earlier rest
  pub bench : IsFound all earlier (codes "%bench") found.bench
  pub delays : IsFound all earlier (codes "%delays") found.delays
  pub stimuli : IsFound all earlier (codes "%stimuli") found.stimuli
  pub schedule : IsFound all earlier (codes "%schedule") found.schedule
  pub stops : (line : List ℕ) (lines : List (List ℕ)) → rest ≡ line ∷ lines → is_marker line ≡ false → breaks_rule earlier line ≡ true

-- before the first section
pub Reached-first : (all : List (List ℕ)) →
    Reached all (record { bench = None; delays = None; stimuli = None; schedule = None }) (position_or_len has_words all) (drop (position_or_len has_words all) all)
Reached-first all = record {
  earlier = before_first has_words all;
  count = length-take-le _ all (prefix_len-le-length _ all);
  whole = sym (take-append-drop (position_or_len has_words all) all);
  bad =
      find-bad_behind breaks_rule all [] all refl
      ∙ bad_behind-front breaks_rule has_words (λ _. Unit {0}) (λ _ _ _. tt) (λ earlier line _ blank. breaks_rule-blank earlier line blank) [] all tt;
  bench = none-blank (codes "%bench") (unmarked Bench) all;
  delays = none-blank (codes "%delays") (unmarked Delays) all;
  stimuli = none-blank (codes "%stimuli") (unmarked Stimuli) all;
  schedule = none-blank (codes "%schedule") (unmarked Schedule) all;
  stops = λ line lines first unmarked.
      let words : has_words line ≡ true = passes-stop has_words all line lines first in
      let outside : list_any is_marker (before_first has_words all) ≡ false =
      list_any-before_first is_marker has_words is_marker-blank all in
      breaks_rule-unmarked (before_first has_words all) line unmarked ∙ rw (words, outside) refl;
}

-- ---- a line at which lines end

module _ (all : List (List ℕ)) (found : Found) (passed : ℕ) (line : List ℕ) (lines : List (List ℕ)) (reached : Reached all found passed (line ∷ lines)) where
  -- a line that breaks a rule is the first that does
  pub Reached-bad : breaks_rule reached.earlier line ≡ true → first_bad all ≡ Some (passed, line)
  Reached-bad broken = reached.bad ∙ rw (broken, reached.count) refl

  -- what is no marker breaks a rule
  pub Reached-unmarked : is_marker line ≡ false → first_bad all ≡ Some (passed, line)
  Reached-unmarked unmarked = Reached-bad (reached.stops line lines refl unmarked)

  module _ (marker : Marker) (words : line_words line ≡ word_of marker ∷ []) where
    -- so does a marker that is refused
    pub Reached-refused : IsRefused found marker → first_bad all ≡ Some (passed, line)
    Reached-refused refused = Reached-bad (go marker words refused)
      where
        go : (m : Marker) → line_words line ≡ word_of m ∷ [] → IsRefused found m → breaks_rule reached.earlier line ≡ true
        go Bench is some = rw (is, seen-some (codes "%bench") (unmarked Bench) all reached.earlier found.bench reached.bench some) refl
        go Delays is some = rw (is, seen-some (codes "%delays") (unmarked Delays) all reached.earlier found.delays reached.delays some) refl
        go Stimuli is some = rw (is, seen-some (codes "%stimuli") (unmarked Stimuli) all reached.earlier found.stimuli reached.stimuli some) refl
        go Schedule is some = rw (is, seen-some (codes "%schedule") (unmarked Schedule) all reached.earlier found.schedule reached.schedule some) refl

    -- a marker whose section is new breaks none
    pub Reached-more : (text : Bor (List ℕ)) (new : Found) → FillsOwnPlace marker text found new → text.now ≡ concat (before_first is_marker lines) →
        Reached all new (passed + (position_or_len is_marker lines + 1)) (drop (position_or_len is_marker lines) lines)
    Reached-more text new keeps bytes = record {
      earlier = reached.earlier ++ line ∷ before_first is_marker lines;
      count = omega (arith, reached.count, length-append reached.earlier (line ∷ before_first is_marker lines), length-take-le (position_or_len is_marker lines) lines (prefix_len-le-length _ lines));
      whole =
          reached.whole
          ∙ ap (λ others. reached.earlier ++ line ∷ others) (sym (take-append-drop (position_or_len is_marker lines) lines))
          ∙ sym (append_assoc reached.earlier (line ∷ before_first is_marker lines) (drop (position_or_len is_marker lines) lines));
      bad =
          reached.bad
          ∙ rw (new_marker marker words keeps).1 refl
          ∙ bad_behind-front breaks_rule is_marker (λ earlier. list_any is_marker earlier ≡ true)
          (λ earlier x marked. list_any-append is_marker earlier (x ∷ []) ∙ or_left (list_any is_marker earlier) _ marked)
          (λ earlier x marked unmarked. breaks_rule-unmarked earlier x unmarked ∙ rw marked (and-false (has_words x)))
          (reached.earlier ++ line ∷ []) lines
          (list_any-append is_marker reached.earlier (line ∷ []) ∙ or_right (list_any is_marker reached.earlier) _ (or_left (is_marker line) _ (new_marker marker words keeps).0))
          ∙ ap (λ earlier. bad_behind breaks_rule earlier (drop (position_or_len is_marker lines) lines)) (append_assoc reached.earlier (line ∷ []) (before_first is_marker lines));
      bench = IsFound-more (codes "%bench") (unmarked Bench) all reached.earlier line lines (word_of marker) text found.bench new.bench reached.whole (is_just-marker marker line words (codes "%bench")) bytes reached.bench keeps.bench;
      delays = IsFound-more (codes "%delays") (unmarked Delays) all reached.earlier line lines (word_of marker) text found.delays new.delays reached.whole (is_just-marker marker line words (codes "%delays")) bytes reached.delays keeps.delays;
      stimuli = IsFound-more (codes "%stimuli") (unmarked Stimuli) all reached.earlier line lines (word_of marker) text found.stimuli new.stimuli reached.whole (is_just-marker marker line words (codes "%stimuli")) bytes reached.stimuli keeps.stimuli;
      schedule = IsFound-more (codes "%schedule") (unmarked Schedule) all reached.earlier line lines (word_of marker) text found.schedule new.schedule reached.whole (is_just-marker marker line words (codes "%schedule")) bytes reached.schedule keeps.schedule;
      stops = λ next others first unmarked. let marked : is_marker next ≡ true = passes-stop is_marker lines next others first in cc;
    }
      where
        new_marker : (m : Marker) → line_words line ≡ word_of m ∷ [] → FillsOwnPlace m text found new →
            (is_marker line ≡ true) × (breaks_rule reached.earlier line ≡ false)
        new_marker Bench is kept = (rw is refl, rw (is, rw kept.bench.0 at reached.bench) refl)
        new_marker Delays is kept = (rw is refl, rw (is, rw kept.delays.0 at reached.delays) refl)
        new_marker Stimuli is kept = (rw is refl, rw (is, rw kept.stimuli.0 at reached.stimuli) refl)
        new_marker Schedule is kept = (rw is refl, rw (is, rw kept.schedule.0 at reached.schedule) refl)

-- the two together, as the code finds the line
module _ (all : List (List ℕ)) (found : Found) (passed : ℕ) (line : List ℕ) (lines : List (List ℕ)) (reached : Reached all found passed (line ∷ lines)) where
  pub Reached-not_kept : (marker : Option Marker) → MatchOption marker (is_marker line ≡ false) (λ m. line_words line ≡ word_of m ∷ []) →
      IfSome marker (λ m. IsRefused found m) → first_bad all ≡ Some (passed, line)
  Reached-not_kept None unmarked refused = Reached-unmarked all found passed line lines reached unmarked
  Reached-not_kept (Some marker) words refused = Reached-refused all found passed line lines reached marker words refused

  pub Reached-kept : (marker : Option Marker) → MatchOption marker (is_marker line ≡ false) (λ m. line_words line ≡ word_of m ∷ []) →
      (text : Bor (List ℕ)) (new : Found) → MatchOption marker ⊥ (λ m. FillsOwnPlace m text found new) → text.now ≡ concat (before_first is_marker lines) →
      Reached all new (passed + (position_or_len is_marker lines + 1)) (drop (position_or_len is_marker lines) lines)
  Reached-kept None unmarked text new kept bytes = absurd kept
  Reached-kept (Some marker) words text new kept bytes = Reached-more all found passed line lines reached marker words text new kept bytes

-- ---- the end

module _ (all : List (List ℕ)) (found : Found) (passed : ℕ) (reached : Reached all found passed []) where
  -- no line breaks a rule
  pub Reached-good : first_bad all ≡ None
  Reached-good = reached.bad

  all_earlier : reached.earlier ≡ all
  all_earlier = sym (reached.whole ∙ append-nil reached.earlier)

  module _ (empty : Bor (List ℕ)) (none : empty.now ≡ []) where
    -- the texts are the sections
    pub Reached-bench : (unwrap_or found.bench empty).now ≡ section (codes "%bench") all
    Reached-bench = found-section (codes "%bench") (unmarked Bench) all found.bench empty none (rw all_earlier at reached.bench)

    pub Reached-delays : (unwrap_or found.delays empty).now ≡ section (codes "%delays") all
    Reached-delays = found-section (codes "%delays") (unmarked Delays) all found.delays empty none (rw all_earlier at reached.delays)

    pub Reached-stimuli : (unwrap_or found.stimuli empty).now ≡ section (codes "%stimuli") all
    Reached-stimuli = found-section (codes "%stimuli") (unmarked Stimuli) all found.stimuli empty none (rw all_earlier at reached.stimuli)

    pub Reached-schedule : (unwrap_or found.schedule empty).now ≡ section (codes "%schedule") all
    Reached-schedule = found-section (codes "%schedule") (unmarked Schedule) all found.schedule empty none (rw all_earlier at reached.schedule)
