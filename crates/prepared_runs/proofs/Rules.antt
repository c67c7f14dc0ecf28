-- Lines that break no rule, and lines that break one.
use Rattle.std.proofs.Common.{◌≡◌, ℕ, ◌&&◌, ◌||◌, not, Bool, true, false, cond, List, [], ◌∷◌, ◌++◌, length, take, drop, Option, None, Some, refl, sym, ap, ◌∙◌, one-add, append_assoc, append-nil, codes, bytes_eq}
use Rattle.std.specs.List.{find, list_any, position_or_len, before_first, enumerate_from}
use Rattle.std.proofs.Math.Seq.{take-append_seam}
use Rattle.std.proofs.lemmas.List.{length_push}
use Rattle.texts.specs.Text.{is_empty}
use Rattle.prepared_runs.specs.declared.sections.Marker.{Marker}
use Rattle.prepared_runs.specs.Deck.{line_words, has_words, is_just, is_marker, breaks_rule}
use Rattle.prepared_runs.specs.Seen.{word_of}

-- ---- the first of some lines that breaks a rule

module _ {X : Type 0} (breaks : List X → X → Bool) where
  -- with its place; these elements stand before the others
  abbrev pub bad_behind : List X → List X → Option (ℕ × X)
  bad_behind earlier [] = None
  bad_behind earlier (x ∷ xs) = cond (breaks earlier x) (Some (length earlier, x)) (bad_behind (earlier ++ x ∷ []) xs)

  -- the first, by places in the whole list
  pub find-bad_behind : (all earlier xs : List X) → all ≡ earlier ++ xs →
      find (λ (entry : ℕ × X). breaks (take entry.0 all) entry.1) (enumerate_from (length earlier) xs) ≡ bad_behind earlier xs
  find-bad_behind all earlier [] whole = refl
  find-bad_behind all earlier (x ∷ xs) whole =
      let before : take (length earlier) all ≡ earlier = ap (take (length earlier)) whole ∙ take-append_seam earlier (x ∷ xs) in
      let more = rw length_push at (find-bad_behind all (earlier ++ x ∷ []) xs (whole ∙ sym (append_assoc earlier (x ∷ []) xs))) in
      rw (before, more) refl

  -- the elements before the first that passes a test, where those break no rule
  pub bad_behind-front : (stops : X → Bool) (P : List X → Type 0) → ((earlier : List X) (x : X) → P earlier → P (earlier ++ x ∷ [])) →
      ((earlier : List X) (x : X) → P earlier → stops x ≡ false → breaks earlier x ≡ false) →
      (earlier xs : List X) → P earlier →
      bad_behind earlier xs ≡ bad_behind (earlier ++ before_first stops xs) (drop (position_or_len stops xs) xs)
  bad_behind-front stops P kept fine earlier [] holds = refl
  bad_behind-front stops P kept fine earlier (x ∷ xs) holds =
      go (stops x) refl (bad_behind-front stops P kept fine (earlier ++ x ∷ []) xs (kept earlier x holds))
    where
      go : (b : Bool) → stops x ≡ b →
          bad_behind (earlier ++ x ∷ []) xs ≡ bad_behind ((earlier ++ x ∷ []) ++ before_first stops xs) (drop (position_or_len stops xs) xs) →
          bad_behind earlier (x ∷ xs)
          ≡ bad_behind (earlier ++ before_first stops (x ∷ xs)) (drop (position_or_len stops (x ∷ xs)) (x ∷ xs))
      go true stopped more = rw (stopped, append-nil) refl
      go false goes_on more =
          rw (fine earlier x holds goes_on, goes_on, one-add)
          (more ∙ ap (λ before. bad_behind before (drop (position_or_len stops xs) xs)) (append_assoc earlier (x ∷ []) (before_first stops xs)))

-- ---- a line by itself

-- one without words is no marker and breaks no rule
blank : (line : List ℕ) → has_words line ≡ false → line_words line ≡ []
blank line none = go (line_words line) refl none
  where
    go : (words : List (List ℕ)) → line_words line ≡ words → not (is_empty words) ≡ false → line_words line ≡ []
    go [] is e = is
    go (word ∷ words) is e = cc

pub is_marker-blank : (line : List ℕ) → has_words line ≡ false → is_marker line ≡ false
is_marker-blank line none = rw (blank line none) refl

pub breaks_rule-blank : (earlier : List (List ℕ)) (line : List ℕ) → has_words line ≡ false → breaks_rule earlier line ≡ false
breaks_rule-blank earlier line none = rw (blank line none) refl

-- what else isn't a marker breaks no rule in a section, and breaks one before the first
rule_of : (bench delays stimuli schedule words a b c d in_section : Bool) → (bench || (delays || (stimuli || (schedule || false)))) ≡ false →
    (((bench && a) || ((delays && b) || ((stimuli && c) || ((schedule && d) || false))))
    || ((words && not (bench || (delays || (stimuli || (schedule || false))))) && not in_section))
    ≡ (words && not in_section)
rule_of false false false false false a b c d in_section e = refl
rule_of false false false false true a b c d in_section e = refl
rule_of false false false true words a b c d in_section e = cc
rule_of false false true schedule words a b c d in_section e = cc
rule_of false true stimuli schedule words a b c d in_section e = cc
rule_of true delays stimuli schedule words a b c d in_section e = cc

pub breaks_rule-unmarked : (earlier : List (List ℕ)) (line : List ℕ) → is_marker line ≡ false →
    breaks_rule earlier line ≡ (has_words line && not (list_any is_marker earlier))
breaks_rule-unmarked earlier line unmarked =
    rule_of (is_just (codes "%bench") line) (is_just (codes "%delays") line) (is_just (codes "%stimuli") line) (is_just (codes "%schedule") line)
    (has_words line) _ _ _ _ (list_any is_marker earlier) unmarked

-- a line that is a marker
module _ (marker : Marker) (line : List ℕ) (words : line_words line ≡ word_of marker ∷ []) where
  -- it has just the marker's word
  pub is_just-marker : (word : List ℕ) → is_just word line ≡ bytes_eq (word_of marker) word
  is_just-marker word = rw words refl
