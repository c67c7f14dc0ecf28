-- The sections of a deck, from its first line.
use Rattle.std.proofs.Common.{◌≡◌, ℕ, ◌+◌, ◌-◌, ◌^◌, ◌<◌, ◌≤◌, min, nat_lt, true, false, List, [], ◌∷◌, length, Option, None, Some, option_map, Result, Ok, Err, refl, ap, ◌∙◌, arith}
use Rattle.std.specs.Option.{option_map_or}
use Rattle.std.proofs.lemmas.Bool.Decides.{nat_tests}
use Rattle.prepared_runs.specs.declared.deck_fault.DeckFault.{DeckFault}
use Rattle.prepared_runs.specs.declared.deck_fault.DeckFault.TheVariants.{TooLong, BadDeck}
use Rattle.prepared_runs.specs.Deck.{Sections, ended_lines, horizon_in, first_bad, sections_at, sections_behind, sections_of_lines, sections_of}
use Rattle.prepared_runs.specs.Seen.{held, on_sections}

-- the sections, from the first line that breaks a rule
abbrev behind : ℕ → List (List ℕ) → Option (ℕ × List ℕ) → Result Sections DeckFault
behind horizon lines bad = option_map_or (λ (line : ℕ × List ℕ). Err (BadDeck (line.0 + 2))) bad (Ok (sections_at horizon lines))

-- the text is too long, has no first line, or has one
pub sections_of-long : (text : List ℕ) → 16_777_216 < length text → sections_of text ≡ Err TooLong
unfolding sections_of
sections_of-long text long = let test : nat_lt 16_777_216 (length text) ≡ true = grind (arith, nat_tests) in rw test refl

sections_of-lines : (text : List ℕ) → length text ≤ 16_777_216 → sections_of text ≡ sections_of_lines (ended_lines text)
unfolding sections_of
sections_of-lines text short = let test : nat_lt 16_777_216 (length text) ≡ false = grind (arith, nat_tests) in rw test refl

pub sections_of-empty : (text : List ℕ) → text ≡ [] → sections_of text ≡ Err (BadDeck 1)
sections_of-empty text none = rw none (sections_of-lines [] (omega arith))

-- a horizon as a `u64` holds it
held-behind : (horizon : ℕ) (lines : List (List ℕ)) → on_sections held (sections_behind horizon lines) ≡ sections_behind (min (2 ^ 64 - 1) horizon) lines
unfolding sections_behind
held-behind horizon lines = go (first_bad lines)
  where
    go : (bad : Option (ℕ × List ℕ)) → on_sections held (behind horizon lines bad) ≡ behind (min (2 ^ 64 - 1) horizon) lines bad
    go None = refl
    go (Some line) = refl

-- the first line has no horizon, or has one
module _ (text line after : List ℕ) (short : length text ≤ 16_777_216) (split : ended_lines text ≡ line ∷ ended_lines after) where
  pub sections_of-none : option_map (min (2 ^ 64 - 1)) (horizon_in line) ≡ None → sections_of text ≡ Err (BadDeck 1)
  sections_of-none none = sections_of-lines text short ∙ rw split (go (horizon_in line) none)
    where
      go : (said : Option ℕ) → option_map (min (2 ^ 64 - 1)) said ≡ None →
          option_map_or (λ horizon. sections_behind horizon (ended_lines after)) said (Err (BadDeck 1)) ≡ Err (BadDeck 1)
      go None is = refl
      go (Some horizon) is = cc

  pub sections_of-some : (horizon : ℕ) → option_map (min (2 ^ 64 - 1)) (horizon_in line) ≡ Some horizon →
      on_sections held (sections_of text) ≡ sections_behind horizon (ended_lines after)
  sections_of-some horizon some = ap (on_sections held) (sections_of-lines text short) ∙ rw split (go (horizon_in line) some)
    where
      go : (said : Option ℕ) → option_map (min (2 ^ 64 - 1)) said ≡ Some horizon →
          on_sections held (option_map_or (λ n. sections_behind n (ended_lines after)) said (Err (BadDeck 1))) ≡ sections_behind horizon (ended_lines after)
      go None is = cc
      go (Some said) is =
          let same : min (2 ^ 64 - 1) said ≡ horizon = cc in
          held-behind said (ended_lines after) ∙ ap (λ n. sections_behind n (ended_lines after)) same
