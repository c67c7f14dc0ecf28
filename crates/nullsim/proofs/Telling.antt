-- The deck that a reader has, from what was read of it; and what went out of its answer.
use Rattle.std.proofs.Common.{◌≡◌, ℕ, ◌+◌, true, false, List, [], ◌∷◌, take, bytes_eq, refl, Option, Some, None, Result, IfSome, IsOkAnd, ap, subst, ◌∙◌}
use Rattle.std.specs.Io.KnownBytes.{Appends}
use Rattle.texts.specs.Text.{is_empty, longest_text}
use Rattle.program_io.specs.declared.outcome.Outcome.{Outcome}
use Rattle.program_io.specs.declared.program_fault.ProgramFault.{ProgramFault}
use Rattle.program_io.specs.Answers.{Answer, GoesOut}
use Rattle.program_io.specs.DeckRun.{deck_answer}
use Rattle.program_io.proofs.CallerLemmas.{deck_answer-cut}
use Rattle.nullsim.specs.Decks.{are_just}

-- what was read has the answer of the whole deck
pub IfSome-read : (bytes : Option (List ℕ)) (text slice : List ℕ) → IfSome bytes (λ all. text ≡ take (longest_text + 1) all) → slice ≡ text →
    IfSome bytes (λ all. (slice ≡ take (longest_text + 1) all) × (deck_answer slice ≡ deck_answer all))
IfSome-read None text slice read same = tt
IfSome-read (Some all) text slice read same = (same ∙ read, ap deck_answer (same ∙ read) ∙ deck_answer-cut all)

-- the text of the answer went out
pub IsOkAnd-went : (answer : Result Answer ProgramFault) (old new : Option (List ℕ)) (outcome : Outcome) →
    GoesOut (λ such. such ≡ answer) old new outcome → IsOkAnd answer (λ such. Appends old new such.text)
IsOkAnd-went answer old new outcome (such, is, went) =
    subst (λ (a : Result Answer ProgramFault). IsOkAnd a (λ such. Appends old new such.text)) is went.0

-- a word and nothing else, or more words
pub are_just-one : (word first : List ℕ) (rest : List (List ℕ)) → is_empty rest ≡ true → are_just word (first ∷ rest) ≡ bytes_eq first word
are_just-one word first [] none = refl
are_just-one word first (next ∷ rest) none = cc

pub are_just-more : (word first : List ℕ) (rest : List (List ℕ)) → is_empty rest ≡ false → are_just word (first ∷ rest) ≡ false
are_just-more word first [] some = cc
are_just-more word first (next ∷ rest) some = refl
