-- How the program without words ends, from how the run of what it read does.
use Rattle.std.proofs.Common.{◌≡◌, ℕ, ◌+◌, List, take, Option, Some, None, Result, IfSome, IsOkAnd, refl, ap, subst, ◌∙◌}
use Rattle.std.specs.Io.KnownBytes.{Appends}
use Rattle.texts.specs.Text.{longest_text}
use Rattle.program_io.specs.declared.exit.Exit.{Exit}
use Rattle.program_io.specs.declared.outcome.Outcome.{Outcome}
use Rattle.program_io.specs.declared.program_fault.ProgramFault.{ProgramFault}
use Rattle.program_io.specs.Answers.{Answer, GoesOut}
use Rattle.program_io.specs.DeckRun.{deck_answer}
use Rattle.program_io.specs.Tell.{DeckReported}
use Rattle.program_io.proofs.Decks.{deck_answer-cut}

-- the text of the answer went out
pub IsOkAnd-went : (answer : Result Answer ProgramFault) (old new : Option (List ℕ)) (outcome : Outcome) →
    GoesOut (λ such. such ≡ answer) old new outcome → IsOkAnd answer (λ such. Appends old new such.text)
IsOkAnd-went answer old new outcome (such, is, went) =
    subst (λ (a : Result Answer ProgramFault). IsOkAnd a (λ such. Appends old new such.text)) is went.0

-- what was reported of the text that was read was reported of the deck
pub DeckReported-read : (bytes : Option (List ℕ)) (text slice : List ℕ) → IfSome bytes (λ all. text ≡ take (longest_text + 1) all) → slice ≡ text →
    (out out_new err err_new : Option (List ℕ)) (exit : Exit) → DeckReported out out_new err err_new exit (deck_answer slice) →
    (deck : List ℕ) × IfSome bytes (λ all. deck ≡ all) × DeckReported out out_new err err_new exit (deck_answer deck)
DeckReported-read None text slice read same out out_new err err_new exit reported = (slice, tt, reported)
DeckReported-read (Some all) text slice read same out out_new err err_new exit reported =
    let cut : deck_answer slice ≡ deck_answer all = ap deck_answer (same ∙ read) ∙ deck_answer-cut all in
    (all, refl, subst (DeckReported out out_new err err_new exit) cut reported)
