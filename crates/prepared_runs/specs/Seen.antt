-- The markers and sections of the code as those of the definitions.
use Rattle.std.specs.Prelude.{◌≡◌, ℕ, ◌-◌, ◌<◌, ◌^◌, min, Bool, ◌∷◌, length, false, if◌then◌else◌, List, codes, bytes_eq, MatchBool, IsSome, Option, None, Some, Result}
use Rattle.std.specs.List.{list_any}
use Rattle.std.specs.Result.{result_map_both}
use denote.Ref.{Bor}
use Rattle.prepared_runs.specs.declared.deck_fault.DeckFault.{DeckFault}
use Rattle.prepared_runs.specs.declared.run_texts.RunTexts.{RunTexts}
use Rattle.prepared_runs.specs.declared.sections.Marker.{Marker}
use Rattle.prepared_runs.specs.declared.sections.Marker.TheVariants.{Bench, Delays, Stimuli, Schedule}
use Rattle.prepared_runs.specs.declared.sections.Sections as code
use Rattle.prepared_runs.specs.Deck.{Sections, ended_lines, has_words, is_marker, markers}
use Rattle.prepared_runs.specs.RunTexts.{seen}

-- the word of a marker
abbrev pub word_of : Marker → List ℕ
word_of Bench = codes "%bench"
word_of Delays = codes "%delays"
word_of Stimuli = codes "%stimuli"
word_of Schedule = codes "%schedule"

-- one of the words of markers
abbrev pub is_marker_word : List ℕ → Bool
is_marker_word word = list_any (λ marker. bytes_eq word marker) markers

-- where lines end: those of a section at a marker, and those before the first section at words
abbrev pub stops : Bool → List ℕ → Bool
stops in_section line = if in_section then is_marker line else has_words line

-- a text is a line and what follows it
pub record SplitsLine (text line after : List ℕ) : Type 0 where
  pub lines : ended_lines text ≡ line ∷ ended_lines after
  pub shorter : length after < length text

-- a text is a line that doesn't end those before it, and what follows it
pub record PassesLine (stops : List ℕ → Bool) (text after : List ℕ) : Type 0 where
  pub line : List ℕ
  pub split : SplitsLine text line after
  pub passes : stops line ≡ false

-- the texts of the sections so far
abbrev pub Found : Type 0
Found = RunTexts (Option (Bor (List ℕ)))

-- the place of one section's text, before and after the text after a marker is stored: filled if it is the place of that marker
abbrev pub FillsIfNamed : List ℕ → List ℕ → Bor (List ℕ) → Option (Bor (List ℕ)) → Option (Bor (List ℕ)) → Type 0
FillsIfNamed section_word word text old new =
    MatchBool (bytes_eq word section_word) ((old ≡ None) × (new ≡ Some text)) (new ≡ old)

-- the text after a marker fills the place of its section, which was empty, and leaves the others unchanged
pub record FillsOwnPlace (marker : Marker) (text : Bor (List ℕ)) (old new : Found) : Type 0 where
  pub bench : FillsIfNamed (codes "%bench") (word_of marker) text old.bench new.bench
  pub delays : FillsIfNamed (codes "%delays") (word_of marker) text old.delays new.delays
  pub stimuli : FillsIfNamed (codes "%stimuli") (word_of marker) text old.stimuli new.stimuli
  pub schedule : FillsIfNamed (codes "%schedule") (word_of marker) text old.schedule new.schedule

-- a marker whose section has been stored
abbrev pub IsRefused : Found → Marker → Type 0
IsRefused found Bench = IsSome found.bench
IsRefused found Delays = IsSome found.delays
IsRefused found Stimuli = IsSome found.stimuli
IsRefused found Schedule = IsSome found.schedule

abbrev pub seen_sections : code.Sections → Sections
seen_sections s = record { horizon = s.horizon; texts = seen s.texts }

-- the same sections, with the horizon as a `u64` holds it
abbrev pub held : Sections → Sections
held s = record s { horizon = min (2 ^ 64 - 1) s.horizon }

abbrev pub on_sections : {A B : Type 0} → (A → B) → Result A DeckFault → Result B DeckFault
on_sections f = result_map_both f (λ fault. fault)
