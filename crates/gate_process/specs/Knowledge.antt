-- What is known of a net, and the messages that report it.
use Rattle.std.specs.Prelude.{◌≡◌, ◌==◌, nat_lt, if◌then◌else◌, ℕ, suc, ◌+◌, ◌-◌, ◌<◌, ◌≤◌, min, List, [], ◌∷◌, ◌++◌, map, All, Option, None, Some}
use Rattle.logic3.specs.declared.value.Value.{Value}
use Rattle.logic3.specs.declared.value.Value.TheVariants.{Unknown}
use Rattle.logic3.specs.Wave.{Wave, IsWave, value_at, changes_between, wave_of}
use Rattle.logic3.specs.declared.change.Change.{Change}
use Rattle.timing_text.specs.Ranges.{most_ticks}
use Rattle.cmb_channels.specs.declared.message.Message.{Message}
use Rattle.cmb_channels.specs.declared.message.Message.TheVariants.{Change as Changes, Null}

-- what is known of a net: its waveform at the ticks before the frontier
pub record Knowledge : Type 0 where
  pub wave : Wave
  pub frontier : ℕ

-- what is known is a waveform, and says nothing of the ticks from the frontier on
pub record IsKnowledge (known : Knowledge) : Type 0 where
  pub wave : IsWave known.wave
  pub past : All (λ (change : Change). change.tick < known.frontier) known.wave.changes

-- what a pin has received from its source, up to the last tick that a horizon may have
pub record IsReceived (received : Knowledge) : Type 0 where
  pub known : IsKnowledge received
  pub within : received.frontier ≤ most_ticks + 1

-- changes, later by this number of ticks
abbrev pub delayed_changes : ℕ → List Change → List Change
delayed_changes ticks changes = map (λ (change : Change). record { tick = change.tick + ticks; value = change.value }) changes

-- a waveform, later by this number of ticks
abbrev pub delayed : ℕ → Wave → Wave
delayed ticks wave = record { before = wave.before; changes = delayed_changes ticks wave.changes }

-- what is known of a pin, as its net sees it: what it has received, later by the delay of its wire
abbrev pub seen : ℕ → Knowledge → Knowledge
seen wire known = record { wave = delayed wire known.wave; frontier = known.frontier + wire }

-- the same of all pins, each with its wire
abbrev pub seen_pins : List ℕ → List Knowledge → List Knowledge
seen_pins (wire ∷ wires) (known ∷ received) = seen wire known ∷ seen_pins wires received
seen_pins _ _ = []

-- what is known up to a tick changes to X there; what is known to the end doesn't
abbrev pub unknown_from : Option ℕ → List Change
unknown_from None = []
unknown_from (Some frontier) = record { tick = frontier; value = Unknown } ∷ []

-- what is known of a net as a waveform: from the frontier on it shows X
abbrev pub as_known : Knowledge → Wave
as_known known = record { before = known.wave.before; changes = known.wave.changes ++ unknown_from (Some known.frontier) }

-- what is known before anything is received
abbrev pub nothing_known : Knowledge
nothing_known = record { wave = record { before = Unknown; changes = [] }; frontier = 0 }

-- the knowledge of a signal at the ticks from one up to but not including another
abbrev pub knowledge_of : (ℕ → Value) → ℕ → ℕ → Knowledge
knowledge_of signal from to = record { wave = wave_of signal from to; frontier = to }

-- what is known after a message
abbrev pub told : Knowledge → Message → Knowledge
told known (Changes change) =
    record { wave = record { before = known.wave.before; changes = known.wave.changes ++ change ∷ [] }; frontier = change.tick + 1 }
told known (Null bound) = record { wave = known.wave; frontier = bound }

-- how many ticks are known after a message
abbrev pub known_after : Message → ℕ
known_after (Changes change) = change.tick + 1
known_after (Null bound) = bound

-- what is known after some messages
abbrev pub told_all : Knowledge → List Message → Knowledge
told_all known [] = known
told_all known (message ∷ messages) = told_all (told known message) messages

-- how many of some messages a pin with a number of known ticks takes: one after another, as long as it is known to less than a tick
abbrev pub wanted : ℕ → ℕ → List Message → ℕ
wanted tick known [] = 0
wanted tick known (message ∷ messages) = if nat_lt known tick then suc (wanted tick (known_after message) messages) else 0

-- a message raises what is known, not past a limit, and continues its waveform
abbrev pub Continues : ℕ → Knowledge → Message → Type 0
Continues limit known message =
    (known.frontier < (told known message).frontier) × ((told known message).frontier ≤ limit) × IsWave (told known message).wave

-- some messages do so, one after another
abbrev pub ContinueAll : ℕ → Knowledge → List Message → Type 0
ContinueAll limit known [] = Unit {0}
ContinueAll limit known (message ∷ messages) = Continues limit known message × ContinueAll limit (told known message) messages

-- the first tick that is kept: the oldest that is asked for, or the first unknown one if that is earlier
abbrev pub kept_since : ℕ → ℕ → ℕ
kept_since oldest frontier = min oldest frontier

-- what is known, at the ticks from one on
abbrev pub forgetting : ℕ → Knowledge → Knowledge
forgetting tick known = knowledge_of (value_at known.wave) tick known.frontier

-- what is known, at the ticks that are kept
abbrev pub keeping : ℕ → Knowledge → Knowledge
keeping oldest known = forgetting (kept_since oldest known.frontier) known

-- the messages that report these changes and a frontier
abbrev pub news_of : List Change → ℕ → List Message
news_of [] to = Null to ∷ []
news_of (change ∷ []) to = Changes change ∷ (if change.tick + 1 == to then [] else Null to ∷ [])
news_of (change ∷ changes) to = Changes change ∷ news_of changes to

-- the messages that report a signal from a frontier up to another, none if they are the same
abbrev pub news_between : (ℕ → Value) → ℕ → ℕ → List Message
news_between signal from to = if to == from then [] else news_of (changes_between signal from to) to

-- these messages report a signal, from a tick known so far up to another, and each raises what is known
abbrev pub Tells : (ℕ → Value) → ℕ → ℕ → List Message → Type 0
Tells signal from to [] = from ≡ to
Tells signal from to (Changes change ∷ messages) =
    (from ≤ change.tick) × (changes_between signal from (change.tick + 1) ≡ change ∷ []) × Tells signal (change.tick + 1) to messages
Tells signal from to (Null bound ∷ messages) =
    (from < bound) × (changes_between signal from bound ≡ []) × Tells signal bound to messages
