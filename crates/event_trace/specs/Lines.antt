-- The lines of a trace, and their text.
use Rattle.std.specs.Prelude.{ℕ, List, [], ◌∷◌, ◌++◌, flat_map, codes, decimal}
use Rattle.logic3.specs.Value.{value_text}
use Rattle.cmb_channels.specs.declared.message.Message.{Message}
use Rattle.cmb_channels.specs.declared.message.Message.TheVariants.{Change as Changes, Null}
use Rattle.design.specs.Circuit.{Circuit}
use Rattle.texts.specs.Written.{line}
use Rattle.vcd_dump.specs.Traces.{name_of}
use Rattle.cmb_kernel.specs.declared.counts.Counts.{Counts}

-- the content of a line
pub data Line : Type 0 where
  -- the round with this number begins
  begins : (number : ℕ) → Line
  -- a net advances from one frontier to another, and sends these messages
  advances : (net from to : ℕ) (told : List Message) → Line
  -- the pin at a place of a net takes the oldest message that waited there, if any
  delivers : (net place : ℕ) (taken : List Message) → Line
  -- the run is complete, with these counts
  ends : (counts : Counts) → Line

-- a change as its value and its tick, a null message as its tick
abbrev pub message_text : Message → List ℕ
message_text (Changes change) = value_text change.value ++ codes "@" ++ decimal change.tick
message_text (Null bound) = codes "null " ++ decimal bound

-- a space and a message
abbrev pub spaced_text : Message → List ℕ
spaced_text message = codes " " ++ message_text message

-- the messages in order, or a word if there are none
abbrev pub messages_text : List Message → List ℕ
messages_text [] = codes " idle"
messages_text (message ∷ messages) = flat_map spaced_text (message ∷ messages)

-- the line of an advance of the net with this name
abbrev pub advance_text : List ℕ → ℕ → ℕ → List Message → List ℕ
advance_text name from to told =
    line (codes "advance " ++ name ++ codes " " ++ decimal from ++ codes " -> " ++ decimal to ++ codes ":" ++ messages_text told)

-- the line of a delivery to the pin at a place of the net with this name
abbrev pub deliver_text : List ℕ → ℕ → List Message → List ℕ
deliver_text name place taken =
    line (codes "deliver " ++ name ++ codes " " ++ decimal place ++ codes ":" ++ messages_text taken)

-- the line before the events of a round
abbrev pub round_text : ℕ → List ℕ
round_text number = line (codes "round " ++ decimal number)

-- the line of counts
abbrev pub counts_line : Counts → List ℕ
counts_line counts =
    line (codes "events " ++ decimal counts.events ++ codes " changes " ++ decimal counts.changes
    ++ codes " nulls " ++ decimal counts.nulls ++ codes " rounds " ++ decimal counts.rounds)

-- the text of a line, with the names of a circuit's nets
abbrev pub line_text : Circuit → Line → List ℕ
line_text circuit (begins number) = round_text number
line_text circuit (advances net from to told) = advance_text (name_of circuit net) from to told
line_text circuit (delivers net place taken) = deliver_text (name_of circuit net) place taken
line_text circuit (ends counts) = counts_line counts

-- the text of some lines
abbrev pub lines_text : Circuit → List Line → List ℕ
lines_text circuit lines = flat_map (line_text circuit) lines
