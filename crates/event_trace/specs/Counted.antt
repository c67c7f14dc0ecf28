-- What a reader counts in a trace.
use Rattle.std.specs.Prelude.{ℕ, min, Bool, true, false, List, [], flat_map, count_by}
use Rattle.cmb_channels.specs.declared.message.Message.{Message}
use Rattle.cmb_channels.specs.Kinds.{is_change, is_null}
use Rattle.event_trace.specs.Lines.{Line, begins, advances, delivers, ends}

-- the line reports an event
abbrev pub is_event : Line → Bool
is_event (begins number) = false
is_event (advances net from to told) = true
is_event (delivers net place taken) = true
is_event (ends counts) = false

-- the line reports the beginning of a round
abbrev pub is_beginning : Line → Bool
is_beginning (begins number) = true
is_beginning (advances net from to told) = false
is_beginning (delivers net place taken) = false
is_beginning (ends counts) = false

-- the messages in the line of an advance
abbrev pub told_in : Line → List Message
told_in (begins number) = []
told_in (advances net from to told) = told
told_in (delivers net place taken) = []
told_in (ends counts) = []

-- a number, at most the largest u64
abbrev pub held : ℕ → ℕ
held count = min count 18_446_744_073_709_551_615

-- the numbers of changes and of null messages that advances sent
abbrev pub changes_told : List Line → ℕ
changes_told lines = count_by is_change (flat_map told_in lines)

abbrev pub nulls_told : List Line → ℕ
nulls_told lines = count_by is_null (flat_map told_in lines)
