-- The messages about a signal.
use Rattle.std.specs.Prelude.{ℕ, ◌+◌, ◌-◌, ◌==◌, if◌then◌else◌, List, [], length, slice_get}
use Rattle.std.specs.Option.{option_map_or}
use Rattle.logic3.specs.declared.value.Value.{Value}
use Rattle.logic3.specs.declared.change.Change.{Change}
use Rattle.logic3.specs.Wave.{changes_between}
use Rattle.cmb_channels.specs.declared.message.Message.{Message}
use Rattle.gate_process.specs.Knowledge.{news_of}

-- the messages that make a signal known from one tick up to another, between which it has these changes
abbrev pub told_by : List Change → ℕ → ℕ → List Message
told_by changes from to = if to == from then [] else news_of changes to

-- the messages that make a signal known from one tick up to another
abbrev pub told_between : (ℕ → Value) → ℕ → ℕ → List Message
told_between signal from to = told_by (changes_between signal from to) from to

-- the tick up to which some changes make a signal known, if it was known up to a tick before
abbrev pub told_to : ℕ → List Change → ℕ
told_to from changes = option_map_or (λ (change : Change). change.tick + 1) (slice_get changes (length changes - 1)) from
