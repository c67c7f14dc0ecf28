-- The changes that a walk hasn't passed yet.
use Rattle.std.specs.Prelude.{ℕ, nat_le, List, [], ◌∷◌, take, drop}
use Rattle.std.specs.List.{prefix_len}
use Rattle.logic3.specs.declared.value.Value.{Value}
use Rattle.logic3.specs.Wave.{value_in_the_end}
use Rattle.logic3.specs.declared.change.Change.{Change}
use Rattle.gate_process.specs.declared.later.Source.{Source}
use Rattle.gate_process.specs.declared.later.Source.TheVariants.{Stimuli, Pin}
use Rattle.gate_process.specs.Knowledge.{delayed_changes}

-- the changes of a source, at the ticks at which they are seen
abbrev pub changes_of : Source → List Change
changes_of (Stimuli changes) = changes.now
changes_of (Pin changes wire) = delayed_changes wire changes.now

-- the tick of the first of some changes; if there are none, the last tick that 64 bits hold, which no run comes to
abbrev pub first_tick : List Change → ℕ
first_tick [] = 18_446_744_073_709_551_615
first_tick (change ∷ changes) = change.tick

-- how many of some changes come up to and including a tick
abbrev pub due_by : ℕ → List Change → ℕ
due_by tick changes = prefix_len (λ (change : Change). nat_le change.tick tick) changes

-- the value after those of a pin's changes that are seen up to and including a tick
abbrev pub passed_value : ℕ → ℕ → Value → List Change → Value
passed_value wire tick before changes =
    value_in_the_end before (take (due_by tick (delayed_changes wire changes)) (delayed_changes wire changes))

-- those that are seen later
abbrev pub passed_left : ℕ → ℕ → List Change → List Change
passed_left wire tick changes = drop (due_by tick (delayed_changes wire changes)) (delayed_changes wire changes)
