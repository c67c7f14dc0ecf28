-- What is noted of the nets of a circuit.
use Rattle.std.specs.Prelude.{◌≡◌, ℕ, ◌+◌, ◌≤◌, ◌==◌, ◌&&◌, nat_lt, not, Bool, false, List, length, filter, slice_get, Contains}
use Rattle.std.specs.List.{list_all, list_any, range_with_len}
use Rattle.std.specs.Option.{option_map_or}
use Rattle.logic3.specs.declared.change.Change.{Change}
use Rattle.logic3.specs.declared.value.Value.{Value}
use Rattle.logic3.specs.declared.value.Value.TheVariants as value
use Rattle.logic3.specs.Value.{is_same}
use Rattle.netlist.specs.Part.{is_input}
use Rattle.design.specs.Circuit.{Net, Circuit}
use Rattle.design.specs.Equations.{value_of}
use Rattle.plain_runs.specs.declared.remark.Remark.{Remark}
use Rattle.plain_runs.specs.declared.remark.Remark.TheVariants.{Undriven, Late, Unknown}

-- an input that has no stimulus
abbrev pub is_undriven : Net → Bool
is_undriven net = is_input net.part && (length net.stimuli == 0)

-- a net that has a stimulus after the horizon; only inputs have stimuli
abbrev pub is_late : ℕ → Net → Bool
is_late horizon net = list_any (λ (change : Change). nat_lt horizon change.tick) net.stimuli

-- a signal is X at every tick from 0 to the horizon
abbrev pub is_unknown : ℕ → (ℕ → Value) → Bool
is_unknown horizon signal = list_all (λ tick. is_same (signal tick) value.Unknown) (range_with_len 0 (horizon + 1))

-- the net of this number has this property
abbrev pub net_is : (Net → Bool) → Circuit → ℕ → Bool
net_is test circuit number = option_map_or test (slice_get circuit number) false

-- the net of this number is noted: each net that is X throughout is noted once as such
abbrev pub is_noted : Remark → ℕ → Circuit → ℕ → Bool
is_noted Undriven horizon circuit net = net_is is_undriven circuit net
is_noted Late horizon circuit net = net_is (is_late horizon) circuit net
is_noted Unknown horizon circuit net = not (net_is is_undriven circuit net) && is_unknown horizon (value_of circuit net)

-- the numbers of the nets that are noted, in rising order
abbrev pub noted_nets : Remark → ℕ → Circuit → List ℕ
noted_nets remark horizon circuit = filter (is_noted remark horizon circuit) (range_with_len 0 (length circuit))

-- the net of this number is among them
abbrev pub Notes : Remark → ℕ → Circuit → ℕ → Type 0
Notes remark horizon circuit net = Contains (noted_nets remark horizon circuit) net

-- the net shows X at every tick from 0 to the horizon
abbrev pub StaysUnknown : ℕ → Circuit → ℕ → Type 0
StaysUnknown horizon circuit net = (tick : ℕ) → tick ≤ horizon → value_of circuit net tick ≡ value.Unknown
