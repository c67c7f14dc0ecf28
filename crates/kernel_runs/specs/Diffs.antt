-- Two runs to one horizon, compared net by net.
use Rattle.std.specs.Prelude.{◌≡◌, ℕ, ◌&&◌, ◌||◌, ◌↔◌, not, Bool, false, IsTrue, if◌then◌else◌, List, [], ◌∷◌, ◌++◌, length, map, filter, flat_map, All, Option, Some, None, is_some, Result, Ok, Err, bytes_eq, codes}
use Rattle.std.specs.List.{list_all, list_any, range_with_len}
use Rattle.std.specs.Option.{unwrap_or}
use Rattle.texts.specs.Text.{◌>>=◌}
use Rattle.netlist.specs.Netlist.{NetlistView, name_at, net_named}
use Rattle.net_words.specs.Listed.{nets_listed}
use Rattle.timing_text.specs.Options.{horizon_of}
use Rattle.design.specs.Equations.{value_of}
use Rattle.fanin_cone.specs.Agreement.{AgreesOn}
use Rattle.fanin_cone.specs.Cone.{InCone}
use Rattle.wave_diff.specs.declared.comparison.Comparison.{Comparison}
use Rattle.wave_diff.specs.declared.comparison.Comparison.TheVariants.{Same, Differs, OnlyIn}
use Rattle.wave_diff.specs.declared.comparison.Side.TheVariants as only
use Rattle.wave_diff.specs.declared.difference.Difference.{Difference}
use Rattle.wave_diff.specs.Compared.{ComparedTicks, compared_of}
use Rattle.wave_diff.specs.Comparison.{is_same}
use Rattle.wave_diff.specs.Difference.{first_difference}
use Rattle.wave_diff.specs.Text.{comparison_line}
use Rattle.wave_diff.specs.declared.diff_ticks.DiffTicks.{DiffTicks}
use Rattle.timing_text.specs.declared.fault.OptionFault.{OptionFault}
use Rattle.prepared_runs.specs.declared.fault.SimFault.{SimFault}
use Rattle.prepared_runs.specs.declared.fault.SimFault.TheVariants.{Setting, UnknownNet, Dump, Memory}
use Rattle.kernel_runs.specs.declared.diff_fault.DiffFault.{DiffFault}
use Rattle.kernel_runs.specs.declared.diff_fault.DiffFault.TheVariants.{Compared, Run}
use Rattle.wave_diff.specs.declared.comparison.Side.{Side}
use Rattle.wave_diff.specs.declared.comparison.Side.TheVariants.{First, Second}
use Rattle.kernel_runs.specs.declared.twin_run.TwinFault.{TwinFault}
use Rattle.prepared_runs.specs.Source.{SourceView, or_fault}
use Rattle.prepared_runs.specs.Prepared.{RunView, run_of_source}
use Rattle.kernel_runs.specs.Twins.{on}

-- ---- the faults

-- a fault of the run on a side
abbrev pub on_run : Side → SimFault → DiffFault
on_run side fault = Run (on side fault)

-- a refused horizon is reported for the first run
abbrev pub of_horizon : OptionFault → DiffFault
of_horizon fault = on_run First (Setting fault)

-- before a byte is written: the fault is the answer, unless an allocation failed
abbrev pub IsDiffRefusal : {A : Type 0} → Result A DiffFault → DiffFault → Type 0
IsDiffRefusal answer (Compared fault) = answer ≡ Err (Compared fault)
IsDiffRefusal answer (Run fault) = refused fault.side fault.fault
  where
    refused : Side → SimFault → Type 0
    refused side (Dump fault) = ⊥
    refused side Memory = Unit {0}
    refused side fault = answer ≡ Err (on_run side fault)

-- ---- the names

-- the names of these nets of a netlist, in order
abbrev pub names_at : NetlistView → List ℕ → List (List ℕ)
names_at netlist nets = map (name_at netlist) nets

-- a name is that of one of these nets
abbrev pub is_name_among : NetlistView → List ℕ → List ℕ → Bool
is_name_among netlist nets name = list_any (λ own. bytes_eq own name) (names_at netlist nets)

-- the names of these nets of the first netlist in order, and after them those of the second's that aren't among them
abbrev pub joined_names : NetlistView → List ℕ → NetlistView → List ℕ → List (List ℕ)
joined_names first nets second others = names_at first nets ++ filter (λ name. not (is_name_among first nets name)) (names_at second others)

-- those of the outputs
abbrev pub names_of_outputs : NetlistView → NetlistView → List (List ℕ)
names_of_outputs first second = joined_names first first.outputs second second.outputs

-- the names of a netlist's nets, in order
abbrev pub net_names : NetlistView → List (List ℕ)
net_names netlist = map (name_at netlist) (range_with_len 0 (length netlist.nets))

-- the names of the first netlist's nets in order, and after them those of the second's that aren't names of nets of the first
abbrev pub names_of_nets : NetlistView → NetlistView → List (List ℕ)
names_of_nets first second = net_names first ++ filter (λ name. not (is_some (net_named first name))) (net_names second)

-- one netlist or the other has a net of this name
abbrev pub is_known : NetlistView → NetlistView → List ℕ → Bool
is_known first second name = is_some (net_named first name) || is_some (net_named second name)

-- the only word is the one for all nets, and neither netlist has a net of that name
abbrev pub mean_all : NetlistView → NetlistView → List (List ℕ) → Bool
mean_all first second [] = false
mean_all first second (name ∷ []) = bytes_eq name (codes "all") && not (is_known first second name)
mean_all first second (name ∷ other ∷ names) = false

-- a word means nets of one netlist or the other
abbrev pub is_meant : NetlistView → NetlistView → List ℕ → Bool
is_meant first second word = is_some (nets_listed first word) || is_some (nets_listed second word)

-- the nets that a word means, or none
abbrev pub nets_or_none : NetlistView → List ℕ → List ℕ
nets_or_none netlist word = unwrap_or (nets_listed netlist word) []

-- the names by which two netlists are compared for a word: itself, if one or the other has a net of this name; or else those of the
-- nets that it means in the first, and after them those of the nets that it means in the second alone
abbrev pub names_of_word : NetlistView → NetlistView → List ℕ → List (List ℕ)
names_of_word first second word =
    if is_known first second word then word ∷ []
    else joined_names first (nets_or_none first word) second (nets_or_none second word)

-- the names by which two netlists are compared: those for words, which may mean all nets, or, if there are none, those of the outputs
abbrev pub names_compared : List (List ℕ) → NetlistView → NetlistView → List (List ℕ)
names_compared [] first second = names_of_outputs first second
names_compared (word ∷ words) first second =
    if mean_all first second (word ∷ words) then names_of_nets first second else flat_map (names_of_word first second) (word ∷ words)

-- each word means nets, or they mean all nets
abbrev pub are_accepted : NetlistView → NetlistView → List (List ℕ) → Bool
are_accepted first second words = mean_all first second words || list_all (is_meant first second) words

-- ---- the runs

-- two runs, the ticks at which they are compared, and the names by which they are
pub record Pair : Type 0 where
  pub first : RunView
  pub second : RunView
  pub ticks : ComparedTicks
  pub names : List (List ℕ)

abbrev pub pair_by : RunView → RunView → ComparedTicks → List (List ℕ) → Pair
pair_by one other ticks names = record { first = one; second = other; ticks = ticks; names = names }

-- two runs by the names for words or, if there are none, by those of the outputs
abbrev pub pair_named : RunView → RunView → ComparedTicks → List (List ℕ) → Pair
pair_named one other ticks names = pair_by one other ticks (names_compared names one.design.netlist other.design.netlist)

-- the same, unless one of the words means no net of either run
unfoldable pub pair_in : RunView → RunView → ComparedTicks → List (List ℕ) → Result Pair TwinFault
pair_in one other ticks names =
    if are_accepted one.design.netlist other.design.netlist names
    then Ok (pair_named one other ticks names)
    else Err (on First UnknownNet)

-- the ticks that are compared, or the first fault
unfoldable pub ticks_of_diff : DiffTicks → Result ComparedTicks DiffFault
ticks_of_diff ticks = do
  horizon ← or_fault of_horizon (horizon_of ticks.horizon)
  or_fault Compared (compared_of ticks.from ticks.every horizon)

-- the runs of two sources, or the first fault: the ticks come before the first source, it before the second, and that before the names
unfoldable pub pair_of : SourceView → SourceView → List (List ℕ) → DiffTicks → Result Pair DiffFault
pair_of first second names ticks = do
  compared ← ticks_of_diff ticks
  one ← or_fault (on_run First) (run_of_source first ticks.horizon)
  other ← or_fault (on_run Second) (run_of_source second ticks.horizon)
  or_fault Run (pair_in one other compared names)

-- ---- the comparison

-- two runs agree, up to the horizon, on the fan-in cone that the net of a name has in the first
abbrev pub AgreesOnCone : RunView → RunView → List ℕ → Type 0
AgreesOnCone one other name = AgreesOn one.design other.design (InCone one.design.netlist (name ∷ [])) one.horizon

-- of a net of both runs: where the signals differ first, or whether the runs agree on its cone
abbrev pub IsOfDifference : RunView → RunView → List ℕ → Option Difference → Comparison → Type 0
IsOfDifference one other name (Some found) comparison = comparison ≡ Differs found
IsOfDifference one other name None comparison = (agree : Bool) × (IsTrue agree ↔ AgreesOnCone one other name) × (comparison ≡ Same agree)

-- by the numbers that the net of a name has in the two runs
abbrev pub IsOfNets : RunView → RunView → ComparedTicks → List ℕ → Option ℕ → Option ℕ → Comparison → Type 0
IsOfNets one other ticks name (Some net) (Some other_net) comparison =
    IsOfDifference one other name (first_difference (value_of one.design.circuit net) (value_of other.design.circuit other_net) ticks) comparison
IsOfNets one other ticks name (Some net) None comparison = comparison ≡ OnlyIn only.First
IsOfNets one other ticks name None other_net comparison = comparison ≡ OnlyIn only.Second

-- how what the net of a name shows in two runs compares; at least one of them has it
abbrev pub IsComparisonOf : RunView → RunView → ComparedTicks → List ℕ → Comparison → Type 0
IsComparisonOf one other ticks name comparison =
    IsOfNets one other ticks name (net_named one.design.netlist name) (net_named other.design.netlist name) comparison

-- two sources whose runs agree on the fan-in cone that the net of a name has in the first, and the net's comparison
pub record AgreeingPair (name : List ℕ) (comparison : Comparison) : Type 0 where
  pub first : SourceView
  pub second : SourceView
  pub names : List (List ℕ)
  pub ticks : DiffTicks
  pub pair : Pair
  pub accepted : pair_of first second names ticks ≡ Ok pair
  pub agrees : AgreesOnCone pair.first pair.second name
  pub compared : IsComparisonOf pair.first pair.second pair.ticks name comparison

-- a name, and how what its net shows compares
pub record NetDiff : Type 0 where
  pub name : List ℕ
  pub comparison : Comparison

abbrev pub diff_line : NetDiff → List ℕ
diff_line diff = comparison_line diff.name diff.comparison

-- each name in order with its comparison, a line for each, and whether all show the same
pub record IsDiff (pair : Pair) (text : List ℕ) (same : Bool) : Type 0 where
  pub diffs : List NetDiff
  pub names : map (λ (diff : NetDiff). diff.name) diffs ≡ pair.names
  pub each : All (λ (diff : NetDiff). IsComparisonOf pair.first pair.second pair.ticks diff.name diff.comparison) diffs
  pub lines : text ≡ flat_map diff_line diffs
  pub all_same : same ≡ list_all (λ (diff : NetDiff). is_same diff.comparison) diffs
