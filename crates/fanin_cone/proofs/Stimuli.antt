-- The stimuli of a net rise.
use Rattle.std.proofs.Common.{◌≡◌, ℕ, List, length, option_map, Some, slice_get, ap, subst, arith}
use Rattle.logic3.specs.declared.change.Change.{Change}
use Rattle.logic3.specs.Rising.{TicksRise}
use Rattle.netlist.specs.declared.part.Part.{Part}
use Rattle.netlist.specs.declared.part.Part.TheVariants.{Input}
use Rattle.design.specs.Circuit.{Net}
use Rattle.timing_text.specs.Ranges.{HasStimuli}
use Rattle.design.specs.Design.{DesignView, IsDesign}
use Rattle.design.proofs.CallerLemmas.{timed_at, IsCircuit-from_IsDesign, net_with}

rising_of : (part : Part) (stimuli : List Change) → HasStimuli part stimuli → TicksRise stimuli
rising_of Input stimuli has = has.1
rising_of _ stimuli has = λ i j d before within. absurd (omega (arith, ap length has))

-- the stimuli of each net rise
pub rising_stimuli : (design : DesignView) → IsDesign design → (number : ℕ) (stimuli : List Change) →
    option_map (λ (net : Net). net.stimuli) (slice_get design.circuit number) ≡ Some stimuli →
    TicksRise stimuli
rising_stimuli design ok number stimuli are =
    let found = net_with (λ (net : Net). net.stimuli) (slice_get design.circuit number) stimuli are in
    let timed = timed_at design.circuit (IsCircuit-from_IsDesign design ok) number found.0 found.1 in
    subst TicksRise found.2 (rising_of found.0.part found.0.stimuli timed.stimuli)
