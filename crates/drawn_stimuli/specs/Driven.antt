-- The stimulus text of the inputs of a .bench text.
use Rattle.std.specs.Prelude.{ℕ, List, Result}
use Rattle.std.specs.Result.{result_map_both}
use Rattle.texts.specs.Text.{◌>>=◌}
use Rattle.bench_text.specs.declared.fault.BenchFault.{BenchFault}
use Rattle.bench_text.specs.declared.fault.BenchFault.TheVariants as bench
use Rattle.bench_text.specs.NetlistOf.{netlist_of}
use Rattle.timing_text.specs.Options.{horizon_of}
use Rattle.drawn_stimuli.specs.declared.drive.Draws.{Draws}
use Rattle.drawn_stimuli.specs.declared.fault.DriveFault.{DriveFault}
use Rattle.drawn_stimuli.specs.declared.fault.DriveFault.TheVariants as drives
use Rattle.drawn_stimuli.specs.Given.{DriveView}
use Rattle.drawn_stimuli.specs.StimulusText.{stimuli_text}
use Rattle.drawn_stimuli.specs.declared.driven_fault.DrivenFault.{DrivenFault}
use Rattle.drawn_stimuli.specs.declared.driven_fault.DrivenFault.TheVariants.{Setting, Bench, Drives, Memory}

-- ---- out of memory in any layer is the text's own fault

abbrev pub driven_of_bench : BenchFault → DrivenFault
driven_of_bench bench.Memory = Memory
driven_of_bench fault = Bench fault

abbrev pub driven_of_drives : DriveFault → DrivenFault
driven_of_drives drives.Memory = Memory
driven_of_drives fault = Drives fault

-- the same value, or the fault as one of this text
abbrev pub or_driven : {A F : Type 0} → (F → DrivenFault) → Result A F → Result A DrivenFault
or_driven lifted result = result_map_both (λ value. value) lifted result

-- ---- the text

-- the answer to a netlist's text, drives, draws and a horizon: the stimulus text, or the first fault
unfoldable pub stimuli_of_drives : List ℕ → List DriveView → Draws → ℕ → Result (List ℕ) DrivenFault
stimuli_of_drives text driven draws ticks = do
  horizon ← or_driven Setting (horizon_of ticks)
  netlist ← or_driven driven_of_bench (netlist_of text)
  or_driven driven_of_drives (stimuli_text netlist driven draws horizon)
