-- The answer to a request for stimuli, step by step.
use Rattle.std.proofs.Common.{◌≡◌, ℕ, List, Ok, Err, refl}
use Rattle.bench_text.specs.declared.fault.BenchFault.{BenchFault}
use Rattle.bench_text.specs.NetlistOf.{netlist_of}
use Rattle.netlist.specs.Netlist.{NetlistView}
use Rattle.timing_text.specs.declared.fault.OptionFault.{OptionFault}
use Rattle.timing_text.specs.Options.{horizon_of}
use Rattle.drawn_stimuli.specs.declared.drive.Draws.{Draws}
use Rattle.drawn_stimuli.specs.declared.fault.DriveFault.{DriveFault}
use Rattle.drawn_stimuli.specs.Given.{DriveView}
use Rattle.drawn_stimuli.specs.StimulusText.{stimuli_text}
use Rattle.drawn_stimuli.specs.declared.driven_fault.DrivenFault.TheVariants.{Setting}
use Rattle.drawn_stimuli.specs.Driven.{driven_of_bench, driven_of_drives, stimuli_of_drives}

module _ (bench : List ℕ) (driven : List DriveView) (draws : Draws) (ticks : ℕ) where
  pub stimuli_of_drives-bad_horizon : (fault : OptionFault) → horizon_of ticks ≡ Err fault → stimuli_of_drives bench driven draws ticks ≡ Err (Setting fault)
  unfolding stimuli_of_drives
  stimuli_of_drives-bad_horizon fault bad = rw bad refl

  module _ (horizon : ℕ) (end : horizon_of ticks ≡ Ok horizon) where
    pub stimuli_of_drives-bad_bench : (fault : BenchFault) → netlist_of bench ≡ Err fault → stimuli_of_drives bench driven draws ticks ≡ Err (driven_of_bench fault)
    unfolding stimuli_of_drives
    stimuli_of_drives-bad_bench fault bad = rw (end, bad) refl

    module _ (netlist : NetlistView) (read : netlist_of bench ≡ Ok netlist) where
      pub stimuli_of_drives-bad : (fault : DriveFault) → stimuli_text netlist driven draws horizon ≡ Err fault →
          stimuli_of_drives bench driven draws ticks ≡ Err (driven_of_drives fault)
      unfolding stimuli_of_drives
      stimuli_of_drives-bad fault bad = rw (end, read, bad) refl

      pub stimuli_of_drives-good : (text : List ℕ) → stimuli_text netlist driven draws horizon ≡ Ok text → stimuli_of_drives bench driven draws ticks ≡ Ok text
      unfolding stimuli_of_drives
      stimuli_of_drives-good text good = rw (end, read, good) refl
