use Rattle.drawn_stimuli.proofs.DrivesCount.{drives_alone, drives_pulses}
use Rattle.drawn_stimuli.proofs.laws.drives_count.Goals as goal

pub returns-clause-alone : goal.returns-clause-alone
returns-clause-alone c = drives_alone

pub returns-clause-pulses : goal.returns-clause-pulses
returns-clause-pulses c = λ netlist drives none k d within pulse rounds place tick.
    drives_pulses netlist drives none rounds place tick k d within pulse
