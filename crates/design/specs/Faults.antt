-- How a build reports the fault of a text.
use Rattle.timing_text.specs.declared.fault.DelayFault.{DelayFault}
use Rattle.timing_text.specs.declared.fault.DelayFault.TheVariants as delay
use Rattle.timing_text.specs.declared.fault.StimulusFault.{StimulusFault}
use Rattle.timing_text.specs.declared.fault.StimulusFault.TheVariants as stimulus
use Rattle.design.specs.declared.fault.BuildFault.{BuildFault}
use Rattle.design.specs.declared.fault.BuildFault.TheVariants.{Timing, Stimulus, Memory}

-- out of memory is the build's own fault, and any other fault is passed on
abbrev pub timing_fault : DelayFault → BuildFault
timing_fault delay.Memory = Memory
timing_fault fault = Timing fault

abbrev pub stimulus_fault : StimulusFault → BuildFault
stimulus_fault stimulus.Memory = Memory
stimulus_fault fault = Stimulus fault
