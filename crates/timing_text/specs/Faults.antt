-- The name and the line of a fault of a text or a setting.
use Rattle.std.specs.Prelude.{ℕ, List, codes}
use Rattle.timing_text.specs.declared.fault.OptionFault.{OptionFault}
use Rattle.timing_text.specs.declared.fault.OptionFault.TheVariants.{BadDelay, BadPeriod, BadHorizon}
use Rattle.timing_text.specs.declared.fault.DelayFault.{DelayFault}
use Rattle.timing_text.specs.declared.fault.DelayFault.TheVariants as delay
use Rattle.timing_text.specs.declared.fault.StimulusFault.{StimulusFault}
use Rattle.timing_text.specs.declared.fault.StimulusFault.TheVariants as stimulus

abbrev pub option_name : OptionFault → List ℕ
option_name BadDelay = codes "BadDelay"
option_name BadPeriod = codes "BadPeriod"
option_name BadHorizon = codes "BadHorizon"

-- the line of a fault, or 0 for one without a line
abbrev pub delay_line : DelayFault → ℕ
delay_line (delay.BadLine line) = line
delay_line (delay.UnknownNet line) = line
delay_line (delay.IsInput line) = line
delay_line (delay.BadTicks line) = line
delay_line (delay.Twice line) = line
delay_line (delay.NotAFlop line) = line
delay_line (delay.BadPeriod line) = line
delay_line (delay.BadPhase line) = line
delay_line (delay.BadValue line) = line
delay_line (delay.BadPin line) = line
delay_line other = 0

abbrev pub delay_name : DelayFault → List ℕ
delay_name delay.TooLong = codes "TooLong"
delay_name (delay.BadLine line) = codes "BadLine"
delay_name (delay.UnknownNet line) = codes "UnknownNet"
delay_name (delay.IsInput line) = codes "IsInput"
delay_name (delay.BadTicks line) = codes "BadTicks"
delay_name (delay.Twice line) = codes "Twice"
delay_name delay.Memory = codes "Memory"
delay_name (delay.NotAFlop line) = codes "NotAFlop"
delay_name (delay.BadPeriod line) = codes "BadPeriod"
delay_name (delay.BadPhase line) = codes "BadPhase"
delay_name (delay.BadValue line) = codes "BadValue"
delay_name (delay.BadPin line) = codes "BadPin"

-- the line of a fault, or 0 for one without a line
abbrev pub stimulus_line : StimulusFault → ℕ
stimulus_line (stimulus.BadLine line) = line
stimulus_line (stimulus.UnknownNet line) = line
stimulus_line (stimulus.NotAnInput line) = line
stimulus_line (stimulus.TickTooLarge line) = line
stimulus_line (stimulus.BadValue line) = line
stimulus_line (stimulus.NotRising line) = line
stimulus_line other = 0

abbrev pub stimulus_name : StimulusFault → List ℕ
stimulus_name stimulus.TooLong = codes "TooLong"
stimulus_name (stimulus.BadLine line) = codes "BadLine"
stimulus_name (stimulus.UnknownNet line) = codes "UnknownNet"
stimulus_name (stimulus.NotAnInput line) = codes "NotAnInput"
stimulus_name (stimulus.TickTooLarge line) = codes "TickTooLarge"
stimulus_name (stimulus.BadValue line) = codes "BadValue"
stimulus_name (stimulus.NotRising line) = codes "NotRising"
stimulus_name stimulus.Memory = codes "Memory"
