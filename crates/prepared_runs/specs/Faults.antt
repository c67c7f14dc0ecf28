-- What a fault of a run reports, its name and its line, and how a run reports a layer's fault.
use Rattle.std.specs.Prelude.{ℕ, List, codes}
use Rattle.bench_text.specs.Faults as of_bench
use Rattle.timing_text.specs.Faults.{delay_line, delay_name, option_name, stimulus_line, stimulus_name}
use Rattle.cmb_events.specs.ScheduleFaults as of_schedule
use Rattle.vcd_dump.specs.Faults as of_dump
use Rattle.bench_text.specs.declared.fault.BenchFault.{BenchFault}
use Rattle.bench_text.specs.declared.fault.BenchFault.TheVariants as bench
use Rattle.design.specs.declared.fault.BuildFault.{BuildFault}
use Rattle.design.specs.declared.fault.BuildFault.TheVariants as build
use Rattle.timing_text.specs.declared.fault.DelayFault.TheVariants as delay
use Rattle.timing_text.specs.declared.fault.StimulusFault.TheVariants as stimulus
use Rattle.cmb_events.specs.declared.schedule_fault.ScheduleFault.{ScheduleFault}
use Rattle.cmb_events.specs.declared.schedule_fault.ScheduleFault.TheVariants as schedule
use Rattle.fanin_cone.specs.declared.fault.ConeFault.{ConeFault}
use Rattle.fanin_cone.specs.declared.fault.ConeFault.TheVariants as cone
use Rattle.vcd_dump.specs.declared.fault.DumpFault.{DumpFault}
use Rattle.vcd_dump.specs.declared.fault.DumpFault.TheVariants as dump
use Rattle.prepared_runs.specs.declared.fault.SimFault.{SimFault}
use Rattle.prepared_runs.specs.declared.fault.SimFault.TheVariants.{Setting, Bench, Timing, Stimulus, Schedule, UnknownNet, Dump, Memory}

-- the line that a fault names, or 0 if it names none
abbrev pub line_of : SimFault → ℕ
line_of (Bench fault) = of_bench.line_of fault
line_of (Timing fault) = delay_line fault
line_of (Stimulus fault) = stimulus_line fault
line_of (Schedule fault) = of_schedule.line_of fault
line_of other = 0

abbrev pub name_of : SimFault → List ℕ
name_of (Setting fault) = option_name fault
name_of (Bench fault) = of_bench.name_of fault
name_of (Timing fault) = delay_name fault
name_of (Stimulus fault) = stimulus_name fault
name_of (Schedule fault) = of_schedule.name_of fault
name_of UnknownNet = codes "UnknownNet"
name_of (Dump fault) = of_dump.name_of fault
name_of Memory = codes "Memory"

-- ---- out of memory in any layer is the run's own fault

abbrev pub sim_of_bench : BenchFault → SimFault
sim_of_bench bench.Memory = Memory
sim_of_bench fault = Bench fault

abbrev pub sim_of_build : BuildFault → SimFault
sim_of_build (build.Setting fault) = Setting fault
sim_of_build (build.Timing delay.Memory) = Memory
sim_of_build (build.Timing fault) = Timing fault
sim_of_build (build.Stimulus stimulus.Memory) = Memory
sim_of_build (build.Stimulus fault) = Stimulus fault
sim_of_build build.Memory = Memory

abbrev pub sim_of_schedule : ScheduleFault → SimFault
sim_of_schedule schedule.Memory = Memory
sim_of_schedule fault = Schedule fault

abbrev pub sim_of_cone : ConeFault → SimFault
sim_of_cone (cone.UnknownNet at) = UnknownNet
sim_of_cone cone.Memory = Memory

abbrev pub sim_of_dump : DumpFault → SimFault
sim_of_dump dump.Memory = Memory
sim_of_dump fault = Dump fault
