-- The name and the line of a fault of the program, and how a fault of a layer becomes one of the program.
use Rattle.std.specs.Prelude.{ℕ, List, codes}
use denote.Ref.{Bor}
use Rattle.prepared_runs.specs.declared.deck_fault.DeckFault.{DeckFault}
use Rattle.prepared_runs.specs.declared.deck_fault.DeckFault.TheVariants as deck
use Rattle.prepared_runs.specs.DeckFaults as of_deck
use Rattle.drawn_stimuli.specs.Faults as of_drives
use Rattle.timing_diagram.specs.Faults as of_columns
use Rattle.vcd_dump.specs.Faults as of_dump
use Rattle.wave_diff.specs.Faults as of_compared
use Rattle.bench_text.specs.declared.fault.BenchFault.{BenchFault}
use Rattle.prepared_runs.specs.Faults as of_sim
use Rattle.prepared_runs.specs.Faults.{sim_of_bench}
use Rattle.prepared_runs.specs.declared.fault.SimFault.{SimFault}
use Rattle.prepared_runs.specs.declared.fault.SimFault.TheVariants as sim
use Rattle.drawn_stimuli.specs.declared.driven_fault.DrivenFault.{DrivenFault}
use Rattle.drawn_stimuli.specs.declared.driven_fault.DrivenFault.TheVariants as driven
use Rattle.fanin_cone.specs.declared.fault.ConeTextFault.{ConeTextFault}
use Rattle.fanin_cone.specs.declared.fault.ConeTextFault.TheVariants as cone
use Rattle.plain_runs.specs.declared.diagram_fault.DiagramFault.{DiagramFault}
use Rattle.plain_runs.specs.declared.diagram_fault.DiagramFault.TheVariants as diagram
use Rattle.kernel_runs.specs.declared.diff_fault.DiffFault.{DiffFault}
use Rattle.kernel_runs.specs.declared.diff_fault.DiffFault.TheVariants as diff
use Rattle.wave_diff.specs.declared.comparison.Side.{Side}
use Rattle.wave_diff.specs.declared.comparison.Side.TheVariants.{First}
use Rattle.kernel_runs.specs.declared.twin_run.TwinFault.{TwinFault}
use Rattle.program_io.specs.declared.input.ReadFault.{ReadFault}
use Rattle.program_io.specs.declared.input.ReadFault.TheVariants as read
use Rattle.program_io.specs.declared.program_fault.ProgramFault.{ProgramFault}
use Rattle.program_io.specs.declared.program_fault.ProgramFault.TheVariants.{Read, Deck, Run, Columns, Drives, Compared, Output, Memory, Flush}

-- the line that a fault names, or 0 for one without a line
abbrev pub line_of : ProgramFault → ℕ
line_of (Deck fault) = of_deck.line_of fault
line_of (Run side fault) = of_sim.line_of fault
line_of other = 0

abbrev pub name_of : ProgramFault → List ℕ
name_of (Read name) = codes "Read"
name_of (Deck fault) = of_deck.name_of fault
name_of (Run side fault) = of_sim.name_of fault
name_of (Columns fault) = of_columns.name_of fault
name_of (Drives fault) = of_drives.name_of fault
name_of (Compared fault) = of_compared.name_of fault
name_of (Output fault) = of_dump.name_of fault
name_of Memory = codes "Memory"
name_of Flush = codes "Write"

-- the side of the run that is refused, and the first side for any other fault
abbrev pub side_of : ProgramFault → Side
side_of (Run side fault) = side
side_of other = First

-- a fault of reading the text with this name
abbrev pub fault_of_read : Bor (List ℕ) → ReadFault → ProgramFault
fault_of_read name read.Read = Read name
fault_of_read name read.Memory = Memory

-- a fault of the run on a side
abbrev pub fault_of_run : Side → SimFault → ProgramFault
fault_of_run side (sim.Dump fault) = Output fault
fault_of_run side sim.Memory = Memory
fault_of_run side fault = Run side fault

abbrev pub fault_of_twin : TwinFault → ProgramFault
fault_of_twin fault = fault_of_run fault.side fault.fault

-- a fault of the only netlist
abbrev pub fault_of_bench : BenchFault → ProgramFault
fault_of_bench fault = fault_of_run First (sim_of_bench fault)

-- a fault of a deck
abbrev pub fault_of_deck : DeckFault → ProgramFault
fault_of_deck (deck.Sim fault) = fault_of_run First fault
fault_of_deck fault = Deck fault

-- a fault of the text of cones
abbrev pub fault_of_cone : ConeTextFault → ProgramFault
fault_of_cone (cone.Bench fault) = fault_of_bench fault
fault_of_cone cone.UnknownNet = Run First sim.UnknownNet
fault_of_cone cone.Memory = Memory

-- a fault of a timing diagram, of a stimulus text, and of a comparison net by net
abbrev pub fault_of_diagram : DiagramFault → ProgramFault
fault_of_diagram (diagram.Columns fault) = Columns fault
fault_of_diagram (diagram.Run fault) = fault_of_run First fault

abbrev pub fault_of_driven : DrivenFault → ProgramFault
fault_of_driven (driven.Setting fault) = Run First (sim.Setting fault)
fault_of_driven (driven.Bench fault) = Run First (sim.Bench fault)
fault_of_driven (driven.Drives fault) = Drives fault
fault_of_driven driven.Memory = Memory

abbrev pub fault_of_diff : DiffFault → ProgramFault
fault_of_diff (diff.Compared fault) = Compared fault
fault_of_diff (diff.Run fault) = fault_of_twin fault
