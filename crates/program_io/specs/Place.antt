-- Which text is at fault, or what else is, and the line that is printed for a fault.
use Rattle.std.specs.Prelude.{ℕ, List, ◌++◌, codes, decimal}
use Rattle.texts.specs.Written.{line}
use Rattle.prepared_runs.specs.declared.fault.SimFault.{SimFault}
use Rattle.prepared_runs.specs.declared.fault.SimFault.TheVariants.{Setting, Bench, Timing, Stimulus, Schedule, UnknownNet, Dump}
use Rattle.prepared_runs.specs.declared.fault.SimFault.TheVariants as sim
use Rattle.prepared_runs.specs.RunTexts.{Names}
use Rattle.program_io.specs.declared.program_fault.ProgramFault.{ProgramFault}
use Rattle.program_io.specs.declared.program_fault.ProgramFault.TheVariants.{Read, Deck, Run, Columns, Drives, Compared, Output, Memory, Flush}
use Rattle.program_io.specs.ProgramFaults.{line_of, name_of}

-- the name of the text for which a run is refused, or what else is at fault
abbrev pub run_place : Names → SimFault → List ℕ
run_place names (Setting fault) = codes "options"
run_place names (Bench fault) = names.bench
run_place names (Timing fault) = names.delays
run_place names (Stimulus fault) = names.stimuli
run_place names (Schedule fault) = names.schedule
run_place names UnknownNet = names.bench
run_place names (Dump fault) = codes "stdout"
run_place names sim.Memory = codes "memory"

-- the same of the program; the names are those of the side at fault
abbrev pub place_of : Names → ProgramFault → List ℕ
place_of names (Read name) = name.now
place_of names (Deck fault) = codes "deck"
place_of names (Run side fault) = run_place names fault
place_of names (Columns fault) = codes "options"
place_of names (Drives fault) = codes "options"
place_of names (Compared fault) = codes "options"
place_of names (Output fault) = codes "stdout"
place_of names Memory = codes "memory"
place_of names Flush = codes "stdout"

-- the line `WHERE:LINE: NAME`
abbrev pub fault_line : Names → ProgramFault → List ℕ
fault_line names fault = line (place_of names fault ++ codes ":" ++ decimal (line_of fault) ++ codes ": " ++ name_of fault)
