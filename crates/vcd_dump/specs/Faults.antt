-- The names of faults, and which faults are those of a write.
use Rattle.std.specs.Prelude.{List, codes, ℕ}
use Rattle.texts.specs.declared.writing.fault.WriteFault.{WriteFault}
use Rattle.texts.specs.declared.writing.fault.WriteFault.TheVariants as write
use Rattle.vcd_dump.specs.declared.fault.DumpFault.{DumpFault}
use Rattle.vcd_dump.specs.declared.fault.DumpFault.TheVariants.{Write, WroteNothing, Memory, Failed}

abbrev pub name_of : DumpFault → List ℕ
name_of Write = codes "Write"
name_of WroteNothing = codes "WroteNothing"
name_of Memory = codes "Memory"
name_of Failed = codes "Failed"

-- a write failed: it returned an error, or took none of its bytes
abbrev pub IsFailedWrite : DumpFault → Type 0
IsFailedWrite Write = Unit {0}
IsFailedWrite WroteNothing = Unit {0}
IsFailedWrite other = ⊥

-- a failed write is a fault of a dump
abbrev pub fault_of_write : WriteFault → DumpFault
fault_of_write write.Write = Write
fault_of_write write.WroteNothing = WroteNothing
