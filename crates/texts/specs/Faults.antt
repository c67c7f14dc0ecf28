-- The names of the faults of a write.
use Rattle.std.specs.Prelude.{List, codes, ℕ}
use Rattle.texts.specs.declared.writing.fault.WriteFault.{WriteFault}
use Rattle.texts.specs.declared.writing.fault.WriteFault.TheVariants.{Write, WroteNothing}

abbrev pub name_of : WriteFault → List ℕ
name_of Write = codes "Write"
name_of WroteNothing = codes "WroteNothing"
