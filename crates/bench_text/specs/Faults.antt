-- The name and the line of a fault.
use Rattle.std.specs.Prelude.{ℕ, List, codes}
use Rattle.bench_text.specs.declared.fault.BenchFault.{BenchFault}
use Rattle.bench_text.specs.declared.fault.BenchFault.TheVariants.{TooLong, BadByte, BadLine, NameTooLong, UnknownGate, BadArity, DefinedTwice, Undefined, NoNets, TooMany, Memory}

-- the line of a fault, or 0 for one without a line
abbrev pub line_of : BenchFault → ℕ
line_of (BadByte line) = line
line_of (BadLine line) = line
line_of (NameTooLong line) = line
line_of (UnknownGate line) = line
line_of (BadArity line) = line
line_of (DefinedTwice line) = line
line_of (Undefined line) = line
line_of other = 0

abbrev pub name_of : BenchFault → List ℕ
name_of TooLong = codes "TooLong"
name_of (BadByte line) = codes "BadByte"
name_of (BadLine line) = codes "BadLine"
name_of (NameTooLong line) = codes "NameTooLong"
name_of (UnknownGate line) = codes "UnknownGate"
name_of (BadArity line) = codes "BadArity"
name_of (DefinedTwice line) = codes "DefinedTwice"
name_of (Undefined line) = codes "Undefined"
name_of NoNets = codes "NoNets"
name_of TooMany = codes "TooMany"
name_of Memory = codes "Memory"
