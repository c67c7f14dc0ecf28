-- Two texts, of which each was written whole or in part.
use Rattle.std.proofs.Common.{ℕ, List, Option, Result, Ok, Err}
use Rattle.std.proofs.KnownBytes.{Appends-trans}
use Rattle.vcd_dump.specs.declared.fault.DumpFault.{DumpFault}
use Rattle.texts.proofs.CallerLemmas.{AppendsPrefix-whole}
use Rattle.program_io.specs.Report.{IsWritten}
use Rattle.nullsim.specs.Parts.{AreWritten, both}

pub AreWritten-both : {A : Type 0} (old mid new : Option (List ℕ)) (text more : List ℕ) (first second : Result A DumpFault) →
    IsWritten old mid text first → IsWritten mid new more second → AreWritten old new text more (both first second)
AreWritten-both old mid new text more (Ok done) (Ok ended) (whole, none) (rest, nothing) = (Appends-trans old mid new text more whole rest, tt)
AreWritten-both old mid new text more (Ok done) (Err fault) (whole, none) (nothing, part) = (tt, (mid, AppendsPrefix-whole old mid text whole, part))
AreWritten-both old mid new text more (Err fault) (Ok ended) (none, part) (rest, nothing) = (tt, (mid, part, AppendsPrefix-whole mid new more rest))
AreWritten-both old mid new text more (Err fault) (Err other) (none, part) (nothing, rest) = (tt, (mid, part, rest))
