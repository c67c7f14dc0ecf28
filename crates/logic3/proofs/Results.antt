-- What a call answers.
use Rattle.std.proofs.Common.{Result, Ok, Err, OnErr}

-- what holds anyway holds of an error
pub OnErr_always : {A F P : Type 0} (result : Result A F) → P → OnErr result P
OnErr_always (Ok value) holds = tt
OnErr_always (Err fault) holds = holds
