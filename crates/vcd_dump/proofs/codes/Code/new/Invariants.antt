-- The characters so far and the code of what is left are the code.
use Rattle.std.proofs.Common.{◌≡◌, ◌≤◌, ◌++◌, length, take}
use Rattle.vcd_dump.specs.Codes.{code_at}
use Rattle.vcd_dump.proofs.codes.Code.new.Given as goal

abbrev pub invariant-loop-rest : goal.invariant-loop-rest
invariant-loop-rest l = record {
  four : length l.bytes ≡ 4;
  room : l.len ≤ 2;
  so_far : take l.len l.bytes ++ code_at l.rest ≡ code_at l.place;
}

abbrev pub decreases-loop-rest : goal.decreases-loop-rest
decreases-loop-rest l = l.rest
