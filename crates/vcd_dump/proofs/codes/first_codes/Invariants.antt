-- The codes so far.
use Rattle.std.proofs.Common.{◌≡◌, length}
use Rattle.vcd_dump.specs.Codes.{AreCodes}
use Rattle.vcd_dump.proofs.codes.first_codes.Given as goal

abbrev pub invariant-loop-place : goal.invariant-loop-place
invariant-loop-place l = record { many : length l.codes.items ≡ l.place; codes : AreCodes l.codes.items }
