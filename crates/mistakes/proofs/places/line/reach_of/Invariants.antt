-- What is taken so far, and what the row that is left takes of the tokens that are left, is the whole.
use Rattle.std.proofs.Common.{◌≡◌, ◌+◌, ◌<◌, ◌^◌, length}
use Rattle.mistakes.specs.Places.{left, taken}
use Rattle.mistakes.specs.SeenForms.{seen_row}
use Rattle.mistakes.specs.Tokens.{bytes_of}
use Rattle.mistakes.proofs.places.line.reach_of.Given as goal

abbrev pub invariant-loop-token : goal.invariant-loop-token
invariant-loop-token l = record {
  few : l.taken + length l.token-iterator < 2 ^ 63;
  taken : l.taken + taken (seen_row l.left) (bytes_of l.token-iterator) ≡ taken (seen_row l.fn.row) (bytes_of l.fn.tokens);
  left : left (seen_row l.left) (bytes_of l.token-iterator) ≡ left (seen_row l.fn.row) (bytes_of l.fn.tokens);
}
