use Rattle.std.proofs.Common.{◌≡◌, ◌+◌, ◌^◌, ◌<◌, [], length, IfSome}
use Rattle.std.specs.Option.{option_map_or}
use Rattle.texts.specs.Text.{code_lines_from}
use Rattle.texts.proofs.reading.lines.CodeLinesIterator.next.Given as goal

abbrev pub invariant-loop-self : goal.invariant-loop-self
invariant-loop-self l = record {
  numbered : IfSome l.self-inside.rest (λ rest. l.self-inside.number + length rest.now < 2 ^ 64);
  same : option_map_or (λ rest. code_lines_from l.self-inside.number rest.now) l.self-inside.rest [] ≡ l.fn.self;
}

abbrev pub decreases-loop-self : goal.decreases-loop-self
decreases-loop-self l = option_map_or (λ rest. length rest.now + 1) l.self-inside.rest 0
