use Rattle.design.specs.Segments.{IsAhead}
use Rattle.design.proofs.segments.gates_ahead.Given as goal

abbrev pub invariant-loop-net : goal.invariant-loop-net
invariant-loop-net l = IsAhead l.design.circuit l.order l.net-index l.ahead.items
