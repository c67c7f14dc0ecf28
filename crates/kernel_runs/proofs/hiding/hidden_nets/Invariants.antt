-- The nets so far that aren't shown.
use Rattle.kernel_runs.specs.Drained.{IsRest}
use Rattle.kernel_runs.proofs.hiding.hidden_nets.Given as goal

abbrev pub invariant-loop-net : goal.invariant-loop-net
invariant-loop-net l = IsRest l.net l.shown l.hidden.items
