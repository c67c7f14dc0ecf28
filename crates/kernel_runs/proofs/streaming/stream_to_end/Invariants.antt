-- What every net knew before the last step went out and was forgotten; how much that was was reported, and more is known now.
use Rattle.std.proofs.Common.{◌≡◌, ◌+◌, ◌-◌}
use Rattle.std.specs.Io.KnownBytes.{Appends}
use Rattle.cmb_kernel.specs.State.{least_frontier}
use Rattle.vcd_dump.specs.Spans.{stream_at}
use Rattle.prepared_runs.specs.Reported.{Reported}
use Rattle.kernel_runs.specs.Drained.{values_of}
use Rattle.kernel_runs.specs.Paces.{Suits}
use Rattle.kernel_runs.specs.declared.pace.Pace.TheVariants.{Rounds}
use Rattle.kernel_runs.proofs.Numbers.{SoFar}
use Rattle.kernel_runs.proofs.Streamed.{Streamed}
use Rattle.kernel_runs.proofs.Streams.{text_before}
use Rattle.kernel_runs.proofs.streaming.stream_to_end.Given as goal

abbrev pub invariant-loop-stream : goal.invariant-loop-stream
invariant-loop-stream g l = record {
  streamed : Streamed (l.fn.pace ≡ Rounds) l.fn.kernel l.kernel l.stream.written;
  same : l.fn.pace ≡ Rounds → l.pace ≡ Rounds;
  suits : Suits l.pace l.run.design.circuit (l.run.horizon + 1);
  stream : l.stream ≡ stream_at (values_of l.run.design.circuit l.nets) l.run.horizon l.stream.written;
  text : Appends (g.W.Write.contents l.fn.out) (g.W.Write.contents l.out) (text_before l.fn.unit l.run.horizon l.run.design.circuit l.nets l.stream.written);
  reported : Reported (g.P.Progress.reports l.run.horizon) (SoFar (l.fn.pace ≡ Rounds) l.fn.kernel l.kernel) l.fn.progress l.progress;
}

abbrev pub decreases-loop-stream : goal.decreases-loop-stream
decreases-loop-stream g l = l.kernel.end - least_frontier l.kernel.end l.kernel.state
