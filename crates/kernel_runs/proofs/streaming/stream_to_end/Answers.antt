use Rattle.std.proofs.Common.{◌≡◌, ◌≢◌, ℕ, ◌+◌, List, [], Err, false, ap, sym, subst, ◌∙◌, arith, length}
use Rattle.std.specs.Io.KnownBytes.{Appends}
use Rattle.std.proofs.lemmas.List.{length-map}
use Rattle.std.proofs.lemmas.Result.{err_from_is_err_and}
use Rattle.design.specs.Circuit.{Circuit, IsCircuit}
use Rattle.design.specs.Equations.{value_of}
use Rattle.design.proofs.CallerLemmas.{IsCircuit-from_IsDesign}
use Rattle.cmb_kernel.specs.State.{KernelView}
use Rattle.cmb_kernel.specs.Sound.{IsSound}
use Rattle.vcd_dump.specs.declared.fault.DumpFault.TheVariants.{Failed}
use Rattle.vcd_dump.specs.Spans.{StreamView, begun, parts_of, span_text, stream_at}
use Rattle.vcd_dump.proofs.CallerLemmas.{stream_at-begun}
use Rattle.prepared_runs.proofs.CallerLemmas.{Reported-more, Reported-weaker}
use Rattle.kernel_runs.specs.Drained.{values_of}
use Rattle.prepared_runs.specs.Ends.{BreaksOff}
use Rattle.kernel_runs.specs.declared.pace.Pace.TheVariants.{Rounds}
use Rattle.kernel_runs.proofs.Drains.{least_same}
use Rattle.prepared_runs.proofs.CallerLemmas.{BreaksOff-memory}
use Rattle.kernel_runs.specs.KnownTicks.{IsProgressAt}
use Rattle.kernel_runs.proofs.Numbers.{SoFar, SoFar-more, SoFar-nothing, ended, stopped_before, stopped_here, stopped_next}
use Rattle.kernel_runs.proofs.Streamed.{Streamed, all_written, same, ahead_of, at_end, still_more, led, suits_of, suits_still, streamed_begins, least_within, streamed_more, streamed_less, counts_are, known_to_end}
use Rattle.kernel_runs.proofs.Streams.{text_before, text_begins, breaks_at_first, goes_on, breaks_in_span, breaks_here, ends, breaks_at_end}
use Rattle.kernel_runs.proofs.streaming.stream_to_end.Goals as goal

-- a stream that began
begins_at : (circuit : Circuit) (nets : List ℕ) (horizon : ℕ) (stream : StreamView) → stream ≡ begun (length nets) horizon →
    stream ≡ stream_at (values_of circuit nets) horizon stream.written
begins_at circuit nets horizon stream is =
    is ∙ ap (λ n. begun n horizon) (sym (length-map nets (value_of circuit))) ∙ stream_at-begun (values_of circuit nets) horizon
    ∙ ap (stream_at (values_of circuit nets) horizon) (sym (ap (λ (s : StreamView). s.written) is))

-- a stream that went on, of the design's circuit
goes_at : (circuit now : Circuit) (nets : List ℕ) (horizon : ℕ) (stream next : StreamView) (to : ℕ) → now ≡ circuit →
    stream ≡ stream_at (values_of circuit nets) horizon stream.written → next ≡ stream_at (values_of now nets) stream.horizon to →
    next ≡ stream_at (values_of circuit nets) horizon to
goes_at circuit now nets horizon stream next to same at goes =
    goes ∙ ap (λ c. stream_at (values_of c nets) stream.horizon to) same
    ∙ ap (λ h. stream_at (values_of circuit nets) h to) (ap (λ (s : StreamView). s.horizon) at)

pub returns-in_err-hidden-clause-err : goal.returns-in_err-hidden-clause-err
returns-in_err-hidden-clause-err g c =
    let p = err_from_is_err_and c.from_residual.result c.from_residual.ensures.1 in
    rw (p.1, p.2) (BreaksOff-memory _ _)

pub returns-in_err-stream-clause-err : goal.returns-in_err-stream-clause-err
returns-in_err-stream-clause-err g c =
    let p = err_from_is_err_and c.from_residual-in_err-stream.result c.from_residual-in_err-stream.ensures.1 in
    rw (p.1, p.2)
    (breaks_at_first c.args.unit c.args.run.now.horizon c.args.run.now.design.circuit c.args.nets.now (g.W.Write.contents c.args.out.now) (g.W.Write.contents c.begin.new.out) c.in_err-stream.field-0.0 c.in_err-stream.ensures.fault c.in_err-stream.ensures.err)

pub loop-stream-init : goal.loop-stream-init
loop-stream-init g c =
    let circuit = c.args.run.now.design.circuit in
    let start = c.args.kernel.now in
    let written : c.in_ok-stream.stream.written ≡ 0 = ap (λ (s : StreamView). s.written) c.in_ok-stream.ensures.stream in
    record {
      streamed = subst (Streamed (c.args.pace.now ≡ Rounds) start start) (sym written)
          (streamed_begins (c.args.pace.now ≡ Rounds) start c.requires.sound c.requires.undrained);
      same = λ by. by;
      suits = c.requires.suits;
      stream = begins_at circuit c.args.nets.now c.args.run.now.horizon c.in_ok-stream.stream c.in_ok-stream.ensures.stream;
      text = subst (λ to. Appends (g.W.Write.contents c.args.out.now) (g.W.Write.contents c.begin.new.out) (text_before c.args.unit c.args.run.now.horizon circuit c.args.nets.now to)) (sym written)
          (subst (Appends (g.W.Write.contents c.args.out.now) (g.W.Write.contents c.begin.new.out)) (text_begins c.args.unit c.args.run.now.horizon circuit c.args.nets.now) c.in_ok-stream.ensures.ok);
      reported = ([], g.met.P.Progress.nothing c.args.run.now.horizon c.args.progress.now, SoFar-nothing (c.args.pace.now ≡ Rounds) start c.requires.sound);
    }

pub go_on-requires-clause-suits : goal.go_on-requires-clause-suits
go_on-requires-clause-suits g c =
    let inv = c.loop-stream.invariant in
    suits_of c.write_to-to.new.self c.args.run.now.design.circuit (c.args.run.now.horizon + 1) c.args.kernel.now c.write_known.new.kernel
    (same inv.streamed c.in_ok-write_known.ensures.drains) c.requires.circuit c.requires.end
    (c.write_to-to.ensures.suits c.args.run.now.design.circuit (c.args.run.now.horizon + 1) inv.suits)

pub go_on-requires-clause-known : goal.go_on-requires-clause-known
go_on-requires-clause-known g c =
    c.least_frontier-known.ensures ∙ sym (least_same c.loop-stream.kernel c.write_known.new.kernel c.in_ok-write_known.ensures.drains)

pub write_known-requires-clause-end : goal.write_known-requires-clause-end
write_known-requires-clause-end g c =
    let end = ap (λ (k : KernelView). k.end) c.loop-stream.invariant.streamed.run ∙ c.requires.end in
    let horizon = ap (λ (s : StreamView). s.horizon) c.loop-stream.invariant.stream in
    omega (arith, end, horizon, least_within c.loop-stream.kernel, c.least_frontier-known.ensures, c.write_to-to.ensures.within)

pub returns-in_err-write_known-clause-err : goal.returns-in_err-write_known-clause-err
returns-in_err-write_known-clause-err g c =
    let p = err_from_is_err_and c.from_residual-in_err-write_known.result c.from_residual-in_err-write_known.ensures.1 in
    let circuit = ap (λ (k : KernelView). k.circuit) c.loop-stream.invariant.streamed.run ∙ c.requires.circuit in
    let end = ap (λ (k : KernelView). k.end) c.loop-stream.invariant.streamed.run ∙ c.requires.end in
    let from = c.loop-stream.stream.written in
    let to = c.write_to-to.result in
    rw (p.1, p.2)
    (breaks_in_span c.args.unit c.args.run.now.horizon c.args.run.now.design.circuit c.args.nets.now (g.W.Write.contents c.args.out.now) (g.W.Write.contents c.loop-stream.out) from c.loop-stream.invariant.text (g.W.Write.contents c.write_known.new.out) to c.in_err-write_known.field-0.0
    (omega (arith, c.written.ensures, c.write_to-to.ensures.ahead)) (omega (arith, end, least_within c.loop-stream.kernel, c.least_frontier-known.ensures, c.write_to-to.ensures.within))
    (subst (λ cs. BreaksOff (g.W.Write.contents c.loop-stream.out) (g.W.Write.contents c.write_known.new.out) (span_text from to (parts_of (values_of cs c.args.nets.now) from to)) c.in_err-write_known.field-0.0) circuit c.in_err-write_known.ensures.err))

pub finish-requires : goal.finish-requires
finish-requires g c = λ _.
    let inv = c.loop-stream.invariant in
    let circuit = ap (λ (k : KernelView). k.circuit) inv.streamed.run ∙ c.requires.circuit in
    let known : c.least_frontier-known.result ≡ c.args.run.now.horizon + 1 = omega (arith, c.if-known-end.true, c.ticks-end.ensures.ticks) in
    let all = all_written c.loop-stream.pace c.args.run.now.design.circuit c.write_to-to.ensures.end inv.suits known in
    let next = goes_at c.args.run.now.design.circuit c.loop-stream.kernel.circuit c.args.nets.now c.args.run.now.horizon c.loop-stream.stream
    c.write_known.new.stream _ circuit inv.stream c.in_ok-write_known.ensures.stream in
    ap (λ (s : StreamView). s.written) next ∙ all ∙ ap (λ n. n + 1) (sym (ap (λ (s : StreamView). s.horizon) next))

pub returns-in_err-finish-clause-err : goal.returns-in_err-finish-clause-err
returns-in_err-finish-clause-err g c =
    let p = err_from_is_err_and c.from_residual-in_err-finish.result c.from_residual-in_err-finish.ensures.1 in
    let inv = c.loop-stream.invariant in
    let circuit = ap (λ (k : KernelView). k.circuit) inv.streamed.run ∙ c.requires.circuit in
    let known : c.least_frontier-known.result ≡ c.args.run.now.horizon + 1 = omega (arith, c.if-known-end.true, c.ticks-end.ensures.ticks) in
    let all = all_written c.loop-stream.pace c.args.run.now.design.circuit c.write_to-to.ensures.end inv.suits known in
    let next = goes_at c.args.run.now.design.circuit c.loop-stream.kernel.circuit c.args.nets.now c.args.run.now.horizon c.loop-stream.stream
    c.write_known.new.stream _ circuit inv.stream c.in_ok-write_known.ensures.stream in
    let from = c.loop-stream.stream.written in
    let to = c.write_to-to.result in
    let went = goes_on c.args.unit c.args.run.now.horizon c.args.run.now.design.circuit c.args.nets.now (g.W.Write.contents c.args.out.now) (g.W.Write.contents c.loop-stream.out) from inv.text (g.W.Write.contents c.write_known.new.out) to (omega (arith, c.written.ensures, c.write_to-to.ensures.ahead))
    (subst (λ cs. Appends (g.W.Write.contents c.loop-stream.out) (g.W.Write.contents c.write_known.new.out) (span_text from to (parts_of (values_of cs c.args.nets.now) from to))) circuit c.in_ok-write_known.ensures.ok) in
    let fresh : c.write_known.new.stream.failed ≡ false = ap (λ (s : StreamView). s.failed) next in
    let first : c.in_err-finish.field-0.0 ≢ Failed = λ same. let fact = c.in_err-finish.ensures.only (ap Err same) in (cc) in
    rw (p.1, p.2)
    (breaks_at_end c.args.unit c.args.run.now.horizon c.args.run.now.design.circuit c.args.nets.now (g.W.Write.contents c.args.out.now) (g.W.Write.contents c.write_known.new.out) to went (g.W.Write.contents c.finish.new.out) c.write_known.new.stream c.in_err-finish.field-0.0 first
    all next c.in_err-finish.ensures.err)

pub returns-then-known-end-clause-counts : goal.returns-then-known-end-clause-counts
returns-then-known-end-clause-counts g c =
    let ok = subst IsCircuit (sym c.requires.circuit) (IsCircuit-from_IsDesign c.args.run.now.design c.requires.can.design) in
    λ by. counts_are c.loop-stream.invariant.streamed c.in_ok-write_known.ensures.drains c.least_frontier-known.ensures c.write_to-to.ensures.within c.in_ok-write_known.ensures.floors ok by c.requires.sound
    (at_end (ap (λ (k : KernelView). k.end) c.loop-stream.invariant.streamed.run ∙ c.requires.end) c.ticks-end.ensures.ticks c.if-known-end.true)

pub returns-then-known-end-clause-complete : goal.returns-then-known-end-clause-complete
returns-then-known-end-clause-complete g c =
    known_to_end c.loop-stream.kernel c.write_known.new.kernel c.least_frontier-known.result c.in_ok-write_known.ensures.drains c.least_frontier-known.ensures
    (at_end (ap (λ (k : KernelView). k.end) c.loop-stream.invariant.streamed.run ∙ c.requires.end) c.ticks-end.ensures.ticks c.if-known-end.true)

pub returns-then-known-end-clause-ok : goal.returns-then-known-end-clause-ok
returns-then-known-end-clause-ok g c =
    let inv = c.loop-stream.invariant in
    let circuit = ap (λ (k : KernelView). k.circuit) inv.streamed.run ∙ c.requires.circuit in
    let known : c.least_frontier-known.result ≡ c.args.run.now.horizon + 1 = omega (arith, c.if-known-end.true, c.ticks-end.ensures.ticks) in
    let all = all_written c.loop-stream.pace c.args.run.now.design.circuit c.write_to-to.ensures.end inv.suits known in
    let next = goes_at c.args.run.now.design.circuit c.loop-stream.kernel.circuit c.args.nets.now c.args.run.now.horizon c.loop-stream.stream
    c.write_known.new.stream _ circuit inv.stream c.in_ok-write_known.ensures.stream in
    let from = c.loop-stream.stream.written in
    let to = c.write_to-to.result in
    let went = goes_on c.args.unit c.args.run.now.horizon c.args.run.now.design.circuit c.args.nets.now (g.W.Write.contents c.args.out.now) (g.W.Write.contents c.loop-stream.out) from inv.text (g.W.Write.contents c.write_known.new.out) to (omega (arith, c.written.ensures, c.write_to-to.ensures.ahead))
    (subst (λ cs. Appends (g.W.Write.contents c.loop-stream.out) (g.W.Write.contents c.write_known.new.out) (span_text from to (parts_of (values_of cs c.args.nets.now) from to))) circuit c.in_ok-write_known.ensures.ok) in
    ends c.args.unit c.args.run.now.horizon c.args.run.now.design.circuit c.args.nets.now (g.W.Write.contents c.args.out.now) (g.W.Write.contents c.write_known.new.out) to went (g.W.Write.contents c.finish.new.out) c.write_known.new.stream
    all next c.in_ok-finish.ensures.ok

pub loop-stream-smaller : goal.loop-stream-smaller
loop-stream-smaller g c =
    let inv = c.loop-stream.invariant in
    let ok = subst IsCircuit (sym c.requires.circuit) (IsCircuit-from_IsDesign c.args.run.now.design c.requires.can.design) in
    let drains = c.in_ok-write_known.ensures.drains in
    streamed_less inv.streamed drains c.least_frontier-known.ensures c.write_to-to.ensures.within c.in_ok-write_known.ensures.floors ok c.go_on.new.kernel c.in_ok-go_on.ensures.goes
    c.in_ok-go_on.ensures.sound c.in_ok-go_on.ensures.raises (still_more (ap (λ (k : KernelView). k.end) c.loop-stream.invariant.streamed.run ∙ c.requires.end) c.ticks-end.ensures.ticks c.if-known-end.false)

pub loop-stream-preserved : goal.loop-stream-preserved
loop-stream-preserved g c =
    let inv = c.loop-stream.invariant in
    let start = c.args.kernel.now in
    let circuit = ap (λ (k : KernelView). k.circuit) inv.streamed.run ∙ c.requires.circuit in
    let ok = subst IsCircuit (sym c.requires.circuit) (IsCircuit-from_IsDesign c.args.run.now.design c.requires.can.design) in
    let drains = c.in_ok-write_known.ensures.drains in
    let next = goes_at c.args.run.now.design.circuit c.loop-stream.kernel.circuit c.args.nets.now c.args.run.now.horizon c.loop-stream.stream
    c.write_known.new.stream _ circuit inv.stream c.in_ok-write_known.ensures.stream in
    let from = c.loop-stream.stream.written in
    let to = c.write_to-to.result in
    let written : c.write_known.new.stream.written ≡ to = ap (λ (s : StreamView). s.written) next in
    let went = goes_on c.args.unit c.args.run.now.horizon c.args.run.now.design.circuit c.args.nets.now (g.W.Write.contents c.args.out.now) (g.W.Write.contents c.loop-stream.out) from inv.text (g.W.Write.contents c.write_known.new.out) to (omega (arith, c.written.ensures, c.write_to-to.ensures.ahead))
    (subst (λ cs. Appends (g.W.Write.contents c.loop-stream.out) (g.W.Write.contents c.write_known.new.out) (span_text from to (parts_of (values_of cs c.args.nets.now) from to))) circuit c.in_ok-write_known.ensures.ok) in
    record {
      streamed = subst (Streamed (c.args.pace.now ≡ Rounds) start c.go_on.new.kernel) (sym written)
          (streamed_more inv.streamed drains c.least_frontier-known.ensures c.write_to-to.ensures.within c.in_ok-write_known.ensures.floors ok c.go_on.new.kernel c.in_ok-go_on.ensures.goes
          c.in_ok-go_on.ensures.sound c.in_ok-go_on.ensures.raises (still_more (ap (λ (k : KernelView). k.end) c.loop-stream.invariant.streamed.run ∙ c.requires.end) c.ticks-end.ensures.ticks c.if-known-end.false)
          (λ by. c.in_ok-go_on.ensures.rounds (c.write_to-to.ensures.same (inv.same by))) c.in_ok-go_on.ensures.floors);
      same = λ by. c.go_on.ensures.same (c.write_to-to.ensures.same (inv.same by));
      suits = suits_still c.go_on.new.self c.args.run.now.design.circuit (c.args.run.now.horizon + 1) c.args.kernel.now c.go_on.new.kernel
          (led inv.streamed drains c.go_on.new.kernel c.in_ok-go_on.ensures.goes) c.requires.circuit c.requires.end c.in_ok-go_on.ensures.suits;
      stream = next ∙ ap (stream_at (values_of c.args.run.now.design.circuit c.args.nets.now) c.args.run.now.horizon) (sym written);
      text = subst (λ at. Appends (g.W.Write.contents c.args.out.now) (g.W.Write.contents c.write_known.new.out) (text_before c.args.unit c.args.run.now.horizon c.args.run.now.design.circuit c.args.nets.now at)) (sym written) went;
      reported =
          let horizon = c.args.run.now.horizon in
          let more = still_more (ap (λ (k : KernelView). k.end) inv.streamed.run ∙ c.requires.end) c.ticks-end.ensures.ticks c.if-known-end.false in
          let same_end : c.write_known.new.kernel.end ≡ c.loop-stream.kernel.end = ap (λ (k : KernelView). k.end) drains.run in
          let same_least = least_same c.loop-stream.kernel c.write_known.new.kernel drains in
          let risen = c.in_ok-go_on.ensures.rises (omega (arith, more, same_end, same_least, least_within c.loop-stream.kernel, c.least_frontier-known.ensures)) in
          let sound = subst (λ (k : KernelView). IsSound k.circuit k.end c.write_known.new.kernel.state) (same inv.streamed drains) drains.sound in
          Reported-more (g.P.Progress.reports horizon) (g.met.P.Progress.joined horizon) (SoFar (c.args.pace.now ≡ Rounds) start c.loop-stream.kernel)
          (SoFar (c.args.pace.now ≡ Rounds) start c.go_on.new.kernel) c.least_frontier-known.result c.args.progress.now c.loop-stream.progress c.report.new.self
          (λ ticks so_far. SoFar-more c.args.pace.now horizon start c.loop-stream.kernel c.requires.end (ap (λ (k : KernelView). k.end) inv.streamed.run) ticks so_far
          c.least_frontier-known.result c.least_frontier-known.ensures ok c.write_known.new.kernel c.go_on.new.kernel drains sound (λ by. c.in_ok-go_on.ensures.rounds (c.write_to-to.ensures.same (inv.same by)))
          (omega (arith, risen, same_least, c.least_frontier-known.ensures)))
          inv.reported c.report.ensures;
    }

pub returns-in_err-go_on-clause-err : goal.returns-in_err-go_on-clause-err
returns-in_err-go_on-clause-err g c =
    let p = err_from_is_err_and c.from_residual-in_err-go_on.result c.from_residual-in_err-go_on.ensures.1 in
    let inv = c.loop-stream.invariant in
    let circuit = ap (λ (k : KernelView). k.circuit) inv.streamed.run ∙ c.requires.circuit in
    let end = ap (λ (k : KernelView). k.end) inv.streamed.run ∙ c.requires.end in
    let from = c.loop-stream.stream.written in
    let to = c.write_to-to.result in
    let went = goes_on c.args.unit c.args.run.now.horizon c.args.run.now.design.circuit c.args.nets.now (g.W.Write.contents c.args.out.now) (g.W.Write.contents c.loop-stream.out) from inv.text (g.W.Write.contents c.write_known.new.out) to (omega (arith, c.written.ensures, c.write_to-to.ensures.ahead))
    (subst (λ cs. Appends (g.W.Write.contents c.loop-stream.out) (g.W.Write.contents c.write_known.new.out) (span_text from to (parts_of (values_of cs c.args.nets.now) from to))) circuit c.in_ok-write_known.ensures.ok) in
    rw (p.1, p.2)
    (breaks_here c.args.unit c.args.run.now.horizon c.args.run.now.design.circuit c.args.nets.now (g.W.Write.contents c.args.out.now) (g.W.Write.contents c.write_known.new.out) to went
    (omega (arith, end, least_within c.loop-stream.kernel, c.least_frontier-known.ensures, c.write_to-to.ensures.within)))

pub returns-in_err-hidden-clause-reported : goal.returns-in_err-hidden-clause-reported
returns-in_err-hidden-clause-reported g c =
    let p = err_from_is_err_and c.from_residual.result c.from_residual.ensures.1 in
    let horizon = c.args.run.now.horizon in
    ([], g.met.P.Progress.nothing horizon c.args.progress.now, stopped_before c.args.pace.now horizon c.args.kernel.now.state c.from_residual.result _ p.1)

pub returns-in_err-stream-clause-reported : goal.returns-in_err-stream-clause-reported
returns-in_err-stream-clause-reported g c =
    let p = err_from_is_err_and c.from_residual-in_err-stream.result c.from_residual-in_err-stream.ensures.1 in
    let horizon = c.args.run.now.horizon in
    ([], g.met.P.Progress.nothing horizon c.args.progress.now, stopped_before c.args.pace.now horizon c.args.kernel.now.state c.from_residual-in_err-stream.result _ p.1)

pub report-requires : goal.report-requires
report-requires g c =
    let end = ap (λ (k : KernelView). k.end) c.loop-stream.invariant.streamed.run ∙ c.requires.end in
    omega (arith, end, least_within c.loop-stream.kernel, c.least_frontier-known.ensures)

pub returns-in_err-write_known-clause-reported : goal.returns-in_err-write_known-clause-reported
returns-in_err-write_known-clause-reported g c =
    let p = err_from_is_err_and c.from_residual-in_err-write_known.result c.from_residual-in_err-write_known.ensures.1 in
    let horizon = c.args.run.now.horizon in
    let start = c.args.kernel.now in
    let now = c.loop-stream.kernel in
    let inv = c.loop-stream.invariant in
    Reported-weaker (g.P.Progress.reports horizon) (SoFar (c.args.pace.now ≡ Rounds) start now) (IsProgressAt c.args.pace.now horizon start.state c.from_residual-in_err-write_known.result)
    c.args.progress.now c.loop-stream.progress
    (λ ticks so_far. stopped_here c.args.pace.now horizon start now c.requires.end (ap (λ (k : KernelView). k.end) inv.streamed.run) ticks so_far
    c.from_residual-in_err-write_known.result _ p.1)
    inv.reported

pub returns-in_err-finish-clause-reported : goal.returns-in_err-finish-clause-reported
returns-in_err-finish-clause-reported g c =
    let p = err_from_is_err_and c.from_residual-in_err-finish.result c.from_residual-in_err-finish.ensures.1 in
    let horizon = c.args.run.now.horizon in
    let start = c.args.kernel.now in
    let now = c.loop-stream.kernel in
    let inv = c.loop-stream.invariant in
    Reported-more (g.P.Progress.reports horizon) (g.met.P.Progress.joined horizon) (SoFar (c.args.pace.now ≡ Rounds) start now)
    (IsProgressAt c.args.pace.now horizon start.state c.from_residual-in_err-finish.result) c.least_frontier-known.result c.args.progress.now
    c.loop-stream.progress c.report.new.self
    (λ ticks so_far. stopped_next c.args.pace.now horizon start now c.requires.end (ap (λ (k : KernelView). k.end) inv.streamed.run) ticks so_far
    c.least_frontier-known.result c.least_frontier-known.ensures c.from_residual-in_err-finish.result _ p.1)
    inv.reported c.report.ensures

pub returns-in_err-go_on-clause-reported : goal.returns-in_err-go_on-clause-reported
returns-in_err-go_on-clause-reported g c =
    let p = err_from_is_err_and c.from_residual-in_err-go_on.result c.from_residual-in_err-go_on.ensures.1 in
    let horizon = c.args.run.now.horizon in
    let start = c.args.kernel.now in
    let now = c.loop-stream.kernel in
    let inv = c.loop-stream.invariant in
    Reported-more (g.P.Progress.reports horizon) (g.met.P.Progress.joined horizon) (SoFar (c.args.pace.now ≡ Rounds) start now)
    (IsProgressAt c.args.pace.now horizon start.state c.from_residual-in_err-go_on.result) c.least_frontier-known.result c.args.progress.now
    c.loop-stream.progress c.report.new.self
    (λ ticks so_far. stopped_next c.args.pace.now horizon start now c.requires.end (ap (λ (k : KernelView). k.end) inv.streamed.run) ticks so_far
    c.least_frontier-known.result c.least_frontier-known.ensures c.from_residual-in_err-go_on.result _ p.1)
    inv.reported c.report.ensures

pub returns-then-known-end-clause-reported : goal.returns-then-known-end-clause-reported
returns-then-known-end-clause-reported g c =
    let horizon = c.args.run.now.horizon in
    let start = c.args.kernel.now in
    let now = c.loop-stream.kernel in
    let inv = c.loop-stream.invariant in
    let all : c.least_frontier-known.result ≡ horizon + 1 = omega (arith, c.if-known-end.true, c.ticks-end.ensures.ticks) in
    Reported-more (g.P.Progress.reports horizon) (g.met.P.Progress.joined horizon) (SoFar (c.args.pace.now ≡ Rounds) start now)
    _ c.least_frontier-known.result c.args.progress.now
    c.loop-stream.progress c.report.new.self
    (λ ticks so_far. ended c.args.pace.now horizon start now c.requires.end (ap (λ (k : KernelView). k.end) inv.streamed.run) ticks so_far
    c.least_frontier-known.result c.least_frontier-known.ensures all)
    inv.reported c.report.ensures
