use Rattle.std.proofs.Common.{sym, ◌∙◌}
use Rattle.std.proofs.lemmas.Result.{err_from_is_err_and}
use Rattle.bench_text.proofs.Wired.{wired_from-fault, wired_from-net, wired_from-output}
use Rattle.bench_text.proofs.reader.connected.Goals as goal
use Rattle.bench_text.proofs.reader.connected.Goals.{in-Defines+in_ok-pins-in-Defines+in_ok-push-in-Defines, in-NamesOutput+in_ok-number_of-in-NamesOutput+in_ok-push-in-NamesOutput}

pub returns-in_err-pins-in-Defines : goal.returns-in_err-pins-in-Defines
returns-in_err-pins-in-Defines c =
    let p = err_from_is_err_and c.from_residual.result c.from_residual.ensures.1 in
    rw (p.1, p.2)
    (λ other. sym (wired_from-fault c.args.names.now c.loop-line.nets.items c.loop-line.outputs.items c.args.lines.now c.loop-line.line-index c.loop-line-item.result
    c.loop-line-test.true c.loop-line-item.is _ _ c.in-Defines.pins _ _ c.in-Defines.is c.as_slice.ensures (c.in_err-pins-in-Defines.ensures (λ e. other cc)))
    ∙ c.loop-line.invariant)

pub loop-line-preserved : goal.loop-line-preserved
loop-line-preserved c =
    elim c.match-said.branch [
      | in-Defines+in_ok-pins-in-Defines+in_ok-push-in-Defines w ↦
          rw (w.nets-is, w.outputs-is, w.in_ok-push-in-Defines.ensures.items)
          (wired_from-net c.args.names.now c.loop-line.nets.items c.loop-line.outputs.items c.args.lines.now c.loop-line.line-index c.loop-line-item.result
          c.loop-line-test.true c.loop-line-item.is _ w.in-Defines.pins _ _ w.in-Defines.is w.as_slice.ensures (w.in_ok-pins-in-Defines.ensures (λ e. cc)) ∙ c.loop-line.invariant)
      | in-NamesOutput+in_ok-number_of-in-NamesOutput+in_ok-push-in-NamesOutput w ↦
          rw (w.nets-is, w.outputs-is, w.in_ok-push-in-NamesOutput.ensures.items)
          (wired_from-output c.args.names.now c.loop-line.nets.items c.loop-line.outputs.items c.args.lines.now c.loop-line.line-index c.loop-line-item.result
          c.loop-line-test.true c.loop-line-item.is _ _ w.in-NamesOutput.is w.in_ok-number_of-in-NamesOutput.ensures ∙ c.loop-line.invariant)
    ]
