use Rattle.std.proofs.Common.{◌≡◌, ℕ, ◌+◌, ◌<◌, [], ◌∷◌, ◌++◌, map, take, length, slice_get, IfSome, ap, sym, subst, ◌∙◌, arith}
use Rattle.std.proofs.lemmas.List.{map_more}
use Rattle.std.proofs.lemmas.Option.{get_or_from_slice_get}
use Rattle.design.specs.Circuit.{Net, Circuit}
use Rattle.gate_process.specs.Outputs.{OutputView, started_output}
use Rattle.gate_process.proofs.Events.{get_below}
use Rattle.gate_process.proofs.processes.started.Goals as goal

one_more_net : (view : Net → OutputView) (circuit : Circuit) (net : ℕ) (output : OutputView) → net < length circuit →
    IfSome (slice_get circuit net) (λ n. output ≡ view n) →
    map view (take net circuit) ++ output ∷ [] ≡ map view (take (net + 1) circuit)
one_more_net view circuit net output below is =
    let here = get_below circuit net below in
    let same : output ≡ view here.0 = subst (λ at. IfSome at (λ n. output ≡ view n)) here.1 is in
    ap (λ o. map view (take net circuit) ++ o ∷ []) (same ∙ ap view (sym (get_or_from_slice_get circuit net here.0 here.0 here.1)))
    ∙ sym (map_more view circuit net here.0 below)

pub loop-net-preserved : goal.loop-net-preserved
loop-net-preserved g c =
    let more = one_more_net (started_output (c.args.horizon + 1)) c.args.design.now.circuit c.loop-net.net c.new.result
    (omega arith) c.new.ensures.started in
    let pushed = c.in_ok-push.ensures.items in
    cc
