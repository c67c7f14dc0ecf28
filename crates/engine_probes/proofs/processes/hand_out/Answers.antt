use Rattle.std.proofs.Common.{◌≡◌, ℕ, ◌<◌, false, List, [], ◌∷◌, length, Some, slice_get, slice_set, refl, ap, sym, ◌∙◌, arith}
use Rattle.std.proofs.lemmas.List.{length-set}
use Rattle.std.proofs.lemmas.Option.{same_Some}
use Rattle.gate_process.specs.Step.{ProcessView, running, advanced}
use Rattle.engine_probes.proofs.processes.hand_out.Goals as goal

first_of_set : (ps : List ProcessView) (written x : ProcessView) → slice_get (slice_set ps 0 written) 0 ≡ Some x → x ≡ written
first_of_set [] written x e = cc
first_of_set (p ∷ ps) written x e = sym (same_Some written x e)

-- the first of these runs
first_runs : (ps new : List ProcessView) (written : ProcessView) → new ≡ slice_set ps 0 (running (advanced written.state)) →
    (x : ProcessView) → slice_get new 0 ≡ Some x → x.failed ≡ false
first_runs ps new written is x at =
    ap (λ (p : ProcessView). p.failed) (first_of_set ps (running (advanced written.state)) x (ap (λ qs. slice_get qs 0) (sym is) ∙ at))

pub of_net-requires-2 : goal.of_net-requires-2
of_net-requires-2 g c =
    let new = c.in-Ok.ensures.ok c.of_net.result c.of_net.ensures in
    let long = ap length new ∙ length-set c.args.processes.now 0 _ in
    omega (arith, long, c.requires)

pub frontier-bound-requires : goal.frontier-bound-requires
frontier-bound-requires g c = record {
  running = first_runs c.args.processes.now c.advance_into.new.self c.of_net.result (c.in-Ok.ensures.ok c.of_net.result c.of_net.ensures)
      c.of_net-2.result c.of_net-2.ensures;
}

pub drain_below_into-requires-clause-running : goal.drain_below_into-requires-clause-running
drain_below_into-requires-clause-running g c =
    first_runs c.args.processes.now c.advance_into.new.self c.of_net.result (c.in-Ok.ensures.ok c.of_net.result c.of_net.ensures)

-- a drain that fails changes nothing
pub floor-requires : goal.floor-requires
floor-requires g c = record {
  running = first_runs c.args.processes.now c.drain_below_into.new.self c.of_net.result
      (c.in-Err.ensures.err ∙ c.in-Ok.ensures.ok c.of_net.result c.of_net.ensures) c.of_net-then-is_empty.result c.of_net-then-is_empty.ensures;
}

pub drain_below_into-requires-in-Err-clause-running : goal.drain_below_into-requires-in-Err-clause-running
drain_below_into-requires-in-Err-clause-running g c =
    first_runs c.args.processes.now c.drain_below_into.new.self c.of_net.result
    (c.in-Err.ensures.err ∙ c.in-Ok.ensures.ok c.of_net.result c.of_net.ensures)
