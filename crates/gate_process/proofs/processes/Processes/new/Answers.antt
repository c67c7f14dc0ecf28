use Rattle.std.proofs.Common.{◌≡◌, ◌+◌, replicate, ap, ◌∙◌, arith}
use Rattle.design.specs.Circuit.{pin_count}
use Rattle.gate_process.specs.Knowledge.{nothing_known}
use Rattle.gate_process.specs.Outputs.{processes_of}
use Rattle.gate_process.proofs.Stored.{length-processes_of, all_started, started_stored, none_at_rest}
use Rattle.gate_process.proofs.processes.Processes.new.Given.{Over}
use Rattle.gate_process.proofs.processes.Processes.new.Goals as goal
use Rattle.gate_process.proofs.processes.Processes.new.Goals.{In_ok-received}

received_is : (g : Over) (c : In_ok-received g) → c.in_ok-received.received.items ≡ replicate (pin_count c.args.design.now.circuit) nothing_known
received_is g c = c.in_ok-received.ensures ∙ ap (λ n. replicate n nothing_known) c.pins.ensures.count

pub invariant_of-result : goal.invariant_of-result
invariant_of-result g c =
    let at = (goal.at.invariant_of-result g c).In_ok-received in
    let outputs = c.in_ok-outputs.outputs.items in
    let received = c.in_ok-received.received.items in (
      started_stored c.args.design.now (c.args.horizon + 1) outputs received c.in_ok-outputs.ensures.well_formed
          (omega (arith, c.in_ok-outputs.ensures.within)) c.in_ok-outputs.ensures.outputs (received_is g at),
      none_at_rest (processes_of outputs received) c.len.result c.in_ok-quiet.quiet.items c.in_ok-heard.heard.items
          (omega (arith, length-processes_of outputs received, c.len.ensures)) c.in_ok-quiet.ensures
          (c.in_ok-heard.ensures ∙ ap (λ n. replicate n 0) (omega (arith, c.len.ensures, c.len-2.ensures))),
    )

pub returns-clause-processes : goal.returns-clause-processes
returns-clause-processes g c =
    let at = (goal.at.returns-clause-processes g c).In_ok-received in
    (λ i. processes_of (c.in_ok-outputs.ensures.outputs i) (received_is g at i)) ∙ all_started (c.args.horizon + 1) c.args.design.now.circuit
