use Rattle.std.proofs.Common.{◌≡◌, ◌+◌, ◌≤◌, replicate, slice_get, IfSome, Some, ap, sym, subst, ◌∙◌}
use Rattle.timing_text.specs.Ranges.{most_ticks}
use Rattle.design.specs.Circuit.{Net}
use Rattle.gate_process.specs.Knowledge.{nothing_known}
use Rattle.gate_process.specs.Outputs.{OutputView, process_of, started_output}
use Rattle.gate_process.specs.Step.{ProcessView, running, started_process}
use Rattle.gate_process.specs.Truth.{IsNet, IsProcess}
use Rattle.gate_process.proofs.Events.{get_below, started_is_process}
use Rattle.gate_process.proofs.Starts.{starts}
use Rattle.gate_process.proofs.process.Process.new.Goals as goal
use Rattle.gate_process.proofs.process.Process.new.Goals.{After-new-output, In_ok-received}

is_started : (c : After-new-output) (net : Net) → slice_get c.args.design.now.circuit c.args.net ≡ Some net →
    c.new-output.result ≡ started_output (c.args.horizon + 1) net
is_started c net at =
    subst (λ found. IfSome found (λ n. c.new-output.result ≡ started_output (c.args.horizon + 1) n)) at c.new-output.ensures.started

has_started : (c : In_ok-received) (net : Net) → c.new-output.result ≡ started_output (c.args.horizon + 1) net →
    process_of c.new-output.result c.in_ok-received.received.items ≡ running (started_process (c.args.horizon + 1) net)
has_started c net is =
    starts (c.args.horizon + 1) net c.new-output.result c.in_ok-received.received.items is
    (c.in_ok-received.ensures ∙ ap (λ n. replicate n nothing_known) c.pins.ensures)

pub invariant_of-result : goal.invariant_of-result
invariant_of-result c = λ running.
    let here = get_below c.args.design.now.circuit c.args.net c.requires in
    let is = is_started (goal.at.invariant_of-result c).After-new-output here.0 here.1 in
    subst (λ (process : ProcessView). IsProcess process.state) (sym (has_started (goal.at.invariant_of-result c).In_ok-received here.0 is))
    (started_is_process (c.args.horizon + 1) here.0 (subst IsNet (ap (λ (o : OutputView). o.net) is) c.new-output.ensures.well_formed)
    (subst (λ n. n ≤ most_ticks + 1) (ap (λ (o : OutputView). o.end) is) c.new-output.ensures.end))

pub returns : goal.returns
returns c =
    let here = get_below c.args.design.now.circuit c.args.net c.requires in
    let is = is_started (goal.at.returns c).After-new-output here.0 here.1 in
    rw here.1 (has_started (goal.at.returns c).In_ok-received here.0 is)
