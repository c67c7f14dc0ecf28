use Rattle.std.proofs.Common.{◌≡◌, Err, Ok, rules}
use Rattle.bench_text.specs.Canonical.{canonical}
use Rattle.bench_text.proofs.Limit.{within_limit-nets, within_limit-whole, within_limit-Ok}
use Rattle.bench_text.proofs.ReadBack.{netlist_of-canonical}
use Rattle.bench_text.proofs.writer.write.Goals as goal

pub returns-in_err-push_nets-clause-written : goal.returns-in_err-push_nets-clause-written
returns-in_err-push_nets-clause-written c = λ other.
    let same : c.from_residual.result ≡ Err c.in_err-push_nets.field-0.0 = search rules in
    rw same
    (within_limit-nets c.args.netlist.now c.new-text.result.items c.new-text.ensures.items c.in_err-push_nets.field-0.0
    (c.in_err-push_nets.ensures.written (λ memory. other (cc))))

pub returns-in_err-push_outputs-clause-written : goal.returns-in_err-push_outputs-clause-written
returns-in_err-push_outputs-clause-written c = λ other.
    let same : c.from_residual-in_err-push_outputs.result ≡ Err c.in_err-push_outputs.field-0.0 = search rules in
    rw same
    (within_limit-whole c.args.netlist.now c.new-text.result.items c.new-text.ensures.items c.push_nets.new.text.items (Err c.in_err-push_outputs.field-0.0)
    (c.in_ok-push_nets.ensures.written (λ memory. cc)) (c.in_err-push_outputs.ensures (λ memory. other (cc))))

pub returns-clause-written : goal.returns-clause-written
returns-clause-written c = λ other.
    within_limit-whole c.args.netlist.now c.new-text.result.items c.new-text.ensures.items c.push_nets.new.text.items (Ok c.push_outputs.new.text.items)
    (c.in_ok-push_nets.ensures.written (λ memory. cc)) (c.in_ok-push_outputs.ensures (λ memory. cc))

pub returns-clause-reads_back : goal.returns-clause-reads_back
returns-clause-reads_back c =
    let netlist = c.args.netlist.now in
    let text = c.push_outputs.new.text.items in
    let kept = within_limit-Ok (canonical netlist) text
    (within_limit-whole netlist c.new-text.result.items c.new-text.ensures.items c.push_nets.new.text.items (Ok text)
    (c.in_ok-push_nets.ensures.written (λ memory. cc)) (c.in_ok-push_outputs.ensures (λ memory. cc))) in
    rw kept.0 (netlist_of-canonical netlist c.in_ok-push_nets.ensures.well_formed kept.1)
