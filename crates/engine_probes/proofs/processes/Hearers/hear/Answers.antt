use Rattle.std.proofs.Common.{◌≡◌, ◌∙◌, false, sym, subst, ap, arith, rules}
use Rattle.std.proofs.lemmas.Option.{same_Some}
use Rattle.cmb_channels.specs.declared.message.Message.TheVariants.{Change as Changes}
use Rattle.gate_process.specs.Step.{ProcessView}
use Rattle.gate_process.specs.Truth.{CanHear}
use Rattle.gate_process.proofs.CallerLemmas.{can_hear_change}
use Rattle.engine_probes.proofs.Among.{length_among, stays_among}
use Rattle.engine_probes.proofs.processes.Hearers.hear.Goals as goal

pub receive-requires-clause-running : goal.receive-requires-clause-running
receive-requires-clause-running c = λ process at.
    let runs : c.of_net-process.result.failed ≡ false = search rules in
    let same = same_Some process c.of_net-process.result (sym at ∙ c.of_net-process.ensures) in
    ap (λ (p : ProcessView). p.failed) same ∙ runs

pub receive-requires-clause-can_hear : goal.receive-requires-clause-can_hear
receive-requires-clause-can_hear c = λ process at.
    let mine = c.of_net-process.result in
    let runs : mine.failed ≡ false = search rules in
    let same = same_Some process mine (sym at ∙ c.of_net-process.ensures) in
    let end = c.args.self.now.ends mine c.of_net-process.ensures in
    subst (λ (p : ProcessView). CanHear p.state 0 (Changes c.args.change)) (sym same)
    (can_hear_change mine.state 0 c.received-known.result c.last-last.result c.args.change
    (c.is_failed.ensures.well_formed runs) c.received-known.ensures c.last-last.ensures (omega arith) (omega arith) (search rules))

pub invariant_of-self-2 : goal.invariant_of-self-2
invariant_of-self-2 c =
    let old = c.args.self.now in
    let mine = c.of_net-process.result in
    let size = length_among old.processes c.receive.new.self old.net (Changes c.args.change) c.receive.result mine
    c.of_net-process.ensures c.receive.ensures.ok c.receive.ensures.err in
    record {
      is_net = omega (arith, size, old.is_net);
      has_pin = λ other there.
          let same = stays_among old.processes c.receive.new.self old.net (Changes c.args.change) c.receive.result mine other
          c.of_net-process.ensures c.receive.ensures.ok c.receive.ensures.err there in
          let some = old.has_pin mine c.of_net-process.ensures in
          omega (arith, same.pins, some);
      ends = λ other there.
          let same = stays_among old.processes c.receive.new.self old.net (Changes c.args.change) c.receive.result mine other
          c.of_net-process.ensures c.receive.ensures.ok c.receive.ensures.err there in
          same.end ∙ old.ends mine c.of_net-process.ensures;
    }
