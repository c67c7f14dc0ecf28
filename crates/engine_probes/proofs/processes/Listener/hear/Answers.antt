use Rattle.std.proofs.Common.{◌≡◌, ◌∙◌, false, arith, rules}
use Rattle.cmb_channels.specs.declared.message.Message.TheVariants.{Change as Changes}
use Rattle.gate_process.proofs.CallerLemmas.{can_hear_change, lasts_heard}
use Rattle.engine_probes.proofs.processes.Listener.hear.Goals as goal

pub receive-requires-clause-can_hear : goal.receive-requires-clause-can_hear
receive-requires-clause-can_hear c =
    let runs : c.args.self.now.process.failed ≡ false = search rules in
    let end = c.args.self.now.ends runs in
    can_hear_change c.args.self.now.process.state 0 c.received-known.result c.last-last.result c.args.change
    (c.is_failed.ensures.well_formed runs) c.received-known.ensures c.last-last.ensures (omega arith) (omega arith) (search rules)

pub invariant_of-self : goal.invariant_of-self
invariant_of-self c =
    let runs : c.args.self.now.process.failed ≡ false = search rules in
    let same = lasts_heard c.args.self.now.process c.receive.new.self 0 (Changes c.args.change) c.receive.result c.receive.ensures.ok c.receive.ensures.err in
    record { has_pins = λ _. same.pins ∙ c.args.self.now.has_pins runs; ends = λ _. same.end ∙ c.args.self.now.ends runs }
