use Rattle.std.proofs.Common.{◌≡◌, ◌∙◌, false, rules}
use Rattle.gate_process.proofs.CallerLemmas.{lasts_drained}
use Rattle.engine_tests.proofs.probe.Probe.drain_below.Goals as goal

pub invariant_of-self : goal.invariant_of-self
invariant_of-self g c =
    let runs : c.args.self.now.process.failed ≡ false = search rules in
    let same = lasts_drained c.args.self.now.process c.drain_below.new.self c.args.bound c.drain_below.result c.drain_below.ensures.ok c.drain_below.ensures.err in
    record { has_pins = λ _. same.pins ∙ c.args.self.now.has_pins runs; ends = λ _. same.end ∙ c.args.self.now.ends runs }
