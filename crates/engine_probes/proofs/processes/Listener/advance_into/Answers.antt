use Rattle.std.proofs.Common.{◌≡◌, ◌∙◌, false, rules}
use Rattle.gate_process.proofs.CallerLemmas.{lasts_advanced}
use Rattle.engine_probes.proofs.processes.Listener.advance_into.Goals as goal

pub invariant_of-self : goal.invariant_of-self
invariant_of-self c =
    let runs : c.args.self.now.process.failed ≡ false = search rules in
    let same = lasts_advanced c.args.self.now.process c.advance_into.new.self c.advance_into.result c.advance_into.ensures.state c.advance_into.ensures.err in
    record { has_pins = λ going. (same going).pins ∙ c.args.self.now.has_pins runs; ends = λ going. (same going).end ∙ c.args.self.now.ends runs }
