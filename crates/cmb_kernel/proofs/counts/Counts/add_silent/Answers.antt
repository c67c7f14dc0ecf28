use Rattle.std.proofs.Common.{sym, ◌∙◌, arith}
use Rattle.cmb_kernel.proofs.Silent.{silent_at_once}
use Rattle.cmb_kernel.proofs.counts.Counts.add_silent.Goals as goal

pub returns : goal.returns
returns c =
    (λ i. record c.args.self.now { events = c.saturating_add-self.ensures i })
    ∙ sym (silent_at_once c.args.events c.args.self.now (omega arith))
