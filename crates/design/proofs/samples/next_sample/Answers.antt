use Rattle.std.proofs.Common.{◌≡◌, ◌+◌, ◌-◌, ◌*◌, ◌/◌, max, ap, ◌∙◌, arith}
use Rattle.std.proofs.Math.Nat.{mul_comm}
use Rattle.design.proofs.SampleTicks.{div_ceil-is}
use Rattle.design.proofs.samples.next_sample.Goals as goal

pub returns : goal.returns
returns c =
    let from : c.saturating_sub.result ≡ c.args.tick - c.args.phase = omega (arith, c.saturating_sub.ensures) in
    let up = c.div_ceil-periods.ensures ∙ div_ceil-is _ c.args.period c.requires.some
    ∙ ap (λ n. (n + (c.args.period - 1)) / c.args.period) from in
    let times = mul_comm c.div_ceil-periods.result c.args.period ∙ ap (λ n. c.args.period * n) up in
    c.max.ensures ∙ (λ i. max (c.first_sample.ensures i) (c.args.phase + times i))
