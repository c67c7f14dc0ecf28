use Rattle.std.proofs.Common.{◌≡◌, ◌∙◌, ap, false, rules, sym}
use Rattle.logic3.specs.Wave.{value_at}
use Rattle.timing_diagram.specs.Bus.{shows_same}
use Rattle.timing_diagram.proofs.Bits.{some_fails}
use Rattle.timing_diagram.proofs.spans.are_alike.Goals as goal

pub returns-then-not-shows_same : goal.returns-then-not-shows_same
returns-then-not-shows_same c =
    let fails : c.shows_same.result ≡ false = search rules in
    sym (some_fails (shows_same c.args.columns c.args.column c.args.other) c.args.bits.now c.loop-bit.bit-index c.bit-item.result c.loop-bit-test.true
    (ap (λ wave. shows_same c.args.columns c.args.column c.args.other (value_at wave)) (sym c.bit-item.is) ∙ sym c.shows_same.ensures ∙ fails))
