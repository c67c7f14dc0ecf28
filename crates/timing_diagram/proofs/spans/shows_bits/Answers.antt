use Rattle.std.proofs.Common.{◌≡◌, ◌∙◌, ap, false, rules, sym}
use Rattle.logic3.specs.Wave.{value_at}
use Rattle.timing_diagram.specs.Marks.{shows_value}
use Rattle.timing_diagram.proofs.Bits.{some_fails}
use Rattle.timing_diagram.proofs.spans.shows_bits.Goals as goal

pub returns-then-not-shows_value : goal.returns-then-not-shows_value
returns-then-not-shows_value c =
    let fails : c.shows_value.result ≡ false = search rules in
    sym (some_fails (λ bit. shows_value bit c.args.columns c.args.column) c.args.bits.now c.loop-bit.bit-index c.bit-item.result c.loop-bit-test.true
    (ap (λ wave. shows_value (value_at wave) c.args.columns c.args.column) (sym c.bit-item.is) ∙ sym c.shows_value.ensures ∙ fails))
