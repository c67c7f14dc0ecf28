use Rattle.std.proofs.Common.{sym, ◌∙◌}
use Rattle.std.proofs.lemmas.Result.{err_from_is_err_and}
use Rattle.std.proofs.lemmas.List.{at_drop_more}
use Rattle.netlist.specs.Names.{seen_names}
use Rattle.bench_text.proofs.Wired.{numbers_from, numbers_from-fault, unless-Err}
use Rattle.bench_text.proofs.reader.numbers_of.Goals as goal

pub returns-in_err-number : goal.returns-in_err-number
returns-in_err-number c =
    let p = err_from_is_err_and c.from_residual.result c.from_residual.ensures.1 in
    let names = c.args.names.now in
    let left = at_drop_more (λ left. numbers_from names c.args.line c.loop-pin.numbers.items (seen_names left)) c.args.pins.now c.loop-pin.pin-index _ c.loop-pin-test.true in
    let fault = numbers_from-fault names c.args.line c.loop-pin.numbers.items _ _ _ (unless-Err _ _ _ c.in_err-number.ensures) in
    rw (p.1, p.2) (λ _. sym fault ∙ sym left ∙ c.loop-pin.invariant)
