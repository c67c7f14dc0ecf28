use Rattle.std.proofs.Common.{◌≡◌, ◌-◌, ◌^◌, min, option_map, get_or, true, ap, sym, arith}
use Rattle.std.specs.Char.{is_ascii_digit}
use Rattle.std.proofs.lemmas.List.Folds.{list_all_more}
use Rattle.texts.proofs.Digits.{number_of-stops, digits_value-saturates}
use Rattle.texts.proofs.reading.numbers.number.Goals as goal

pub returns-then-not-is_ascii_digit : goal.returns-then-not-is_ascii_digit
returns-then-not-is_ascii_digit c =
    sym (ap (option_map (min (2 ^ 64 - 1))) (number_of-stops c.args.word.now c.loop-byte.byte-index c.loop-byte-test.true (sym c.if-not-is_ascii_digit.ensures.value)))

pub loop-byte-preserved : goal.loop-byte-preserved
loop-byte-preserved c =
    let digit : is_ascii_digit (get_or c.args.word.now c.loop-byte.byte-index 0) ≡ true = sym c.if-not-is_ascii_digit.ensures.value in
    let value = digits_value-saturates c.args.word.now c.loop-byte.byte-index _ c.loop-byte-test.true c.loop-byte.invariant.value digit in
    let digits = list_all_more is_ascii_digit c.args.word.now _ 0 c.loop-byte-test.true in
    record {
      digits = grind (arith, digits);
      value = grind (arith, value);
    }
