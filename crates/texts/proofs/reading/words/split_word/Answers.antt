use Rattle.std.proofs.Common.{◌≡◌, ◌<◌, length, drop, arith}
use Rattle.std.specs.List.{prefix_len}
use Rattle.std.proofs.lemmas.Bool.Decides.{nat_tests}
use Rattle.std.proofs.lemmas.List.{take_rest}
use Rattle.texts.specs.Text.{is_white}
use Rattle.texts.proofs.FirstWord.{words_of-split, words_of-white}
use Rattle.texts.proofs.reading.words.split_word.Goals as goal

pub returns-then-is_empty : goal.returns-then-is_empty
returns-then-is_empty c =
    let test = rw (take_rest, c.white_len.ensures.value) at c.is_empty.ensures in
    let none : length (drop (prefix_len is_white c.args.line.now) c.args.line.now) ≡ 0 = grind (arith, nat_tests) in
    words_of-white c.args.line.now none

pub returns-else-is_empty : goal.returns-else-is_empty
returns-else-is_empty c =
    let test = rw (take_rest, c.white_len.ensures.value) at c.is_empty.ensures in
    let some : 0 < length (drop (prefix_len is_white c.args.line.now) c.args.line.now) = grind (arith, nat_tests) in
    rw (c.split_at.ensures.front, c.split_at.ensures.back, c.word_len.ensures.value, take_rest, c.white_len.ensures.value)
    (words_of-split c.args.line.now some)
