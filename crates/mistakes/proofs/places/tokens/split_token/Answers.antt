use Rattle.std.proofs.Common.{◌≡◌, ◌<◌, length, drop, arith}
use Rattle.std.specs.List.{prefix_len}
use Rattle.std.proofs.lemmas.Bool.Decides.{nat_tests}
use Rattle.std.proofs.lemmas.List.{take_rest}
use Rattle.texts.specs.Text.{is_white}
use Rattle.mistakes.proofs.LineTokens.{tokens_from-none, tokens_from-split}
use Rattle.mistakes.proofs.places.tokens.split_token.Goals as goal

pub returns-then-is_empty-clause-tokens : goal.returns-then-is_empty-clause-tokens
returns-then-is_empty-clause-tokens c =
    let test = rw (take_rest, c.white_len-white.ensures.value) at c.is_empty.ensures in
    let none : length (drop (prefix_len is_white c.args.code.now) c.args.code.now) ≡ 0 = grind (arith, nat_tests) in
    tokens_from-none c.args.marked c.args.column c.args.code.now none

pub returns-clause-tokens : goal.returns-clause-tokens
returns-clause-tokens c =
    let test = rw (take_rest, c.white_len-white.ensures.value) at c.is_empty.ensures in
    let some : 0 < length (drop (prefix_len is_white c.args.code.now) c.args.code.now) = grind (arith, nat_tests) in
    rw (c.split_at.ensures.front_len, c.split_at.ensures.front, c.split_at.ensures.back, c.token_len.ensures.value, take_rest, c.white_len-white.ensures.value)
    (tokens_from-split c.args.marked c.args.column c.args.code.now some)
