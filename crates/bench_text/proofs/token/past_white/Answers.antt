use Rattle.std.proofs.lemmas.List.{take_rest}
use Rattle.bench_text.proofs.Scan.{tokens_of-past_white, is_white-past_white}
use Rattle.bench_text.proofs.token.past_white.Goals as goal

pub returns-clause-tokens : goal.returns-clause-tokens
returns-clause-tokens c = rw (take_rest, c.white_len.ensures.value) (tokens_of-past_white c.args.code.now)

pub returns-clause-begins : goal.returns-clause-begins
returns-clause-begins c = rw (take_rest, c.white_len.ensures.value) (is_white-past_white c.args.code.now)
