use Rattle.std.proofs.Common.{sym, ◌∙◌}
use Rattle.bench_text.proofs.Scan.{tokens_of-split_word}
use Rattle.bench_text.proofs.token.split_token.Goals as goal

-- what begins with neither white space nor a mark begins with a word
pub returns-in-None : goal.returns-in-None
returns-in-None c =
    let code = c.past_white-code in
    let begun = c.in_ok-first.ensures.cases.0 in
    rw (c.split_at.ensures.front, c.split_at.ensures.back, c.word_len.ensures.value)
    (sym code.ensures.tokens ∙ tokens_of-split_word code.result.now _ _ begun code.ensures.begins (sym c.in-None.ensures))
