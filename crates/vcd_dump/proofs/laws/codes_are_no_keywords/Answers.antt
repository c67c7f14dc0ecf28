use Rattle.std.proofs.Common.{arith}
use Rattle.vcd_dump.specs.Codes.{code_at}
use Rattle.vcd_dump.proofs.CodeLemmas.{length-code_at, keyword_is_long}
use Rattle.vcd_dump.proofs.laws.codes_are_no_keywords.Goals as goal

pub returns-clause-short : goal.returns-clause-short
returns-clause-short c = length-code_at

pub returns-clause-no_keyword : goal.returns-clause-no_keyword
returns-clause-no_keyword c place early keyword =
    let short = length-code_at place early in
    let long = keyword_is_long (code_at place) keyword in omega arith
