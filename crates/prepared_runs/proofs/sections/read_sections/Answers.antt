use Rattle.std.proofs.Common.{◌∙◌, sym, rules, arith}
use Rattle.std.proofs.lemmas.Result.{err_from_is_err_and}
use Rattle.prepared_runs.proofs.DeckText.{sections_of-long, sections_of-empty, sections_of-none, sections_of-some}
use Rattle.prepared_runs.proofs.sections.read_sections.Goals as goal

pub returns-then-text-gt-LONGEST_TEXT : goal.returns-then-text-gt-LONGEST_TEXT
returns-then-text-gt-LONGEST_TEXT c = rw (sections_of-long c.args.text.now (omega arith)) (search rules)

pub returns-in_err-first : goal.returns-in_err-first
returns-in_err-first c =
    let fault = err_from_is_err_and c.from_residual.result c.from_residual.ensures.1 in
    let none = rw c.in_err-first.ensures.ok_part at c.split_line.ensures in
    let value = rw c.in_err-first.ensures.ok_part at c.in_err-first.ensures.value in
    rw (fault.1, sections_of-empty c.args.text.now none) (cc (fault.2, value))

pub returns-in_err-horizon : goal.returns-in_err-horizon
returns-in_err-horizon c =
    let fault = err_from_is_err_and c.from_residual-in_err-horizon.result c.from_residual-in_err-horizon.ensures.1 in
    let split = rw c.in_ok-first.ensures.ok_part at c.split_line.ensures in
    let none = sym c.horizon_in.ensures ∙ c.in_err-horizon.ensures.ok_part in
    let value = rw c.in_err-horizon.ensures.ok_part at c.in_err-horizon.ensures.value in
    rw (fault.1, sections_of-none c.args.text.now c.in_ok-first.first.now c.in_ok-first.rest.now (omega arith) split.lines none) (cc (fault.2, value))

pub returns : goal.returns
returns c =
    let split = rw c.in_ok-first.ensures.ok_part at c.split_line.ensures in
    c.sections_behind.ensures
    ∙ sym (sections_of-some c.args.text.now c.in_ok-first.first.now c.in_ok-first.rest.now (omega arith) split.lines c.in_ok-horizon.horizon (sym c.horizon_in.ensures ∙ c.in_ok-horizon.ensures.ok_part))
