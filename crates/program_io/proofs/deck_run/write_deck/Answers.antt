use Rattle.std.proofs.Common.{◌≡◌, false, sym, ◌∙◌}
use Rattle.std.proofs.lemmas.Result.{IfErr-weaker, IfOk-weaker, err_from_is_err_and}
use Rattle.prepared_runs.specs.Source.{seen_source}
use Rattle.program_io.specs.Answers.{run_answer}
use Rattle.program_io.specs.DeckRun.{deck_answer}
use Rattle.program_io.proofs.AnswerEnds.{AnswerEndsBy-weaker, GoesOut-weaker}
use Rattle.program_io.proofs.Decks.{AnswerEndsBy-bad_text, deck_answer-run, fault_of_deck-no_read}
use Rattle.program_io.proofs.deck_run.write_deck.Goals as goal

pub returns-in_err-read_sections-clause-err : goal.returns-in_err-read_sections-clause-err
returns-in_err-read_sections-clause-err g c =
    let p = err_from_is_err_and c.from_residual.result c.from_residual.ensures.1 in
    rw (p.1, p.2) (AnswerEndsBy-bad_text c.args.text.now _ _ (sym c.in_err-read_sections.ensures))

pub returns-in_err-read_sections-clause-no_read : goal.returns-in_err-read_sections-clause-no_read
returns-in_err-read_sections-clause-no_read g c =
    let p = err_from_is_err_and c.from_residual.result c.from_residual.ensures.1 in
    rw (p.1, p.2) (fault_of_deck-no_read _)

pub returns-clause-ok : goal.returns-clause-ok
returns-clause-ok g c =
    let run = run_answer (seen_source c.run_of.result.0) c.of.result false in
    let deck = deck_answer c.args.text.now in
    let same = deck_answer-run c.args.text.now _ _ _ _ (sym c.in_ok-read_sections.ensures) c.run_of.ensures.source c.run_of.ensures.view c.of.ensures in
    IfOk-weaker c.write_run.result _ _
    (GoesOut-weaker (λ answer. answer ≡ run) (λ answer. answer ≡ deck) (λ answer is. is ∙ same) _ _)
    c.write_run.ensures.ok

pub returns-clause-err : goal.returns-clause-err
returns-clause-err g c =
    let run = run_answer (seen_source c.run_of.result.0) c.of.result false in
    let deck = deck_answer c.args.text.now in
    let same = deck_answer-run c.args.text.now _ _ _ _ (sym c.in_ok-read_sections.ensures) c.run_of.ensures.source c.run_of.ensures.view c.of.ensures in
    IfErr-weaker c.write_run.result _ _
    (AnswerEndsBy-weaker (λ answer. answer ≡ run) (λ answer. answer ≡ deck) (λ answer is. is ∙ same) _ _)
    c.write_run.ensures.err
