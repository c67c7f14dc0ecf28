use Rattle.std.proofs.Common.{Ok, ◌++◌, sym, ap, ◌∙◌}
use Rattle.std.proofs.lemmas.Result.{err_from_is_err_and}
use Rattle.prepared_runs.specs.Source.{design_of_source, seen_source}
use Rattle.prepared_runs.proofs.CallerLemmas.{IsRefusal-lifted}
use Rattle.plain_runs.specs.Noted.{notes_of_source}
use Rattle.plain_runs.specs.Text.{notes_of_texts}
use Rattle.plain_runs.proofs.Answer.{notes_of_source-bad, notes_of_source-good}
use Rattle.plain_runs.proofs.notes.notes_text.Goals as goal

pub returns-in_err-ticks-clause-err : goal.returns-in_err-ticks-clause-err
returns-in_err-ticks-clause-err c =
    let p = err_from_is_err_and c.from_residual.result c.from_residual.ensures.1 in
    let source = seen_source c.args.source.now in
    rw (p.1, p.2) (IsRefusal-lifted (design_of_source source c.args.horizon) (notes_of_source source c.args.horizon) _
    (notes_of_source-bad source c.args.horizon _) c.in_err-ticks.ensures.err)

pub returns-clause-ok : goal.returns-clause-ok
returns-clause-ok c =
    notes_of_source-good (seen_source c.args.source.now) c.args.horizon _ _ c.in_ok-ticks.ensures.ok
    ∙ ap (λ text. Ok text) (sym (c.in_ok-push_text_notes.ensures
    ∙ ap (λ text. text ++ notes_of_texts (seen_source c.args.source.now) c.in_ok-ticks.design) c.in_ok-notes.ensures))
