use Rattle.std.proofs.Common.{Err, refl, sym, ap, subst, ◌∙◌}
use Rattle.std.proofs.lemmas.Result.{err_from_is_err_and}
use Rattle.prepared_runs.specs.declared.view.View.{View}
use Rattle.prepared_runs.specs.Source.{MayWantMemory, seen_source}
use Rattle.prepared_runs.specs.Views.{dump_view}
use Rattle.prepared_runs.specs.Seen.{seen_sections}
use Rattle.kernel_runs.specs.Simulated.{simulated}
use Rattle.program_io.proofs.Decks.{DeckMayWantMemory-sections, Sim-Memory, bad_text-Memory, simulated_deck-run, DeckEndsBy-Sim, DeckEndsBy-bad_text, IsOkAnd-Sim}
use Rattle.program_io.proofs.deck_run.deck.Goals as goal

pub returns-in_err-sections-clause-err : goal.returns-in_err-sections-clause-err
returns-in_err-sections-clause-err g c =
    let p = err_from_is_err_and c.from_residual.result c.from_residual.ensures.1 in
    rw (p.1, p.2) (DeckEndsBy-bad_text c.args.text.now _ _ (sym c.in_err-sections.ensures))

pub returns-in_err-simulate-clause-err : goal.returns-in_err-simulate-clause-err
returns-in_err-simulate-clause-err g c =
    let p = err_from_is_err_and c.from_residual-in_err-simulate.result c.from_residual-in_err-simulate.ensures.1 in
    let is = simulated_deck-run c.args.text.now _ _ _ (sym c.in_ok-sections.ensures) c.run_of.ensures.source c.run_of.ensures.view in
    rw (p.1, p.2) (DeckEndsBy-Sim _ _ _ _ _ is c.in_err-simulate.ensures.err)

pub returns-clause-ok : goal.returns-clause-ok
returns-clause-ok g c =
    rw (simulated_deck-run c.args.text.now _ _ _ (sym c.in_ok-sections.ensures) c.run_of.ensures.source c.run_of.ensures.view)
    (IsOkAnd-Sim (simulated (seen_source c.run_of.result.0) (dump_view c.run_of.result.1)) _ c.in_ok-simulate.ensures.ok)

pub returns-in_err-sections-clause-memory : goal.returns-in_err-sections-clause-memory
returns-in_err-sections-clause-memory g c =
    let p = err_from_is_err_and c.from_residual.result c.from_residual.ensures.1 in
    bad_text-Memory c.args.text.now _ _ (sym c.in_err-sections.ensures) (p.1 ∙ ap Err p.2)

pub returns-in_err-simulate-clause-memory : goal.returns-in_err-simulate-clause-memory
returns-in_err-simulate-clause-memory g c = λ wanting.
    let p = err_from_is_err_and c.from_residual-in_err-simulate.result c.from_residual-in_err-simulate.ensures.1 in
    let found = seen_sections c.in_ok-sections.sections in
    DeckMayWantMemory-sections c.args.text.now found (sym c.in_ok-sections.ensures)
    (subst (λ s. MayWantMemory s found.horizon) c.run_of.ensures.source
    (subst (λ (v : View). MayWantMemory (seen_source c.run_of.result.0) v.horizon) c.run_of.ensures.view
    (c.in_err-simulate.ensures.memory (Sim-Memory _ _ _ (p.1 ∙ ap Err p.2) refl wanting))))
