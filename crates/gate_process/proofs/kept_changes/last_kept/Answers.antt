use Rattle.std.proofs.Common.{ap, sym, ◌∙◌}
use Rattle.std.specs.Option.{option_copied, option_map_or}
use Rattle.logic3.specs.declared.change.Change.{Change}
use Rattle.logic3.proofs.CallerLemmas.{value_in_the_end-last}
use Rattle.gate_process.proofs.kept_changes.last_kept.Goals as goal

pub returns-in-Some : goal.returns-in-Some
returns-in-Some c =
    c.value.ensures
    ∙ sym (value_in_the_end-last c.args.before c.args.changes.now
    ∙ ap (λ last. option_map_or (λ (change : Change). change.value) last c.args.before) (sym c.last.ensures.value ∙ ap option_copied c.in-Some.is))

pub returns-in-None : goal.returns-in-None
returns-in-None c =
    sym (value_in_the_end-last c.args.before c.args.changes.now
    ∙ ap (λ last. option_map_or (λ (change : Change). change.value) last c.args.before) (sym c.last.ensures.value ∙ ap option_copied c.in-None.is))
