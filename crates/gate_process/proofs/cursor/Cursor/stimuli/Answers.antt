use Rattle.std.proofs.Common.{◌∙◌, ap, sym, subst, append-nil, [], ◌++◌}
use Rattle.logic3.specs.Rising.{TicksRise}
use Rattle.logic3.specs.declared.value.Value.TheVariants.{Unknown}
use Rattle.gate_process.proofs.cursor.Cursor.stimuli.Goals as goal

pub before_all-requires : goal.before_all-requires
before_all-requires c =
    subst TicksRise (sym (ap (λ changes. changes ++ []) c.stimuli.ensures ∙ append-nil c.args.changes.now)) c.requires

pub returns : goal.returns
returns c =
    c.before_all.ensures
    ∙ ap (λ changes. record { before = Unknown; changes = changes }) (ap (λ changes. changes ++ []) c.stimuli.ensures ∙ append-nil c.args.changes.now)
