use Rattle.texts.proofs.CallerLemmas.{AppendsPrefix-either}
use Rattle.prepared_runs.proofs.percents.Percents.show.Goals as goal

pub returns-then-not-self-clause-part : goal.returns-then-not-self-clause-part
returns-then-not-self-clause-part g c =
    AppendsPrefix-either c.write_percent.result _ _ _ c.write_percent.ensures.ok c.write_percent.ensures.err
