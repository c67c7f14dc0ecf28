use Rattle.std.proofs.Common.{refl}
use Rattle.prepared_runs.specs.Events.{events_of_picks}
use Rattle.prepared_runs.proofs.preparation.picked.Goals as goal

pub returns-in-Nothing-clause-exact : goal.returns-in-Nothing-clause-exact
unfolding events_of_picks
returns-in-Nothing-clause-exact c = rw (c.in-Nothing.is, c.empty.ensures) (λ enough. refl)

pub returns-in-Text-clause-exact : goal.returns-in-Text-clause-exact
unfolding events_of_picks
returns-in-Text-clause-exact c = rw c.in-Text.is c.read.ensures.exact

pub returns-in-Seeded-clause-exact : goal.returns-in-Seeded-clause-exact
unfolding events_of_picks
returns-in-Seeded-clause-exact c = rw c.in-Seeded.is c.seeded.ensures.exact
