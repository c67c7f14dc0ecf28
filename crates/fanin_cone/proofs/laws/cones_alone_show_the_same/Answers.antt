use Rattle.fanin_cone.proofs.ConesAlone.{IsDesignOfExtract-cones, names_alone, values_alone}
use Rattle.fanin_cone.proofs.laws.cones_alone_show_the_same.Goals as goal

pub returns-clause-extract : goal.returns-clause-extract
returns-clause-extract c whole part nets horizon below is = IsDesignOfExtract-cones whole part nets below is horizon

pub returns-clause-names : goal.returns-clause-names
returns-clause-names c = names_alone

pub returns-clause-values : goal.returns-clause-values
returns-clause-values c = values_alone
