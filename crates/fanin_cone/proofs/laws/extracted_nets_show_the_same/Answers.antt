use Rattle.fanin_cone.proofs.Extracted.{extract_agrees, extract_shows}
use Rattle.fanin_cone.proofs.laws.extracted_nets_show_the_same.Goals as goal

pub returns-clause-agree : goal.returns-clause-agree
returns-clause-agree c whole extract names horizon is =
    extract_agrees whole extract names horizon is.first is.second is.nets is.timing

pub returns-clause-show : goal.returns-clause-show
returns-clause-show c whole extract names horizon is =
    extract_shows whole extract names horizon is.first is.second is.nets is.timing
