use Rattle.fanin_cone.proofs.SameCones.{cone_there, cone_back}
use Rattle.fanin_cone.proofs.laws.agreeing_designs_have_the_same_cone.Goals as goal

pub returns : goal.returns
returns c a b names horizon designs name = (
  cone_there a b designs.first designs.second names horizon designs.agree name,
  cone_back a b designs.first designs.second names horizon designs.agree name,
)
