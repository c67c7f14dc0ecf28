use Rattle.cmb_kernel.proofs.Single.{useless_leaves}
use Rattle.cmb_kernel.proofs.laws.useless_events.Goals as goal

pub returns : goal.returns
returns c circuit ok last state sound event exists useless = useless_leaves circuit ok last state sound event exists useless
