use Rattle.std.proofs.Common.{◌≢◌, sym, subst, arith}
use Rattle.design.specs.Pins.{net_of_pin}
use Rattle.cmb_kernel.proofs.LeastFrontier.{deliver_elsewhere, deliver_there}
use Rattle.cmb_kernel.proofs.UsefulEvents.{waiting_useful}
use Rattle.cmb_kernel.proofs.Single.{delivery_is_useful, deliver_beside, deliver_others}
use Rattle.cmb_kernel.proofs.laws.deliveries.Goals as goal

pub returns-clause-useful : goal.returns-clause-useful
returns-clause-useful c circuit ok last state sound pin exists =
    (delivery_is_useful circuit ok last state sound pin exists, waiting_useful circuit ok last state sound pin exists)

pub returns-clause-taken : goal.returns-clause-taken
returns-clause-taken c circuit ok last state sound pin exists =
    deliver_there state pin (let lists = sound.lists in omega (arith, exists, lists))

pub returns-clause-lists : goal.returns-clause-lists
returns-clause-lists c state pin other apart = deliver_elsewhere state pin other apart

pub returns-clause-processes : goal.returns-clause-processes
returns-clause-processes c circuit ok last state sound pin net apart =
    deliver_others state pin net (subst (λ nets. net ≢ net_of_pin nets pin) (sym sound.nets) apart)

pub returns-clause-others : goal.returns-clause-others
returns-clause-others c circuit ok last state sound pin net below apart = deliver_beside circuit ok last state sound pin net below apart
