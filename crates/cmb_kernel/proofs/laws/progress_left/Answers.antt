use Rattle.std.proofs.Common.{arith}
use Rattle.std.proofs.lemmas.Bool.{ltb-true}
use Rattle.cmb_kernel.specs.Useful.{progress}
use Rattle.cmb_kernel.specs.Step.{step}
use Rattle.cmb_kernel.proofs.Left.{useful_lowers, none_raises}
use Rattle.cmb_kernel.proofs.laws.progress_left.Goals as goal

pub returns-clause-useful : goal.returns-clause-useful
returns-clause-useful c circuit ok last state sound event exists = useful_lowers circuit ok last state sound event exists

pub returns-clause-any : goal.returns-clause-any
returns-clause-any c circuit ok last state sound event exists = none_raises circuit ok last state sound event exists

pub returns-clause-raises : goal.returns-clause-raises
returns-clause-raises c state event useful =
    let less = ltb-true (progress state) (progress (step state event)) useful in omega (arith, less)
