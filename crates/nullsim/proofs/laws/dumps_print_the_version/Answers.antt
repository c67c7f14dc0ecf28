use Rattle.std.proofs.Common.{refl}
use Rattle.nullsim.proofs.laws.dumps_print_the_version.Goals as goal

pub returns : goal.returns
returns c unit = (_, refl)
