use Rattle.cmb_kernel.proofs.Sweeping.{sweep_leads, sweep_raises}
use Rattle.cmb_kernel.proofs.LeftAlone.{sweep_leaves}
use Rattle.cmb_kernel.proofs.laws.sweeps.Goals as goal

pub returns-clause-events : goal.returns-clause-events
returns-clause-events c circuit ok last state sound tick order = sweep_leads circuit ok last tick order state sound

pub returns-clause-raises : goal.returns-clause-raises
returns-clause-raises c = sweep_raises

pub returns-clause-enough : goal.returns-clause-enough
returns-clause-enough c circuit ok last state sound tick order exist pin exists = sweep_leaves circuit ok last tick pin exists order state sound exist
