use Rattle.std.proofs.Common.{refl}
use Rattle.cmb_kernel.proofs.Mixed.{acted_alike, all_acted_sound, steps_floor, nothing_lost, all_given_out}
use Rattle.cmb_kernel.proofs.SweepsAlike.{alike_sweep}
use Rattle.cmb_kernel.proofs.laws.drains_play_no_part.Goals as goal

pub returns-clause-same : goal.returns-clause-same
returns-clause-same c circuit ok last state sound actions allowed = acted_alike circuit ok last state state actions sound sound allowed refl

pub returns-clause-sound : goal.returns-clause-sound
returns-clause-sound c circuit ok last state sound actions = all_acted_sound circuit ok last state actions sound

pub returns-clause-sweeps : goal.returns-clause-sweeps
returns-clause-sweeps c circuit ok last one other both tick order exist =
    alike_sweep circuit ok last tick order one other both.one_sound both.other_sound exist both.alike

pub returns-clause-floors : goal.returns-clause-floors
returns-clause-floors c = steps_floor

pub returns-clause-values : goal.returns-clause-values
returns-clause-values c circuit ok last state sound actions allowed net process =
    λ at. (nothing_lost circuit ok last net process state actions sound allowed at).changes

pub returns-clause-complete : goal.returns-clause-complete
returns-clause-complete c circuit last actions run net process =
    all_given_out circuit run.well_formed last net process actions run.allowed run.complete
