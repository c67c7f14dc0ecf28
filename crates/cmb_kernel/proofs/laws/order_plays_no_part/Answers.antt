use Rattle.std.proofs.Common.{sym, ◌∙◌}
use Rattle.cmb_kernel.proofs.Order.{completed_sound, rounds_end, shows_as_rounds}
use Rattle.cmb_kernel.proofs.laws.order_plays_no_part.Goals as goal

pub returns-clause-sound : goal.returns-clause-sound
returns-clause-sound c circuit ok last state sound count = completed_sound circuit ok last count state sound

pub returns-clause-complete : goal.returns-clause-complete
returns-clause-complete c circuit ok last state sound = rounds_end circuit ok last state sound

pub returns-clause-rounds : goal.returns-clause-rounds
returns-clause-rounds c circuit ok last state sound events exist complete = shows_as_rounds circuit ok last state events sound exist complete

pub returns-clause-agree : goal.returns-clause-agree
returns-clause-agree c circuit ok last state sound one exist_one complete_one other exist_other complete_other =
    shows_as_rounds circuit ok last state one sound exist_one complete_one
    ∙ sym (shows_as_rounds circuit ok last state other sound exist_other complete_other)
