use Rattle.design.proofs.CallerLemmas.{pins_below}
use Rattle.fanin_cone.proofs.Stimuli.{rising_stimuli}
use Rattle.fanin_cone.proofs.agreement.is_same_net.Goals as goal

pub has_same_names-same_names-requires-clause-pins : goal.has_same_names-same_names-requires-clause-pins
has_same_names-same_names-requires-clause-pins c = pins_below c.args.first.now c.requires.first c.args.net c.pins_of.result.now c.pins_of.ensures

pub has_same_names-same_names-requires-clause-others : goal.has_same_names-same_names-requires-clause-others
has_same_names-same_names-requires-clause-others c = pins_below c.args.second.now c.requires.second c.args.other c.pins_of-2.result.now c.pins_of-2.ensures

pub has_same_stimuli-same_stimuli-requires-clause-stimuli : goal.has_same_stimuli-same_stimuli-requires-clause-stimuli
has_same_stimuli-same_stimuli-requires-clause-stimuli c = rising_stimuli c.args.first.now c.requires.first c.args.net c.stimuli.result.now c.stimuli.ensures

pub has_same_stimuli-same_stimuli-requires-clause-others : goal.has_same_stimuli-same_stimuli-requires-clause-others
has_same_stimuli-same_stimuli-requires-clause-others c = rising_stimuli c.args.second.now c.requires.second c.args.other c.stimuli-2.result.now c.stimuli-2.ensures
