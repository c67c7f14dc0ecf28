use Rattle.std.proofs.Common.{arith, ◌∙◌, ap, sym, subst, All, flat_map}
use Rattle.design.proofs.CallerLemmas.{IsCircuit-from_IsDesign}
use Rattle.causes.specs.Text.{cause_line, why_text}
use Rattle.causes.proofs.Inside.{causes_inside, IsInside}
use Rattle.causes.proofs.Pieces.{flat_map-none}
use Rattle.causes.proofs.SignalsUpTo.{show_earlier}
use Rattle.causes.proofs.text.why_text.Goals as goal

pub push_cause-requires-clause-formed : goal.push_cause-requires-clause-formed
push_cause-requires-clause-formed c = c.why.ensures.well_formed

pub push_cause-requires-clause-is_net : goal.push_cause-requires-clause-is_net
push_cause-requires-clause-is_net c =
    let circuit = c.args.design.now.circuit in
    let all = causes_inside circuit (IsCircuit-from_IsDesign c.args.design.now c.why.ensures.well_formed) c.args.net c.args.tick c.requires.is_net in
    let same = c.deref-cause-items.ensures.value ∙ c.in_ok-causes.ensures.causes in
    let here = subst (All (IsInside circuit c.args.tick)) (sym same) all in
    (here c.loop-cause.cause-index _ c.loop-cause-test.true).0

pub push_cause-requires-clause-waves : goal.push_cause-requires-clause-waves
push_cause-requires-clause-waves c =
    let circuit = c.args.design.now.circuit in
    let all = causes_inside circuit (IsCircuit-from_IsDesign c.args.design.now c.why.ensures.well_formed) c.args.net c.args.tick c.requires.is_net in
    let same = c.deref-cause-items.ensures.value ∙ c.in_ok-causes.ensures.causes in
    let here = subst (All (IsInside circuit c.args.tick)) (sym same) all in
    show_earlier circuit c.args.tick _ c.args.waves.now c.requires.waves (here c.loop-cause.cause-index _ c.loop-cause-test.true).1

pub returns : goal.returns
unfolding why_text
returns c =
    let done = flat_map-none (cause_line c.args.design.now) c.loop-cause.cause-index c.deref-cause-items.result.now c.loop-cause.text.items (omega arith) in
    sym done ∙ c.loop-cause.invariant
    ∙ ap (flat_map (cause_line c.args.design.now)) (c.deref-cause-items.ensures.value ∙ c.in_ok-causes.ensures.causes)
