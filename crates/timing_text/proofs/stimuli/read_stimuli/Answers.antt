use Rattle.std.proofs.Common.{[], replicate, ap, sym, ◌∙◌, arith}
use Rattle.std.specs.Result.{result_map_both}
use Rattle.std.proofs.lemmas.List.{length-map, map-set}
use Rattle.timing_text.specs.Stimuli.{net_stimuli}
use Rattle.timing_text.proofs.GivenStimuli.{Given-first, Given-length, Given-had, Given-stops, Given-more, stimuli_of-lines}
use Rattle.timing_text.proofs.Rising.{is_after_last}
use Rattle.timing_text.proofs.stimuli.read_stimuli.Goals as goal

pub index_mut-changes-requires : goal.index_mut-changes-requires
index_mut-changes-requires c =
    let lengths = length-map c.loop-line.stimuli.items (λ changes. changes.items) in
    omega (arith, Given-length c.loop-line.invariant, c.in_ok-given.ensures.net)

pub loop-line-init : goal.loop-line-init
loop-line-init c =
    let none = c.in_ok-stimuli.ensures ∙ ap (λ nets. replicate nets []) c.nets.ensures.nets in
    rw (c.into_iter-line-iterator.ensures.into_iter_gives, c.code_lines-line-items.ensures)
    (Given-first c.args.netlist.now _ _ none)

pub returns-then-not-is_after-clause-stimuli : goal.returns-then-not-is_after-clause-stimuli
returns-then-not-is_after-clause-stimuli c = λ _.
    let netlist = c.args.netlist.now in
    let given = c.in_ok-given in
    let held = Given-had (λ changes. changes.items) c.loop-line.stimuli.items c.loop-line.invariant given.ensures.net c.index_mut-changes.ensures.value in
    let early = ap (is_after_last given.given.change.tick) (sym c.deref.ensures.value) ∙ sym c.is_after.ensures ∙ c.if-not-is_after.true in
    let stops = Given-stops c.loop-line.invariant c.in-Some.ensures.steps given.ensures.net given.ensures.change held early in
    ap (result_map_both (net_stimuli netlist) (λ fault. fault)) (sym (stimuli_of-lines netlist c.args.text.now c.if-text-gt-LONGEST_TEXT.false ∙ stops))

pub loop-line-preserved : goal.loop-line-preserved
loop-line-preserved c =
    let given = c.in_ok-given in
    let held = Given-had (λ changes. changes.items) c.loop-line.stimuli.items c.loop-line.invariant given.ensures.net c.index_mut-changes.ensures.value in
    let later = ap (is_after_last given.given.change.tick) (sym c.deref.ensures.value) ∙ sym c.is_after.ensures ∙ c.if-not-is_after.false in
    rw (map-set, c.in_ok-push.ensures.items)
    (Given-more c.nets.ensures.well_formed.distinct c.loop-line.invariant c.in-Some.ensures.steps given.ensures.net given.ensures.change held later)
