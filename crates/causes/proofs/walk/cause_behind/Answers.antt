use Rattle.std.proofs.Common.{arith, ◌≡◌, ◌≤◌, ◌∙◌, ap, sym, slice_get, None, get_or}
use Rattle.std.proofs.lemmas.Option.{none-some}
use Rattle.design.specs.Equations.{signals_in, value_of}
use Rattle.causes.specs.Marks.{mark_place}
use Rattle.causes.specs.Swings.{unless_swing}
use Rattle.causes.proofs.Chain.{explained-le}
use Rattle.causes.proofs.Marked.{marked_cause, taken_by}
use Rattle.causes.proofs.SignalsUpTo.{wave_each, shown_up_to, same_reason, same_since}
use Rattle.causes.proofs.SwingStarts.{same_unless_swing}
use Rattle.causes.proofs.walk.cause_behind.Goals as goal

pub shown-value-requires : goal.shown-value-requires
shown-value-requires c =
    let each = wave_each c.args.design.now.circuit c.args.tick c.args.waves.now c.requires.waves in omega (arith, each, c.requires.is_net)

pub reason_at-requires-clause-all_nets : goal.reason_at-requires-clause-all_nets
reason_at-requires-clause-all_nets c = wave_each c.args.design.now.circuit c.args.tick c.args.waves.now c.requires.waves

pub since-from-requires : goal.since-from-requires
since-from-requires c =
    let each = wave_each c.args.design.now.circuit c.args.tick c.args.waves.now c.requires.waves in omega (arith, each, c.requires.is_net)

pub unless_swing-requires : goal.unless_swing-requires
unless_swing-requires c =
    let each = wave_each c.args.design.now.circuit c.args.tick c.args.waves.now c.requires.waves in omega (arith, each, c.requires.is_net)

pub returns : goal.returns
returns c causes top marked show took =
    let circuit = c.args.design.now.circuit in
    let net = c.args.net in
    let tick = c.args.tick in
    let waves = c.args.waves.now in
    let marks = c.args.marks.now in
    let until = shown_up_to circuit tick waves c.requires.waves in
    let value = c.shown-value.ensures ∙ until net tick (omega arith) in
    let from_is = c.since-from.ensures.since ∙ same_since (signals_in waves) (value_of circuit) net tick (λ at le. until net at le) in
    let at = c.explained_at-at.result in
    let by : at ≤ tick =
    let le = explained-le tick c.since-from.result (get_or marks c.mark_place.result None) c.since-from.ensures.within in
    omega (arith, le, c.explained_at-at.ensures) in
    let reason = c.in_ok-reason.ensures
    ∙ same_reason (signals_in waves) (value_of circuit) (slice_get circuit net) at
    (λ number early le. until number early (omega (arith, le, by))) in
    let again = get_or marks c.mark_place.result None in
    let again_is : again ≡ get_or marks (mark_place net c.shown-value.result) None = ap (λ k. get_or marks k None) c.mark_place.ensures in
    let found = again_is ∙ marked net c.shown-value.result c.requires.is_net in
    let swings = c.unless_swing.ensures
    ∙ same_unless_swing (signals_in waves net) (value_of circuit net) at again c.in_ok-reason.reason
    (λ later early is le.
    let by = taken_by top None causes net c.shown-value.result later (λ tick e. absurd (none-some tick e)) took (sym found ∙ is) in
    shown_up_to circuit top waves show net early (omega (arith, le, by)))
    ∙ ap (unless_swing (value_of circuit net) at again) reason in
    marked_cause circuit causes marks net tick c.since-from.result at c.shown-value.result again c.unless_swing.result
    marked c.requires.is_net value from_is again_is c.explained_at-at.ensures swings
