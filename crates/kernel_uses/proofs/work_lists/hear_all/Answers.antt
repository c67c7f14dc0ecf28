use Rattle.std.proofs.Common.{◌≡◌, ◌+◌, ◌<◌, Some, length, option_map, slice_get, sym, subst, ap, ◌∙◌, arith}
use Rattle.std.proofs.lemmas.Option.{same_Some}
use Rattle.design.specs.Circuit.{Net, pin_count}
use Rattle.design.specs.Pins.{first_pin}
use Rattle.design.proofs.CallerLemmas.{place_limit}
use Rattle.kernel_uses.proofs.Takes.{HeardSome, get_within, heard_all, heard_more, own_pin}
use Rattle.kernel_uses.proofs.work_lists.hear_all.Goals as goal
use Rattle.kernel_uses.proofs.work_lists.hear_all.Goals.{After-pins_of-place-end}

-- the net, and how many pins it has
there : (g : _) (c : After-pins_of-place-end g) → (n : Net) × (slice_get c.args.kernel.now.circuit c.args.net ≡ Some n)
there g c = get_within c.args.kernel.now.circuit c.args.net c.requires.net

pins : (g : _) (c : After-pins_of-place-end g) → length ((there g c).0).pins ≡ length c.pins_of-place-end.result.now
pins g c =
    let found = there g c in
    let here = ap (λ circuit. slice_get circuit c.args.net) c.design-design.ensures ∙ found.1 in
    let same : Some ((found.0).pins) ≡ Some c.pins_of-place-end.result.now =
    sym (ap (option_map (λ (n : Net). n.pins)) here) ∙ c.pins_of-place-end.ensures in
    cc

pub overflow_cast-place : goal.overflow_cast-place
overflow_cast-place g c =
    let at = goal.at.overflow_cast-place g c in
    let found = there g at.After-pins_of-place-end in
    let long = pins g at.After-pins_of-place-end in
    let known = subst (λ circuit. c.args.net < length circuit) (sym c.design-design.ensures) c.requires.net in
    let small = place_limit c.design-design.result.now c.nets.ensures.well_formed c.args.net c.loop-place.place known
    (λ n is. let same = same_Some n found.0 (sym is ∙ ap (λ circuit. slice_get circuit c.args.net) c.design-design.ensures ∙ found.1) in
    omega (arith, c.loop-place-test.true, long, ap (λ (m : Net). length m.pins) same)) in
    omega arith

pub loop-place-preserved : goal.loop-place-preserved
loop-place-preserved g c =
    let at = goal.at.loop-place-preserved g c in
    let found = there g at.After-pins_of-place-end in
    let long = pins g at.After-pins_of-place-end in
    let start = c.args.kernel.now in
    let is = c.pin.ensures.pin ∙ ap (λ circuit. first_pin circuit c.args.net + c.loop-place.place) c.design-design.ensures in
    let exists = subst (λ circuit. c.pin.result < pin_count circuit) c.design-design.ensures c.pin.ensures.within in
    let within = c.loop-place-test.true in
    heard_more c.args.net c.loop-place.place start c.loop-place.kernel c.take_all.new.kernel c.pin.result c.loop-place.invariant
    c.in_ok-take_all.ensures.ok c.in_ok-take_all.ensures.taken is
    (own_pin start.circuit c.args.net c.loop-place.place c.pin.result found.0 found.1 (omega (arith, within, long)) is exists)

pub returns-clause-ok : goal.returns-clause-ok
returns-clause-ok g c =
    let at = goal.at.returns-clause-ok g c in
    let found = there g at.After-pins_of-place-end in
    let long = pins g at.After-pins_of-place-end in
    let last = c.loop-place-test.false in
    let most = c.loop-place.auto.place-end in
    let all : c.loop-place.place ≡ length (found.0).pins = omega (arith, last, most, long) in
    heard_all c.args.net c.args.kernel.now c.loop-place.kernel found.0 found.1
    (subst (λ n. HeardSome c.args.net n c.args.kernel.now c.loop-place.kernel) all c.loop-place.invariant)
