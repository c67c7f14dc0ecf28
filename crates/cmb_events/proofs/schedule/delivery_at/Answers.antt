use Rattle.std.proofs.Common.{◌≡◌, ◌<◌, ◌∙◌, Some, length, option_map, slice_get, sym, ap, arith}
use Rattle.std.specs.Option.{ForSome}
use Rattle.std.proofs.lemmas.Option.{same_Some}
use Rattle.design.specs.Circuit.{Net}
use Rattle.design.proofs.CallerLemmas.{place_limit}
use Rattle.cmb_events.proofs.schedule.delivery_at.Goals as goal

pub overflow_cast-place : goal.overflow_cast-place
overflow_cast-place c =
    let inside : ForSome (slice_get c.args.design.now.circuit c.args.net) (λ (n : Net). c.args.place < length n.pins) = λ n at.
    let same = same_Some n.pins c.pins_of.result.now (sym (ap (option_map (λ (m : Net). m.pins)) at) ∙ c.pins_of.ensures) in
    omega (arith, ap length same, c.if-place-pins_of.true) in
    let small = place_limit c.args.design.now c.nets.ensures.well_formed c.args.net c.args.place c.requires inside in
    omega arith
