use Rattle.std.proofs.Common.{◌≡◌, ◌+◌, [], max, length, drop, slice_index_or, ap, sym, ◌∙◌, arith}
use Rattle.std.proofs.lemmas.List.{at_drop_more, at_drop_all}
use Rattle.design.specs.Pins.{pins_fed}
use Rattle.design.proofs.CallerLemmas.{length-all_fed, pins_fed-within}
use Rattle.cmb_channels.specs.Channels.{Channels}
use Rattle.cmb_channels.proofs.AllLogs.{length-unread}
use Rattle.cmb_channels.proofs.FedPins.{pins_at}
use Rattle.cmb_channels.proofs.Most.{most_at, most_fed}
use Rattle.cmb_channels.proofs.logs.Logs.kept.Goals as goal
use Rattle.cmb_channels.proofs.logs.Logs.kept.Goals.{After-list-pin-items}

pub list-pin-items-requires : goal.list-pin-items-requires
list-pin-items-requires c =
    let fed = ap length c.self.invariant.fed_are ∙ length-all_fed _ c.self.inside.sources.items in
    omega (arith, c.requires, fed, ap (λ (channels : Channels). channels.nets) c.self.view_is)

pins : (c : After-list-pin-items) → c.list-pin-items.result.now ≡ pins_fed c.args.net c.args.self.now.sources
pins c =
    let nets = ap (λ (channels : Channels). channels.nets) c.self.view_is in
    c.list-pin-items.ensures
    ∙ pins_at c.self.inside.fed _ c.args.net c.self.inside.sources.items c.self.invariant.fed_are (omega (arith, c.requires, nets))
    ∙ ap (λ (channels : Channels). pins_fed c.args.net channels.sources) c.self.view_is

long : (c : After-list-pin-items) → length c.args.self.now.lists ≡ length c.args.self.now.sources
long c =
    ap (λ (channels : Channels). length channels.lists) (sym c.self.view_is)
    ∙ length-unread c.self.inside.logs.items c.self.inside.sources.items c.self.inside.counts.items c.self.invariant.logs_are.one_count_each
    ∙ ap (λ (channels : Channels). length channels.sources) c.self.view_is

pub loop-pin-init : goal.loop-pin-init
loop-pin-init c = omega arith

pub waiting-requires : goal.waiting-requires
waiting-requires c =
    let at = (goal.at.waiting-requires c).After-list-pin-items in
    let same = pins at in
    let place = c.loop-pin.pin-index in
    let within = pins_fed-within c.args.net c.args.self.now.sources place 0 (omega (arith, c.loop-pin-test.true, ap length same)) in
    omega (arith, within, ap (λ all. slice_index_or all place 0) same, long at)

pub loop-pin-preserved : goal.loop-pin-preserved
loop-pin-preserved c =
    let lists = c.args.self.now.lists in
    let items = c.list-pin-items.result.now in
    let place = c.loop-pin.pin-index in
    let step : most_at lists (drop place items)
    ≡ max (length (slice_index_or lists (slice_index_or items place 0) [])) (most_at lists (drop (place + 1) items)) =
    at_drop_more (most_at lists) items place 0 c.loop-pin-test.true in
    omega (arith, step, c.loop-pin.invariant, c.waiting.ensures, c.max-most.ensures)

pub returns : goal.returns
returns c =
    let at = (goal.at.returns c).After-list-pin-items in
    let lists = c.args.self.now.lists in
    let items = c.list-pin-items.result.now in
    let rest : most_at lists (drop c.loop-pin.pin-index items) ≡ 0 =
    at_drop_all (most_at lists) items c.loop-pin.pin-index (omega (arith, c.loop-pin-test.false)) in
    let all : c.loop-pin.most ≡ most_at lists items = omega (arith, rest, c.loop-pin.invariant) in
    all ∙ ap (most_at lists) (pins at) ∙ most_fed c.args.net c.args.self.now.sources lists (long at)
