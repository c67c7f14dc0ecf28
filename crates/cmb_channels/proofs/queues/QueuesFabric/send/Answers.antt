use Rattle.std.proofs.Common.{◌≡◌, ℕ, List, [], ◌∷◌, length, slice_index_or, ap, sym, ◌∙◌, arith}
use Rattle.std.proofs.lemmas.List.{length-map}
use Rattle.std.proofs.lemmas.List.FromFn.{length-map-range_with_len}
use Rattle.cmb_channels.specs.Lists.{sent}
use Rattle.design.specs.Pins.{pins_fed, all_fed}
use Rattle.design.proofs.CallerLemmas.{pins_fed-rising, pins_fed-within}
use Rattle.cmb_channels.specs.Channels.{Channels, source_in, sources_in}
use Rattle.cmb_channels.specs.Waiting.{appended, lists_in}
use Rattle.cmb_channels.proofs.Appended.{appended-fed}
use Rattle.cmb_channels.proofs.FedPins.{pins_at}
use Rattle.cmb_channels.proofs.WaitingLemmas.{length-appended}
use Rattle.cmb_channels.proofs.queues.QueuesFabric.send.Goals as goal
use Rattle.cmb_channels.proofs.queues.QueuesFabric.send.Goals.{After-list-pins, After-push_at_all}

abbrev sources : (c : After-list-pins) → List ℕ
sources c = sources_in c.self.inside.fed (length c.self.inside.queues.items)

fed : (c : After-list-pins) → c.list-pins.result.now ≡ pins_fed c.args.net (sources c)
fed c =
    let nets = ap (λ (channels : Channels). channels.nets) c.self.view_is in
    c.list-pins.ensures ∙ pins_at c.self.inside.fed _ c.args.net (sources c) c.self.invariant (omega (arith, c.requires, nets))

-- there is a source for each queue
long : (c : After-list-pins) → length (sources c) ≡ length c.self.inside.queues.items
long c = length-map-range_with_len (source_in c.self.inside.fed) 0 (length c.self.inside.queues.items)

pub reserve_places-requires : goal.reserve_places-requires
reserve_places-requires c = λ k d within.
    let at = goal.at.reserve_places-requires c in
    let same = fed at.After-list-pins in
    let below = pins_fed-within c.args.net (sources at.After-list-pins) k d (omega (arith, within, ap length same)) in
    omega (arith, ap (λ pins. slice_index_or pins k d) same, below, long at.After-list-pins, c.self.inside.queues.ok.0)

pub push_at_all-requires-clause-rising : goal.push_at_all-requires-clause-rising
push_at_all-requires-clause-rising c = λ i j d before within.
    let at = goal.at.push_at_all-requires-clause-rising c in
    let same = fed at.After-list-pins in
    let first = ap (λ pins. slice_index_or pins i d) same in
    let second = ap (λ pins. slice_index_or pins j d) same in
    omega
    (arith, first, second, pins_fed-rising c.args.net (sources at.After-list-pins) i j d before (omega (arith, within, ap length same)))

pub push_at_all-requires-clause-exist : goal.push_at_all-requires-clause-exist
push_at_all-requires-clause-exist c = λ k d within.
    let at = goal.at.push_at_all-requires-clause-exist c in
    let same = fed at.After-list-pins in
    let below = pins_fed-within c.args.net (sources at.After-list-pins) k d (omega (arith, within, ap length same)) in
    let old = length-map c.self.inside.queues.items (λ queue. queue.items) in
    let new = length-map c.reserve_places.new.queues.items (λ queue. queue.items) in
    omega (
      arith,
      ap (λ pins. slice_index_or pins k d) same,
      below,
      old,
      new,
      ap length c.reserve_places.ensures.lists,
      long at.After-list-pins,
      c.reserve_places.new.queues.ok.0,
    )

same_lists : (c : After-push_at_all) → length (lists_in c.push_at_all.new.queues.items) ≡ length (lists_in c.self.inside.queues.items)
same_lists c =
    ap length c.push_at_all.ensures
    ∙ length-appended c.args.message c.list-pins.result.now (lists_in c.reserve_places.new.queues.items)
    ∙ ap length c.reserve_places.ensures.lists

same_queues : (c : After-push_at_all) → length c.push_at_all.new.queues.items ≡ length c.self.inside.queues.items
same_queues c =
    sym (length-map c.push_at_all.new.queues.items (λ queue. queue.items))
    ∙ same_lists c
    ∙ length-map c.self.inside.queues.items (λ queue. queue.items)

pub invariant_of-self-2 : goal.invariant_of-self-2
invariant_of-self-2 c =
    c.self.invariant
    ∙ ap (λ pins. all_fed (length c.self.inside.fed) (sources_in c.self.inside.fed pins))
    (sym (same_queues (goal.at.invariant_of-self-2 c).After-push_at_all))

pub returns-clause-ok : goal.returns-clause-ok
returns-clause-ok c =
    let at = (goal.at.returns-clause-ok c).After-list-pins in
    let lists = lists_in c.self.inside.queues.items in
    c.push_at_all.ensures
    ∙ ap (appended c.args.message c.list-pins.result.now) c.reserve_places.ensures.lists
    ∙ ap (λ pins. appended c.args.message pins lists) (fed at)
    ∙ appended-fed c.args.message c.args.net (sources at) lists
    (length-map c.self.inside.queues.items (λ queue. queue.items) ∙ sym (long at))
    ∙ ap (λ (channels : Channels). sent c.args.net (c.args.message ∷ []) channels.sources channels.lists) c.self.view_is

pub returns-clause-pins : goal.returns-clause-pins
returns-clause-pins c =
    same_lists (goal.at.returns-clause-pins c).After-push_at_all
    ∙ ap (λ (channels : Channels). length channels.lists) c.self.view_is

pub returns-clause-sources : goal.returns-clause-sources
returns-clause-sources c =
    ap (sources_in c.self.inside.fed) (same_queues (goal.at.returns-clause-sources c).After-push_at_all)
    ∙ ap (λ (channels : Channels). channels.sources) c.self.view_is
