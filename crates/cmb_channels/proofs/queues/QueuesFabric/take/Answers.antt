use Rattle.std.proofs.Common.{◌≡◌, ◌<◌, ◌++◌, [], length, drop, slice_index_or, slice_set, ap, sym, ◌∙◌, arith}
use Rattle.std.specs.Option.{option_to_list}
use Rattle.std.proofs.lemmas.List.{length-map, get_or-set_same}
use Rattle.cmb_channels.specs.Channels.{Channels}
use Rattle.cmb_channels.specs.Lists.{taken}
use Rattle.cmb_channels.specs.Waiting.{lists_in}
use Rattle.cmb_channels.proofs.WaitingLemmas.{list_at, lists_in-set}
use Rattle.cmb_channels.proofs.queues.QueuesFabric.take.Goals as goal
use Rattle.cmb_channels.proofs.queues.QueuesFabric.take.Goals.{After-pop_front}

exists : (c : After-pop_front) → c.args.pin < length (lists_in c.self.inside.queues.items)
exists c = omega (arith, c.requires, ap (λ (channels : Channels). length channels.lists) c.self.view_is)

waiting : (c : After-pop_front) → slice_index_or c.args.self.now.lists c.args.pin [] ≡ c.index_mut.result.now.items
waiting c =
    ap (λ (channels : Channels). slice_index_or channels.lists c.args.pin []) (sym c.self.view_is)
    ∙ list_at c.self.inside.queues.items c.args.pin _
    (omega (arith, exists c, length-map c.self.inside.queues.items (λ queue. queue.items))) c.index_mut.ensures.value

front : (c : After-pop_front) →
    slice_index_or c.args.self.now.lists c.args.pin []
    ≡ option_to_list c.pop_front.result
    ++ slice_index_or (lists_in (slice_set c.self.inside.queues.items c.args.pin c.pop_front.new.self)) c.args.pin []
front c =
    waiting c
    ∙ c.pop_front.ensures.items
    ∙ ap (λ rest. option_to_list c.pop_front.result ++ rest)
    (sym (ap (λ lists. slice_index_or lists c.args.pin []) (lists_in-set c.self.inside.queues.items c.args.pin c.pop_front.new.self)
    ∙ get_or-set_same (lists_in c.self.inside.queues.items) c.args.pin c.pop_front.new.self.items [] (exists c)))

lists : (c : After-pop_front) →
    lists_in (slice_set c.self.inside.queues.items c.args.pin c.pop_front.new.self) ≡ taken c.args.pin c.args.self.now.lists
lists c =
    lists_in-set c.self.inside.queues.items c.args.pin c.pop_front.new.self
    ∙ ap (λ items. slice_set (lists_in c.self.inside.queues.items) c.args.pin items)
    (c.pop_front.ensures.rest ∙ ap (drop 1) (sym (waiting c)))
    ∙ ap (λ (channels : Channels). slice_set channels.lists c.args.pin (drop 1 (slice_index_or c.args.self.now.lists c.args.pin []))) c.self.view_is

pub returns-clause-front : goal.returns-clause-front
returns-clause-front c = front (goal.at.returns-clause-front c).After-pop_front

pub returns-clause-lists : goal.returns-clause-lists
returns-clause-lists c = lists (goal.at.returns-clause-lists c).After-pop_front
