use Rattle.std.proofs.Common.{◌≡◌, ◌≤◌, Some, slice_get, refl, ap, ◌∙◌, arith}
use Rattle.std.proofs.lemmas.List.{length-set}
use Rattle.std.proofs.lemmas.Option.{slice_get_read}
use Rattle.cmb_channels.specs.Channels.{Channels}
use Rattle.cmb_channels.specs.Lists.{most_waiting}
use Rattle.cmb_channels.specs.Logs.{unread_lists}
use Rattle.cmb_channels.proofs.AllLogs.{logs_cut, lists_cut, stored_set}
use Rattle.cmb_channels.proofs.logs.Logs.make_room.Goals as goal
use Rattle.cmb_channels.proofs.logs.Logs.make_room.Goals.{After-index_mut, After-cut_to}

log_at : (c : After-index_mut) → slice_get c.self.inside.logs.items c.args.net ≡ Some c.index_mut.result.now
log_at c =
    slice_get_read c.self.inside.logs.items _ c.args.net _ refl
    (omega (arith, c.requires, ap (λ (channels : Channels). channels.nets) c.self.view_is)) c.index_mut.ensures.value

enough : (c : After-index_mut) →
    most_waiting c.args.net c.self.inside.sources.items (unread_lists c.self.inside.logs.items c.self.inside.sources.items c.self.inside.counts.items)
    ≤ c.to_keep-kept.result
enough c = omega (arith, c.to_keep-kept.ensures, ap (λ (channels : Channels). most_waiting c.args.net channels.sources channels.lists) c.self.view_is)

pub invariant_of-self : goal.invariant_of-self
invariant_of-self c =
    let at = (goal.at.invariant_of-self c).After-index_mut in
    stored_set c.self.invariant c.args.net c.cut_to.new.self c.self.inside.counts.items
    (logs_cut c.self.inside.logs.items c.self.inside.sources.items c.self.inside.counts.items c.self.invariant.logs_are c.args.net
    c.index_mut.result.now (log_at at) c.to_keep-kept.result (enough at) c.cut_to.new.self c.cut_to.ensures)

pub returns : goal.returns
returns c =
    let at = (goal.at.returns c).After-index_mut in
    let lists = lists_cut c.self.inside.logs.items c.self.inside.sources.items c.self.inside.counts.items c.self.invariant.logs_are c.args.net
    c.index_mut.result.now (log_at at) c.to_keep-kept.result (enough at) c.cut_to.new.self c.cut_to.ensures in
    let nets = length-set c.self.inside.logs.items c.args.net c.cut_to.new.self in
    (λ i. record { lists = lists i; sources = c.self.inside.sources.items; nets = nets i }) ∙ c.self.view_is
