use Rattle.std.proofs.Common.{[], slice_index_or, ap, sym, ◌∙◌, arith}
use Rattle.cmb_channels.specs.Channels.{Channels}
use Rattle.cmb_channels.proofs.AllLogs.{Reading, reading, pin_within, count_within, unread_at, unread_is}
use Rattle.cmb_channels.proofs.logs.Logs.waiting_messages.Goals as goal
use Rattle.cmb_channels.proofs.logs.Logs.waiting_messages.Goals.{After-index-2}

pub index-source-requires : goal.index-source-requires
index-source-requires c =
    let exists = pin_within c.self.invariant.logs_are c.args.pin _ (ap (λ (channels : Channels). channels.lists) c.self.view_is) c.requires in
    omega (arith, exists, c.self.inside.sources.ok.0)

pub index-requires : goal.index-requires
index-requires c =
    let exists = pin_within c.self.invariant.logs_are c.args.pin _ (ap (λ (channels : Channels). channels.lists) c.self.view_is) c.requires in
    omega (arith, c.self.invariant.logs_are.nets c.args.pin c.index-source.result.now exists, c.index-source.ensures, c.self.inside.logs.ok.0)

pub index-requires-2 : goal.index-requires-2
index-requires-2 c =
    let exists = pin_within c.self.invariant.logs_are c.args.pin _ (ap (λ (channels : Channels). channels.lists) c.self.view_is) c.requires in
    omega (arith, exists, c.self.invariant.logs_are.one_count_each, c.self.inside.counts.ok.0)

reads : (c : After-index-2) →
    Reading c.self.inside.logs.items c.self.inside.sources.items c.self.inside.counts.items c.args.pin c.index-source.result.now
    c.index-2.result.now c.index.result.now
reads c =
    reading c.self.invariant.logs_are c.args.pin c.index-source.result.now c.index-2.result.now c.index.result.now
    (pin_within c.self.invariant.logs_are c.args.pin _ (ap (λ (channels : Channels). channels.lists) c.self.view_is) c.requires)
    c.index-source.ensures c.index-2.ensures c.index.ensures

pub unread-requires : goal.unread-requires
unread-requires c =
    let at = reads (goal.at.unread-requires c).After-index-2 in
    count_within c.self.inside.logs.items c.self.inside.sources.items c.self.inside.counts.items c.self.invariant.logs_are c.index-source.result.now
    c.index.result.now at.at c.args.pin c.index-2.result.now at.fed at.has

pub returns : goal.returns
returns c =
    let at = reads (goal.at.returns c).After-index-2 in
    c.unread.ensures
    ∙ sym (unread_is c.self.inside.logs.items c.index-source.result.now c.index.result.now c.index-2.result.now at.at)
    ∙ sym (unread_at c.self.inside.logs.items c.self.inside.sources.items c.self.inside.counts.items c.args.pin
    c.index-source.result.now c.index-2.result.now at.fed at.has)
    ∙ ap (λ (channels : Channels). slice_index_or channels.lists c.args.pin []) c.self.view_is
