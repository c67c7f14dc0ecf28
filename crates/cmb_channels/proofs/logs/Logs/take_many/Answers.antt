use Rattle.std.proofs.Common.{◌+◌, ◌<◌, ◌≤◌, [], length, slice_index_or, ap, ◌∙◌, arith}
use Rattle.std.proofs.lemmas.List.{length-set}
use Rattle.std.proofs.lemmas.Option.{slice_get_within}
use Rattle.cmb_channels.specs.Channels.{Channels}
use Rattle.cmb_channels.specs.Lists.{taken_many}
use Rattle.cmb_channels.specs.Logs.{two_to_64, past, unread_lists}
use Rattle.cmb_channels.proofs.AllLogs.{Reading, pin_within, reading, are_there, is_counted, logs_passed, lists_passed, stored_set}
use Rattle.cmb_channels.proofs.logs.Logs.take_many.Goals as goal
use Rattle.cmb_channels.proofs.logs.Logs.take_many.Goals.{After-index_mut, After-pass}

pub index-source-requires : goal.index-source-requires
index-source-requires c =
    let exists = pin_within c.self.invariant.logs_are c.args.pin _ (ap (λ (channels : Channels). channels.lists) c.self.view_is) c.requires.pin in
    omega (arith, exists, c.self.inside.sources.ok.0)

pub index-requires : goal.index-requires
index-requires c =
    let exists = pin_within c.self.invariant.logs_are c.args.pin _ (ap (λ (channels : Channels). channels.lists) c.self.view_is) c.requires.pin in
    omega (arith, exists, c.self.invariant.logs_are.one_count_each, c.self.inside.counts.ok.0)

pub index_mut-requires : goal.index_mut-requires
index_mut-requires c =
    let exists = pin_within c.self.invariant.logs_are c.args.pin _ (ap (λ (channels : Channels). channels.lists) c.self.view_is) c.requires.pin in
    omega (arith, c.self.invariant.logs_are.nets c.args.pin c.index-source.result.now exists, c.index-source.ensures, c.self.inside.logs.ok.0)

reads : (c : After-index_mut) →
    Reading c.self.inside.logs.items c.self.inside.sources.items c.self.inside.counts.items c.args.pin c.index-source.result.now
    c.index.result.now c.index_mut.result.now
reads c =
    reading c.self.invariant.logs_are c.args.pin c.index-source.result.now c.index.result.now c.index_mut.result.now
    (pin_within c.self.invariant.logs_are c.args.pin _ (ap (λ (channels : Channels). channels.lists) c.self.view_is) c.requires.pin)
    c.index-source.ensures c.index.ensures c.index_mut.ensures.value

some : (c : After-index_mut) → 0 < c.args.count
some c = let more = c.if-count-eq0.false in omega (arith, more)

there : (c : After-index_mut) → past c.index_mut.result.now.cut c.index.result.now + c.args.count ≤ length c.index_mut.result.now.messages
there c =
    let at = reads c in
    are_there c.self.inside.logs.items c.self.inside.sources.items c.self.inside.counts.items c.self.invariant.logs_are
    c.index-source.result.now c.index_mut.result.now at.at c.args.pin c.index.result.now c.args.count at.fed at.has (some c)
    (omega (arith, c.requires.there, ap (λ (channels : Channels). length (slice_index_or channels.lists c.args.pin [])) c.self.view_is))

pub pass-requires : goal.pass-requires
pass-requires c = λ all.
    let after = (goal.at.pass-requires c).After-index_mut in
    let at = reads after in
    is_counted c.self.inside.logs.items c.self.inside.sources.items c.self.inside.counts.items c.self.invariant.logs_are
    c.index-source.result.now c.index_mut.result.now at.at c.args.pin c.index.result.now at.fed at.has
    (omega (arith, some after, there after))

pub index_mut-requires-2 : goal.index_mut-requires-2
index_mut-requires-2 c =
    let at = reads (goal.at.index_mut-requires-2 c).After-index_mut in
    omega (arith, slice_get_within c.self.inside.counts.items c.args.pin c.index.result.now at.has, c.self.inside.counts.ok.0)

few : (c : After-pass) → length c.index_mut.result.now.messages < two_to_64
few c = omega (arith, c.pass.ensures.few)

pub invariant_of-self : goal.invariant_of-self
invariant_of-self c =
    let before = (goal.at.invariant_of-self c).After-index_mut in
    let after = (goal.at.invariant_of-self c).After-pass in
    let at = reads before in
    stored_set c.self.invariant c.index-source.result.now c.pass.new.self _
    (logs_passed c.self.inside.logs.items c.self.inside.sources.items c.self.inside.counts.items c.self.invariant.logs_are
    c.index-source.result.now c.index_mut.result.now at.at c.args.pin c.index.result.now c.args.count at.fed at.has (some before)
    (there before) (few after) c.pass.new.self c.pass.ensures.passed)

pub returns-clause-lists : goal.returns-clause-lists
returns-clause-lists c =
    let before = (goal.at.returns-clause-lists c).After-index_mut in
    let after = (goal.at.returns-clause-lists c).After-pass in
    let at = reads before in
    lists_passed c.self.inside.logs.items c.self.inside.sources.items c.self.inside.counts.items c.self.invariant.logs_are
    c.index-source.result.now c.index_mut.result.now at.at c.args.pin c.index.result.now c.args.count at.fed at.has (some before)
    (there before) (few after) c.pass.new.self c.pass.ensures.passed
    ∙ ap (λ (channels : Channels). taken_many c.args.count c.args.pin channels.lists) c.self.view_is

pub returns-clause-pins : goal.returns-clause-pins
returns-clause-pins c =
    let before = (goal.at.returns-clause-pins c).After-index_mut in
    let after = (goal.at.returns-clause-pins c).After-pass in
    let at = reads before in
    ap length (lists_passed c.self.inside.logs.items c.self.inside.sources.items c.self.inside.counts.items c.self.invariant.logs_are
    c.index-source.result.now c.index_mut.result.now at.at c.args.pin c.index.result.now c.args.count at.fed at.has (some before)
    (there before) (few after) c.pass.new.self c.pass.ensures.passed)
    ∙ length-set (unread_lists c.self.inside.logs.items c.self.inside.sources.items c.self.inside.counts.items) c.args.pin _
    ∙ ap (λ (channels : Channels). length channels.lists) c.self.view_is
