use Rattle.std.proofs.Common.{◌≡◌, Some, slice_get, refl, ap, arith}
use Rattle.std.proofs.lemmas.Option.{slice_get_read}
use Rattle.cmb_channels.specs.Channels.{Channels}
use Rattle.cmb_channels.specs.Lists.{most_waiting}
use Rattle.cmb_channels.proofs.AllLogs.{most_within, most_none}
use Rattle.cmb_channels.proofs.logs.Logs.to_keep.Goals as goal
use Rattle.cmb_channels.proofs.logs.Logs.to_keep.Goals.{After-index-log}

log_at : (c : After-index-log) → slice_get c.self.inside.logs.items c.args.net ≡ Some c.index-log.result.now
log_at c =
    slice_get_read c.self.inside.logs.items _ c.args.net _ refl
    (omega (arith, c.requires, ap (λ (channels : Channels). channels.nets) c.self.view_is)) c.index-log.ensures

pub returns-then-is_read : goal.returns-then-is_read
returns-then-is_read c =
    let at = log_at (goal.at.returns-then-is_read c).After-index-log in
    let none = most_none c.self.inside.logs.items c.self.inside.sources.items c.self.inside.counts.items c.self.invariant.logs_are c.args.net
    c.index-log.result.now at (c.is_read.ensures.0 c.if-is_read.true) in
    omega (arith, none, ap (λ (channels : Channels). most_waiting c.args.net channels.sources channels.lists) c.self.view_is)

pub returns-else-is_full : goal.returns-else-is_full
returns-else-is_full c =
    let at = log_at (goal.at.returns-else-is_full c).After-index-log in
    let most = most_within c.self.inside.logs.items c.self.inside.sources.items c.self.inside.counts.items c.self.invariant.logs_are c.args.net
    c.index-log.result.now at in
    omega (arith, most, c.len.ensures, ap (λ (channels : Channels). most_waiting c.args.net channels.sources channels.lists) c.self.view_is)
