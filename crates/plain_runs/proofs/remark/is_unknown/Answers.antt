use Rattle.std.proofs.Common.{◌+◌, length, ap, ◌∙◌, arith}
use Rattle.design.proofs.CallerLemmas.{length-waves_of}
use Rattle.plain_runs.proofs.Throughout.{unknown_by_changes}
use Rattle.plain_runs.proofs.remark.is_unknown.Goals as goal

pub bounds-waves-net : goal.bounds-waves-net
bounds-waves-net c =
    omega (arith, c.requires.net, ap length c.requires.waves, length-waves_of c.args.design.now.circuit (c.args.horizon + 1))

pub returns : goal.returns
returns c =
    c.is_empty.ensures
    ∙ unknown_by_changes c.args.design.now.circuit c.args.horizon c.args.net c.args.waves.now c.index-waves-net.result c.changes.result.now c.requires.net
    c.requires.waves c.index-waves-net.is c.changes.ensures.changes
