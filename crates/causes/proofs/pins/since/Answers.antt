use Rattle.std.proofs.Common.{arith, ◌∙◌, sym, ap, ◌≤◌, subst}
use Rattle.std.specs.Option.{unwrap_or}
use Rattle.logic3.proofs.CallerLemmas.{AllPairs-Alternates}
use Rattle.design.specs.Equations.{signals_in}
use Rattle.causes.specs.Deciding.{last_tick}
use Rattle.causes.proofs.LastTicks.{since-signals, since-le}
use Rattle.causes.proofs.pins.since.Goals as goal

pub last_tick-requires : goal.last_tick-requires
last_tick-requires c = rw c.changes.ensures.changes (AllPairs-Alternates _ 0 _ c.changes.ensures.alternates)

pub returns-clause-since : goal.returns-clause-since
returns-clause-since c =
    let is = since-signals c.args.waves.now c.args.net c.args.tick c.index-waves-net.result (omega arith) c.index-waves-net.is c.changes.ensures.alternates in
    c.unwrap_or.ensures ∙ ap (λ found. unwrap_or found 0) (c.last_tick.ensures ∙ ap (λ changes. last_tick changes c.args.tick) c.changes.ensures.changes) ∙ sym is

pub returns-clause-within : goal.returns-clause-within
returns-clause-within c =
    let is = since-signals c.args.waves.now c.args.net c.args.tick c.index-waves-net.result (omega arith) c.index-waves-net.is c.changes.ensures.alternates in
    let same = c.unwrap_or.ensures ∙ ap (λ found. unwrap_or found 0) (c.last_tick.ensures ∙ ap (λ changes. last_tick changes c.args.tick) c.changes.ensures.changes) ∙ sym is in
    subst (λ n. n ≤ c.args.tick) (sym same) (since-le (signals_in c.args.waves.now c.args.net) c.args.tick)
