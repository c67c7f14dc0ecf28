use Rattle.std.proofs.Common.{◌<◌, length, get_or, ap, sym, ◌∙◌, subst, arith, All, slice_get}
use Rattle.logic3.specs.declared.change.Change.{Change}
use Rattle.logic3.specs.Wave.{Wave}
use Rattle.logic3.proofs.CallerLemmas.{All-wave_of}
use Rattle.design.specs.Equations.{equation_at, value_of, signals_in}
use Rattle.design.proofs.WellFormed.{IsCircuit-from_IsDesign}
use Rattle.design.proofs.Ticks.{length-ahead_at, get_or-ahead_at, set-ahead_at, ahead_at-all, equation-ahead_at, carried}
use Rattle.design.proofs.plain.advance.Goals as goal

pub net_value-requires-clause-all_nets : goal.net_value-requires-clause-all_nets
net_value-requires-clause-all_nets c =
    ap length c.loop-net.invariant ∙ length-ahead_at c.args.design.now.circuit c.args.tick c.loop-net.net

pub bounds-waves-net : goal.bounds-waves-net
bounds-waves-net c =
    let all = ap length c.loop-net.invariant ∙ length-ahead_at c.args.design.now.circuit c.args.tick c.loop-net.net in omega arith

pub extend-requires-clause-later : goal.extend-requires-clause-later
extend-requires-clause-later c =
    let circuit = c.args.design.now.circuit in
    let here = ap (λ waves. get_or waves c.loop-net.net c.index-waves-net.result) c.loop-net.invariant
    ∙ get_or-ahead_at circuit c.args.tick c.loop-net.net c.index-waves-net.result (omega arith) in
    subst (λ (wave : Wave). All (λ (change : Change). change.tick < c.args.tick) wave.changes) (sym here)
    (All-wave_of (value_of circuit c.loop-net.net) 0 c.args.tick)

pub loop-net-preserved : goal.loop-net-preserved
loop-net-preserved c =
    let circuit = c.args.design.now.circuit in
    let formed = IsCircuit-from_IsDesign c.args.design.now c.nets-net-end.ensures.well_formed in
    let here = ap (λ waves. get_or waves c.loop-net.net c.index-waves-net.result) c.loop-net.invariant
    ∙ get_or-ahead_at circuit c.args.tick c.loop-net.net c.index-waves-net.result (omega arith) in
    let value = c.in_ok-value.ensures
    ∙ ap (λ waves. equation_at (slice_get circuit c.loop-net.net) (signals_in waves) c.args.tick) c.loop-net.invariant
    ∙ equation-ahead_at circuit formed c.args.tick c.loop-net.net in
    let wave = c.in_ok-extend.ensures ∙ carried circuit c.args.tick c.loop-net.net _ _ here value in
    rw (c.loop-net.invariant, wave) (set-ahead_at circuit c.args.tick c.loop-net.net (omega arith))

pub returns : goal.returns
returns c = c.loop-net.invariant ∙ ahead_at-all c.args.design.now.circuit c.args.tick c.loop-net.net (omega arith)
