use Rattle.std.proofs.Common.{◌≡◌, IfOk, refl, ap, ◌∙◌, arith}
use Rattle.std.specs.List.{range_with_len}
use Rattle.std.proofs.lemmas.Iterator.{items_from_collect, YieldsList-from_range}
use Rattle.design.proofs.CallerLemmas.{length-circuit}
use Rattle.prepared_runs.proofs.nets.shown_nets.Goals as goal

pub returns-in_ok-collect-in-All-clause-nets : goal.returns-in_ok-collect-in-All-clause-nets
returns-in_ok-collect-in-All-clause-nets c =
    let nets = c.nets-nets.result in
    let all : IfOk c.collect.result (λ nets. nets.items ≡ range_with_len 0 c.nets-nets.result) =
    items_from_collect c.collect.result c.collect.ensures.ran (YieldsList-from_range 0 nets nets refl (omega arith)) in
    let here : c.in_ok-collect-in-All.field-0.items ≡ range_with_len 0 c.nets-nets.result = rw c.in_ok-collect-in-All.was at all in
    rw (c.in-All.is, ← length-circuit c.args.design.now c.nets-nets.ensures.well_formed, ← c.nets-nets.ensures.count) here
