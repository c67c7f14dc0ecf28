use Rattle.std.proofs.Common.{◌∙◌, ℕ, Vec, ap, option_map, sym}
use Rattle.std.specs.declared.alloc.Global.{Global}
use Rattle.prepared_runs.proofs.MeantNets.{more_buses, no_bus}
use Rattle.prepared_runs.proofs.lanes.buses_meant.Goals as goal

pub returns-in_default-clause-err : goal.returns-in_default-clause-err
returns-in_default-clause-err c =
    no_bus c.args.netlist.now c.args.words.now c.loop-name.name-index _ _ c.loop-name-test.true c.loop-name.invariant
    (sym c.in_ok-nets.ensures.nets ∙ ap (option_map (λ (nets : Vec ℕ Global). nets.items)) c.in_default.is)

pub loop-name-preserved : goal.loop-name-preserved
loop-name-preserved c =
    more_buses c.args.netlist.now c.args.words.now c.loop-name.name-index _ c.loop-name.buses.items _ _ c.loop-name-test.true
    c.in_ok-push.ensures.items
    (sym c.in_ok-nets.ensures.nets ∙ ap (option_map (λ (nets : Vec ℕ Global). nets.items)) c.in-Some.is)
    ∙ c.loop-name.invariant
