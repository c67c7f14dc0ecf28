use Rattle.fanin_cone.proofs.ConeTexts.{some-from_test}
use Rattle.fanin_cone.proofs.bench_cones.cone_text.Goals as goal

pub extract_text-requires : goal.extract_text-requires
extract_text-requires c = some-from_test c.args.names.now c.if-is_empty.ensures

pub returns-clause-cone : goal.returns-clause-cone
returns-clause-cone c = λ not_memory.
    rw (← c.in_ok-netlist.ensures.netlist (λ same. (cc))) (c.extract_text.ensures not_memory)
