use Rattle.std.proofs.Common.{Ok, Err, ap}
use Rattle.std.specs.Result.{result_map_both}
use Rattle.std.proofs.lemmas.Result.{err_from_is_err_and}
use Rattle.netlist.specs.Names.{seen_names}
use Rattle.fanin_cone.specs.ConeText.{text_fault_of_bench, text_fault_of_cone}
use Rattle.fanin_cone.proofs.ConeTexts.{IsConeOfNetlist-extracted, IsConeOfNetlist-refused}
use Rattle.fanin_cone.proofs.bench_cones.extract_text.Goals as goal

pub returns-in_err-cones : goal.returns-in_err-cones
returns-in_err-cones c =
    let p = err_from_is_err_and c.from_residual.result c.from_residual.ensures.1 in
    rw (p.1, p.2) (λ not_memory.
    IsConeOfNetlist-refused c.args.netlist.now (seen_names c.args.names.now) c.requires
    c.in_err-cones.field-0.0 c.in_err-cones.ensures.unknown (λ same. not_memory (ap (λ fault. Err (text_fault_of_cone fault)) same)))

pub returns-in_err-write : goal.returns-in_err-write
returns-in_err-write c =
    let p = err_from_is_err_and c.from_residual-in_err-write.result c.from_residual-in_err-write.ensures.1 in
    rw (p.1, p.2) (λ not_memory.
    IsConeOfNetlist-extracted c.args.netlist.now (seen_names c.args.names.now) c.requires
    c.in_ok-cones.cones c.in_ok-cones.ensures.unknown c.in_ok-cones.ensures.extracted (Err c.in_err-write.field-0.0)
    (c.in_err-write.ensures.written (λ same. not_memory (ap (result_map_both (λ text. text) text_fault_of_bench) same))))

pub returns : goal.returns
returns c = λ not_memory.
    IsConeOfNetlist-extracted c.args.netlist.now (seen_names c.args.names.now) c.requires
    c.in_ok-cones.cones c.in_ok-cones.ensures.unknown c.in_ok-cones.ensures.extracted (Ok c.in_ok-write.field-0.items)
    (c.in_ok-write.ensures.written (λ same. (cc)))
