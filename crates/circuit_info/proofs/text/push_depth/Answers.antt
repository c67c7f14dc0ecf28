use Rattle.std.proofs.Common.{◌<◌, length, codes, All, sym, ap, ◌∙◌, subst}
use Rattle.circuit_info.specs.Levels.{greatest}
use Rattle.circuit_info.specs.Loops.{IsDepths}
use Rattle.circuit_info.specs.Text.{count_line, loop_line, by_levels, by_loop}
use Rattle.circuit_info.proofs.NamedLoops.{loop_below}
use Rattle.circuit_info.proofs.text.push_depth.Goals as goal

pub push_loop-requires : goal.push_loop-requires
push_loop-requires c =
    subst (All (λ net. net < length c.args.netlist.now.nets)) (sym c.as_slice-in-Loop.ensures.value)
    (loop_below c.args.netlist.now c.in-Loop.nets.items (subst (IsDepths c.args.netlist.now) c.in-Loop.is c.in_ok-levels.ensures.depths))

pub returns-in_ok-push_count-in-Levels : goal.returns-in_ok-push_count-in-Levels
returns-in_ok-push_count-in-Levels c = record {
  line = count_line (codes "levels") c.greatest.result;
  holds = by_levels c.in-Levels.levels.items (subst (IsDepths c.args.netlist.now) c.in-Levels.is c.in_ok-levels.ensures.depths)
      (ap (count_line (codes "levels")) (c.greatest.ensures ∙ ap greatest c.as_slice.ensures.value));
  added = c.in_ok-push_count-in-Levels.ensures;
}

pub returns-in_ok-push_loop-in-Loop : goal.returns-in_ok-push_loop-in-Loop
returns-in_ok-push_loop-in-Loop c = record {
  line = loop_line c.args.netlist.now c.as_slice-in-Loop.result.now;
  holds = by_loop c.in-Loop.nets.items (subst (IsDepths c.args.netlist.now) c.in-Loop.is c.in_ok-levels.ensures.depths)
      (ap (loop_line c.args.netlist.now) c.as_slice-in-Loop.ensures.value);
  added = c.in_ok-push_loop-in-Loop.ensures;
}
