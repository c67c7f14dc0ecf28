use Rattle.std.proofs.Common.{codes, ◌∙◌, subst}
use Rattle.circuit_info.specs.Text.{IsGreatestLine}
use Rattle.circuit_info.proofs.OneText.{joined}
use Rattle.circuit_info.proofs.text.info_text.Goals as goal

pub returns : goal.returns
returns c = record {
  fan_outs = c.in_ok-outs.outs.items;
  fan_in_line = c.in_ok-push_greatest.ensures.line;
  fan_out_line = c.in_ok-push_greatest-2.ensures.line;
  depth_line = c.in_ok-push_depth.ensures.line;
  counted = c.in_ok-outs.ensures;
  fan_in = subst (λ numbers. IsGreatestLine c.args.netlist.now (codes "fan-in") numbers c.in_ok-push_greatest.ensures.line)
      (c.as_slice.ensures.value ∙ c.in_ok-ins.ensures) c.in_ok-push_greatest.ensures.holds;
  fan_out = subst (λ numbers. IsGreatestLine c.args.netlist.now (codes "fan-out") numbers c.in_ok-push_greatest-2.ensures.line)
      c.as_slice-2.ensures.value c.in_ok-push_greatest-2.ensures.holds;
  depth = c.in_ok-push_depth.ensures.holds;
  lines = joined _ _ _ _ _ _ _ _ _ _ _ _ _ c.new-text.ensures.items c.in_ok-push_sizes.ensures.lines c.in_ok-push_gates.ensures
      c.in_ok-push_greatest.ensures.added c.in_ok-push_greatest-2.ensures.added c.in_ok-push_depth.ensures.added c.in_ok-push_unobserved.ensures;
}
