use Rattle.std.proofs.Common.{◌≡◌, IsTrue, false, [], ◌∷◌, ◌++◌, sym, ap, ◌∙◌, subst}
use Rattle.netlist.specs.Netlist.{NetlistView, net_at}
use Rattle.netlist.specs.Part.{is_gate}
use Rattle.circuit_info.specs.Levels.{is_gate_at}
use Rattle.circuit_info.specs.PathText.{IsLongestPath, begins, passes}
use Rattle.circuit_info.proofs.PathNets.{source_earlier, turned}
use Rattle.circuit_info.proofs.path_nets.path_to.Goals as goal

pub loop-path-smaller : goal.loop-path-smaller
loop-path-smaller c =
    let flat = c.requires.flat in
    let gate : IsTrue (is_gate_at c.args.design.now.netlist c.loop-path.net) =
    ap (λ (netlist : NetlistView). is_gate (net_at netlist c.loop-path.net).part) (sym c.netlist.ensures) ∙ ap is_gate (sym c.part.ensures) ∙ sym c.is_gate.ensures ∙ c.loop-path-test.true in
    source_earlier c.args.design.now c.requires.formed flat.levels flat.levelling flat.few c.loop-path.net c.latest_source-net.result gate c.latest_source-net.ensures.latest

pub loop-path-preserved : goal.loop-path-preserved
loop-path-preserved c =
    let gate : IsTrue (is_gate_at c.args.design.now.netlist c.loop-path.net) =
    ap (λ (netlist : NetlistView). is_gate (net_at netlist c.loop-path.net).part) (sym c.netlist.ensures) ∙ ap is_gate (sym c.part.ensures) ∙ sym c.is_gate.ensures ∙ c.loop-path-test.true in
    record {
      below = c.latest_source-net.ensures.within;
      leads = λ path is. rw c.in_ok-push.ensures.items
          (subst (IsLongestPath c.args.design.now c.args.end) (turned path c.loop-path.path.items c.loop-path.net)
          (c.loop-path.invariant.leads (path ++ c.loop-path.net ∷ []) (passes c.loop-path.net c.latest_source-net.result path gate c.latest_source-net.ensures.latest is)));
    }

pub returns : goal.returns
returns c =
    let gate : is_gate_at c.args.design.now.netlist c.loop-path.net ≡ false =
    ap (λ (netlist : NetlistView). is_gate (net_at netlist c.loop-path.net).part) (sym c.netlist.ensures) ∙ ap is_gate (sym c.part.ensures) ∙ sym c.is_gate.ensures ∙ c.loop-path-test.false in
    rw (c.reverse.ensures.items, c.in_ok-push-2.ensures.items)
    (subst (IsLongestPath c.args.design.now c.args.end) (turned [] c.loop-path.path.items c.loop-path.net)
    (c.loop-path.invariant.leads (c.loop-path.net ∷ []) (begins c.loop-path.net gate)))
