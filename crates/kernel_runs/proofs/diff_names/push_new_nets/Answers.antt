use Rattle.std.proofs.Common.{List, ℕ, is_some, not, sym, ap, ◌∙◌}
use Rattle.netlist.specs.Names.{seen_names}
use Rattle.netlist.specs.Netlist.{name_at, net_named}
use Rattle.kernel_runs.proofs.DiffNames.{chosen_more, chosen_same}
use Rattle.kernel_runs.proofs.diff_names.push_new_nets.Goals as goal
use Rattle.kernel_runs.proofs.diff_names.push_new_nets.Goals.{then-is_none+in_ok-push, else-is_none}

pub loop-net-preserved : goal.loop-net-preserved
loop-net-preserved c =
    let first = c.args.first.now in
    let name_of = name_at c.args.netlist.now in
    let net = c.loop-net.net in
    let before = seen_names c.args.names.now.items in
    elim c.if-is_none.branch [
      | then-is_none+in_ok-push w ↦
          rw w.names-is
          (chosen_more name_of net before c.loop-net.names.items w.push.new.self.items c.name-name.result w.in_ok-push.ensures.items c.name-name.ensures
          (λ name. not (is_some (net_named first name)))
          (ap (λ (name : List ℕ). not (is_some (net_named first name))) (sym c.name-name.ensures)
          ∙ ap not (ap is_some (sym c.find.ensures) ∙ c.is_none.ensures ∙ ap not w.if-is_none.true))
          c.loop-net.invariant)
      | else-is_none w ↦
          rw w.names-is
          (chosen_same name_of net before (seen_names c.loop-net.names.items) (λ name. not (is_some (net_named first name)))
          (ap (λ (name : List ℕ). not (is_some (net_named first name))) (sym c.name-name.ensures)
          ∙ ap not (ap is_some (sym c.find.ensures) ∙ c.is_none.ensures ∙ ap not w.if-is_none.false))
          c.loop-net.invariant)
    ]
