use Rattle.std.proofs.Common.{◌<◌, Bool, true, false, if◌then◌else◌, [], All, filter, length, sym, subst, ◌∙◌, arith}
use Rattle.std.specs.List.{range_with_len}
use Rattle.netlist.specs.Netlist.{NetlistView}
use Rattle.design.specs.Design.{DesignView}
use Rattle.circuit_info.specs.Periods.{is_late, is_loop_free, late_flops}
use Rattle.plain_runs.proofs.Listed.{All-listed}
use Rattle.plain_runs.proofs.notes.push_late_flops.Goals as goal

All-late_flops : (design : DesignView) → All (λ net. net < length design.netlist.nets) (late_flops design)
All-late_flops design = go (is_loop_free design.netlist)
  where
    go : (free : Bool) → All (λ net. net < length design.netlist.nets)
        (if free then filter (is_late design) (range_with_len 0 (length design.netlist.nets)) else [])
    go true = All-listed (is_late design) (length design.netlist.nets)
    go false = λ k d within. absurd (omega (arith, within))

pub push_nets_note-requires : goal.push_nets_note-requires
push_nets_note-requires c =
    let below : All (λ net. net < length c.netlist.result.now.nets) (late_flops c.args.design.now) =
    subst (λ (netlist : NetlistView). All (λ net. net < length netlist.nets) (late_flops c.args.design.now)) (sym c.netlist.ensures)
    (All-late_flops c.args.design.now) in
    subst (All (λ net. net < length c.netlist.result.now.nets)) (sym (c.as_slice.ensures.value ∙ c.in_ok-nets.ensures)) below

pub returns : goal.returns
returns c = rw (c.as_slice.ensures.value ∙ c.in_ok-nets.ensures) at (rw c.netlist.ensures at c.push_nets_note.ensures)
