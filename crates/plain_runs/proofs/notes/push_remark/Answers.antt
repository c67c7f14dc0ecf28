use Rattle.std.proofs.Common.{◌≡◌, ◌<◌, All, length, sym, ap, subst, ◌∙◌}
use Rattle.design.proofs.CallerLemmas.{length-circuit}
use Rattle.netlist.specs.Netlist.{NetlistView}
use Rattle.plain_runs.specs.Remarks.{is_noted, noted_nets}
use Rattle.plain_runs.proofs.Listed.{All-listed}
use Rattle.plain_runs.proofs.notes.push_remark.Goals as goal

pub push_nets_note-requires : goal.push_nets_note-requires
push_nets_note-requires c =
    let circuit = c.args.design.now.circuit in
    let nets = noted_nets c.args.remark c.args.horizon circuit in
    let same : length circuit ≡ length c.netlist.result.now.nets =
    length-circuit c.args.design.now c.in_ok-nets.ensures.well_formed ∙ ap (λ (netlist : NetlistView). length netlist.nets) (sym c.netlist.ensures) in
    subst (All (λ net. net < length c.netlist.result.now.nets)) (sym (c.as_slice.ensures.value ∙ c.in_ok-nets.ensures.nets))
    (subst (λ count. All (λ net. net < count) nets) same (All-listed (is_noted c.args.remark c.args.horizon circuit) (length circuit)))
