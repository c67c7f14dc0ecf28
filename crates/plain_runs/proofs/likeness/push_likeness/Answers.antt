use Rattle.std.proofs.Common.{◌<◌, All, length, sym, subst, ◌∙◌}
use Rattle.plain_runs.specs.Likenesses.{has_likeness}
use Rattle.plain_runs.proofs.Listed.{All-listed}
use Rattle.plain_runs.proofs.likeness.push_likeness.Goals as goal

pub push_nets_note-requires : goal.push_nets_note-requires
push_nets_note-requires c =
    subst (All (λ net. net < length c.args.netlist.now.nets)) (sym (c.as_slice.ensures.value ∙ c.in_ok-nets.ensures))
    (All-listed (has_likeness c.args.netlist.now c.args.likeness) (length c.args.netlist.now.nets))
