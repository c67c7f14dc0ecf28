use Rattle.std.proofs.Common.{◌<◌, All, length, sym, subst, ◌∙◌}
use Rattle.plain_runs.specs.Unused.{is_unused_input}
use Rattle.plain_runs.proofs.Listed.{All-listed}
use Rattle.plain_runs.proofs.notes.push_unused.Goals as goal

pub push_nets_note-requires : goal.push_nets_note-requires
push_nets_note-requires c =
    subst (All (λ net. net < length c.args.netlist.now.nets)) (sym (c.as_slice.ensures.value ∙ c.in_ok-nets.ensures))
    (All-listed (is_unused_input c.args.netlist.now) (length c.args.netlist.now.nets))
