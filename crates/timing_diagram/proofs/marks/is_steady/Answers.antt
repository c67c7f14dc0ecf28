use Rattle.std.proofs.Common.{◌≡◌, ◌∙◌, nat_lt, true, rules, sym}
use Rattle.std.specs.Option.{option_map_or}
use Rattle.logic3.specs.Wave.{value_at}
use Rattle.timing_diagram.proofs.Steady.{steady-next}
use Rattle.timing_diagram.proofs.marks.is_steady.Goals as goal

pub returns : goal.returns
returns c =
    let next = c.next_change_after in
    let late : c.is_none_or.result ≡ option_map_or (λ at. nat_lt c.args.last at) next.result true = search rules in
    late ∙ sym (steady-next (value_at c.args.wave.now) c.args.first c.args.last next.result next.ensures.later next.ensures.differs next.ensures.steady)
