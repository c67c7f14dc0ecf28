use Rattle.vcd_dump.proofs.Streams.{with_parts-none, with_parts-more, IsSpan-can}
use Rattle.vcd_dump.proofs.laws.parts_are_given.Goals as goal

pub returns-clause-first : goal.returns-clause-first
returns-clause-first c = with_parts-none

pub returns-clause-next : goal.returns-clause-next
returns-clause-next c = with_parts-more

pub returns-clause-span : goal.returns-clause-span
returns-clause-span c = IsSpan-can
