use Rattle.std.proofs.Common.{ap, count_by}
use Rattle.cmb_channels.specs.Kinds.{is_change, is_null}
use Rattle.event_trace.proofs.LeftOut.{told_in-shown}
use Rattle.event_trace.proofs.laws.idle_lines_tell_nothing.Goals as goal

pub returns-clause-changes : goal.returns-clause-changes
returns-clause-changes c idle lines = ap (count_by is_change) (told_in-shown idle lines)

pub returns-clause-nulls : goal.returns-clause-nulls
returns-clause-nulls c idle lines = ap (count_by is_null) (told_in-shown idle lines)
