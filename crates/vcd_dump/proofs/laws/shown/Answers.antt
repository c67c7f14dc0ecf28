use Rattle.std.proofs.Common.{get_or}
use Rattle.std.proofs.lemmas.Option.{slice_get-get_or}
use Rattle.vcd_dump.proofs.ShownValues.{shown_value-dump_text}
use Rattle.vcd_dump.proofs.laws.shown.Goals as goal

pub returns : goal.returns
returns c unit horizon traces small readable place d within tick due =
    let trace = get_or traces place d in
    shown_value-dump_text unit horizon traces place tick trace.0 trace.1
    readable.few readable.proper readable.distinct (slice_get-get_or traces place d within) due small
