use Rattle.std.proofs.Common.{arith}
use Rattle.vcd_dump.proofs.Signals.{span_text-more}
use Rattle.vcd_dump.proofs.Streams.{stream_at-begun, stream_at-span, stream_at-can, stream_at-spanned}
use Rattle.vcd_dump.proofs.Wholes.{dump_text-whole, dump_text-nets}
use Rattle.vcd_dump.proofs.laws.spans_make_the_dump.Goals as goal

pub returns-clause-begins : goal.returns-clause-begins
returns-clause-begins c = stream_at-begun

pub returns-clause-spans : goal.returns-clause-spans
returns-clause-spans c = stream_at-span

pub returns-clause-can : goal.returns-clause-can
returns-clause-can c = stream_at-can

pub returns-clause-goes_on : goal.returns-clause-goes_on
returns-clause-goes_on c signals horizon from to ahead = stream_at-spanned signals horizon from to (omega arith)

pub returns-clause-text : goal.returns-clause-text
returns-clause-text c = span_text-more

pub returns-clause-whole : goal.returns-clause-whole
returns-clause-whole c = dump_text-whole

pub returns-clause-nets : goal.returns-clause-nets
returns-clause-nets c = dump_text-nets
