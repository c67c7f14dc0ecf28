use Rattle.std.proofs.Common.{◌<◌, ◌≤◌, All, sym, subst, arith}
use Rattle.std.proofs.lemmas.List.Elements.{All-weaker}
use Rattle.logic3.specs.declared.change.Change.{Change}
use Rattle.vcd_dump.specs.Spans.{StreamView, IsPart, CanSpan, changes_in}
use Rattle.vcd_dump.proofs.Streams.{IsSpan-can}
use Rattle.vcd_dump.proofs.stream.Stream.span.Goals as goal

-- the changes of a span are no later than the horizon
pub take_parts-requires-clause-within : goal.take_parts-requires-clause-within
take_parts-requires-clause-within g c = λ running.
    let span = c.requires running in
    All-weaker (IsPart c.args.self.now.written c.args.upto) (All (λ (change : Change). change.tick ≤ c.args.self.now.horizon))
    (λ part is. All-weaker (λ (change : Change). change.tick < c.args.upto) (λ (change : Change). change.tick ≤ c.args.self.now.horizon)
    (λ change early. omega (arith, early, span.within)) part is.high)
    (changes_in c.args.parts.now) span.proper

-- what was taken is of a span of the stream, so it can go on by it
pub write_parts-requires : goal.write_parts-requires
write_parts-requires g c = λ _.
    subst (λ (s : StreamView). CanSpan s c.args.upto) (sym c.in_ok-take_parts.ensures.stream)
    (IsSpan-can c.args.self.now c.args.upto (changes_in c.args.parts.now) (c.requires c.in_ok-take_parts.ensures.running))
