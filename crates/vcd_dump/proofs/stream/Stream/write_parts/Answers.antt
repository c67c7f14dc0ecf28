use Rattle.std.proofs.Common.{◌≡◌, ◌-◌, ◌<◌, ◌≤◌, false, List, All, ℕ, [], ap, sym, subst, length, ◌∙◌}
use Rattle.std.specs.Io.KnownBytes.{Appends}
use Rattle.std.proofs.lemmas.List.Elements.{recursion_from_All, All-nil, All-same}
use Rattle.std.proofs.lemmas.List.Sorted.{All-permutation}
use Rattle.logic3.proofs.CallerLemmas.{OnErr_always}
use Rattle.texts.specs.Written.{AppendsPrefix}
use Rattle.vcd_dump.specs.Lines.{LineView}
use Rattle.vcd_dump.specs.Ready.{IsReady}
use Rattle.vcd_dump.specs.Spans.{StreamView, spanned, lines_text, CanSpan}
use Rattle.vcd_dump.specs.Written.{InOrder}
use Rattle.vcd_dump.proofs.Ordered.{OfSpan}
use Rattle.vcd_dump.proofs.Stepped.{Stepped, Stepped-in_order}
use Rattle.vcd_dump.proofs.stream.Stream.write_parts.Given.{Over}
use Rattle.vcd_dump.proofs.stream.Stream.write_parts.Goals as goal
use Rattle.vcd_dump.proofs.stream.Stream.write_parts.Goals.{After-as_slice-2}

-- what the stream keeps
ready_is : (g : Over) (c : After-as_slice-2 g) → IsReady c.self.inside
ready_is g c = c.self.invariant c.if-self.false

-- its lines in order
order_is : (g : Over) (c : After-as_slice-2 g) → InOrder c.self.inside.lines.items c.as_slice-2.result.now
order_is g c = subst (InOrder c.self.inside.lines.items) (sym c.as_slice-2.ensures.value) c.in_ok-sort.ensures

-- a step of the stream, which can go on
step_is : (g : Over) (c : After-as_slice-2 g) →
    Stepped (length c.as_slice.result.now) c.self.inside.written c.self.inside.time c.args.upto c.self.inside.lines.items c.as_slice-2.result.now
step_is g c =
    let inside = c.self.inside in
    let can = subst (λ (s : StreamView). s.failed ≡ false → CanSpan s c.args.upto) (sym c.self.view_is) c.requires c.if-self.false in
    let of_span : OfSpan (length c.as_slice.result.now) inside.written c.args.upto inside.lines.items = record {
      low = recursion_from_All (λ (line : LineView). inside.written ≤ line.tick) inside.lines.items can.low;
      high = recursion_from_All (λ (line : LineView). line.tick < c.args.upto) inside.lines.items can.high;
      count = λ zero. can.values zero ∙ sym (ap length c.as_slice.ensures.value);
    } in
    Stepped-in_order (length c.as_slice.result.now) inside.written inside.time c.args.upto inside.lines.items c.as_slice-2.result.now
    (order_is g c) of_span can.ahead (ready_is g c).early

pub write_span-requires-clause-places : goal.write_span-requires-clause-places
write_span-requires-clause-places g c =
    let there = (goal.at.write_span-requires-clause-places g c).After-as_slice-2 in
    let P : List (List ℕ) → LineView → Type 0 = λ codes line. line.place < length codes in
    subst (λ codes. All (P codes) c.as_slice-2.result.now) (sym c.as_slice.ensures.value)
    (All-permutation (P c.self.inside.codes.items) c.self.inside.lines.items c.as_slice-2.result.now (order_is g there).permutation (ready_is g there).places)

pub write_span-requires-clause-values : goal.write_span-requires-clause-values
write_span-requires-clause-values g c = (step_is g (goal.at.write_span-requires-clause-values g c).After-as_slice-2).places

pub returns-in_err-self-inside-clause-err : goal.returns-in_err-self-inside-clause-err
returns-in_err-self-inside-clause-err g c =
    let held = g.W.Write.contents in
    let step = step_is g (goal.at.returns-in_err-self-inside-clause-err g c).After-as_slice-2 in
    OnErr_always c.from_residual-in_err-self-inside.result
    (subst (AppendsPrefix (held c.args.out.now) (held c.write_span.new.out))
    (step.text ∙ ap (λ (s : StreamView). lines_text s.written c.args.upto s.lines) c.self.view_is) c.in_err-self-inside.ensures.err)

pub invariant_of-self-2 : goal.invariant_of-self-2
invariant_of-self-2 g c = λ running.
    let there = (goal.at.invariant_of-self-2 g c).After-as_slice-2 in
    let ready = ready_is g there in
    let P : LineView → Type 0 = λ line. line.place < length c.self.inside.codes.items in
    record {
      codes = ready.codes;
      few = ready.few;
      near = ready.near;
      early = subst (λ t. t ≤ c.args.upto - 1) (sym c.in_ok-self-inside.ensures.last) (step_is g there).bound;
      places = All-same P c.clear.new.self.items [] c.clear.ensures.items (All-nil P);
      sent = c.in_ok-self-inside.ensures.sent;
    }

pub returns-clause-stream : goal.returns-clause-stream
returns-clause-stream g c =
    let step = step_is g (goal.at.returns-clause-stream g c).After-as_slice-2 in
    (λ i. record {
      nets = length c.self.inside.codes.items;
      horizon = c.self.inside.horizon;
      written = c.args.upto;
      time = (c.in_ok-self-inside.ensures.last ∙ step.last) i;
      given = 0;
      lines = c.clear.ensures.items i;
      failed = false;
    })
    ∙ ap (λ (s : StreamView). spanned s c.args.upto) c.self.view_is

pub returns-clause-ok : goal.returns-clause-ok
returns-clause-ok g c =
    let held = g.W.Write.contents in
    let step = step_is g (goal.at.returns-clause-ok g c).After-as_slice-2 in
    subst (Appends (held c.args.out.now) (held c.write_span.new.out))
    (step.text ∙ ap (λ (s : StreamView). lines_text s.written c.args.upto s.lines) c.self.view_is) c.in_ok-self-inside.ensures.ok
