use Rattle.std.proofs.Common.{◌≡◌, ◌<◌, ◌≤◌, ◌++◌, ◌∙◌, false, length, ap, sym, subst, Vec, arith}
use Rattle.std.proofs.lemmas.List.{length-map}
use Rattle.std.proofs.lemmas.List.Elements.{All-from_recursion, All-same}
use Rattle.logic3.specs.declared.change.Change.{Change}
use Rattle.vcd_dump.specs.Lines.{LineView}
use Rattle.vcd_dump.specs.Spans.{StreamView, span_lines, changes_in}
use Rattle.vcd_dump.proofs.Gathered.{EachPlace-span_lines}
use Rattle.vcd_dump.proofs.stream.Stream.take_parts.Goals as goal

pub invariant_of-self-2 : goal.invariant_of-self-2
invariant_of-self-2 c = λ _.
    let inside = c.self.inside in
    let parts = changes_in c.args.parts.now in
    let ready = c.self.invariant c.if-self.false in
    let P : LineView → Type 0 = λ line. line.place < length inside.codes.items in
    let each = subst (λ (s : StreamView). s.failed ≡ false → length c.args.parts.now ≡ s.nets) (sym c.self.view_is) c.requires.each c.if-self.false in
    let few : length parts ≤ length inside.codes.items = omega (arith, each, length-map c.args.parts.now (λ (part : Vec Change _). part.items)) in
    let is = c.in_ok-gather_parts.ensures ∙ ap (λ lines. lines ++ span_lines inside.written parts) c.clear.ensures.items in
    record {
      codes = ready.codes;
      few = ready.few;
      near = ready.near;
      early = ready.early;
      places = All-same P c.gather_parts.new.lines.items (span_lines inside.written parts) is
          (All-from_recursion P (span_lines inside.written parts) (EachPlace-span_lines (length inside.codes.items) inside.written parts few));
      sent = ready.sent;
    }
