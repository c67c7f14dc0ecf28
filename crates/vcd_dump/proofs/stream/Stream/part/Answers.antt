use Rattle.std.proofs.Common.{◌≡◌, ◌<◌, ◌++◌, false, length, sym, subst}
use Rattle.std.proofs.lemmas.List.Elements.{All-from_recursion, All-append, All-same}
use Rattle.vcd_dump.specs.Lines.{LineView}
use Rattle.vcd_dump.specs.Spans.{StreamView, lines_of}
use Rattle.vcd_dump.proofs.Gathered.{EachPlace-lines_of}
use Rattle.vcd_dump.proofs.stream.Stream.part.Goals as goal

pub invariant_of-self-2 : goal.invariant_of-self-2
invariant_of-self-2 c = λ _.
    let inside = c.self.inside in
    let ready = c.self.invariant c.if-self.false in
    let P : LineView → Type 0 = λ line. line.place < length inside.codes.items in
    let next = subst (λ (s : StreamView). s.failed ≡ false → s.given < s.nets) (sym c.self.view_is) c.requires.next c.if-self.false in
    let new = lines_of inside.written (inside.given, c.args.changes.now) in
    record {
      codes = ready.codes;
      few = ready.few;
      near = ready.near;
      early = ready.early;
      places = All-same P c.gather.new.lines.items (inside.lines.items ++ new) c.in_ok-gather.ensures
          (All-append P inside.lines.items new ready.places
          (All-from_recursion P new (EachPlace-lines_of (length inside.codes.items) inside.written inside.given c.args.changes.now next)));
      sent = ready.sent;
    }
