use Rattle.std.proofs.Common.{◌<◌, ◌∙◌, sym, false, get_or, length-set}
use Rattle.std.proofs.lemmas.List.{get_or_read}
use Rattle.netlist.proofs.Distinct.{distinct-repeat, distinct-new, marks-repeat, marks-new}
use Rattle.netlist.proofs.repeats.without_repeats.Goals as goal
use Rattle.netlist.proofs.repeats.without_repeats.Goals.{then-not-index+in_ok-push, else-not-index}

pub loop-number-preserved : goal.loop-number-preserved
loop-number-preserved c =
    let numbers = c.args.numbers.now in
    let i = c.loop-number.number-index in
    let marks = c.loop-number.is_kept.items in
    let known = c.loop-number.invariant in
    let below : get_or numbers i 0 < c.args.bound = c.requires i 0 c.loop-number-test.true in
    let read = get_or_read marks (get_or numbers i 0) c.index.result.now (rw known.bound below) c.index.ensures false in
    elim c.if-not-index.branch [
      | then-not-index+in_ok-push w ↦
          let came = sym read ∙ w.if-not-index.true in
          record {
            bound = rw (w.is_kept-is, length-set) known.bound;
            kept = rw (w.kept-is, w.in_ok-push.ensures.items, known.kept) (distinct-new numbers i c.loop-number-test.true marks c.args.bound known.bound below known.known came);
            known = rw w.is_kept-is (marks-new numbers i c.loop-number-test.true marks c.args.bound known.bound below known.known);
          }
      | else-not-index w ↦
          let came = sym read ∙ w.if-not-index.false in
          record {
            bound = rw w.is_kept-is known.bound;
            kept = rw (w.kept-is, known.kept) (distinct-repeat numbers i c.loop-number-test.true marks c.args.bound known.bound below known.known came);
            known = rw w.is_kept-is (marks-repeat numbers i c.loop-number-test.true marks c.args.bound known.bound below known.known came);
          }
    ]
