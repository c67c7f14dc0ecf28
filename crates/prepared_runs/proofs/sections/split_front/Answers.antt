use Rattle.std.proofs.Common.{◌≡◌, ◌∙◌, take, sym, ap, arith}
use Rattle.std.specs.List.{concat, position_or_len}
use Rattle.prepared_runs.specs.Deck.{ended_lines}
use Rattle.prepared_runs.specs.Seen.{stops}
use Rattle.prepared_runs.proofs.First.{position_or_len-no}
use Rattle.prepared_runs.proofs.Lines.{take-first_lines, drop-more}
use Rattle.prepared_runs.proofs.sections.split_front.Goals as goal

pub loop-after-preserved : goal.loop-after-preserved
loop-after-preserved c =
    let past = c.in-Some.ensures in
    let test = stops c.args.in_section in
    record {
      rest = sym (drop-more c.loop-after.lines (ended_lines c.args.text.now) past.line _ (sym c.loop-after.invariant.rest ∙ past.split.lines));
      place = omega (arith, c.loop-after.invariant.place, ap (position_or_len test) past.split.lines, position_or_len-no test past.line (ended_lines c.in-Some.after.now) past.passes);
      within = omega (arith, past.split.shorter);
    }

pub returns-clause-text : goal.returns-clause-text
returns-clause-text c =
    let count : position_or_len (stops c.args.in_section) (ended_lines c.args.text.now) ≡ c.loop-after.lines = omega (arith, c.loop-after.invariant.place, c.in_default.ensures) in
    take-first_lines c.args.text.now c.loop-after.rest.now c.loop-after.lines c.loop-after.invariant.rest
    ∙ ap (λ lines. concat (take lines (ended_lines c.args.text.now))) (sym count)
