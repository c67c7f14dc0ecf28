use Rattle.std.proofs.Common.{List, ℕ, [], sym, ap, map, ◌∙◌}
use denote.Ref.{Bor}
use Rattle.std.proofs.lemmas.List.{get_or-map}
use Rattle.plain_runs.specs.Lines.{is_doubtful, is_doubtful_at}
use Rattle.plain_runs.proofs.Numbered.{numbered_more, numbered_same}
use Rattle.plain_runs.proofs.doubt.doubtful_numbers.Goals as goal
use Rattle.plain_runs.proofs.doubt.doubtful_numbers.Goals.{then-is_about+in_ok-push, else-is_about}

pub loop-place-preserved : goal.loop-place-preserved
loop-place-preserved c =
    let seen : List (Bor (List ℕ)) → List (List ℕ) = map (λ (line : Bor (List ℕ)). line.now) in
    elim c.if-is_about.branch [
      | then-is_about+in_ok-push w ↦
          rw (w.numbers-is, w.in_ok-push.ensures.items)
          (numbered_more (is_doubtful_at c.args.doubt c.args.design.now (seen c.args.lines.now)) c.loop-place.place c.loop-place.numbers.items
          c.loop-place.invariant
          (ap (is_doubtful c.args.doubt c.args.design.now (seen c.args.lines.now))
          (get_or-map (λ (line : Bor (List ℕ)). line.now) c.args.lines.now c.loop-place.place _ [] c.loop-place-test.true)
          ∙ sym (c.is_about.ensures (seen c.args.lines.now) c.requires) ∙ w.if-is_about.true))
      | else-is_about w ↦
          rw w.numbers-is
          (numbered_same (is_doubtful_at c.args.doubt c.args.design.now (seen c.args.lines.now)) c.loop-place.place c.loop-place.numbers.items
          c.loop-place.invariant
          (ap (is_doubtful c.args.doubt c.args.design.now (seen c.args.lines.now))
          (get_or-map (λ (line : Bor (List ℕ)). line.now) c.args.lines.now c.loop-place.place _ [] c.loop-place-test.true)
          ∙ sym (c.is_about.ensures (seen c.args.lines.now) c.requires) ∙ w.if-is_about.false))
    ]
