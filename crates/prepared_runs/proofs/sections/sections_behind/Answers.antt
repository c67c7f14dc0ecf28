use Rattle.std.proofs.Common.{◌≡◌, ◌∙◌, ℕ, List, [], codes, Ok, refl, ap, arith}
use denote.Ref.{Bor}
use Rattle.prepared_runs.specs.Deck.{ended_lines, section, sections_behind}
use Rattle.prepared_runs.proofs.Found.{Reached-first, Reached-not_kept, Reached-kept, Reached-good, Reached-bench, Reached-delays, Reached-stimuli, Reached-schedule}
use Rattle.prepared_runs.proofs.sections.sections_behind.Goals as goal

pub loop-line-init : goal.loop-line-init
loop-line-init c = record {
  reached = rw (c.split_front-head.ensures.lines, c.split_front-head.ensures.rest) (Reached-first (ended_lines c.args.text.now));
  within = c.split_front-head.ensures.within;
}

pub returns-then-not-keep : goal.returns-then-not-keep
unfolding sections_behind
returns-then-not-keep c =
    let reached = rw c.in-Some.ensures.lines at c.loop-line.invariant.reached in
    let refused = rw c.if-not-keep.true at c.keep.ensures in
    rw (Reached-not_kept _ _ _ _ _ reached c.marker_in.result c.marker_in.ensures refused) refl

pub loop-line-preserved : goal.loop-line-preserved
loop-line-preserved c =
    let reached = rw c.in-Some.ensures.lines at c.loop-line.invariant.reached in
    let kept = rw c.if-not-keep.false at c.keep.ensures in
    let own = c.split_front-own in
    record {
      reached = rw (own.ensures.lines, own.ensures.rest) (Reached-kept _ _ _ _ _ reached c.marker_in.result c.marker_in.ensures own.result.text c.keep.new.found kept own.ensures.text);
      within = omega (arith, c.in-Some.ensures.shorter);
    }

pub returns : goal.returns
unfolding sections_behind
returns c =
    let all = ended_lines c.args.text.now in
    let end : ended_lines c.loop-line.rest.now ≡ [] = ap ended_lines c.in_default.ensures in
    let reached = rw end at c.loop-line.invariant.reached in
    let bench : c.unwrap_or.result.now ≡ section (codes "%bench") all = ap (λ (text : Bor (List ℕ)). text.now) c.unwrap_or.ensures ∙ Reached-bench all _ _ reached _ refl in
    let delays : c.unwrap_or-2.result.now ≡ section (codes "%delays") all = ap (λ (text : Bor (List ℕ)). text.now) c.unwrap_or-2.ensures ∙ Reached-delays all _ _ reached _ refl in
    let stimuli : c.unwrap_or-3.result.now ≡ section (codes "%stimuli") all = ap (λ (text : Bor (List ℕ)). text.now) c.unwrap_or-3.ensures ∙ Reached-stimuli all _ _ reached _ refl in
    let schedule : c.unwrap_or-4.result.now ≡ section (codes "%schedule") all = ap (λ (text : Bor (List ℕ)). text.now) c.unwrap_or-4.ensures ∙ Reached-schedule all _ _ reached _ refl in
    rw (Reached-good all _ _ reached)
    (λ i. Ok (record { horizon = c.args.horizon; texts = record { bench = bench i; delays = delays i; stimuli = stimuli i; schedule = schedule i } }))
