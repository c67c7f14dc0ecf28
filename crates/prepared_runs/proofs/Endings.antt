-- A line of percents that ends.
use Rattle.std.proofs.Common.{◌≡◌, ℕ, Bool, true, false, List, Option, refl, subst, ap, ◌∙◌, ◌++◌}
use Rattle.std.specs.Io.KnownBytes.{Appends, Keeps}
use Rattle.std.proofs.KnownBytes.{Appends-kept}
use Rattle.texts.specs.Written.{AppendsPrefix}
use Rattle.texts.proofs.CallerLemmas.{AppendsPrefix-after, AppendsPrefix-longer}
use Rattle.prepared_runs.specs.Percents.{Meter, Shows, line_feed, next_percent, percents_text, progress_text}

-- what reports percents, and then ends its line, reports all of the progress, or a first part of it where its writer fails
pub AppendsPrefix-progress : (horizon : ℕ) (fresh reported : Meter) (ticks : List ℕ) (ended : Option (List ℕ)) → fresh.next ≡ 0 → Shows horizon fresh ticks reported →
    AppendsPrefix reported.bytes ended (line_feed reported.next) → (reported.failed ≡ true → Keeps reported.bytes ended) →
    AppendsPrefix fresh.bytes ended (progress_text horizon ticks)
AppendsPrefix-progress horizon fresh reported ticks ended first shows feed kept = go reported.failed refl
  where
    text : percents_text horizon fresh.next ticks ≡ percents_text horizon 0 ticks
    text = ap (λ next. percents_text horizon next ticks) first

    next : reported.next ≡ next_percent horizon 0 ticks
    next = shows.next ∙ ap (λ next. next_percent horizon next ticks) first

    go : (failed : Bool) → reported.failed ≡ failed → AppendsPrefix fresh.bytes ended (progress_text horizon ticks)
    go false is =
        subst (λ (end : List ℕ). AppendsPrefix fresh.bytes ended (percents_text horizon 0 ticks ++ end)) (ap line_feed next)
        (AppendsPrefix-after fresh.bytes reported.bytes ended _ _ (subst (Appends fresh.bytes reported.bytes) text (shows.whole is)) feed)
    go true is =
        let (n, part) = subst (AppendsPrefix fresh.bytes reported.bytes) text shows.part in
        AppendsPrefix-longer fresh.bytes ended _ _ (n, Appends-kept fresh.bytes reported.bytes ended _ part (kept is))
