-- Percentages that are written one after the other.
use Rattle.std.proofs.Common.{◌≡◌, ℕ, Bool, true, false, List, [], ◌∷◌, ◌++◌, refl, ap, sym, subst, ◌∙◌, append_assoc}
use Rattle.std.specs.Io.KnownBytes.{Appends}
use Rattle.std.proofs.KnownBytes.{Appends-nil, Appends-trans, Appends-kept, Keeps-refl, Keeps-trans}
use Rattle.texts.specs.Written.{AppendsPrefix}
use Rattle.texts.proofs.CallerLemmas.{AppendsPrefix-after, AppendsPrefix-longer}
use Rattle.prepared_runs.specs.Percents.{Meter, Shows, behind, next_percent, percent_of, percents_text, shown_percent}

module _ (horizon : ℕ) where
  next_percent-joined : (next : ℕ) (first second : List ℕ) →
      next_percent horizon next (first ++ second) ≡ next_percent horizon (next_percent horizon next first) second
  next_percent-joined next [] second = refl
  next_percent-joined next (ticks ∷ first) second = next_percent-joined (behind next (percent_of horizon ticks)) first second

  percents_text-joined : (next : ℕ) (first second : List ℕ) →
      percents_text horizon next (first ++ second) ≡ percents_text horizon next first ++ percents_text horizon (next_percent horizon next first) second
  percents_text-joined next [] second = refl
  percents_text-joined next (ticks ∷ first) second =
      let percent = percent_of horizon ticks in
      ap (λ rest. shown_percent next percent ++ rest) (percents_text-joined (behind next percent) first second)
      ∙ sym (append_assoc (shown_percent next percent) _ _)

  pub Shows-nothing : (meter : Meter) → Shows horizon meter [] meter
  Shows-nothing meter = record {
    next = refl;
    part = (0, Appends-nil meter.bytes);
    whole = λ _. Appends-nil meter.bytes;
    fails = λ failed. (failed, Keeps-refl meter.bytes);
  }

  module _ (old mid new : Meter) (first second : List ℕ) (reported : Shows horizon old first mid) (more : Shows horizon mid second new) where
    text_of_both : percents_text horizon old.next (first ++ second)
        ≡ percents_text horizon old.next first ++ percents_text horizon mid.next second
    text_of_both =
        percents_text-joined old.next first second
        ∙ ap (λ next. percents_text horizon old.next first ++ percents_text horizon next second) (sym reported.next)

    part_of_both : (failed : Bool) → mid.failed ≡ failed → AppendsPrefix old.bytes new.bytes (percents_text horizon old.next (first ++ second))
    part_of_both false is =
        subst (AppendsPrefix old.bytes new.bytes) (sym text_of_both)
        (AppendsPrefix-after old.bytes mid.bytes new.bytes _ _ (reported.whole is) more.part)
    part_of_both true is =
        let (n, part) = reported.part in
        subst (AppendsPrefix old.bytes new.bytes) (sym text_of_both)
        (AppendsPrefix-longer old.bytes new.bytes _ _ (n, Appends-kept old.bytes mid.bytes new.bytes _ part (more.fails is).1))

    whole_of_both : (failed : Bool) → mid.failed ≡ failed → new.failed ≡ false →
        Appends old.bytes new.bytes (percents_text horizon old.next (first ++ second))
    whole_of_both false is done =
        subst (Appends old.bytes new.bytes) (sym text_of_both)
        (Appends-trans old.bytes mid.bytes new.bytes _ _ (reported.whole is) (more.whole done))
    whole_of_both true is done = let failed = (more.fails is).0 in absurd (cc)

    pub Shows-joined : Shows horizon old (first ++ second) new
    Shows-joined = record {
      next = more.next ∙ ap (λ next. next_percent horizon next second) reported.next ∙ sym (next_percent-joined old.next first second);
      part = part_of_both mid.failed refl;
      whole = whole_of_both mid.failed refl;
      fails = λ failed.
          let before = reported.fails failed in
          let behind' = more.fails before.0 in
          (behind'.0, Keeps-trans old.bytes mid.bytes new.bytes before.1 behind'.1);
    }
