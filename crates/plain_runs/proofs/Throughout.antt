-- A net is X throughout where its waveform has no change.
use Rattle.std.proofs.Common.{◌≡◌, ℕ, zero, suc, ◌+◌, ◌-◌, ◌==◌, ◌<◌, ◌≤◌, ◌&&◌, Bool, true, false, List, ◌++◌, flat_map, get_or, length, refl, ap, subst, ◌∙◌, arith, add-one}
use Rattle.std.specs.List.{list_all, range_with_len}
use Rattle.std.proofs.lemmas.Bool.Decides.{nat_tests}
use Rattle.std.proofs.lemmas.List.FromFn.{get_or-map-range_with_len, get_or-range_with_len, length-range_with_len}
use Rattle.std.proofs.lemmas.List.Sums.{AllPass-from_list_all, list_all-from_AllPass}
use Rattle.logic3.specs.declared.change.Change.{Change}
use Rattle.logic3.specs.declared.value.Value.{Value}
use Rattle.logic3.specs.declared.value.Value.TheVariants.{Unknown}
use Rattle.logic3.specs.Value.{is_same}
use Rattle.logic3.specs.Wave.{Wave, change_at, value_before, wave_of}
use Rattle.logic3.proofs.CallerLemmas.{is_same-true}
use Rattle.design.specs.Circuit.{Circuit}
use Rattle.design.specs.Equations.{value_of, waves_of}
use Rattle.plain_runs.specs.Remarks.{is_unknown}

-- one more than a number isn't 0
is_some : (n : ℕ) → (suc n == 0) ≡ false
is_some n = grind (arith, nat_tests)

module _ (signal : ℕ → Value) where
  -- from a tick on, before which it is X
  no_change : (from count : ℕ) → value_before signal from ≡ Unknown →
      (length (flat_map (change_at signal) (range_with_len from count)) == 0) ≡ list_all (λ tick. is_same (signal tick) Unknown) (range_with_len from count)
  no_change from zero before = refl
  no_change from (suc count) before = go (is_same (signal from) Unknown) refl (no_change (from + 1) count)
    where
      go : (same : Bool) → is_same (signal from) Unknown ≡ same →
          (value_before signal (from + 1) ≡ Unknown →
          (length (flat_map (change_at signal) (range_with_len (from + 1) count)) == 0)
          ≡ list_all (λ tick. is_same (signal tick) Unknown) (range_with_len (from + 1) count)) →
          (length (change_at signal from ++ flat_map (change_at signal) (range_with_len (from + 1) count)) == 0)
          ≡ (is_same (signal from) Unknown && list_all (λ tick. is_same (signal tick) Unknown) (range_with_len (from + 1) count))
      go true same rest =
          let here : is_same (signal from) (value_before signal from) ≡ true = ap (is_same (signal from)) before ∙ same in
          rw (here, same) (rest (rw add-one (is_same-true (signal from) Unknown same)))
      go false same rest =
          let here : is_same (signal from) (value_before signal from) ≡ false = ap (is_same (signal from)) before ∙ same in
          rw (here, same) (is_some (length (flat_map (change_at signal) (range_with_len (from + 1) count))))

  -- a waveform has no change where its signal is X throughout
  no_changes : (horizon : ℕ) → (length (wave_of signal 0 (horizon + 1)).changes == 0) ≡ is_unknown horizon signal
  no_changes horizon =
      let whole : horizon + 1 - 0 ≡ horizon + 1 = omega arith in
      ap (λ count. length (flat_map (change_at signal) (range_with_len 0 count)) == 0) whole ∙ no_change 0 (horizon + 1) refl

  pub is_unknown-at : (horizon tick : ℕ) → is_unknown horizon signal ≡ true → tick ≤ horizon → signal tick ≡ Unknown
  is_unknown-at horizon tick throughout within =
      let all = AllPass-from_list_all (λ at. is_same (signal at) Unknown) (range_with_len 0 (horizon + 1)) throughout in
      let at : get_or (range_with_len 0 (horizon + 1)) tick 0 ≡ tick = omega (arith, get_or-range_with_len 0 (horizon + 1) tick 0 (omega arith)) in
      is_same-true (signal tick) Unknown
      (subst (λ at. is_same (signal at) Unknown ≡ true) at (all tick 0 (omega (arith, length-range_with_len 0 (horizon + 1)))))

  pub is_unknown-from : (horizon : ℕ) → ((tick : ℕ) → tick ≤ horizon → signal tick ≡ Unknown) → is_unknown horizon signal ≡ true
  is_unknown-from horizon shows =
      list_all-from_AllPass (λ at. is_same (signal at) Unknown) (range_with_len 0 (horizon + 1)) (λ k d inside.
      let below : k < horizon + 1 = omega (arith, length-range_with_len 0 (horizon + 1)) in
      let within : get_or (range_with_len 0 (horizon + 1)) k d ≤ horizon = omega (arith, get_or-range_with_len 0 (horizon + 1) k d below) in
      ap (λ value. is_same value Unknown) (shows (get_or (range_with_len 0 (horizon + 1)) k d) within))

-- of a net, by the changes of its waveform
pub unknown_by_changes : (circuit : Circuit) (horizon net : ℕ) (waves : List Wave) (wave : Wave) (changes : List Change) → net < length circuit →
    waves ≡ waves_of circuit (horizon + 1) → wave ≡ get_or waves net wave → changes ≡ wave.changes →
    (length changes == 0) ≡ is_unknown horizon (value_of circuit net)
unfolding waves_of
unknown_by_changes circuit horizon net waves wave changes below are is same =
    let at : wave ≡ wave_of (value_of circuit net) 0 (horizon + 1) =
    is ∙ ap (λ all. get_or all net wave) are
    ∙ get_or-map-range_with_len (λ n. wave_of (value_of circuit n) 0 (horizon + 1)) 0 (length circuit) net net wave below (omega arith) in
    ap (λ (those : List Change). length those == 0) (same ∙ ap (λ (w : Wave). w.changes) at) ∙ no_changes (value_of circuit net) horizon
