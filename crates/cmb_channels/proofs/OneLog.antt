-- A log, and the pins that read it.
use Rattle.std.proofs.Common.{◌≡◌, ℕ, ◌+◌, ◌-◌, ◌/◌, ◌<◌, ◌≤◌, ◌==◌, Bool, true, false, cond, nat_le, List, ◌++◌, length, drop, count_by, All, slice_index_or, refl, ap, sym, ◌∙◌, arith}
use Rattle.std.proofs.lemmas.Bool.{eqb-true, eqb-false, lt-ltb, le-ltb}
use Rattle.std.proofs.lemmas.List.{length-append, length-drop, drop-drop, drop-append-le}
use Rattle.cmb_channels.specs.declared.message.Message.{Message}
use Rattle.cmb_channels.specs.Logs.{two_to_64, count_after, past, LogView, empty_log, written, shortened, cut_to, passed, unread, is_behind, IsLog}
use Rattle.cmb_channels.proofs.Counts.{IsReplaced, after_within, past_after, past_cut, same_lt, all_counted, not_counted, same_count, held-counted, replaced-all, replaced-count, replaced-length}

-- ---- an empty log

pub log_empty : (counts : List ℕ) → All (λ count. count ≡ 0) counts → IsLog (empty_log (length counts)) counts
log_empty counts none = record {
  cut = omega arith;
  readers = refl;
  within = λ k d h. let e = none k d h in omega (arith, ap (past 0) e);
  behind = sym (not_counted (is_behind (empty_log (length counts))) counts (λ k d h. le-ltb _ 0 (omega arith)));
}

-- ---- messages more

module _ (messages : List Message) (log : LogView) (counts : List ℕ) (is : IsLog log counts) where
  abbrev longer : LogView
  longer = record log { behind = log.readers; messages = log.messages ++ messages }

  long : length longer.messages ≡ length log.messages + length messages
  long = length-append log.messages messages

  -- no pin has taken them
  all_behind : 0 < length messages → longer.behind ≡ count_by (is_behind longer) counts
  all_behind some = is.readers ∙ sym (all_counted (is_behind longer) counts (λ k d h. lt-ltb _ _ (omega (arith, is.within k d h, long, some))))

  pub log_written : 0 < length messages → IsLog (written messages log) counts
  log_written some = go (log.readers == 0)
    where
      go : (none : Bool) → IsLog (cond none log longer) counts
      go true = is
      go false = record {
        cut = is.cut;
        readers = is.readers;
        within = λ k d h. omega (arith, is.within k d h, long);
        behind = all_behind some;
      }

  pub unread_written : (count : ℕ) → (log.readers ≡ 0 → ⊥) → past log.cut count ≤ length log.messages →
      unread (written messages log) count ≡ unread log count ++ messages
  unread_written count some within = go (log.readers == 0) refl
    where
      go : (none : Bool) → (log.readers == 0) ≡ none → unread (cond none log longer) count ≡ unread log count ++ messages
      go true e = absurd (some (eqb-true log.readers 0 e))
      go false e = drop-append-le (past log.cut count) log.messages messages within

-- a log that pins read keeps them
pub written_read : (messages : List Message) (log : LogView) → 0 < log.readers →
    written messages log ≡ record log { behind = log.readers; messages = log.messages ++ messages }
written_read messages log read = go (log.readers == 0) refl
  where
    go : (none : Bool) → (log.readers == 0) ≡ none →
        cond none log (record log { behind = log.readers; messages = log.messages ++ messages })
        ≡ record log { behind = log.readers; messages = log.messages ++ messages }
    go true e = absurd (let is = eqb-true log.readers 0 e in omega (arith, is, read))
    go false e = refl

-- ---- messages removed

module _ (removed : ℕ) (log : LogView) (counts : List ℕ) (is : IsLog log counts) (taken : All (λ c. removed ≤ past log.cut c) counts) where
  moved : All (λ c. past (count_after log.cut removed) c + removed ≡ past log.cut c) counts
  moved k d h = past_cut log.cut removed (slice_index_or counts k d) is.cut (taken k d h)

  -- the same pins are behind
  as_behind : All (λ c. is_behind log c ≡ is_behind (shortened removed log) c) counts
  as_behind k d h =
      let shown = moved k d h in
      let long = length-drop removed log.messages in
      same_lt _ _ _ _ (λ more. omega (arith, shown, long, more)) (λ more. omega (arith, shown, long, more))

  log_shortened : IsLog (shortened removed log) counts
  log_shortened = record {
    cut = after_within log.cut removed;
    readers = is.readers;
    within = λ k d h. omega (arith, is.within k d h, moved k d h, length-drop removed log.messages);
    behind = is.behind ∙ same_count (is_behind log) (is_behind (shortened removed log)) counts as_behind;
  }

  unread_shortened : All (λ c. unread (shortened removed log) c ≡ unread log c) counts
  unread_shortened k d h =
      let shown = moved k d h in
      drop-drop (past (count_after log.cut removed) (slice_index_or counts k d)) removed log.messages
      ∙ ap (λ place. drop place log.messages) (omega (arith, shown))

module _ (kept : ℕ) (log : LogView) (counts : List ℕ) (is : IsLog log counts)
    (taken : All (λ c. length log.messages - kept ≤ past log.cut c) counts) where
  pub log_cut : IsLog (cut_to kept log) counts
  log_cut = go (nat_le kept (length log.messages / 2))
    where
      go : (few : Bool) → IsLog (cond few (shortened (length log.messages - kept) log) log) counts
      go true = log_shortened (length log.messages - kept) log counts is taken
      go false = is

  pub unread_cut : All (λ c. unread (cut_to kept log) c ≡ unread log c) counts
  unread_cut = go (nat_le kept (length log.messages / 2))
    where
      go : (few : Bool) → All (λ c. unread (cond few (shortened (length log.messages - kept) log) log) c ≡ unread log c) counts
      go true = unread_shortened (length log.messages - kept) log counts is taken
      go false = λ k d h. refl

-- ---- messages taken

pub unread_passed : (place : ℕ) (log : LogView) (count : ℕ) → unread (passed place log) count ≡ unread log count
unread_passed place log count = go (place == length log.messages)
  where
    go : (all : Bool) → unread (cond all (record log { behind = log.behind - 1 }) log) count ≡ unread log count
    go true = refl
    go false = refl

pub unread_after : (log : LogView) (count more : ℕ) → log.cut < two_to_64 → past log.cut count + more < two_to_64 →
    unread log (count_after count more) ≡ drop more (unread log count)
unread_after log count more below few =
    ap (λ place. drop place log.messages) (past_after log.cut count more below few)
    ∙ sym (drop-drop more (past log.cut count) log.messages)

-- a pin that hasn't taken all is counted
pub some_behind : (log : LogView) (count : ℕ) (xs ys : List ℕ) → IsLog log xs → IsReplaced count count xs ys →
    past log.cut count < length log.messages → 0 < log.behind
some_behind log count xs ys is replaced more =
    omega (arith, is.behind, held-counted (is_behind log) count count xs ys replaced (lt-ltb _ _ more))

module _ (log : LogView) (count more : ℕ) (xs ys : List ℕ) (is : IsLog log xs) (replaced : IsReplaced count (count_after count more) xs ys)
    (some : 0 < more) (there : past log.cut count + more ≤ length log.messages) (few : length log.messages < two_to_64) where
  abbrev place : ℕ
  place = past log.cut (count_after count more)

  place_is : place ≡ past log.cut count + more
  place_is = past_after log.cut count more is.cut (omega (arith, there, few))

  was_behind : is_behind log count ≡ true
  was_behind = lt-ltb _ _ (omega (arith, some, there))

  within : All (λ c. past log.cut c ≤ length log.messages) ys
  within = replaced-all (λ c. past log.cut c ≤ length log.messages) count (count_after count more) xs ys replaced is.within (omega (arith, there, place_is))

  -- the pin is no longer counted if it has taken all
  counted : (still : Bool) → is_behind log (count_after count more) ≡ still →
      count_by (is_behind log) ys + 1 ≡ count_by (is_behind log) xs + cond still 1 0
  counted still is_still =
      ap (λ b. count_by (is_behind log) ys + cond b 1 0) (sym was_behind)
      ∙ replaced-count (is_behind log) count (count_after count more) xs ys replaced
      ∙ ap (λ b. count_by (is_behind log) xs + cond b 1 0) is_still

  one_less : place ≡ length log.messages → log.behind - 1 ≡ count_by (is_behind log) ys
  one_less all = omega (arith, is.behind, counted false (le-ltb _ _ (omega (arith, all))))

  as_many : (place ≡ length log.messages → ⊥) → log.behind ≡ count_by (is_behind log) ys
  as_many not_all =
      let lies : place < length log.messages = omega (arith, place_is, there, not_all) in
      omega (arith, is.behind, counted true (lt-ltb _ _ lies))

  pub log_passed : IsLog (passed place log) ys
  log_passed = go (place == length log.messages) refl
    where
      readers : log.readers ≡ length ys
      readers = is.readers ∙ sym (replaced-length count (count_after count more) xs ys replaced)

      go : (all : Bool) → (place == length log.messages) ≡ all → IsLog (cond all (record log { behind = log.behind - 1 }) log) ys
      go true e = record { cut = is.cut; readers = readers; within = within; behind = one_less (eqb-true place (length log.messages) e) }
      go false e = record { cut = is.cut; readers = readers; within = within; behind = as_many (eqb-false place (length log.messages) e) }
