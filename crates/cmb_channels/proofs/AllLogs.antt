-- The logs of all nets, and what waits at each pin.
use Rattle.std.proofs.Common.{◌≡◌, ℕ, zero, suc, ◌+◌, ◌-◌, ◌<◌, ◌≤◌, ◌==◌, Bool, true, false, cond, max, List, [], ◌∷◌, ◌++◌, map, length, drop, count_by, replicate, All, Some, slice_get, slice_index_or, slice_set, refl, ap, sym, subst, ◌∙◌, arith, append-nil, zero-add, inl, inr}
use Rattle.std.proofs.lemmas.Bool.{eqb-true, eqb-false, ltb-false}
use Rattle.std.proofs.lemmas.List.{length-set, length-map, length-drop, length-replicate}
use Rattle.std.proofs.lemmas.List.FromFn.{length-map-range_with_len, get_or-map-range_with_len, map-range_with_len_more}
use Rattle.std.proofs.lemmas.List.Elements.{All-nil, All-cons, All-head, All-tail, All-weaker}
use Rattle.std.proofs.lemmas.Option.{slice_get_read, slice_get_within, get_or_from_slice_get}
use Rattle.std.specs.List.{range_with_len}
use Rattle.std.specs.Option.{option_map_or}
use Rattle.cmb_channels.specs.declared.message.Message.{Message}
use Rattle.design.specs.Pins.{pins_fed, all_fed}
use Rattle.cmb_channels.specs.Lists.{sent, taken_many, most_waiting}
use Rattle.cmb_channels.specs.Logs.{two_to_64, count_after, past, LogView, empty_log, logs_read_by, written, cut_to, passed, unread, is_behind, IsLog, unread_of, unread_lists, counts_of, AreLogs, AreStored}
use Rattle.cmb_channels.proofs.Counts.{IsReplaced, replaced-held, replaced-here, replaced-later, count_cons, none_counted}
use Rattle.cmb_channels.proofs.OneLog.{log_empty, log_written, unread_written, log_cut, unread_cut, unread_passed, unread_after, some_behind, log_passed}
use Rattle.cmb_channels.proofs.Places.{IsUpdated, update-set, get_of_update, get_update_same, get_update_other, sent-none}

-- ---- the counts of the pins that a net feeds

-- a pin of the net takes a message
pub counts_replaced : (net : ℕ) (sources counts : List ℕ) (pin old new : ℕ) → slice_get sources pin ≡ Some net → slice_get counts pin ≡ Some old →
    IsReplaced old new (counts_of net sources counts) (counts_of net sources (slice_set counts pin new))
counts_replaced net [] counts pin old new e f = cc
counts_replaced net (source ∷ sources) [] pin old new e f = cc
counts_replaced net (source ∷ sources) (count ∷ counts) zero old new e f = go (source == net) refl
  where
    go : (same : Bool) → (source == net) ≡ same →
        IsReplaced old new (cond same (count ∷ counts_of net sources counts) (counts_of net sources counts))
        (cond same (new ∷ counts_of net sources counts) (counts_of net sources counts))
    go true is =
        let here : count ≡ old = cc in
        subst (λ c. IsReplaced old new (c ∷ counts_of net sources counts) (new ∷ counts_of net sources counts)) (sym here)
        (replaced-here old new (counts_of net sources counts))
    go false is = let own : source ≡ net = cc in absurd (eqb-false source net is own)
counts_replaced net (source ∷ sources) (count ∷ counts) (suc pin) old new e f =
    go (source == net) (counts_replaced net sources counts pin old new e f)
  where
    go : (same : Bool) → IsReplaced old new (counts_of net sources counts) (counts_of net sources (slice_set counts pin new)) →
        IsReplaced old new (cond same (count ∷ counts_of net sources counts) (counts_of net sources counts))
        (cond same (count ∷ counts_of net sources (slice_set counts pin new)) (counts_of net sources (slice_set counts pin new)))
    go true replaced = replaced-later old new count _ _ replaced
    go false replaced = replaced

-- a pin of another net does
pub counts_elsewhere : (net source : ℕ) (sources counts : List ℕ) (pin new : ℕ) → slice_get sources pin ≡ Some source → (net ≡ source → ⊥) →
    counts_of net sources (slice_set counts pin new) ≡ counts_of net sources counts
counts_elsewhere net source [] counts pin new e differs = refl
counts_elsewhere net source (first ∷ sources) [] pin new e differs = refl
counts_elsewhere net source (first ∷ sources) (count ∷ counts) zero new e differs = go (first == net) refl
  where
    go : (same : Bool) → (first == net) ≡ same →
        cond same (new ∷ counts_of net sources counts) (counts_of net sources counts)
        ≡ cond same (count ∷ counts_of net sources counts) (counts_of net sources counts)
    go true is = let own : first ≡ source = cc in absurd (differs (sym (eqb-true first net is) ∙ own))
    go false is = refl
counts_elsewhere net source (first ∷ sources) (count ∷ counts) (suc pin) new e differs =
    go (first == net) (counts_elsewhere net source sources counts pin new e differs)
  where
    go : (same : Bool) → counts_of net sources (slice_set counts pin new) ≡ counts_of net sources counts →
        cond same (count ∷ counts_of net sources (slice_set counts pin new)) (counts_of net sources (slice_set counts pin new))
        ≡ cond same (count ∷ counts_of net sources counts) (counts_of net sources counts)
    go true rest = ap (λ cs. count ∷ cs) rest
    go false rest = rest

-- there is one for each pin that the net feeds
pub length-counts : (net : ℕ) (sources counts : List ℕ) → length counts ≡ length sources →
    length (counts_of net sources counts) ≡ length (pins_fed net sources)
length-counts net [] counts e = refl
length-counts net (source ∷ sources) [] e = absurd (omega (arith, e))
length-counts net (source ∷ sources) (count ∷ counts) e =
    go (source == net) (length-counts net sources counts (omega (arith, e)) ∙ sym (length-map (pins_fed net sources) suc))
  where
    go : (same : Bool) → length (counts_of net sources counts) ≡ length (map suc (pins_fed net sources)) →
        length (cond same (count ∷ counts_of net sources counts) (counts_of net sources counts))
        ≡ length (cond {A = List ℕ} same (0 ∷ map suc (pins_fed net sources)) (map suc (pins_fed net sources)))
    go true rest = ap suc rest
    go false rest = rest

-- at first each is 0, one for each pin of the net
pub counts_none : (net : ℕ) (sources : List ℕ) → All (λ count. count ≡ 0) (counts_of net sources (replicate (length sources) 0))
counts_none net [] = All-nil (λ count. count ≡ 0)
counts_none net (source ∷ sources) = go (source == net) (counts_none net sources)
  where
    go : (same : Bool) → All (λ count. count ≡ 0) (counts_of net sources (replicate (length sources) 0)) →
        All (λ count. count ≡ 0)
        (cond same (0 ∷ counts_of net sources (replicate (length sources) 0)) (counts_of net sources (replicate (length sources) 0)))
    go true rest = All-cons (λ count. count ≡ 0) 0 _ refl rest
    go false rest = rest

pub counts_many : (net : ℕ) (sources : List ℕ) →
    length (counts_of net sources (replicate (length sources) 0)) ≡ count_by (λ source. source == net) sources
counts_many net [] = refl
counts_many net (source ∷ sources) =
    go (source == net) (counts_many net sources) ∙ sym (count_cons (λ source. source == net) source sources)
  where
    go : (same : Bool) → length (counts_of net sources (replicate (length sources) 0)) ≡ count_by (λ source. source == net) sources →
        length (cond same (0 ∷ counts_of net sources (replicate (length sources) 0)) (counts_of net sources (replicate (length sources) 0)))
        ≡ cond same 1 0 + count_by (λ source. source == net) sources
    go true rest = omega (arith, rest)
    go false rest = omega (arith, rest)

-- ---- what waits at each pin

pub length-unread : (logs : List LogView) (sources counts : List ℕ) → length counts ≡ length sources →
    length (unread_lists logs sources counts) ≡ length sources
length-unread logs [] counts e = refl
length-unread logs (source ∷ sources) [] e = absurd (omega (arith, e))
length-unread logs (source ∷ sources) (count ∷ counts) e = ap suc (length-unread logs sources counts (omega (arith, e)))

-- a pin that has a list has a source and a count
pub pin_within : {logs : List LogView} {sources counts : List ℕ} → AreLogs logs sources counts → (pin : ℕ) (lists : List (List Message)) →
    unread_lists logs sources counts ≡ lists → pin < length lists → pin < length sources
pin_within {logs} {sources} {counts} all pin lists is h =
    omega (arith, h, ap length is, length-unread logs sources counts all.one_count_each)

-- a pin's source and count, and its source's log
pub record Reading (logs : List LogView) (sources counts : List ℕ) (pin net count : ℕ) (log : LogView) : Type 0 where
  pub fed : slice_get sources pin ≡ Some net
  pub has : slice_get counts pin ≡ Some count
  pub at : slice_get logs net ≡ Some log

pub reading : {logs : List LogView} {sources counts : List ℕ} → AreLogs logs sources counts → (pin net count : ℕ) (log : LogView) →
    pin < length sources → net ≡ slice_index_or sources pin net → count ≡ slice_index_or counts pin count →
    log ≡ slice_index_or logs net log → Reading logs sources counts pin net count log
reading {logs} {sources} {counts} all pin net count log exists is has reads = record {
  fed = slice_get_read sources (length sources) pin net refl exists is;
  has = slice_get_read counts (length sources) pin count (sym all.one_count_each) exists has;
  at = slice_get_read logs (length logs) net log refl (omega (arith, all.nets pin net exists, is)) reads;
}

pub unread_at : (logs : List LogView) (sources counts : List ℕ) (pin source count : ℕ) → slice_get sources pin ≡ Some source →
    slice_get counts pin ≡ Some count → slice_index_or (unread_lists logs sources counts) pin [] ≡ unread_of logs source count
unread_at logs [] counts pin source count e f = cc
unread_at logs (first ∷ sources) [] pin source count e f = cc
unread_at logs (first ∷ sources) (one ∷ counts) zero source count e f =
    let is : first ≡ source = cc in
    let has : one ≡ count = cc in
    ap (λ s. unread_of logs s one) is ∙ ap (unread_of logs source) has
unread_at logs (first ∷ sources) (one ∷ counts) (suc pin) source count e f = unread_at logs sources counts pin source count e f

unread_set : (logs : List LogView) (sources counts : List ℕ) (pin source new : ℕ) → slice_get sources pin ≡ Some source →
    unread_lists logs sources (slice_set counts pin new) ≡ slice_set (unread_lists logs sources counts) pin (unread_of logs source new)
unread_set logs [] counts pin source new e = refl
unread_set logs (first ∷ sources) [] pin source new e = refl
unread_set logs (first ∷ sources) (one ∷ counts) zero source new e =
    let is : first ≡ source = cc in ap (λ s. unread_of logs s new ∷ unread_lists logs sources counts) is
unread_set logs (first ∷ sources) (one ∷ counts) (suc pin) source new e =
    ap (λ lists. unread_of logs first one ∷ lists) (unread_set logs sources counts pin source new e)

-- the log of one net changed, so that its pins have these messages more
unread_sent : (old new : List LogView) (net : ℕ) (messages : List Message) (sources counts : List ℕ) →
    All (λ count. unread_of new net count ≡ unread_of old net count ++ messages) (counts_of net sources counts) →
    ((source count : ℕ) → (source ≡ net → ⊥) → unread_of new source count ≡ unread_of old source count) →
    unread_lists new sources counts ≡ sent net messages sources (unread_lists old sources counts)
unread_sent old new net messages [] counts own others = refl
unread_sent old new net messages (source ∷ sources) [] own others = refl
unread_sent old new net messages (source ∷ sources) (count ∷ counts) own others =
    go (source == net) refl own (λ later. unread_sent old new net messages sources counts later others)
  where
    P : ℕ → Type 0
    P c = unread_of new net c ≡ unread_of old net c ++ messages

    go : (same : Bool) → (source == net) ≡ same → All P (cond same (count ∷ counts_of net sources counts) (counts_of net sources counts)) →
        (All P (counts_of net sources counts) → unread_lists new sources counts ≡ sent net messages sources (unread_lists old sources counts)) →
        unread_of new source count ∷ unread_lists new sources counts
        ≡ cond same (unread_of old source count ++ messages) (unread_of old source count)
        ∷ sent net messages sources (unread_lists old sources counts)
    go true is all rest =
        let here = eqb-true source net is in
        let first = ap (λ s. unread_of new s count) here ∙ All-head P count _ all ∙ ap (λ s. unread_of old s count ++ messages) (sym here) in
        let later = rest (All-tail P count _ all) in
        λ i. first i ∷ later i
    go false is all rest =
        let first = others source count (eqb-false source net is) in
        let later = rest all in
        λ i. first i ∷ later i

-- a log was written in the place of another
unread_here : (logs : List LogView) (net : ℕ) (old new : LogView) (count : ℕ) → slice_get logs net ≡ Some old →
    unread_of (slice_set logs net new) net count ≡ unread new count
unread_here logs net old new count e =
    ap (λ ls. unread_of ls net count) (sym (update-set (λ log. new) net logs old e))
    ∙ ap (λ found. option_map_or (λ log. unread log count) found []) (get_update_same (λ log. new) net logs old e)

unread_elsewhere : (logs : List LogView) (net : ℕ) (old new : LogView) (source count : ℕ) → slice_get logs net ≡ Some old →
    (source ≡ net → ⊥) → unread_of (slice_set logs net new) source count ≡ unread_of logs source count
unread_elsewhere logs net old new source count e differs =
    ap (λ ls. unread_of ls source count) (sym (update-set (λ log. new) net logs old e))
    ∙ ap (λ found. option_map_or (λ log. unread log count) found []) (get_update_other (λ log. new) net logs source differs)

pub unread_is : (logs : List LogView) (net : ℕ) (log : LogView) (count : ℕ) → slice_get logs net ≡ Some log →
    unread_of logs net count ≡ unread log count
unread_is logs net log count e = ap (λ found. option_map_or (λ log. unread log count) found []) e

-- ---- one log changes

module _ (logs : List LogView) (sources counts : List ℕ) (all : AreLogs logs sources counts) (net : ℕ) (log : LogView)
    (at : slice_get logs net ≡ Some log) where
  -- the logs with this one changed
  logs_set : (new : LogView) (later : List ℕ) → length later ≡ length counts → IsLog new (counts_of net sources later) →
      ((other : ℕ) → (other ≡ net → ⊥) → counts_of other sources later ≡ counts_of other sources counts) →
      AreLogs (slice_set logs net new) sources later
  logs_set new later long here elsewhere = record {
    one_count_each = long ∙ all.one_count_each;
    nets = λ k d h. omega (arith, all.nets k d h, length-set logs net new);
    logs_are = λ number found e.
        go number found (get_of_update (λ log. new) net logs number found (ap (λ ls. slice_get ls number) (update-set (λ log. new) net logs log at) ∙ e));
  }
    where
      go : (number : ℕ) (found : LogView) → IsUpdated (λ log. new) net logs number found → IsLog found (counts_of number sources later)
      go number found (inl same) =
          subst (λ n. IsLog found (counts_of n sources later)) (sym same.0)
          (subst (λ l. IsLog l (counts_of net sources later)) (sym same.1.2) here)
      go number found (inr other) =
          subst (IsLog found) (sym (elsewhere number other.0)) (all.logs_are number found other.1)

  -- a log from which no pin has other messages to take
  lists_same : (new : LogView) (later : List ℕ) → All (λ c. unread new c ≡ unread log c) (counts_of net sources later) →
      unread_lists (slice_set logs net new) sources later ≡ unread_lists logs sources later
  lists_same new later same =
      unread_sent logs (slice_set logs net new) net [] sources later
      (λ k d h. unread_here logs net log new _ at ∙ same k d h ∙ sym (unread_is logs net log _ at) ∙ sym (append-nil _))
      (λ source count. unread_elsewhere logs net log new source count at)
      ∙ sent-none net sources (unread_lists logs sources later)

  is : IsLog log (counts_of net sources counts)
  is = all.logs_are net log at

  -- ---- its net sends

  module _ (messages : List Message) (new : LogView) (new_is : new ≡ written messages log) where
    pub logs_written : 0 < length messages → AreLogs (slice_set logs net new) sources counts
    logs_written some =
        subst (λ l. AreLogs (slice_set logs net l) sources counts) (sym new_is)
        (logs_set (written messages log) counts refl (log_written messages log (counts_of net sources counts) is some) (λ other differs. refl))

    pub lists_written : unread_lists (slice_set logs net new) sources counts ≡ sent net messages sources (unread_lists logs sources counts)
    lists_written =
        ap (λ l. unread_lists (slice_set logs net l) sources counts) new_is
        ∙ unread_sent logs (slice_set logs net (written messages log)) net messages sources counts
        (λ k d h.
        unread_here logs net log (written messages log) _ at
        ∙ unread_written messages log (counts_of net sources counts) is _ (λ none. omega (arith, none, is.readers, h)) (is.within k d h)
        ∙ ap (λ list. list ++ messages) (sym (unread_is logs net log _ at)))
        (λ source count. unread_elsewhere logs net log (written messages log) source count at)

  -- ---- a pin takes

  -- a pin has taken no more than was sent
  pub count_within : (pin count : ℕ) → slice_get sources pin ≡ Some net → slice_get counts pin ≡ Some count →
      past log.cut count ≤ length log.messages
  count_within pin count fed has =
      replaced-held (λ c. past log.cut c ≤ length log.messages) count count (counts_of net sources counts) _
      (counts_replaced net sources counts pin count count fed has) is.within

  -- a pin that hasn't taken all is counted
  pub is_counted : (pin count : ℕ) → slice_get sources pin ≡ Some net → slice_get counts pin ≡ Some count →
      past log.cut count < length log.messages → 0 < log.behind
  is_counted pin count fed has more =
      some_behind log count (counts_of net sources counts) _ is (counts_replaced net sources counts pin count count fed has) more

  -- messages that wait at a pin are in the log
  pub are_there : (pin count more : ℕ) → slice_get sources pin ≡ Some net → slice_get counts pin ≡ Some count → 0 < more →
      more ≤ length (slice_index_or (unread_lists logs sources counts) pin []) → past log.cut count + more ≤ length log.messages
  are_there pin count more fed has some there =
      let waits = unread_at logs sources counts pin net count fed has ∙ unread_is logs net log count at in
      omega (arith, some, there, ap length waits, length-drop (past log.cut count) log.messages)

  module _ (pin count more : ℕ) (fed : slice_get sources pin ≡ Some net) (has : slice_get counts pin ≡ Some count)
      (some : 0 < more) (there : past log.cut count + more ≤ length log.messages) (few : length log.messages < two_to_64)
      (new : LogView) (new_is : new ≡ passed (past log.cut (count_after count more)) log) where
    abbrev later_counts : List ℕ
    later_counts = slice_set counts pin (count_after count more)

    abbrev passed_log : LogView
    passed_log = passed (past log.cut (count_after count more)) log

    one_replaced : IsReplaced count (count_after count more) (counts_of net sources counts) (counts_of net sources later_counts)
    one_replaced = counts_replaced net sources counts pin count (count_after count more) fed has

    pub logs_passed : AreLogs (slice_set logs net new) sources (slice_set counts pin (count_after count more))
    logs_passed =
        subst (λ l. AreLogs (slice_set logs net l) sources later_counts) (sym new_is)
        (logs_set passed_log later_counts (length-set counts pin (count_after count more))
        (log_passed log count more (counts_of net sources counts) (counts_of net sources later_counts) is one_replaced some there few)
        (λ other differs. counts_elsewhere other net sources counts pin (count_after count more) fed differs))

    pub lists_passed :
        unread_lists (slice_set logs net new) sources (slice_set counts pin (count_after count more)) ≡ taken_many more pin (unread_lists logs sources counts)
    lists_passed =
        ap (λ l. unread_lists (slice_set logs net l) sources later_counts) new_is
        ∙ lists_same passed_log later_counts (λ k d h. unread_passed (past log.cut (count_after count more)) log _)
        ∙ unread_set logs sources counts pin net (count_after count more) fed
        ∙ ap (slice_set (unread_lists logs sources counts) pin)
        (unread_is logs net log (count_after count more) at
        ∙ unread_after log count more is.cut (omega (arith, there, few))
        ∙ ap (drop more) (sym (unread_is logs net log count at) ∙ sym (unread_at logs sources counts pin net count fed has)))

  -- ---- how many wait at most

  unread_long : (count : ℕ) → length (unread_of logs net count) ≡ length log.messages - past log.cut count
  unread_long count = ap length (unread_is logs net log count at) ∙ length-drop (past log.cut count) log.messages

  most_le : (limit : ℕ) (sources counts : List ℕ) → All (λ c. length log.messages ≤ past log.cut c + limit) (counts_of net sources counts) →
      most_waiting net sources (unread_lists logs sources counts) ≤ limit
  most_le limit [] counts few = omega arith
  most_le limit (source ∷ sources) [] few = omega arith
  most_le limit (source ∷ sources) (count ∷ counts) few = go (source == net) refl few (most_le limit sources counts)
    where
      P : ℕ → Type 0
      P c = length log.messages ≤ past log.cut c + limit

      go : (same : Bool) → (source == net) ≡ same → All P (cond same (count ∷ counts_of net sources counts) (counts_of net sources counts)) →
          (All P (counts_of net sources counts) → most_waiting net sources (unread_lists logs sources counts) ≤ limit) →
          cond same (max (length (unread_of logs source count)) (most_waiting net sources (unread_lists logs sources counts)))
          (most_waiting net sources (unread_lists logs sources counts))
          ≤ limit
      go true is few later =
          let own = ap (λ s. length (unread_of logs s count)) (eqb-true source net is) in
          let rest = later (All-tail P count _ few) in
          omega (arith, own, unread_long count, All-head P count _ few, rest)
      go false is few later = later few

  most_bounds : (sources counts : List ℕ) →
      All (λ c. length log.messages ≤ past log.cut c + most_waiting net sources (unread_lists logs sources counts)) (counts_of net sources counts)
  most_bounds [] counts = All-nil (λ c. length log.messages ≤ past log.cut c + 0)
  most_bounds (source ∷ sources) [] = All-nil (λ c. length log.messages ≤ past log.cut c + 0)
  most_bounds (source ∷ sources) (count ∷ counts) = go (source == net) refl (most_bounds sources counts)
    where
      most : ℕ
      most = most_waiting net sources (unread_lists logs sources counts)

      P : ℕ → ℕ → Type 0
      P limit c = length log.messages ≤ past log.cut c + limit

      go : (same : Bool) → (source == net) ≡ same → All (P most) (counts_of net sources counts) →
          All (P (cond same (max (length (unread_of logs source count)) most) most)) (cond same (count ∷ counts_of net sources counts) (counts_of net sources counts))
      go true is later =
          let own = ap (λ s. length (unread_of logs s count)) (eqb-true source net is) in
          let limit = max (length (unread_of logs source count)) most in
          All-cons (P limit) count (counts_of net sources counts) (omega (arith, own, unread_long count))
          (All-weaker (P most) (P limit) (λ c h. omega (arith, h)) (counts_of net sources counts) later)
      go false is later = later

  -- no more than are in the log
  pub most_within : most_waiting net sources (unread_lists logs sources counts) ≤ length log.messages
  most_within = most_le (length log.messages) sources counts (λ k d h. omega arith)

  -- none if no pin is behind
  pub most_none : log.behind ≡ 0 → most_waiting net sources (unread_lists logs sources counts) ≤ 0
  most_none none =
      most_le 0 sources counts
      (λ k d h.
      let all_taken = none_counted (is_behind log) (counts_of net sources counts) (sym is.behind ∙ none) k d h in
      omega (arith, ltb-false _ _ all_taken))

  -- ---- what all pins have taken is removed

  module _ (kept : ℕ) (enough : most_waiting net sources (unread_lists logs sources counts) ≤ kept) (new : LogView) (new_is : new ≡ cut_to kept log) where
    taken_by_all : All (λ c. length log.messages - kept ≤ past log.cut c) (counts_of net sources counts)
    taken_by_all k d h = omega (arith, enough, most_bounds sources counts k d h)

    pub logs_cut : AreLogs (slice_set logs net new) sources counts
    logs_cut =
        subst (λ l. AreLogs (slice_set logs net l) sources counts) (sym new_is)
        (logs_set (cut_to kept log) counts refl (log_cut kept log (counts_of net sources counts) is taken_by_all) (λ other differs. refl))

    pub lists_cut : unread_lists (slice_set logs net new) sources counts ≡ unread_lists logs sources counts
    lists_cut =
        ap (λ l. unread_lists (slice_set logs net l) sources counts) new_is
        ∙ lists_same (cut_to kept log) counts (unread_cut kept log (counts_of net sources counts) is taken_by_all)

-- the pins that nets feed stay the same
pub stored_set : {logs : List LogView} {sources counts : List ℕ} {fed : List (List ℕ)} → AreStored logs sources counts fed → (net : ℕ) (new : LogView) →
    (later : List ℕ) → AreLogs (slice_set logs net new) sources later → AreStored (slice_set logs net new) sources later fed
stored_set {logs} {sources} stored net new later are = record {
  logs_are = are;
  fed_are = stored.fed_are ∙ ap (λ nets. all_fed nets sources) (sym (length-set logs net new));
}

-- ---- at first

module _ (readers : ℕ → ℕ) where
  none_waits : (numbers : List ℕ) (net : ℕ) → unread_of (map (λ number. empty_log (readers number)) numbers) net 0 ≡ []
  none_waits [] net = refl
  none_waits (number ∷ numbers) zero = refl
  none_waits (number ∷ numbers) (suc net) = none_waits numbers net

  none_wait : (numbers sources : List ℕ) →
      unread_lists (map (λ number. empty_log (readers number)) numbers) sources (replicate (length sources) 0) ≡ replicate (length sources) []
  none_wait numbers [] = refl
  none_wait numbers (source ∷ sources) =
      let first = none_waits numbers source in
      let rest = none_wait numbers sources in
      λ i. first i ∷ rest i

pub lists_first : (nets : ℕ) (sources : List ℕ) →
    unread_lists (logs_read_by nets sources) sources (replicate (length sources) 0) ≡ replicate (length sources) []
lists_first nets sources = none_wait (λ net. count_by (λ source. source == net) sources) (range_with_len 0 nets) sources

pub length-read_by : (nets : ℕ) (sources : List ℕ) → length (logs_read_by nets sources) ≡ nets
length-read_by nets sources = length-map-range_with_len (λ net. empty_log (count_by (λ source. source == net) sources)) 0 nets

read_by_at : (nets : ℕ) (sources : List ℕ) (net : ℕ) (d : LogView) → net < nets →
    slice_index_or (logs_read_by nets sources) net d ≡ empty_log (count_by (λ source. source == net) sources)
read_by_at nets sources net d below =
    get_or-map-range_with_len (λ n. empty_log (count_by (λ source. source == n) sources)) 0 nets net net d below (zero-add net)

pub logs_first : (nets : ℕ) (sources : List ℕ) → All (λ source. source < nets) sources →
    AreLogs (logs_read_by nets sources) sources (replicate (length sources) 0)
logs_first nets sources below = record {
  one_count_each = length-replicate (length sources) 0;
  nets = λ k d h. omega (arith, below k d h, length-read_by nets sources);
  logs_are = λ net log e.
      let within : net < nets = omega (arith, slice_get_within (logs_read_by nets sources) net log e, length-read_by nets sources) in
      let is : log ≡ empty_log (count_by (λ source. source == net) sources) =
      sym (get_or_from_slice_get (logs_read_by nets sources) net log log e) ∙ read_by_at nets sources net log within in
      let counts = counts_of net sources (replicate (length sources) 0) in
      subst (λ l. IsLog l counts) (sym (is ∙ ap empty_log (sym (counts_many net sources))))
      (log_empty counts (counts_none net sources));
}

-- the log of one more net, which as many pins read as the net feeds
pub read_by_more : (net : ℕ) (sources : List ℕ) →
    logs_read_by (net + 1) sources ≡ logs_read_by net sources ++ empty_log (length (pins_fed net sources)) ∷ []
read_by_more net sources =
    let many : length (pins_fed net sources) ≡ count_by (λ source. source == net) sources =
    sym (length-counts net sources (replicate (length sources) 0) (length-replicate (length sources) 0)) ∙ counts_many net sources in
    map-range_with_len_more (λ n. empty_log (count_by (λ source. source == n) sources)) 0 net net (zero-add net)
    ∙ ap (λ readers. logs_read_by net sources ++ empty_log readers ∷ []) (sym many)
