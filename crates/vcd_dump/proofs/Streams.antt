-- A stream of signals goes on as they do.
use Rattle.std.proofs.Common.{◌≡◌, ℕ, ◌+◌, ◌<◌, ◌≤◌, false, List, [], ◌∷◌, ◌++◌, length, length-append, All, get_or, subst, sym, arith}
use Rattle.std.specs.List.{AllByRecursion}
use Rattle.std.proofs.lemmas.List.Elements.{All-from_recursion, recursion_from_All, All-contains_itself}
use Rattle.std.proofs.lemmas.List.{length-map}
use Rattle.logic3.specs.declared.value.Value.{Value}
use Rattle.logic3.specs.declared.change.Change.{Change}
use Rattle.logic3.specs.Wave.{value_before, changes_between}
use Rattle.logic3.proofs.CallerLemmas.{All-wave_of, AllPairs-Alternates, Contains-wave_of_iff, IsWave-wave_of, changes_between-split}
use Rattle.vcd_dump.specs.Lines.{LineView}
use Rattle.vcd_dump.specs.Spans.{StreamView, begun, with_part, with_parts, span_lines, latest, spanned, IsPart, IsSpan, CanSpan, parts_of, stream_at}
use Rattle.vcd_dump.proofs.Gathered.{EachTick, EachLine, OfSpan-parts, span_lines-more, EachLine-span_lines, EachTick-span_lines, AllByRecursion-append, AllByRecursion-both, AllByRecursion-map}
use Rattle.vcd_dump.proofs.Ordered.{latest-bounds, latest-least}

-- ---- the latest time

each_split : (P : ℕ → Type 0) (signals : List (ℕ → Value)) (from to : ℕ) → from ≤ to → AllByRecursion (EachTick P) (parts_of signals 0 to) →
    AllByRecursion (EachTick P) (parts_of signals 0 from) × AllByRecursion (EachTick P) (parts_of signals from to)
each_split P [] from to h each = (tt, tt)
each_split P (signal ∷ signals) from to h each =
    let here = AllByRecursion-both (λ (change : Change). P change.tick) (changes_between signal 0 from) (changes_between signal from to)
    (subst (EachTick P) (changes_between-split signal 0 from to (omega arith) h) each.0) in
    let rest = each_split P signals from to h each.1 in
    ((here.0, rest.0), (here.1, rest.1))

each_joined : (P : ℕ → Type 0) (signals : List (ℕ → Value)) (from to : ℕ) → from ≤ to → AllByRecursion (EachTick P) (parts_of signals 0 from) →
    AllByRecursion (EachTick P) (parts_of signals from to) → AllByRecursion (EachTick P) (parts_of signals 0 to)
each_joined P [] from to h first second = tt
each_joined P (signal ∷ signals) from to h first second = (
  subst (EachTick P) (sym (changes_between-split signal 0 from to (omega arith) h))
      (AllByRecursion-append (λ (change : Change). P change.tick) (changes_between signal 0 from) (changes_between signal from to) first.0 second.0),
  each_joined P signals from to h first.1 second.1,
)

-- the latest of the lines of two spans in a row is that of the lines of both
latest-more : (signals : List (ℕ → Value)) (from to : ℕ) → from ≤ to →
    latest (latest 0 (span_lines 0 (parts_of signals 0 from))) (span_lines from (parts_of signals from to))
    ≡ latest 0 (span_lines 0 (parts_of signals 0 to))
latest-more signals from to h = omega (arith, low, high)
  where
    low : latest (latest 0 (span_lines 0 (parts_of signals 0 from))) (span_lines from (parts_of signals from to))
        ≤ latest 0 (span_lines 0 (parts_of signals 0 to))
    low =
        let most = latest 0 (span_lines 0 (parts_of signals 0 to)) in
        let P : ℕ → Type 0 = λ tick. tick ≤ most in
        let bounds = latest-bounds 0 most (span_lines 0 (parts_of signals 0 to)) (omega arith) in
        let parts = each_split P signals from to h (EachTick-span_lines P 0 (parts_of signals 0 to) bounds.1) in
        latest-least (latest 0 (span_lines 0 (parts_of signals 0 from))) most (span_lines from (parts_of signals from to))
        (latest-least 0 most (span_lines 0 (parts_of signals 0 from)) (omega arith)
        (EachLine-span_lines P 0 (parts_of signals 0 from) (λ e. omega arith) parts.0))
        (EachLine-span_lines P from (parts_of signals from to) (λ e. omega arith) parts.1)

    high : latest 0 (span_lines 0 (parts_of signals 0 to))
        ≤ latest (latest 0 (span_lines 0 (parts_of signals 0 from))) (span_lines from (parts_of signals from to))
    high =
        let most = latest (latest 0 (span_lines 0 (parts_of signals 0 from))) (span_lines from (parts_of signals from to)) in
        let P : ℕ → Type 0 = λ tick. tick ≤ most in
        let later = latest-bounds (latest 0 (span_lines 0 (parts_of signals 0 from))) most (span_lines from (parts_of signals from to)) (omega arith) in
        let earlier = latest-bounds 0 most (span_lines 0 (parts_of signals 0 from)) later.0 in
        latest-least 0 most (span_lines 0 (parts_of signals 0 to)) (omega arith)
        (EachLine-span_lines P 0 (parts_of signals 0 to) (λ e. omega arith)
        (each_joined P signals from to h (EachTick-span_lines P 0 (parts_of signals 0 from) earlier.1)
        (EachTick-span_lines P from (parts_of signals from to) later.1)))

-- ---- what a stream was given

-- nothing yet
pub with_parts-none : (stream : StreamView) → stream.given ≡ 0 → stream.lines ≡ [] → with_parts stream [] ≡ stream
with_parts-none stream none empty = λ i. record {
  nets = stream.nets;
  horizon = stream.horizon;
  written = stream.written;
  time = stream.time;
  given = sym none i;
  lines = sym empty i;
  failed = stream.failed;
}

-- the changes of one net more
pub with_parts-more : (stream : StreamView) (parts : List (List Change)) (part : List Change) → stream.failed ≡ false →
    with_part (with_parts stream parts) part ≡ with_parts stream (parts ++ part ∷ [])
with_parts-more stream parts part running = λ i. record {
  nets = stream.nets;
  horizon = stream.horizon;
  written = stream.written;
  time = stream.time;
  given = sym (length-append parts (part ∷ [])) i;
  lines = sym (span_lines-more stream.written parts part) i;
  failed = sym running i;
}

-- by those of each net it can go on
pub with_parts-can : (stream : StreamView) (upto : ℕ) (parts : List (List Change)) → stream.written < upto → upto ≤ stream.horizon + 1 →
    length parts ≡ stream.nets → All (IsPart stream.written upto) parts → CanSpan (with_parts stream parts) upto
with_parts-can stream upto parts ahead within each proper =
    let of_span = OfSpan-parts stream.nets stream.written upto parts ahead each proper in
    let lines = span_lines stream.written parts in
    record {
      ahead = ahead;
      within = within;
      each = each;
      values = of_span.count;
      low = All-from_recursion (λ (line : LineView). stream.written ≤ line.tick) lines of_span.low;
      high = All-from_recursion (λ (line : LineView). line.tick < upto) lines of_span.high;
    }

-- so it can by those of a span
pub IsSpan-can : (stream : StreamView) (upto : ℕ) (parts : List (List Change)) → IsSpan stream upto parts →
    CanSpan (with_parts stream parts) upto
IsSpan-can stream upto parts span = with_parts-can stream upto parts span.ahead span.within span.each span.proper

-- ---- streams

none_yet : (P : ℕ → Type 0) (signals : List (ℕ → Value)) → AllByRecursion (EachTick P) (parts_of signals 0 0)
none_yet P [] = tt
none_yet P (signal ∷ signals) = (tt, none_yet P signals)

-- at its beginning
pub stream_at-begun : (signals : List (ℕ → Value)) (horizon : ℕ) → begun (length signals) horizon ≡ stream_at signals horizon 0
stream_at-begun signals horizon = λ i. record {
  nets = length signals;
  horizon = horizon;
  written = 0;
  time = start i;
  given = 0;
  lines = [];
  failed = false;
}
  where
    start : 0 ≡ latest 0 (span_lines 0 (parts_of signals 0 0))
    start =
        let least = latest-least 0 0 (span_lines 0 (parts_of signals 0 0)) (omega arith)
        (EachLine-span_lines (λ tick. tick ≤ 0) 0 (parts_of signals 0 0) (λ e. omega arith) (none_yet (λ tick. tick ≤ 0) signals)) in
        omega arith

-- after a span
pub stream_at-spanned : (signals : List (ℕ → Value)) (horizon from to : ℕ) → from ≤ to →
    spanned (with_parts (stream_at signals horizon from) (parts_of signals from to)) to ≡ stream_at signals horizon to
stream_at-spanned signals horizon from to h = λ i. record {
  nets = length signals;
  horizon = horizon;
  written = to;
  time = latest-more signals from to h i;
  given = 0;
  lines = [];
  failed = false;
}

-- the changes of a signal are those of a span
pub IsPart-changes_between : (signal : ℕ → Value) (from to : ℕ) → IsPart from to (changes_between signal from to)
IsPart-changes_between signal from to = record {
  rises = AllPairs-Alternates (value_before signal from) 0 (changes_between signal from to) (IsWave-wave_of signal from to);
  low = λ k d a.
      let change : Change = get_or (changes_between signal from to) k d in
      ((Contains-wave_of_iff signal from to change.tick change.value).0 (All-contains_itself (changes_between signal from to) k d a)).0;
  high = All-wave_of signal from to;
}

proper : (signals : List (ℕ → Value)) (from to : ℕ) → AllByRecursion (IsPart from to) (parts_of signals from to)
proper [] from to = tt
proper (signal ∷ signals) from to = (IsPart-changes_between signal from to, proper signals from to)

pub IsPart-parts_of : (signals : List (ℕ → Value)) (from to : ℕ) → All (IsPart from to) (parts_of signals from to)
IsPart-parts_of signals from to = All-from_recursion (IsPart from to) (parts_of signals from to) (proper signals from to)

-- they are a span of it
pub stream_at-span : (signals : List (ℕ → Value)) (horizon from to : ℕ) → from < to → to ≤ horizon + 1 →
    IsSpan (stream_at signals horizon from) to (parts_of signals from to)
stream_at-span signals horizon from to ahead within = record {
  ahead = ahead;
  within = within;
  each = length-map signals (λ signal. changes_between signal from to);
  proper = IsPart-parts_of signals from to;
}

-- it can go on
pub stream_at-can : (signals : List (ℕ → Value)) (horizon from to : ℕ) → from < to → to ≤ horizon + 1 →
    CanSpan (with_parts (stream_at signals horizon from) (parts_of signals from to)) to
stream_at-can signals horizon from to ahead within =
    IsSpan-can (stream_at signals horizon from) to (parts_of signals from to) (stream_at-span signals horizon from to ahead within)

-- ---- the latest time of all

proper_low : (signals : List (ℕ → Value)) (to : ℕ) → AllByRecursion (EachTick (λ tick. tick < to)) (parts_of signals 0 to)
proper_low [] to = tt
proper_low (signal ∷ signals) to =
    (recursion_from_All (λ (change : Change). change.tick < to) (changes_between signal 0 to) (All-wave_of signal 0 to), proper_low signals to)

-- no line is behind the last tick
pub stream_at-latest : (signals : List (ℕ → Value)) (last : ℕ) →
    EachLine (λ tick. tick ≤ last) (span_lines 0 (parts_of signals 0 (last + 1)))
stream_at-latest signals last =
    AllByRecursion-map (λ (line : LineView). line.tick < last + 1) (λ (line : LineView). line.tick ≤ last)
    (span_lines 0 (parts_of signals 0 (last + 1))) (λ line h. omega arith)
    (EachLine-span_lines (λ tick. tick < last + 1) 0 (parts_of signals 0 (last + 1)) (λ e. omega arith) (proper_low signals (last + 1)))
