-- The lines of spans of signals: at each tick the same, wherever a span begins and ends.
use Rattle.std.proofs.Common.{◌≡◌, ℕ, zero, suc, ◌+◌, ◌-◌, ◌<◌, ◌≤◌, ◌==◌, Bool, true, false, cond, if◌then◌else◌, List, [], ◌∷◌, ◌++◌, map, flat_map, refl, ap, sym, ◌∙◌, arith, append-nil, ◌⊎◌, inl, inr}
use Rattle.std.specs.List.{enumerate_from, range_with_len}
use Rattle.std.proofs.lemmas.Bool.{cases_lt}
use Rattle.std.proofs.lemmas.Bool.Decides.{nat_tests}
use Rattle.std.proofs.lemmas.List.{map-append}
use Rattle.std.proofs.lemmas.List.Elements.{filter-append}
use Rattle.logic3.specs.declared.value.Value.{Value}
use Rattle.logic3.specs.declared.value.Value.TheVariants.{Unknown}
use Rattle.logic3.specs.declared.change.Change.{Change}
use Rattle.logic3.specs.Value.{is_same}
use Rattle.logic3.specs.Wave.{value_before, change_at, changes_between}
use Rattle.logic3.proofs.CallerLemmas.{is_same-true}
use Rattle.vcd_dump.specs.Lines.{LineView}
use Rattle.vcd_dump.specs.Spans.{line_of, is_at_zero, lines_of, span_lines, at_tick, line_text, zero_text, later_text, tick_text, span_text, parts_of}
use Rattle.vcd_dump.proofs.Between.{between, between-same, between-split}

-- ---- the lines of one net

-- those of its changes at a tick
abbrev kept : ℕ → List Change → ℕ → List LineView
kept place changes tick = at_tick (map (line_of place) changes) tick

kept-append : (place tick : ℕ) (xs ys : List Change) → kept place (xs ++ ys) tick ≡ kept place xs tick ++ kept place ys tick
kept-append place tick xs ys =
    ap (λ lines. at_tick lines tick) (map-append (line_of place) xs ys)
    ∙ filter-append (λ (line : LineView). line.tick == tick) (map (line_of place) xs) (map (line_of place) ys)

-- the change at another tick has no line at this one
kept-other : (place : ℕ) (signal : ℕ → Value) (at tick : ℕ) → (at == tick) ≡ false → kept place (change_at signal at) tick ≡ []
kept-other place signal at tick other = go (is_same (signal at) (value_before signal at))
  where
    go : (same : Bool) → kept place (cond same [] (record { tick = at; value = signal at } ∷ [])) tick ≡ []
    go true = refl
    go false = rw other refl

-- the change at a tick has its line there
kept-own : (place : ℕ) (signal : ℕ → Value) (tick : ℕ) → kept place (change_at signal tick) tick ≡ map (line_of place) (change_at signal tick)
kept-own place signal tick = go (is_same (signal tick) (value_before signal tick))
  where
    go : (same : Bool) → kept place (cond same [] (record { tick = tick; value = signal tick } ∷ [])) tick
        ≡ map (line_of place) (cond same [] (record { tick = tick; value = signal tick } ∷ []))
    go true = refl
    go false = let own : (tick == tick) ≡ true = grind (arith, nat_tests) in rw own refl

-- later changes have none
kept-later : (place : ℕ) (signal : ℕ → Value) (from count tick : ℕ) → tick < from →
    kept place (flat_map (change_at signal) (range_with_len from count)) tick ≡ []
kept-later place signal from zero tick early = refl
kept-later place signal from (suc count) tick early =
    let other : (from == tick) ≡ false = grind (arith, nat_tests) in
    kept-append place tick (change_at signal from) (flat_map (change_at signal) (range_with_len (from + 1) count))
    ∙ (λ i. kept-other place signal from tick other i ++ kept-later place signal (from + 1) count tick (omega arith) i)

-- among the changes at ticks in a row those at one of them are the change there
kept-within : (place : ℕ) (signal : ℕ → Value) (from count tick : ℕ) → from ≤ tick → tick < from + count →
    kept place (flat_map (change_at signal) (range_with_len from count)) tick ≡ map (line_of place) (change_at signal tick)
kept-within place signal from zero tick a b = absurd (omega arith)
kept-within place signal from (suc count) tick a b =
    kept-append place tick (change_at signal from) (flat_map (change_at signal) (range_with_len (from + 1) count))
    ∙ go (cases_lt from tick) (λ late. kept-within place signal (from + 1) count tick (omega arith) (omega arith))
  where
    go : (from < tick) ⊎ (tick ≤ from) →
        (from < tick → kept place (flat_map (change_at signal) (range_with_len (from + 1) count)) tick ≡ map (line_of place) (change_at signal tick)) →
        kept place (change_at signal from) tick ++ kept place (flat_map (change_at signal) (range_with_len (from + 1) count)) tick
        ≡ map (line_of place) (change_at signal tick)
    go (inl late) after =
        let other : (from == tick) ≡ false = grind (arith, nat_tests) in
        λ i. kept-other place signal from tick other i ++ after late i
    go (inr due) after =
        let at : from ≡ tick = omega arith in
        (λ i. kept place (change_at signal (at i)) tick ++ kept-later place signal (from + 1) count tick (omega arith) i)
        ∙ append-nil (kept place (change_at signal tick) tick)
        ∙ kept-own place signal tick

-- the lines of a net at a tick: at tick 0 its value, later its change if there is one
abbrev pub net_lines : ℕ → ℕ × (ℕ → Value) → List LineView
net_lines tick (place, signal) =
    if tick == 0 then record { tick = 0; place = place; value = signal 0 } ∷ [] else map (line_of place) (change_at signal tick)

-- later than tick 0 the lines are those of the changes
lines-late : (from place tick : ℕ) (part : List Change) → 0 < tick → at_tick (lines_of from (place, part)) tick ≡ kept place part tick
lines-late from place tick part late = go (from == 0) (is_at_zero part)
  where
    go : (b c : Bool) →
        kept place (cond b (cond c part (record { tick = 0; value = Unknown } ∷ part)) part) tick ≡ kept place part tick
    go true true = refl
    go true false = let other : (0 == tick) ≡ false = grind (arith, nat_tests) in rw other refl
    go false c = refl

not_at_zero : (signal : ℕ → Value) (from count : ℕ) → 0 < from → is_at_zero (flat_map (change_at signal) (range_with_len from count)) ≡ false
not_at_zero signal from zero late = refl
not_at_zero signal from (suc count) late =
    go (is_same (signal from) (value_before signal from)) (not_at_zero signal (from + 1) count (omega arith))
  where
    go : (same : Bool) → is_at_zero (flat_map (change_at signal) (range_with_len (from + 1) count)) ≡ false →
        is_at_zero (cond same [] (record { tick = from; value = signal from } ∷ []) ++ flat_map (change_at signal) (range_with_len (from + 1) count))
        ≡ false
    go true rest = rest
    go false rest = grind (arith, nat_tests)

-- at tick 0 there is one line
lines-zero : (place to : ℕ) (signal : ℕ → Value) → 0 < to →
    at_tick (lines_of 0 (place, changes_between signal 0 to)) 0 ≡ record { tick = 0; place = place; value = signal 0 } ∷ []
lines-zero place zero signal h = absurd (omega arith)
lines-zero place (suc rest) signal h =
    let long : suc rest - 0 ≡ suc rest = omega arith in
    ap (λ n. at_tick (lines_of 0 (place, flat_map (change_at signal) (range_with_len 0 n))) 0) long
    ∙ go (is_same (signal 0) Unknown) refl
  where
    go : (same : Bool) → is_same (signal 0) Unknown ≡ same →
        at_tick (lines_of 0 (place, cond same [] (record { tick = 0; value = signal 0 } ∷ []) ++ flat_map (change_at signal) (range_with_len 1 rest))) 0
        ≡ record { tick = 0; place = place; value = signal 0 } ∷ []
    go true e =
        let none : is_at_zero (flat_map (change_at signal) (range_with_len 1 rest)) ≡ false = not_at_zero signal 1 rest (omega arith) in
        let unknown : signal 0 ≡ Unknown = is_same-true _ _ e in
        rw (none, kept-later place signal 1 rest 0 (omega arith)) (ap (λ v. record { tick = 0; place = place; value = v } ∷ []) (sym unknown))
    go false e =
        rw (kept-later place signal 1 rest 0 (omega arith)) refl

net_lines-is : (from to place tick : ℕ) (signal : ℕ → Value) → from ≤ tick → tick < to →
    at_tick (lines_of from (place, changes_between signal from to)) tick ≡ net_lines tick (place, signal)
net_lines-is from to place tick signal a b = go (cases_lt 0 tick)
  where
    go : (0 < tick) ⊎ (tick ≤ 0) → at_tick (lines_of from (place, changes_between signal from to)) tick ≡ net_lines tick (place, signal)
    go (inl late) =
        let later : (tick == 0) ≡ false = grind (arith, nat_tests) in
        lines-late from place tick (changes_between signal from to) late
        ∙ kept-within place signal from (to - from) tick a (omega arith)
        ∙ rw later refl
    go (inr due) =
        let start : from ≡ 0 = omega arith in
        let at : tick ≡ 0 = omega arith in
        rw (start, at) (lines-zero place to signal (omega arith))

-- ---- the lines of all nets

-- at a tick
abbrev pub signal_lines : List (ℕ → Value) → ℕ → List LineView
signal_lines signals tick = flat_map (net_lines tick) (enumerate_from 0 signals)

all_lines : (from to place tick : ℕ) (signals : List (ℕ → Value)) → from ≤ tick → tick < to →
    at_tick (flat_map (lines_of from) (enumerate_from place (parts_of signals from to))) tick ≡ flat_map (net_lines tick) (enumerate_from place signals)
all_lines from to place tick [] a b = refl
all_lines from to place tick (signal ∷ signals) a b =
    filter-append (λ (line : LineView). line.tick == tick) (lines_of from (place, changes_between signal from to))
    (flat_map (lines_of from) (enumerate_from (place + 1) (parts_of signals from to)))
    ∙ (λ i. net_lines-is from to place tick signal a b i ++ all_lines from to (place + 1) tick signals a b i)

-- whatever the span
pub at_tick-signals : (signals : List (ℕ → Value)) (from to tick : ℕ) → from ≤ tick → tick < to →
    at_tick (span_lines from (parts_of signals from to)) tick ≡ signal_lines signals tick
at_tick-signals signals from to tick a b = all_lines from to 0 tick signals a b

-- ---- their text

-- the text of a tick
abbrev pub signal_text : List (ℕ → Value) → ℕ → List ℕ
signal_text signals tick =
    if tick == 0 then zero_text (flat_map line_text (signal_lines signals tick)) else later_text tick (signal_lines signals tick)

pub span_text-signals : (signals : List (ℕ → Value)) (from to : ℕ) →
    span_text from to (parts_of signals from to) ≡ between (signal_text signals) from to
span_text-signals signals from to =
    between-same (tick_text (span_lines from (parts_of signals from to))) (signal_text signals) from to
    (λ k a b. ap (λ ls. cond (k == 0) (zero_text (flat_map line_text ls)) (later_text k ls)) (at_tick-signals signals from to k a b))

-- two spans in a row are one
pub span_text-more : (signals : List (ℕ → Value)) (from to : ℕ) → from ≤ to →
    span_text 0 from (parts_of signals 0 from) ++ span_text from to (parts_of signals from to) ≡ span_text 0 to (parts_of signals 0 to)
span_text-more signals from to h =
    (λ i. span_text-signals signals 0 from i ++ span_text-signals signals from to i)
    ∙ sym (between-split (signal_text signals) 0 from to (omega arith) h)
    ∙ sym (span_text-signals signals 0 to)
