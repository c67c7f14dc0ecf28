-- What a stream writes of the signals of names is their dump.
use Rattle.std.proofs.Common.{◌≡◌, ℕ, zero, suc, ◌+◌, ◌-◌, ◌<◌, ◌≤◌, ◌==◌, ◌&&◌, nat_lt, Bool, true, false, cond, List, [], ◌∷◌, ◌++◌, map, flat_map, codes, refl, ap, sym, ◌∙◌, arith, append_assoc, append-nil, ◌⊎◌, inl, inr}
use Rattle.std.specs.List.{enumerate_from, range_with_len}
use Rattle.std.proofs.lemmas.Bool.{cases_lt, le-ltb}
use Rattle.std.proofs.lemmas.Bool.Decides.{nat_tests}
use Rattle.std.proofs.lemmas.Grind.{flat_map-append}
use Rattle.logic3.specs.declared.value.Value.{Value}
use Rattle.logic3.specs.declared.value.Value.TheVariants.{Zero, One, Unknown}
use Rattle.logic3.specs.Value.{is_same, is_same_equiv}
use Rattle.logic3.specs.Wave.{value_before, change_at}
use Rattle.design.specs.Circuit.{Circuit}
use Rattle.texts.specs.Text.{is_empty}
use Rattle.vcd_dump.specs.declared.unit.TimeUnit.{TimeUnit}
use Rattle.vcd_dump.specs.Lines.{LineView}
use Rattle.vcd_dump.specs.Codes.{code_at}
use Rattle.texts.specs.Written.{line}
use Rattle.vcd_dump.specs.Dump.{Trace, variable_at, variables_of, declaration, declarations, heading, change_text, change_line, time_line, time_line_after, first_values, changes_at, lines_at, dump_text}
use Rattle.vcd_dump.specs.Traces.{name_of, named}
use Rattle.vcd_dump.specs.Spans.{line_of, span_lines, at_tick, line_text, zero_text, later_text, latest, last_text, parts_of, stream_at, shown_signals, whole_text}
use Rattle.vcd_dump.proofs.Between.{between, between-none, between-first, between-last, between-same}
use Rattle.vcd_dump.proofs.Gathered.{EachLine}
use Rattle.vcd_dump.proofs.Ordered.{latest-bounds, latest-least}
use Rattle.vcd_dump.proofs.Signals.{net_lines, signal_lines, at_tick-signals, signal_text, span_text-signals}
use Rattle.vcd_dump.proofs.Streams.{stream_at-latest}

-- ---- the lines of a tick are those of its changes

-- a net's value at tick 0
values_from : (place : ℕ) (traces : List Trace) →
    flat_map line_text (flat_map (net_lines 0) (enumerate_from place (shown_signals traces)))
    ≡ flat_map (change_line 0) (map variable_at (enumerate_from place traces))
values_from place [] = refl
values_from place ((name, signal) ∷ traces) =
    ap (λ xs. change_text (signal 0) (code_at place) ++ xs) (values_from (place + 1) traces)

value_before-later : (signal : ℕ → Value) (tick : ℕ) → 0 < tick → value_before signal tick ≡ signal (tick - 1)
value_before-later signal zero late = absurd (omega arith)
value_before-later signal (suc tick) late = let e : tick ≡ suc tick - 1 = omega arith in ap signal e

-- a net's change at a later tick
change_is : (place tick : ℕ) (name : List ℕ) (signal : ℕ → Value) → 0 < tick →
    flat_map line_text (map (line_of place) (change_at signal tick))
    ≡ cond (is_same (signal (tick - 1)) (signal tick)) [] (change_line tick (variable_at (place, (name, signal))))
change_is place tick name signal late =
    let same : is_same (signal tick) (value_before signal tick) ≡ is_same (signal (tick - 1)) (signal tick) =
    ap (is_same (signal tick)) (value_before-later signal tick late) ∙ is_same_equiv.symm (signal tick) (signal (tick - 1)) in
    rw same (go (is_same (signal (tick - 1)) (signal tick)))
  where
    go : (same : Bool) → flat_map line_text (map (line_of place) (cond same [] (record { tick = tick; value = signal tick } ∷ [])))
        ≡ cond same [] (change_text (signal tick) (code_at place))
    go true = refl
    go false = append-nil (change_text (signal tick) (code_at place))

changes_from : (place tick : ℕ) (traces : List Trace) → 0 < tick →
    flat_map line_text (flat_map (net_lines tick) (enumerate_from place (shown_signals traces)))
    ≡ changes_at (map variable_at (enumerate_from place traces)) tick
changes_from place tick [] late = refl
changes_from place tick ((name, signal) ∷ traces) late =
    let later : (tick == 0) ≡ false = grind (arith, nat_tests) in
    let here : net_lines tick (place, signal) ≡ map (line_of place) (change_at signal tick) = rw later refl in
    let others = flat_map (net_lines tick) (enumerate_from (place + 1) (shown_signals traces)) in
    flat_map-append line_text (net_lines tick (place, signal)) others
    ∙ ap (λ ls. flat_map line_text ls ++ flat_map line_text others) here
    ∙ (λ i. change_is place tick name signal late i ++ changes_from (place + 1) tick traces late i)

-- ---- a tick's text

-- lines have a text where there are any
is_empty-lines : (lines : List LineView) → is_empty (flat_map line_text lines) ≡ is_empty lines
is_empty-lines [] = refl
is_empty-lines (line ∷ lines) = go line.value
  where
    go : (value : Value) → is_empty (change_text value (code_at line.place) ++ flat_map line_text lines) ≡ false
    go Zero = refl
    go One = refl
    go Unknown = refl

-- a tick before the horizon
lines_at-early : (traces : List Trace) (horizon tick : ℕ) → 0 < tick → tick < horizon →
    later_text tick (signal_lines (shown_signals traces) tick) ≡ lines_at (variables_of traces) horizon tick
lines_at-early traces horizon tick late early =
    let not_last : (tick == horizon) ≡ false = grind (arith, nat_tests) in
    let changes = changes_from 0 tick traces late in
    let none = sym (is_empty-lines (signal_lines (shown_signals traces) tick)) ∙ ap is_empty changes in
    (λ i. cond (none i) [] (time_line tick ++ changes i))
    ∙ rw not_last (go (is_empty (changes_at (variables_of traces) tick)))
  where
    go : (b : Bool) → cond b [] (time_line tick ++ changes_at (variables_of traces) tick)
        ≡ cond (b && true) [] (time_line tick ++ changes_at (variables_of traces) tick)
    go true = refl
    go false = refl

-- ---- the last tick

-- where no line is of the last tick all are earlier
none_last : (last : ℕ) (lines : List LineView) → 0 < last → EachLine (λ tick. tick ≤ last) lines → is_empty (at_tick lines last) ≡ true →
    EachLine (λ tick. tick ≤ last - 1) lines
none_last last [] some each none = tt
none_last last (line ∷ lines) some each none = go (line.tick == last) refl none (none_last last lines some each.1)
  where
    go : (b : Bool) → (line.tick == last) ≡ b → is_empty (cond b (line ∷ at_tick lines last) (at_tick lines last)) ≡ true →
        (is_empty (at_tick lines last) ≡ true → EachLine (λ tick. tick ≤ last - 1) lines) → EachLine (λ tick. tick ≤ last - 1) (line ∷ lines)
    go true e h rest = cc
    go false e h rest =
        let high : line.tick ≤ last = each.0 in
        let early : line.tick ≤ last - 1 = grind (arith, nat_tests) in
        (early, rest h)

-- where one is, a bound of them all is no earlier
some_last : (last most : ℕ) (lines : List LineView) → EachLine (λ tick. tick ≤ most) lines → is_empty (at_tick lines last) ≡ false → last ≤ most
some_last last most [] each some = cc
some_last last most (line ∷ lines) each some = go (line.tick == last) refl some (some_last last most lines each.1)
  where
    go : (b : Bool) → (line.tick == last) ≡ b → is_empty (cond b (line ∷ at_tick lines last) (at_tick lines last)) ≡ false →
        (is_empty (at_tick lines last) ≡ false → last ≤ most) → last ≤ most
    go true e h rest = let high : line.tick ≤ most = each.0 in grind (arith, nat_tests)
    go false e h rest = rest h

-- what ends a dump, behind the lines of the last tick
last_lines : (last : ℕ) (lines : List LineView) → 0 < last → EachLine (λ tick. tick ≤ last) lines →
    later_text last (at_tick lines last) ++ time_line_after (latest 0 lines) last ≡ time_line last ++ flat_map line_text (at_tick lines last)
last_lines last lines some each = go (at_tick lines last) refl
  where
    go : (here : List LineView) → at_tick lines last ≡ here →
        later_text last here ++ time_line_after (latest 0 lines) last ≡ time_line last ++ flat_map line_text here
    go [] e =
        let early = latest-least 0 (last - 1) lines (omega arith) (none_last last lines some each (ap is_empty e)) in
        let due : nat_lt (latest 0 lines) last ≡ true = grind (arith, nat_tests) in
        rw due (sym (append-nil (time_line last)))
    go (line ∷ here) e =
        let bounds = latest-bounds 0 (latest 0 lines) lines (omega arith) in
        let late = some_last last (latest 0 lines) lines bounds.1 (ap is_empty e) in
        let not_due : nat_lt (latest 0 lines) last ≡ false = le-ltb (latest 0 lines) last late in
        rw not_due (append-nil (time_line last ++ flat_map line_text (line ∷ here)))

-- at the horizon
lines_at-last : (traces : List Trace) (horizon : ℕ) → 0 < horizon →
    later_text horizon (signal_lines (shown_signals traces) horizon) ++ last_text (stream_at (shown_signals traces) horizon (horizon + 1))
    ≡ lines_at (variables_of traces) horizon horizon
lines_at-last traces horizon late =
    let signals = shown_signals traces in
    let lines = span_lines 0 (parts_of signals 0 (horizon + 1)) in
    let at_last : (horizon == horizon) ≡ true = grind (arith, nat_tests) in
    let here = at_tick-signals signals 0 (horizon + 1) horizon (omega arith) (omega arith) in
    ap (λ ls. later_text horizon ls ++ time_line_after (latest 0 lines) horizon) (sym here)
    ∙ last_lines horizon lines late (stream_at-latest signals horizon)
    ∙ ap (λ ls. time_line horizon ++ flat_map line_text ls) here
    ∙ ap (λ xs. time_line horizon ++ xs) (changes_from 0 horizon traces late)
    ∙ rw at_last (go (is_empty (changes_at (variables_of traces) horizon)))
  where
    go : (b : Bool) → time_line horizon ++ changes_at (variables_of traces) horizon
        ≡ cond (b && false) [] (time_line horizon ++ changes_at (variables_of traces) horizon)
    go true = refl
    go false = refl

-- ---- all ticks

-- those behind tick 0
body_is : (traces : List Trace) (horizon : ℕ) →
    between (signal_text (shown_signals traces)) 1 (horizon + 1) ++ last_text (stream_at (shown_signals traces) horizon (horizon + 1))
    ≡ between (lines_at (variables_of traces) horizon) 1 (horizon + 1)
body_is traces horizon = go (cases_lt 0 horizon)
  where
    text : ℕ → List ℕ
    text = signal_text (shown_signals traces)

    go : (0 < horizon) ⊎ (horizon ≤ 0) →
        between (signal_text (shown_signals traces)) 1 (horizon + 1) ++ last_text (stream_at (shown_signals traces) horizon (horizon + 1))
        ≡ between (lines_at (variables_of traces) horizon) 1 (horizon + 1)
    go (inl late) =
        let signals = shown_signals traces in
        let last = last_text (stream_at signals horizon (horizon + 1)) in
        let at_last : (horizon == 0) ≡ false = grind (arith, nat_tests) in
        let last_is : signal_text signals horizon ≡ later_text horizon (signal_lines signals horizon) = rw at_last refl in
        let early = between-same (signal_text signals) (lines_at (variables_of traces) horizon) 1 horizon
        (λ k a b. let later : (k == 0) ≡ false = grind (arith, nat_tests) in
        rw later (lines_at-early traces horizon k a b)) in
        ap (λ xs. xs ++ last) (between-last (signal_text signals) 1 horizon (omega arith))
        ∙ append_assoc (between (signal_text signals) 1 horizon) (signal_text signals horizon) last
        ∙ ap (λ xs. between (signal_text signals) 1 horizon ++ (xs ++ last)) last_is
        ∙ (λ i. early i ++ lines_at-last traces horizon late i)
        ∙ sym (between-last (lines_at (variables_of traces) horizon) 1 horizon (omega arith))
    go (inr due) =
        let none : horizon ≡ 0 = omega arith in
        let not_due : nat_lt (latest 0 (span_lines 0 (parts_of (shown_signals traces) 0 (horizon + 1)))) horizon ≡ false =
        le-ltb (latest 0 (span_lines 0 (parts_of (shown_signals traces) 0 (horizon + 1)))) horizon (omega arith) in
        rw not_due (append-nil (between (signal_text (shown_signals traces)) 1 (horizon + 1))
        ∙ ap (λ h. between (signal_text (shown_signals traces)) 1 (h + 1)) none
        ∙ between-none (signal_text (shown_signals traces)) 1
        ∙ sym (between-none (lines_at (variables_of traces) horizon) 1)
        ∙ ap (λ h. between (lines_at (variables_of traces) horizon) 1 (h + 1)) (sym none))

-- all that stands behind the declarations
whole_text-is : (traces : List Trace) (horizon : ℕ) →
    whole_text horizon (shown_signals traces)
    ≡ first_values (variables_of traces) ++ flat_map (lines_at (variables_of traces) horizon) (range_with_len 1 horizon)
whole_text-is traces horizon =
    let signals = shown_signals traces in
    let last = last_text (stream_at signals horizon (horizon + 1)) in
    let same : horizon + 1 - 1 ≡ horizon = omega arith in
    ap (λ xs. xs ++ last) (span_text-signals signals 0 (horizon + 1) ∙ between-first (signal_text signals) 0 (horizon + 1) (omega arith))
    ∙ append_assoc (signal_text signals 0) (between (signal_text signals) 1 (horizon + 1)) last
    ∙ (λ i. zero_text (values_from 0 traces i) ++ body_is traces horizon i)
    ∙ ap (λ n. first_values (variables_of traces) ++ flat_map (lines_at (variables_of traces) horizon) (range_with_len 1 n)) same

-- with the declarations
pub dump_text-whole : (unit : TimeUnit) (horizon : ℕ) (traces : List Trace) →
    declarations unit (variables_of traces) ++ whole_text horizon (shown_signals traces) ≡ dump_text unit horizon traces
dump_text-whole unit horizon traces =
    let variables = variables_of traces in
    ap (λ xs. declarations unit variables ++ xs) (whole_text-is traces horizon)
    ∙ sym (append_assoc (declarations unit variables) (first_values variables)
    (flat_map (lines_at variables horizon) (range_with_len 1 horizon)))

-- ---- the nets of a circuit

-- the declarations have no signals
declarations-map : {X : Type 0} (name : X → List ℕ) (signal other : X → ℕ → Value) (place : ℕ) (xs : List X) →
    flat_map declaration (map variable_at (enumerate_from place (map (λ x. (name x, signal x)) xs)))
    ≡ flat_map declaration (map variable_at (enumerate_from place (map (λ x. (name x, other x)) xs)))
declarations-map name signal other place [] = refl
declarations-map name signal other place (x ∷ xs) =
    ap (λ ds. declaration (variable_at (place, (name x, signal x))) ++ ds) (declarations-map name signal other (place + 1) xs)

shown_signals-map : {X : Type 0} (name : X → List ℕ) (signal : X → ℕ → Value) (xs : List X) →
    shown_signals (map (λ x. (name x, signal x)) xs) ≡ map signal xs
shown_signals-map name signal [] = refl
shown_signals-map name signal (x ∷ xs) = ap (λ ss. signal x ∷ ss) (shown_signals-map name signal xs)

-- what a stream writes of the signals of a circuit's nets is the dump of their names
pub dump_text-nets : (unit : TimeUnit) (horizon : ℕ) (circuit : Circuit) (shown : List ℕ) (signal : ℕ → ℕ → Value) →
    declarations unit (named circuit shown) ++ whole_text horizon (map signal shown)
    ≡ dump_text unit horizon (map (λ net. (name_of circuit net, signal net)) shown)
dump_text-nets unit horizon circuit shown signal =
    let named_so = declarations-map (name_of circuit) (λ net tick. Unknown) signal 0 shown in
    (λ i. (heading unit ++ named_so i ++ line (codes "$upscope $end") ++ line (codes "$enddefinitions $end"))
    ++ whole_text horizon (sym (shown_signals-map (name_of circuit) signal shown) i))
    ∙ dump_text-whole unit horizon (map (λ net. (name_of circuit net, signal net)) shown)
