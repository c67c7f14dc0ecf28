-- The text of a dump, one span of ticks at a time.
use Rattle.std.specs.Prelude.{ℕ, ◌+◌, ◌-◌, ◌≤◌, ◌<◌, ◌≡◌, ◌==◌, max, Bool, false, if◌then◌else◌, List, [], ◌∷◌, ◌++◌, length, map, filter, flat_map, All, Vec, codes}
use Rattle.std.specs.List.{enumerate_from, range_with_len}
use Rattle.logic3.specs.declared.value.Value.{Value}
use Rattle.logic3.specs.declared.value.Value.TheVariants.{Unknown}
use Rattle.logic3.specs.declared.change.Change.{Change}
use Rattle.logic3.specs.Wave.{changes_between}
use Rattle.logic3.specs.Rising.{TicksRise}
use Rattle.design.specs.Circuit.{Circuit}
use Rattle.texts.specs.Text.{is_empty}
use Rattle.texts.specs.Written.{line}
use Rattle.vcd_dump.specs.declared.unit.TimeUnit.{TimeUnit}
use Rattle.vcd_dump.specs.Lines.{LineView}
use Rattle.vcd_dump.specs.Codes.{code_at}
use Rattle.vcd_dump.specs.Dump.{Trace, declarations, change_text, time_line, time_line_after}
use Rattle.vcd_dump.specs.Traces.{named}

-- ---- lines

-- the line of a change of the net at a place
abbrev pub line_of : ℕ → Change → LineView
line_of place change = record { tick = change.tick; place = place; value = change.value }

-- whether the first of some changes is at tick 0
abbrev pub is_at_zero : List Change → Bool
is_at_zero [] = false
is_at_zero (change ∷ part) = change.tick == 0

-- what a net shows from tick 0 on: X there, unless it has a change there
abbrev pub from_zero : List Change → List Change
from_zero part = if is_at_zero part then part else record { tick = 0; value = Unknown } ∷ part

-- the lines of the net at a place, given its changes in a span that begins at a tick
abbrev pub lines_of : ℕ → ℕ × List Change → List LineView
lines_of from (place, part) = map (line_of place) (if from == 0 then from_zero part else part)

-- the lines of a span, net after net
abbrev pub span_lines : ℕ → List (List Change) → List LineView
span_lines from parts = flat_map (lines_of from) (enumerate_from 0 parts)

-- those of a tick, in their order
abbrev pub at_tick : List LineView → ℕ → List LineView
at_tick lines tick = filter (λ (line : LineView). line.tick == tick) lines

-- ---- their text

abbrev pub line_text : LineView → List ℕ
line_text line = change_text line.value (code_at line.place)

-- the values at tick 0
abbrev pub zero_text : List ℕ → List ℕ
zero_text values = time_line 0 ++ line (codes "$dumpvars") ++ values ++ line (codes "$end")

-- a later tick with its lines, if any
abbrev pub later_text : ℕ → List LineView → List ℕ
later_text tick here = if is_empty here then [] else time_line tick ++ flat_map line_text here

-- the text of a tick: its lines among these
abbrev pub tick_text : List LineView → ℕ → List ℕ
tick_text lines tick =
    if tick == 0 then zero_text (flat_map line_text (at_tick lines tick)) else later_text tick (at_tick lines tick)

-- the text of the ticks from one up to but not including another, of these lines
abbrev pub lines_text : ℕ → ℕ → List LineView → List ℕ
lines_text from to lines = flat_map (tick_text lines) (range_with_len from (to - from))

-- the text of a span: that of the lines of its changes
abbrev pub span_text : ℕ → ℕ → List (List Change) → List ℕ
span_text from to parts = lines_text from to (span_lines from parts)

-- ---- streams

-- what a stream has written: the number of nets that it shows, its last tick, the number of ticks written, and the last time
-- line; and what it was given since: the number of nets whose changes were given, and their lines, net after net
pub record StreamView : Type 0 where
  pub nets : ℕ
  pub horizon : ℕ
  pub written : ℕ
  pub time : ℕ
  pub given : ℕ
  pub lines : List LineView
  pub failed : Bool

-- a stream that has written the declarations
abbrev pub begun : ℕ → ℕ → StreamView
begun nets horizon = record {
  nets = nets;
  horizon = horizon;
  written = 0;
  time = 0;
  given = 0;
  lines = [];
  failed = false;
}

-- a stream that was given the changes of the next net at the ticks that it hasn't written yet
abbrev pub with_part : StreamView → List Change → StreamView
with_part stream part = record {
  nets = stream.nets;
  horizon = stream.horizon;
  written = stream.written;
  time = stream.time;
  given = stream.given + 1;
  lines = stream.lines ++ lines_of stream.written (stream.given, part);
  failed = false;
}

-- a stream that was given only the changes of these nets, the first ones
abbrev pub with_parts : StreamView → List (List Change) → StreamView
with_parts stream parts = record {
  nets = stream.nets;
  horizon = stream.horizon;
  written = stream.written;
  time = stream.time;
  given = length parts;
  lines = span_lines stream.written parts;
  failed = stream.failed;
}

-- the latest of a time and the times of lines
abbrev pub latest : ℕ → List LineView → ℕ
latest time [] = time
latest time (line ∷ lines) = latest (max time line.tick) lines

-- a stream after a span up to but not including a tick, of the lines that it was given
abbrev pub spanned : StreamView → ℕ → StreamView
spanned stream upto = record {
  nets = stream.nets;
  horizon = stream.horizon;
  written = upto;
  time = latest stream.time stream.lines;
  given = 0;
  lines = [];
  failed = false;
}

-- the end of the dump: the last tick, if it had no line
abbrev pub last_text : StreamView → List ℕ
last_text stream = time_line_after stream.time stream.horizon

-- changes of a net at ticks from one up to but not including another, which rise
pub record IsPart (from to : ℕ) (part : List Change) : Type 0 where
  pub rises : TicksRise part
  pub low : All (λ (change : Change). from ≤ change.tick) part
  pub high : All (λ (change : Change). change.tick < to) part

-- a stream can advance up to but not including a tick: it was given the changes of each net, each net has a line at tick 0 if
-- that isn't written yet, and all lines are at the ticks of the span
pub record CanSpan (stream : StreamView) (upto : ℕ) : Type 0 where
  pub ahead : stream.written < upto
  pub within : upto ≤ stream.horizon + 1
  pub each : stream.given ≡ stream.nets
  pub values : stream.written ≡ 0 → length (at_tick stream.lines 0) ≡ stream.nets
  pub low : All (λ (line : LineView). stream.written ≤ line.tick) stream.lines
  pub high : All (λ (line : LineView). line.tick < upto) stream.lines

-- the changes of each shown net at the ticks that a stream hasn't written yet, up to but not including one
pub record IsSpan (stream : StreamView) (upto : ℕ) (parts : List (List Change)) : Type 0 where
  pub ahead : stream.written < upto
  pub within : upto ≤ stream.horizon + 1
  pub each : length parts ≡ stream.nets
  pub proper : All (IsPart stream.written upto) parts

module _ {A : Type 0} where
  -- the changes in each of some lists
  abbrev pub changes_in : List (Vec Change A) → List (List Change)
  changes_in parts = map (λ (part : Vec Change A). part.items) parts

-- ---- spans of signals

-- the changes of each signal at ticks from one up to but not including another
abbrev pub parts_of : List (ℕ → Value) → ℕ → ℕ → List (List Change)
parts_of signals from to = map (λ signal. changes_between signal from to) signals

-- a stream that has written what signals show at the ticks before one
abbrev pub stream_at : List (ℕ → Value) → ℕ → ℕ → StreamView
stream_at signals horizon to = record {
  nets = length signals;
  horizon = horizon;
  written = to;
  time = latest 0 (span_lines 0 (parts_of signals 0 to));
  given = 0;
  lines = [];
  failed = false;
}

-- what names show
abbrev pub shown_signals : List Trace → List (ℕ → Value)
shown_signals traces = map (λ (trace : Trace). trace.1) traces

-- everything after the declarations: one span of all ticks up to a horizon, and the end of the dump
abbrev pub whole_text : ℕ → List (ℕ → Value) → List ℕ
whole_text horizon signals =
    span_text 0 (horizon + 1) (parts_of signals 0 (horizon + 1)) ++ last_text (stream_at signals horizon (horizon + 1))

-- what a stream writes of the signals of shown nets, with the declarations before it
abbrev pub streamed_text : TimeUnit → ℕ → Circuit → List ℕ → (ℕ → ℕ → Value) → List ℕ
streamed_text unit horizon circuit shown signal =
    declarations unit (named circuit shown) ++ whole_text horizon (map signal shown)
