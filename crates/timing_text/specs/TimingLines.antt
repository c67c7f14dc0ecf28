-- What a line of a delay text says about a net, in both versions of such texts.
use Rattle.std.specs.Prelude.{ℕ, ◌<◌, ◌≤◌, min, not, nat_lt, if◌then◌else◌, List, [], ◌∷◌, length, option_map, Option, None, Some, Result, Ok, Err, codes, bytes_eq}
use Rattle.std.specs.Option.{ok_or, option_and_then, option_map_or}
use Rattle.netlist.specs.declared.part.Part.{Part}
use Rattle.netlist.specs.Netlist.{NetView, NetlistView}
use Rattle.texts.specs.Text.{◌>>=◌, words_of, number_of, is_plain}
use Rattle.timing_text.specs.declared.fault.DelayFault.{DelayFault}
use Rattle.timing_text.specs.declared.fault.DelayFault.TheVariants.{BadLine, UnknownNet, IsInput, NotAFlop, BadPin, BadTicks, BadPeriod, BadPhase, BadValue}
use Rattle.timing_text.specs.declared.line.Property.{Property}
use Rattle.timing_text.specs.declared.line.Property.TheVariants as property
use Rattle.timing_text.specs.declared.line.Spelled.{Spelled}
use Rattle.timing_text.specs.declared.line.Spelled.TheVariants as spelled
use Rattle.timing_text.specs.declared.line.Version.{Version}
use Rattle.timing_text.specs.declared.line.Version.TheVariants.{First, Second}
use Rattle.timing_text.specs.Options.{is_in_limits}
use Rattle.timing_text.specs.Ranges.{most_delay, most_ticks}
use Rattle.netlist.specs.Part.{is_flop, is_input}
use Rattle.timing_text.specs.Words.{find_net, value_of_word}

-- ---- its words

-- the name of a net, and what is said about it
pub record TimingLine : Type 0 where
  pub name : List ℕ
  pub spelled : Spelled

abbrev pub delay_said : List ℕ → ℕ → TimingLine
delay_said name ticks = record { name = name; spelled = spelled.Delay ticks }

abbrev pub clock_said : List ℕ → ℕ → ℕ → TimingLine
clock_said name period phase = record { name = name; spelled = spelled.Clock (record { period = period; phase = phase }) }

abbrev pub initial_said : List ℕ → List ℕ → TimingLine
initial_said name word = record { name = name; spelled = spelled.Initial (value_of_word word) }

abbrev pub wire_said : List ℕ → ℕ → ℕ → TimingLine
wire_said name place ticks = record { name = name; spelled = spelled.Wire (record { place = place; ticks = ticks }) }

-- `NAME TICKS`
abbrev pub line_of_first : List (List ℕ) → Option TimingLine
line_of_first (name ∷ ticks ∷ []) = option_map (delay_said name) (number_of ticks)
line_of_first _ = None

-- `delay NAME TICKS`, `init NAME VALUE`, `clock NAME PERIOD PHASE` or `wire NAME PLACE TICKS`
abbrev pub line_of_second : List (List ℕ) → Option TimingLine
line_of_second (first ∷ name ∷ third ∷ []) =
    if bytes_eq first (codes "delay") then option_map (delay_said name) (number_of third)
    else if bytes_eq first (codes "init") then Some (initial_said name third)
    else None
line_of_second (first ∷ name ∷ third ∷ fourth ∷ []) =
    if bytes_eq first (codes "clock") then option_and_then (λ period. option_map (clock_said name period) (number_of fourth)) (number_of third)
    else if bytes_eq first (codes "wire") then option_and_then (λ place. option_map (wire_said name place) (number_of fourth)) (number_of third)
    else None
line_of_second _ = None

abbrev pub line_of_words : Version → List (List ℕ) → Option TimingLine
line_of_words First words = line_of_first words
line_of_words Second words = line_of_second words

abbrev pub line_in : Version → List ℕ → Option TimingLine
line_in version code = if is_plain code then line_of_words version (words_of code) else None

-- what is said, with its numbers cut to at most `top`
abbrev pub cut_spelled : ℕ → Spelled → Spelled
cut_spelled top (spelled.Delay ticks) = spelled.Delay (min top ticks)
cut_spelled top (spelled.Clock clock) = spelled.Clock (record { period = min top clock.period; phase = min top clock.phase })
cut_spelled top (spelled.Initial value) = spelled.Initial value
cut_spelled top (spelled.Wire wire) = spelled.Wire (record { place = min top wire.place; ticks = min top wire.ticks })

abbrev pub cut_line : ℕ → TimingLine → TimingLine
cut_line top line = record line { spelled = cut_spelled top line.spelled }

-- ---- what it gives the net of its name

pub record NetProperty : Type 0 where
  pub name : List ℕ
  pub property : Property

-- the property on the line with this number, if a net with this part and number of pins may have it
abbrev pub property_of_part : ℕ → Spelled → Part → ℕ → Result Property DelayFault
property_of_part line (spelled.Delay ticks) part pins =
    if is_input part then Err (IsInput line)
    else if not (is_in_limits ticks most_delay) then Err (BadTicks line)
    else Ok (property.Delay ticks)
property_of_part line (spelled.Clock clock) part pins =
    if not (is_flop part) then Err (NotAFlop line)
    else if not (is_in_limits clock.period most_ticks) then Err (BadPeriod line)
    else if not (nat_lt clock.phase clock.period) then Err (BadPhase line)
    else Ok (property.Clock clock)
property_of_part line (spelled.Initial value) part pins =
    if not (is_flop part) then Err (NotAFlop line)
    else option_map_or (λ value. Ok (property.Initial value)) value (Err (BadValue line))
property_of_part line (spelled.Wire wire) part pins =
    if not (nat_lt wire.place pins) then Err (BadPin line)
    else if nat_lt most_delay wire.ticks then Err (BadTicks line)
    else Ok (property.Wire wire)

-- a wire delay is of a pin of the net, and within its limits
abbrev pub HasPin : ℕ → Property → Type 0
HasPin pins (property.Wire wire) = (wire.place < pins) × (wire.ticks ≤ most_delay)
HasPin pins _ = Unit {0}

-- what the line with this number says, if its net exists and may have it
abbrev pub property_at : NetlistView → ℕ → TimingLine → Result NetProperty DelayFault
property_at netlist line said =
    ok_or (find_net netlist said.name) (UnknownNet line) >>= λ (net : NetView).
    property_of_part line said.spelled net.part (length net.pins) >>= λ property.
    Ok (record { name = said.name; property = property })

-- what a line gives regardless of the lines before it, or its first fault
abbrev pub property_or_fault : Version → NetlistView → ℕ × List ℕ → Result NetProperty DelayFault
property_or_fault version netlist (line, code) = ok_or (line_in version code) (BadLine line) >>= property_at netlist line
