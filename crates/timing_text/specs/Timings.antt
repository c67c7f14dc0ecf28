-- What a delay text gives each net of a netlist, in both versions of such texts.
use Rattle.std.specs.Prelude.{◌≡◌, ◌==◌, ℕ, ◌&&◌, Bool, false, if◌then◌else◌, List, [], ◌∷◌, ◌++◌, length, map, Option, None, Some, Result, Ok, Err, codes, bytes_eq}
use Rattle.std.specs.List.{fold, range_with_len, zip}
use Rattle.std.specs.Option.{is_some, unwrap_or}
use Rattle.std.specs.Result.{result_map_both}
use Rattle.logic3.specs.declared.value.Value.TheVariants.{Unknown}
use Rattle.netlist.specs.declared.part.Part.{Part}
use Rattle.netlist.specs.declared.part.Part.TheVariants.{Input, Gate, Flop}
use Rattle.netlist.specs.Netlist.{NetView, NetlistView}
use Rattle.texts.specs.Text.{◌>>=◌, code_lines, unless_too_long, words_of}
use Rattle.texts.specs.Fold.{fold_lines}
use Rattle.timing_text.specs.declared.fault.DelayFault.{DelayFault}
use Rattle.timing_text.specs.declared.fault.DelayFault.TheVariants.{TooLong, Twice}
use Rattle.timing_text.specs.declared.line.Properties.{Properties}
use Rattle.timing_text.specs.declared.line.Property.{Property}
use Rattle.timing_text.specs.declared.line.Property.TheVariants.{Delay, Clock, Initial, Wire}
use Rattle.timing_text.specs.declared.line.Version.{Version}
use Rattle.timing_text.specs.declared.line.Version.TheVariants.{First, Second}
use Rattle.timing_text.specs.declared.timing.NetTimings.{NetTimings}
use Rattle.timing_text.specs.declared.timing.Timing.{Timing}
use Rattle.timing_text.specs.TimingLines.{NetProperty, property_or_fault}

-- ---- what lines give a net

-- no properties given yet
abbrev pub no_properties : Properties
no_properties = record { delay = None; clock = None; initial = None }

abbrev pub with_property : Properties → Property → Properties
with_property given (Delay ticks) = record given { delay = Some ticks }
with_property given (Clock clock) = record given { clock = Some clock }
with_property given (Initial value) = record given { initial = Some value }
with_property given (Wire wire) = given

-- what lines give the net with this name
abbrev pub properties_named : List NetProperty → List ℕ → Properties
properties_named lines name =
    fold (λ (given : Properties) (line : NetProperty). if bytes_eq line.name name then with_property given line.property else given) no_properties lines

-- the wire delay of the pin at a place, after this property is added to what was given
abbrev pub with_wire : ℕ → Option ℕ → Property → Option ℕ
with_wire place given (Wire wire) = if wire.place == place then Some wire.ticks else given
with_wire place given _ = given

-- the wire delay that lines give the pin at a place of the net with this name
abbrev pub wire_named : List NetProperty → List ℕ → ℕ → Option ℕ
wire_named lines name place =
    fold (λ (given : Option ℕ) (line : NetProperty). if bytes_eq line.name name then with_wire place given line.property else given) None lines

-- whether lines give the net with this name a property of this kind, and a wire delay to the same pin
abbrev pub has_kind : List NetProperty → List ℕ → Property → Bool
has_kind lines name (Delay ticks) = is_some (properties_named lines name).delay
has_kind lines name (Clock clock) = is_some (properties_named lines name).clock
has_kind lines name (Initial value) = is_some (properties_named lines name).initial
has_kind lines name (Wire wire) = is_some (wire_named lines name wire.place)

-- ---- line after line

-- earlier lines and then the one with this number, unless one of them gave the same net a property of its kind
abbrev pub unless_twice : List NetProperty → ℕ → NetProperty → Result (List NetProperty) DelayFault
unless_twice earlier line given =
    if has_kind earlier given.name given.property then Err (Twice line) else Ok (earlier ++ given ∷ [])

-- what earlier lines give and then this line, or its first fault
abbrev pub properties_after : Version → NetlistView → List NetProperty → ℕ × List ℕ → Result (List NetProperty) DelayFault
properties_after version netlist earlier line = property_or_fault version netlist line >>= unless_twice earlier line.0

-- ---- the whole text

-- exactly the words `timing version 2`
abbrev pub are_header : List (List ℕ) → Bool
are_header (first ∷ second ∷ third ∷ []) =
    bytes_eq first (codes "timing") && (bytes_eq second (codes "version") && bytes_eq third (codes "2"))
are_header _ = false

-- the version of a text with these lines, which have words
abbrev pub version_of : List (ℕ × List ℕ) → Version
version_of [] = First
version_of (first ∷ lines) = if are_header (words_of first.1) then Second else First

-- the lines about nets: all except a header
abbrev pub net_lines : List (ℕ × List ℕ) → List (ℕ × List ℕ)
net_lines [] = []
net_lines (first ∷ lines) = if are_header (words_of first.1) then lines else first ∷ lines

-- what the lines with words give, or the first fault
abbrev pub properties_in : NetlistView → List (ℕ × List ℕ) → Result (List NetProperty) DelayFault
properties_in netlist lines = fold_lines (properties_after (version_of lines) netlist) [] (net_lines lines)

abbrev pub properties_of : NetlistView → List ℕ → Result (List NetProperty) DelayFault
properties_of netlist text = unless_too_long TooLong (λ all. properties_in netlist (code_lines all)) text

-- a text without a header
abbrev pub IsFirstVersion : List ℕ → Type 0
IsFirstVersion text = version_of (code_lines text) ≡ First

-- ---- the timing of each net

-- from what lines give a net of this part: a flip-flop without a clock line has this period and phase 0
abbrev pub timing_of_part : ℕ → ℕ → Properties → Part → Timing
timing_of_part default period given Input = record { delay = 0; period = 0; phase = 0; initial = Unknown }
timing_of_part default period given (Gate kind) =
    record { delay = unwrap_or given.delay default; period = 0; phase = 0; initial = Unknown }
timing_of_part default period given Flop =
    let clock = unwrap_or given.clock (record { period = period; phase = 0 }) in
    record { delay = unwrap_or given.delay default; period = clock.period; phase = clock.phase; initial = unwrap_or given.initial Unknown }

-- the timing of a net, if lines give these properties
abbrev pub timing_of_net : ℕ → ℕ → List NetProperty → NetView → Timing
timing_of_net default period lines net = timing_of_part default period (properties_named lines net.name) net.part

-- the wire delay of each of its pins, in order; a pin without a line has wire delay 0
abbrev pub wires_of_net : List NetProperty → NetView → List ℕ
wires_of_net lines net = map (λ place. unwrap_or (wire_named lines net.name place) 0) (range_with_len 0 (length net.pins))

-- the timing of each net and the wire delays of its pins, in order
abbrev pub net_timings : NetlistView → ℕ → ℕ → List NetProperty → List (Timing × List ℕ)
net_timings netlist default period lines = map (λ (net : NetView). (timing_of_net default period lines net, wires_of_net lines net)) netlist.nets

-- the same by a delay text, or its first fault
abbrev pub timings_of : NetlistView → ℕ → ℕ → List ℕ → Result (List (Timing × List ℕ)) DelayFault
timings_of netlist default period text =
    result_map_both (net_timings netlist default period) (λ fault. fault) (properties_of netlist text)

-- the timing of each net and the wire delays of its pins, from their stored form
abbrev pub seen_timings : NetTimings → List (Timing × List ℕ)
seen_timings stored = zip stored.timings.items stored.wires
