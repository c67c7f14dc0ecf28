-- The timings of a text lie in their ranges.
use Rattle.std.proofs.Common.{◌≡◌, ℕ, ◌<◌, ◌≤◌, Bool, true, false, cond, not, eqb, leb, nat_lt, List, [], ◌∷◌, ◌++◌, length, get_or, Ok, Err, Option, None, Some, IfSome, option_map, refl, sym, ap, ◌∙◌, subst, arith}
use Rattle.std.specs.List.{range_with_len}
use Rattle.std.specs.Option.{ok_or, option_map_or, unwrap_or}
use Rattle.std.specs.Str.{bytes_eq}
use Rattle.std.proofs.lemmas.Bool.{and_parts, leb-true, ltb-false, ltb-true}
use Rattle.std.proofs.lemmas.List.Elements.{All-map}
use Rattle.std.proofs.lemmas.List.FromFn.{length-map-range_with_len}
use Rattle.logic3.specs.declared.value.Value.{Value}
use Rattle.netlist.specs.declared.part.Part.{Part}
use Rattle.netlist.specs.declared.part.Part.TheVariants.{Input, Gate, Flop}
use Rattle.texts.specs.Text.{◌>>=◌, code_lines, is_plain, number_of, words_of}
use Rattle.netlist.specs.Netlist.{NetView, NetlistView}
use Rattle.timing_text.specs.declared.fault.DelayFault.TheVariants.{TooLong, BadLine, UnknownNet, IsInput, NotAFlop, BadPin, BadTicks, BadPeriod, BadPhase, BadValue, Twice}
use Rattle.timing_text.specs.declared.line.Clock.{Clock}
use Rattle.timing_text.specs.declared.line.Properties.{Properties}
use Rattle.timing_text.specs.declared.line.Property.{Property}
use Rattle.timing_text.specs.declared.line.Property.TheVariants as property
use Rattle.timing_text.specs.declared.line.Spelled.{Spelled}
use Rattle.timing_text.specs.declared.line.Spelled.TheVariants as spelled
use Rattle.timing_text.specs.declared.line.Version.{Version}
use Rattle.timing_text.specs.declared.line.Version.TheVariants.{First}
use Rattle.timing_text.specs.declared.line.Wire.{Wire}
use Rattle.timing_text.specs.Options.{is_in_limits}
use Rattle.timing_text.specs.Ranges.{most_delay, most_ticks, HasTiming, HasWires}
use Rattle.timing_text.specs.TimingLines.{NetProperty, TimingLine, delay_said, line_in, line_of_first, property_at, property_of_part, property_or_fault}
use Rattle.timing_text.specs.Timings.{IsFirstVersion, has_kind, net_lines, no_properties, properties_after, properties_in, properties_named, properties_of, timing_of_net, timing_of_part, unless_twice, version_of, wire_named, wires_of_net, with_property, with_wire}
use Rattle.netlist.specs.Part.{is_flop, is_input}
use Rattle.timing_text.specs.Words.{find_net}
use Rattle.texts.proofs.CallerLemmas.{bind-Ok, fold_lines-keeps, unless_too_long-Ok}
use Rattle.timing_text.proofs.GivenProperties.{properties_named-more, wire_named-more}

-- ---- what each line keeps

-- what is true of either is true of what a test picks
cond-fits : {A : Type 0} (P : A → Type 0) (test : Bool) (first second : A) → P first → P second → P (cond test first second)
cond-fits P true first second fits otherwise = fits
cond-fits P false first second fits otherwise = otherwise

unless_twice-more : (earlier more : List NetProperty) (line : ℕ) (given : NetProperty) → unless_twice earlier line given ≡ Ok more →
    earlier ++ given ∷ [] ≡ more
unless_twice-more earlier more line given same = go (has_kind earlier given.name given.property) same
  where
    go : (twice : Bool) → cond twice (Err (Twice line)) (Ok (earlier ++ given ∷ [])) ≡ Ok more → earlier ++ given ∷ [] ≡ more
    go true same = (cc)
    go false same = (cc)

-- what is true of no lines, and with each further line that gives something, is true of all that a text gives
lines-keep : (P : List NetProperty → Type 0) (netlist : NetlistView) (text : List ℕ) (lines : List NetProperty) → P [] →
    ((earlier : List NetProperty) (line : ℕ × List ℕ) (further : NetProperty) → P earlier →
    property_or_fault (version_of (code_lines text)) netlist line ≡ Ok further → P (earlier ++ further ∷ [])) →
    properties_of netlist text ≡ Ok lines → P lines
lines-keep P netlist text lines none keeps same =
    fold_lines-keeps (properties_after version netlist) (λ given left. P given)
    (λ earlier more line rest held step. after earlier more line held step)
    (net_lines (code_lines text)) [] lines none (unless_too_long-Ok TooLong (λ all. properties_in netlist (code_lines all)) text lines same)
  where
    version : Version
    version = version_of (code_lines text)

    after : (earlier more : List NetProperty) (line : ℕ × List ℕ) → P earlier →
        properties_after (version_of (code_lines text)) netlist earlier line ≡ Ok more → P more
    after earlier more line held step =
        let (given, gives, adds) = bind-Ok (property_or_fault (version_of (code_lines text)) netlist line) (unless_twice earlier line.0) more step in
        subst P (unless_twice-more earlier more line.0 given adds) (keeps earlier line given held gives)

-- so is what is true of no properties, and with each further one, of those of each net
properties_of-keeps : (P : Properties → Type 0) (netlist : NetlistView) (text : List ℕ) (lines : List NetProperty) → P no_properties →
    ((given : Properties) (line : ℕ × List ℕ) (further : NetProperty) → P given →
    property_or_fault (version_of (code_lines text)) netlist line ≡ Ok further → P (with_property given further.property)) →
    properties_of netlist text ≡ Ok lines → (name : List ℕ) → P (properties_named lines name)
properties_of-keeps P netlist text lines none keeps same =
    lines-keep (λ lines. (name : List ℕ) → P (properties_named lines name)) netlist text lines (λ name. none)
    (λ earlier line further held gives name.
    subst P (sym (properties_named-more earlier further name))
    (cond-fits P (bytes_eq further.name name) _ _ (keeps (properties_named earlier name) line further (held name) gives) (held name)))
    same

-- and what is true of a pin without a wire delay, and with each further property, of each pin
wires_of-keep : (P : Option ℕ → Type 0) (netlist : NetlistView) (text : List ℕ) (lines : List NetProperty) → P None →
    ((given : Option ℕ) (line : ℕ × List ℕ) (further : NetProperty) (place : ℕ) → P given →
    property_or_fault (version_of (code_lines text)) netlist line ≡ Ok further → P (with_wire place given further.property)) →
    properties_of netlist text ≡ Ok lines → (name : List ℕ) (place : ℕ) → P (wire_named lines name place)
wires_of-keep P netlist text lines none keeps same =
    lines-keep (λ lines. (name : List ℕ) (place : ℕ) → P (wire_named lines name place)) netlist text lines (λ name place. none)
    (λ earlier line further held gives name place.
    subst P (sym (wire_named-more earlier further name place))
    (cond-fits P (bytes_eq further.name name) _ _ (keeps (wire_named earlier name place) line further place (held name place) gives) (held name place)))
    same

-- the line of a property says something that its net's part may have
record IsSaid (version : Version) (line : ℕ × List ℕ) (given : NetProperty) : Type 0 where
  said : TimingLine
  part : Part
  pins : ℕ
  read : line_in version line.1 ≡ Some said
  fits : property_of_part line.0 said.spelled part pins ≡ Ok given.property

property_or_fault-IsSaid : (version : Version) (netlist : NetlistView) (line : ℕ × List ℕ) (given : NetProperty) →
    property_or_fault version netlist line ≡ Ok given → IsSaid version line given
property_or_fault-IsSaid version netlist (line, code) given same = go (line_in version code) refl same
  where
    at : (said : TimingLine) → line_in version code ≡ Some said → (found : Option NetView) →
        (ok_or found (UnknownNet line) >>= λ (net : NetView).
        property_of_part line said.spelled net.part (length net.pins) >>= λ property. Ok (record { name = said.name; property = property })) ≡ Ok given →
        IsSaid version (line, code) given
    at said read None same = (cc)
    at said read (Some net) same =
        let (property, fits, is) = bind-Ok (property_of_part line said.spelled net.part (length net.pins)) (λ property. Ok (record { name = said.name; property = property })) given same in
        let same_property : property ≡ given.property = ap (λ (given : NetProperty). given.property) (let here : record { name = said.name; property = property } ≡ given = (cc) in here) in
        record { said = said; part = net.part; pins = length net.pins; read = read; fits = fits ∙ ap Ok same_property }

    go : (read : Option TimingLine) → line_in version code ≡ read → (ok_or read (BadLine line) >>= property_at netlist line) ≡ Ok given →
        IsSaid version (line, code) given
    go None read same = (cc)
    go (Some said) read same = at said read (find_net netlist said.name) same

-- ---- in their ranges

abbrev InLimits : ℕ → ℕ → Type 0
InLimits number most = (1 ≤ number) × (number ≤ most)

record IsClock (clock : Clock) : Type 0 where
  period : InLimits clock.period most_ticks
  phase : clock.phase < clock.period

abbrev IsProperty : Property → Type 0
IsProperty (property.Delay ticks) = InLimits ticks most_delay
IsProperty (property.Clock clock) = IsClock clock
IsProperty (property.Initial value) = Unit {0}
IsProperty (property.Wire wire) = wire.ticks ≤ most_delay

record AreProperties (given : Properties) : Type 0 where
  delay : IfSome given.delay (λ ticks. InLimits ticks most_delay)
  clock : IfSome given.clock IsClock

is_in_limits-InLimits : (number most : ℕ) → is_in_limits number most ≡ true → InLimits number most
is_in_limits-InLimits number most inside =
    let parts = and_parts (leb 1 number) (leb number most) inside in
    (leb-true 1 number parts.0, leb-true number most parts.1)

delay-IsProperty : (line ticks : ℕ) (part : Part) (pins : ℕ) (given : Property) → property_of_part line (spelled.Delay ticks) part pins ≡ Ok given → IsProperty given
delay-IsProperty line ticks part pins given same = go (is_input part) (is_in_limits ticks most_delay) refl same
  where
    go : (input inside : Bool) → is_in_limits ticks most_delay ≡ inside →
        cond input (Err (IsInput line)) (cond (not inside) (Err (BadTicks line)) (Ok (property.Delay ticks))) ≡ Ok given → IsProperty given
    go true inside limits same = (cc)
    go false false limits same = (cc)
    go false true limits same =
        let equal : property.Delay ticks ≡ given = (cc) in subst IsProperty equal (is_in_limits-InLimits ticks most_delay limits)

clock-IsProperty : (line : ℕ) (clock : Clock) (part : Part) (pins : ℕ) (given : Property) → property_of_part line (spelled.Clock clock) part pins ≡ Ok given → IsProperty given
clock-IsProperty line clock part pins given same = go (is_flop part) (is_in_limits clock.period most_ticks) (nat_lt clock.phase clock.period) refl refl same
  where
    go : (flop inside before : Bool) → is_in_limits clock.period most_ticks ≡ inside → nat_lt clock.phase clock.period ≡ before →
        cond (not flop) (Err (NotAFlop line)) (cond (not inside) (Err (BadPeriod line)) (cond (not before) (Err (BadPhase line)) (Ok (property.Clock clock))))
        ≡ Ok given → IsProperty given
    go false inside before limits order same = (cc)
    go true false before limits order same = (cc)
    go true true false limits order same = (cc)
    go true true true limits order same =
        let equal : property.Clock clock ≡ given = (cc) in
        let fits : IsProperty (property.Clock clock) =
        record { period = is_in_limits-InLimits clock.period most_ticks limits; phase = ltb-true clock.phase clock.period order } in
        subst IsProperty equal fits

initial-IsProperty : (line : ℕ) (value : Option Value) (part : Part) (pins : ℕ) (given : Property) → property_of_part line (spelled.Initial value) part pins ≡ Ok given → IsProperty given
initial-IsProperty line value part pins given same = go (is_flop part) value same
  where
    go : (flop : Bool) (value : Option Value) →
        cond (not flop) (Err (NotAFlop line)) (option_map_or (λ value. Ok (property.Initial value)) value (Err (BadValue line))) ≡ Ok given → IsProperty given
    go false value same = (cc)
    go true None same = (cc)
    go true (Some value) same = let equal : property.Initial value ≡ given = (cc) in subst IsProperty equal tt

wire-IsProperty : (line : ℕ) (wire : Wire) (part : Part) (pins : ℕ) (given : Property) → property_of_part line (spelled.Wire wire) part pins ≡ Ok given → IsProperty given
wire-IsProperty line wire part pins given same = go (nat_lt wire.place pins) (nat_lt most_delay wire.ticks) refl same
  where
    go : (there late : Bool) → nat_lt most_delay wire.ticks ≡ late →
        cond (not there) (Err (BadPin line)) (cond late (Err (BadTicks line)) (Ok (property.Wire wire))) ≡ Ok given → IsProperty given
    go false late limits same = (cc)
    go true true limits same = (cc)
    go true false limits same =
        let equal : property.Wire wire ≡ given = (cc) in subst IsProperty equal (ltb-false most_delay wire.ticks limits)

property_of_part-IsProperty : (line : ℕ) (said : Spelled) (part : Part) (pins : ℕ) (given : Property) → property_of_part line said part pins ≡ Ok given → IsProperty given
property_of_part-IsProperty line (spelled.Delay ticks) part pins given same = delay-IsProperty line ticks part pins given same
property_of_part-IsProperty line (spelled.Clock clock) part pins given same = clock-IsProperty line clock part pins given same
property_of_part-IsProperty line (spelled.Initial value) part pins given same = initial-IsProperty line value part pins given same
property_of_part-IsProperty line (spelled.Wire wire) part pins given same = wire-IsProperty line wire part pins given same

-- what a line gives is in its ranges
property_or_fault-IsProperty : (version : Version) (netlist : NetlistView) (line : ℕ × List ℕ) (given : NetProperty) →
    property_or_fault version netlist line ≡ Ok given → IsProperty given.property
property_or_fault-IsProperty version netlist line given gives =
    let is_said = property_or_fault-IsSaid version netlist line given gives in
    property_of_part-IsProperty line.0 is_said.said.spelled is_said.part is_said.pins given.property is_said.fits

with_property-AreProperties : (given : Properties) (further : Property) → AreProperties given → IsProperty further → AreProperties (with_property given further)
with_property-AreProperties given (property.Delay ticks) fit fits = record { delay = fits; clock = fit.clock }
with_property-AreProperties given (property.Clock clock) fit fits = record { delay = fit.delay; clock = fits }
with_property-AreProperties given (property.Initial value) fit fits = record { delay = fit.delay; clock = fit.clock }
with_property-AreProperties given (property.Wire wire) fit fits = fit

properties_of-AreProperties : (netlist : NetlistView) (text : List ℕ) (lines : List NetProperty) → properties_of netlist text ≡ Ok lines →
    (name : List ℕ) → AreProperties (properties_named lines name)
properties_of-AreProperties netlist text lines same =
    properties_of-keeps AreProperties netlist text lines (record { delay = tt; clock = tt })
    (λ given line further fit gives.
    with_property-AreProperties given further.property fit (property_or_fault-IsProperty (version_of (code_lines text)) netlist line further gives))
    same

unwrap_or-fits : {A : Type 0} (P : A → Type 0) (given : Option A) (default : A) → IfSome given P → P default → P (unwrap_or given default)
unwrap_or-fits P None default fits otherwise = otherwise
unwrap_or-fits P (Some value) default fits otherwise = fits

-- so each net has a timing that its part may have
pub HasTiming-properties_of : (netlist : NetlistView) (text : List ℕ) (default period : ℕ) (lines : List NetProperty) → properties_of netlist text ≡ Ok lines →
    1 ≤ default → default ≤ most_delay → 1 ≤ period → period ≤ most_ticks →
    (net : NetView) → HasTiming net.part (timing_of_net default period lines net)
HasTiming-properties_of netlist text default period lines same low high some most net = go net.part
  where
    given : Properties
    given = properties_named lines net.name

    fit : AreProperties given
    fit = properties_of-AreProperties netlist text lines same net.name

    delay : InLimits (unwrap_or given.delay default) most_delay
    delay = unwrap_or-fits (λ ticks. InLimits ticks most_delay) given.delay default fit.delay (low, high)

    clock : IsClock (unwrap_or given.clock (record { period = period; phase = 0 }))
    clock = unwrap_or-fits IsClock given.clock (record { period = period; phase = 0 }) fit.clock (record { period = (some, most); phase = some })

    go : (part : Part) → HasTiming part (timing_of_part default period given part)
    go Input = record { delay = refl; clock = (refl, refl, refl) }
    go (Gate kind) = record { delay = delay; clock = (refl, refl, refl) }
    go Flop = record { delay = delay; clock = (clock.period.0, clock.period.1, clock.phase) }

-- ---- wires in their range

abbrev IsWire : Option ℕ → Type 0
IsWire given = IfSome given (λ ticks. ticks ≤ most_delay)

with_wire-IsWire : (place : ℕ) (given : Option ℕ) (further : Property) → IsWire given → IsProperty further → IsWire (with_wire place given further)
with_wire-IsWire place given (property.Delay ticks) fit fits = fit
with_wire-IsWire place given (property.Clock clock) fit fits = fit
with_wire-IsWire place given (property.Initial value) fit fits = fit
with_wire-IsWire place given (property.Wire wire) fit fits = cond-fits IsWire (eqb wire.place place) (Some wire.ticks) given fits fit

properties_of-IsWire : (netlist : NetlistView) (text : List ℕ) (lines : List NetProperty) → properties_of netlist text ≡ Ok lines →
    (name : List ℕ) (place : ℕ) → IsWire (wire_named lines name place)
properties_of-IsWire netlist text lines same =
    wires_of-keep (λ given. IsWire given) netlist text lines tt
    (λ given line further place fit gives.
    with_wire-IsWire place given further.property fit (property_or_fault-IsProperty (version_of (code_lines text)) netlist line further gives))
    same

-- so each pin of a net has a wire delay in its range
pub HasWires-properties_of : (netlist : NetlistView) (text : List ℕ) (lines : List NetProperty) → properties_of netlist text ≡ Ok lines →
    (net : NetView) → HasWires (length net.pins) (wires_of_net lines net)
HasWires-properties_of netlist text lines same net = record {
  each = length-map-range_with_len ticks 0 (length net.pins);
  most = All-map (λ wire. wire ≤ most_delay) ticks (range_with_len 0 (length net.pins)) (λ k d within. fits (get_or (range_with_len 0 (length net.pins)) k d));
}
  where
    ticks : ℕ → ℕ
    ticks place = unwrap_or (wire_named lines net.name place) 0

    low : 0 ≤ most_delay
    low = omega arith

    fits : (place : ℕ) → ticks place ≤ most_delay
    fits place =
        unwrap_or-fits (λ ticks. ticks ≤ most_delay) (wire_named lines net.name place) 0 (properties_of-IsWire netlist text lines same net.name place) low

-- ---- the first version

-- neither clocks nor initial values
abbrev AreDelays : Properties → Type 0
AreDelays given = (given.clock ≡ None) × (given.initial ≡ None)

first-Delay : (code : List ℕ) (said : TimingLine) → line_in First code ≡ Some said → (ticks : ℕ) × (said.spelled ≡ spelled.Delay ticks)
first-Delay code said read = go (is_plain code) (words_of code) read
  where
    at : (name : List ℕ) (number : Option ℕ) → option_map (delay_said name) number ≡ Some said → (ticks : ℕ) × (said.spelled ≡ spelled.Delay ticks)
    at name None same = (cc)
    at name (Some ticks) same =
        let equal : delay_said name ticks ≡ said = (cc) in (ticks, sym (ap (λ (said : TimingLine). said.spelled) equal))

    go : (plain : Bool) (words : List (List ℕ)) → cond plain (line_of_first words) None ≡ Some said → (ticks : ℕ) × (said.spelled ≡ spelled.Delay ticks)
    go false words same = (cc)
    go true [] same = (cc)
    go true (name ∷ []) same = (cc)
    go true (name ∷ ticks ∷ []) same = at name (number_of ticks) same
    go true (name ∷ ticks ∷ third ∷ more) same = (cc)

delay-Delay : (line ticks : ℕ) (part : Part) (pins : ℕ) (given : Property) → property_of_part line (spelled.Delay ticks) part pins ≡ Ok given → property.Delay ticks ≡ given
delay-Delay line ticks part pins given same = go (is_input part) (is_in_limits ticks most_delay) same
  where
    go : (input inside : Bool) →
        cond input (Err (IsInput line)) (cond (not inside) (Err (BadTicks line)) (Ok (property.Delay ticks))) ≡ Ok given → property.Delay ticks ≡ given
    go true inside same = (cc)
    go false false same = (cc)
    go false true same = (cc)

-- a line of the first version gives a delay
first-gives-Delay : (netlist : NetlistView) (version : Version) → version ≡ First → (line : ℕ × List ℕ) (further : NetProperty) →
    property_or_fault version netlist line ≡ Ok further → (ticks : ℕ) × (property.Delay ticks ≡ further.property)
first-gives-Delay netlist version first line further gives =
    let is_said = property_or_fault-IsSaid version netlist line further gives in
    let delay = first-Delay line.1 is_said.said (ap (λ version. line_in version line.1) (sym first) ∙ is_said.read) in (
      delay.0,
      delay-Delay line.0 delay.0 is_said.part is_said.pins further.property
          (ap (λ said. property_of_part line.0 said is_said.part is_said.pins) (sym delay.1) ∙ is_said.fits),
    )

-- a text without a header gives no net a clock or an initial value
pub no_clocks-first_version : (netlist : NetlistView) (text : List ℕ) (lines : List NetProperty) → IsFirstVersion text → properties_of netlist text ≡ Ok lines →
    (name : List ℕ) → ((properties_named lines name).clock ≡ None) × ((properties_named lines name).initial ≡ None)
no_clocks-first_version netlist text lines first same =
    properties_of-keeps (λ given. AreDelays given) netlist text lines (refl, refl)
    (λ given line further delays gives.
    subst (λ further. AreDelays (with_property given further)) (first-gives-Delay netlist (version_of (code_lines text)) first line further gives).1 delays)
    same

-- and no pin a wire delay
pub no_wires-first_version : (netlist : NetlistView) (text : List ℕ) (lines : List NetProperty) → IsFirstVersion text → properties_of netlist text ≡ Ok lines →
    (name : List ℕ) (place : ℕ) → wire_named lines name place ≡ None
no_wires-first_version netlist text lines first same =
    wires_of-keep (λ given. given ≡ None) netlist text lines refl
    (λ given line further place none gives.
    subst (λ further. with_wire place given further ≡ None) (first-gives-Delay netlist (version_of (code_lines text)) first line further gives).1 none)
    same
