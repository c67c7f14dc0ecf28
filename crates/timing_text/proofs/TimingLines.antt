-- What a line of a delay text gives.
use Rattle.std.proofs.Common.{◌≡◌, ℕ, ◌<◌, ◌≤◌, min, Bool, true, false, nat_lt, List, length, option_map, Option, None, Some, IfSome, Result, Ok, Err, refl, sym, ap, ◌∙◌, subst, arith}
use Rattle.std.specs.Option.{ok_or}
use Rattle.std.proofs.lemmas.Bool.Decides.{nat_tests}
use Rattle.netlist.specs.declared.part.Part.{Part}
use Rattle.netlist.specs.Netlist.{NetView, NetlistView, net_named, net_at}
use Rattle.texts.specs.Text.{◌>>=◌}
use Rattle.timing_text.specs.declared.fault.DelayFault.{DelayFault}
use Rattle.timing_text.specs.declared.fault.DelayFault.TheVariants.{BadLine, UnknownNet}
use Rattle.timing_text.specs.declared.line.Clock.{Clock}
use Rattle.timing_text.specs.declared.line.Property.{Property}
use Rattle.timing_text.specs.declared.line.Spelled.{Spelled}
use Rattle.timing_text.specs.declared.line.Spelled.TheVariants as spelled
use Rattle.timing_text.specs.declared.line.Version.{Version}
use Rattle.timing_text.specs.declared.line.Wire.{Wire}
use Rattle.timing_text.specs.Options.{is_in_limits}
use Rattle.timing_text.specs.Ranges.{most_delay, most_ticks}
use Rattle.timing_text.specs.TimingLines.{NetProperty, TimingLine, cut_line, cut_spelled, line_in, property_at, property_of_part, property_or_fault}
use Rattle.timing_text.specs.Words.{find_net}
use Rattle.netlist.proofs.CallerLemmas.{net_at-named}

-- ---- numbers cut to at most `top`

is_in_limits-cut : (top number most : ℕ) → most < top → is_in_limits (min top number) most ≡ is_in_limits number most
is_in_limits-cut top number most above = grind (arith, nat_tests)

-- a delay whose number was cut is as good as the whole one
delay-cut : (line top ticks : ℕ) (part : Part) (pins : ℕ) → most_ticks < top →
    property_of_part line (spelled.Delay (min top ticks)) part pins ≡ property_of_part line (spelled.Delay ticks) part pins
delay-cut line top ticks part pins above = go (is_in_limits ticks most_delay) refl
  where
    go : (inside : Bool) → is_in_limits ticks most_delay ≡ inside →
        property_of_part line (spelled.Delay (min top ticks)) part pins ≡ property_of_part line (spelled.Delay ticks) part pins
    go true is =
        let whole : min top ticks ≡ ticks = grind (arith, nat_tests) in
        ap (λ number. property_of_part line (spelled.Delay number) part pins) whole
    go false is = rw (is_in_limits-cut top ticks most_delay (omega arith), is) refl

-- and so is a clock
clock-cut : (line top : ℕ) (clock : Clock) (part : Part) (pins : ℕ) → most_ticks < top →
    property_of_part line (spelled.Clock (record { period = min top clock.period; phase = min top clock.phase })) part pins
    ≡ property_of_part line (spelled.Clock clock) part pins
clock-cut line top clock part pins above = go (is_in_limits clock.period most_ticks) (nat_lt clock.phase clock.period) refl refl
  where
    cut : Clock
    cut = record { period = min top clock.period; phase = min top clock.phase }

    go : (inside before : Bool) → is_in_limits clock.period most_ticks ≡ inside → nat_lt clock.phase clock.period ≡ before →
        property_of_part line (spelled.Clock cut) part pins ≡ property_of_part line (spelled.Clock clock) part pins
    go true true is first =
        let period : min top clock.period ≡ clock.period = grind (arith, nat_tests) in
        let phase : min top clock.phase ≡ clock.phase = grind (arith, nat_tests) in
        let whole : cut ≡ clock = λ i. record { period = period i; phase = phase i } in
        ap (λ clock. property_of_part line (spelled.Clock clock) part pins) whole
    go true false is first =
        let late : nat_lt (min top clock.phase) (min top clock.period) ≡ false = grind (arith, nat_tests) in
        rw (is_in_limits-cut top clock.period most_ticks above, is, late, first) refl
    go false before is first = rw (is_in_limits-cut top clock.period most_ticks above, is) refl

-- and a wire of one of fewer than `top` pins
wire-cut : (line top : ℕ) (wire : Wire) (part : Part) (pins : ℕ) → most_ticks < top → pins ≤ top →
    property_of_part line (spelled.Wire (record { place = min top wire.place; ticks = min top wire.ticks })) part pins
    ≡ property_of_part line (spelled.Wire wire) part pins
wire-cut line top wire part pins above few = go (nat_lt wire.place pins) (nat_lt most_delay wire.ticks) refl refl
  where
    cut : Wire
    cut = record { place = min top wire.place; ticks = min top wire.ticks }

    there_cut : nat_lt (min top wire.place) pins ≡ nat_lt wire.place pins
    there_cut = grind (arith, nat_tests)

    late_cut : nat_lt most_delay (min top wire.ticks) ≡ nat_lt most_delay wire.ticks
    late_cut = grind (arith, nat_tests)

    go : (there late : Bool) → nat_lt wire.place pins ≡ there → nat_lt most_delay wire.ticks ≡ late →
        property_of_part line (spelled.Wire cut) part pins ≡ property_of_part line (spelled.Wire wire) part pins
    go true false is after =
        let place : min top wire.place ≡ wire.place = grind (arith, nat_tests) in
        let ticks : min top wire.ticks ≡ wire.ticks = grind (arith, nat_tests) in
        let whole : cut ≡ wire = λ i. record { place = place i; ticks = ticks i } in
        ap (λ wire. property_of_part line (spelled.Wire wire) part pins) whole
    go true true is after = rw (there_cut, late_cut, is, after) refl
    go false late is after = rw (there_cut, is) refl

property_of_part-cut : (line top : ℕ) (said : Spelled) (part : Part) (pins : ℕ) → most_ticks < top → pins ≤ top →
    property_of_part line (cut_spelled top said) part pins ≡ property_of_part line said part pins
property_of_part-cut line top (spelled.Delay ticks) part pins above few = delay-cut line top ticks part pins above
property_of_part-cut line top (spelled.Clock clock) part pins above few = clock-cut line top clock part pins above
property_of_part-cut line top (spelled.Initial value) part pins above few = refl
property_of_part-cut line top (spelled.Wire wire) part pins above few = wire-cut line top wire part pins above few

-- a net has few enough pins
abbrev HasFewPins : NetlistView → List ℕ → ℕ → Type 0
HasFewPins netlist name top = IfSome (find_net netlist name) (λ net. length net.pins ≤ top)

property_at-cut : (netlist : NetlistView) (line top : ℕ) (said : TimingLine) → most_ticks < top → HasFewPins netlist said.name top →
    property_at netlist line (cut_line top said) ≡ property_at netlist line said
property_at-cut netlist line top said above few = go (find_net netlist said.name) few
  where
    at : NetView → Spelled → Result NetProperty DelayFault
    at net said_of_it = property_of_part line said_of_it net.part (length net.pins) >>= λ property. Ok (record { name = said.name; property = property })

    go : (found : Option NetView) → IfSome found (λ net. length net.pins ≤ top) →
        (ok_or found (UnknownNet line) >>= λ (net : NetView). at net (cut_spelled top said.spelled))
        ≡ (ok_or found (UnknownNet line) >>= λ (net : NetView). at net said.spelled)
    go None few = refl
    go (Some net) few =
        ap (λ result. result >>= λ property. Ok (record { name = said.name; property = property }))
        (property_of_part-cut line top said.spelled net.part (length net.pins) above few)

-- ---- lines

module _ (version : Version) (netlist : NetlistView) (line top : ℕ) (code name : List ℕ) (said : Spelled) where
  abbrev read : TimingLine
  read = record { name = name; spelled = said }

  -- a line gives what it says, its numbers cut to at most `top`
  property_or_fault-read : Some read ≡ option_map (cut_line top) (line_in version code) → most_ticks < top → HasFewPins netlist name top →
      property_or_fault version netlist (line, code) ≡ property_at netlist line read
  property_or_fault-read same above few = go (line_in version code) same
    where
      go : (given : Option TimingLine) → Some read ≡ option_map (cut_line top) given →
          (ok_or given (BadLine line) >>= property_at netlist line) ≡ property_at netlist line read
      go None same = (cc)
      go (Some given) same =
          let cut : read ≡ cut_line top given = (cc) in
          let named : name ≡ given.name = ap (λ (line : TimingLine). line.name) cut in
          sym (ap (property_at netlist line) cut ∙ property_at-cut netlist line top given above (subst (λ name. HasFewPins netlist name top) named few))

  -- of a name that no net has
  pub property_or_fault-unknown : Some read ≡ option_map (cut_line top) (line_in version code) → most_ticks < top → net_named netlist name ≡ None →
      Err (UnknownNet line) ≡ property_or_fault version netlist (line, code)
  property_or_fault-unknown same above unknown =
      let none : find_net netlist name ≡ None = ap (option_map (net_at netlist)) unknown in
      let few : HasFewPins netlist name top = rw none tt in
      rw (property_or_fault-read same above few, unknown) refl

  -- of a net, which may have it or not
  pub property_or_fault-known : (net pins : ℕ) (part : Part) (result : Result Property DelayFault) →
      Some read ≡ option_map (cut_line top) (line_in version code) → most_ticks < top → net_named netlist name ≡ Some net →
      part ≡ (net_at netlist net).part → pins ≡ length (net_at netlist net).pins → pins ≤ top → result ≡ property_of_part line said part pins →
      (result >>= λ property. Ok (record { name = (net_at netlist net).name; property = property })) ≡ property_or_fault version netlist (line, code)
  property_or_fault-known net pins part result same above found drives has few gives =
      let named = (net_at-named netlist name net found).1 in
      let known : find_net netlist name ≡ Some (net_at netlist net) = ap (option_map (net_at netlist)) found in
      let few_pins : HasFewPins netlist name top = rw (known, ← has) few in
      rw (property_or_fault-read same above few_pins, found, gives, drives, has, named) refl
