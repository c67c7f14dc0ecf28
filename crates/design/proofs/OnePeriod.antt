-- A delay text of version 1 gives the equations of one period.
use Rattle.std.proofs.Common.{◌≡◌, ℕ, ◌+◌, ◌-◌, ◌*◌, ◌/◌, nat_lt, Bool, true, false, cond, List, length, map, get_or, slice_get, Option, None, Some, Result, Ok, Err, All, refl, ap, sym, ◌∙◌, subst, arith}
use Rattle.std.specs.Option.{option_map_or, unwrap_or}
use Rattle.std.specs.List.{range_with_len}
use Rattle.std.specs.Result.{result_map_both}
use Rattle.std.proofs.lemmas.List.Elements.{All-map}
use Rattle.logic3.specs.declared.value.Value.{Value}
use Rattle.logic3.specs.declared.value.Value.TheVariants.{Unknown}
use Rattle.logic3.specs.Gate.{value_of_gate, only_pin}
use Rattle.texts.specs.Text.{◌>>=◌}
use Rattle.netlist.specs.declared.part.Part.{Part}
use Rattle.netlist.specs.declared.part.Part.TheVariants.{Input, Gate, Flop}
use Rattle.netlist.specs.Netlist.{NetView, NetlistView, IsNetlist}
use Rattle.timing_text.specs.declared.fault.DelayFault.{DelayFault}
use Rattle.timing_text.specs.declared.fault.OptionFault.{OptionFault}
use Rattle.timing_text.specs.declared.fault.StimulusFault.{StimulusFault}
use Rattle.timing_text.specs.declared.timing.Timing.{Timing}
use Rattle.timing_text.specs.Options.{option_fault}
use Rattle.timing_text.specs.Stimuli.{NamedChange, stimuli_of}
use Rattle.timing_text.specs.TimingLines.{NetProperty}
use Rattle.timing_text.specs.Timings.{IsFirstVersion, properties_of, timing_of_net, wire_named, wires_of_net}
use Rattle.timing_text.proofs.CallerLemmas.{no_clocks-first_version, no_wires-first_version}
use Rattle.design.specs.declared.fault.BuildFault.TheVariants as build
use Rattle.design.specs.Build.{circuit_of, circuit_with}
use Rattle.design.specs.Circuit.{Net, Circuit, IsCircuit, IsTimed}
use Rattle.design.specs.Equations.{equation_of_part, equation_at, values_at, value_of}
use Rattle.design.specs.OnePeriod.{IsPeriodicSolution, periodic_of_part, periodic_at}
use Rattle.design.specs.Samples.{first_sample, last_sample}
use Rattle.design.proofs.Built.{IsDesign-circuit_of}
use Rattle.design.proofs.Solution.{equation_at_once, value_only, value_solves}
use Rattle.design.proofs.WellFormed.{All-slice_get, IsCircuit-from_IsDesign, timed_at}

-- a flip-flop has this period, no phase and no initial value
record IsPeriodic (one : ℕ) (timing : Timing) : Type 0 where
  pub period : timing.period ≡ one
  pub phase : timing.phase ≡ 0
  pub initial : timing.initial ≡ Unknown

-- and the wire of no pin takes a tick
record IsAtOnce (one : ℕ) (net : Net) : Type 0 where
  pub flop : net.part ≡ Flop → IsPeriodic one net.timing
  pub wires : All (λ wire. wire ≡ 0) net.wires

abbrev AllPeriodic : ℕ → Circuit → Type 0
AllPeriodic period circuit = All (IsAtOnce period) circuit

-- what stands where a test tells that nothing is asked for
tested : {A B : Type 0} (test : Bool) (found : A → B) (at : A) (none : B) →
    option_map_or found (cond test None (Some at)) none ≡ cond test none (found at)
tested true found at none = refl
tested false found at none = refl

-- the last sample is a multiple
last_multiple : (period tick : ℕ) → last_sample period 0 tick ≡ period * (tick / period)
last_multiple period tick =
    let whole : tick - 0 ≡ tick = omega arith in
    let nothing : 0 + period * (tick / period) ≡ period * (tick / period) = omega arith in
    (λ i. 0 + period * (whole i / period)) ∙ nothing

module _ (delay tick : ℕ) (signals : List (ℕ → Value)) where
  -- what a flip-flop shows that has these
  abbrev sampled : ℕ → ℕ → Value → Value
  sampled period phase initial =
      option_map_or (λ asked. only_pin (values_at asked signals))
      (cond (nat_lt tick (delay + first_sample period phase)) None (Some (last_sample period phase (tick - delay)))) initial

  sampled-periodic : (period : ℕ) →
      sampled period 0 Unknown
      ≡ cond (nat_lt tick (delay + period)) Unknown (only_pin (values_at (period * ((tick - delay) / period)) signals))
  sampled-periodic period =
      tested (nat_lt tick (delay + period)) (λ asked. only_pin (values_at asked signals)) (last_sample period 0 (tick - delay)) Unknown
      ∙ ap (λ asked. cond (nat_lt tick (delay + period)) Unknown (only_pin (values_at asked signals))) (last_multiple period (tick - delay))

-- such equations are those of one period
periodic_equation : (period : ℕ) (part : Part) (net : Net) → (part ≡ Flop → IsPeriodic period net.timing) → (signals : List (ℕ → Value)) (tick : ℕ) →
    equation_of_part part net signals tick ≡ periodic_of_part period part net signals tick
periodic_equation period Input net is signals tick = refl
periodic_equation period (Gate kind) net is signals tick =
    tested (nat_lt tick net.timing.delay) (λ asked. value_of_gate kind (values_at asked signals)) (tick - net.timing.delay) Unknown
periodic_equation period Flop net is signals tick =
    let told = is refl in
    (λ i. sampled net.timing.delay tick signals (told.period i) (told.phase i) (told.initial i))
    ∙ sampled-periodic net.timing.delay tick signals period

periodic_place : (period : ℕ) (place : Option Net) → ((net : Net) → place ≡ Some net → IsTimed net) →
    ((net : Net) → place ≡ Some net → IsAtOnce period net) →
    (signals : ℕ → ℕ → Value) (tick : ℕ) → equation_at place signals tick ≡ periodic_at period place signals tick
periodic_place period None timed each signals tick = refl
periodic_place period (Some net) timed each signals tick =
    equation_at_once net signals tick (timed net refl) (each net refl).wires
    ∙ periodic_equation period net.part net (each net refl).flop (map signals net.pins) tick

module _ (period : ℕ) (circuit : Circuit) (ok : IsCircuit circuit) (all : AllPeriodic period circuit) where
  at_place : (signals : ℕ → ℕ → Value) (net tick : ℕ) →
      equation_at (slice_get circuit net) signals tick ≡ periodic_at period (slice_get circuit net) signals tick
  at_place signals net tick =
      periodic_place period (slice_get circuit net) (timed_at circuit ok net)
      (λ n at. All-slice_get (IsAtOnce period) circuit net n all at) signals tick

-- ---- the texts

module _ (netlist : NetlistView) (delays stimuli : List ℕ) (default period : ℕ) (first : IsFirstVersion delays) where
  periodic_net : (lines : List NetProperty) → properties_of netlist delays ≡ Ok lines → (net : NetView) → net.part ≡ Flop →
      IsPeriodic period (timing_of_net default period lines net)
  periodic_net lines read net is =
      let none = no_clocks-first_version netlist delays lines first read net.name in
      rw (is, none.0, none.1) (record { period = refl; phase = refl; initial = refl })

  at_once : (lines : List NetProperty) → properties_of netlist delays ≡ Ok lines → (net : NetView) →
      All (λ wire. wire ≡ 0) (wires_of_net lines net)
  at_once lines read net =
      All-map (λ wire. wire ≡ 0) (λ place. unwrap_or (wire_named lines net.name place) 0) (range_with_len 0 (length net.pins))
      (λ k d below. ap (λ given. unwrap_or given 0) (no_wires-first_version netlist delays lines first read net.name
      (get_or (range_with_len 0 (length net.pins)) k d)))

  periodic_circuit : (lines : List NetProperty) (changes : List NamedChange) → properties_of netlist delays ≡ Ok lines →
      AllPeriodic period (circuit_with netlist lines changes default period)
  periodic_circuit lines changes read =
      All-map (IsAtOnce period) _ netlist.nets (λ k d below. record {
        flop = periodic_net lines read (get_or netlist.nets k d);
        wires = at_once lines read (get_or netlist.nets k d);
      })

  all_periodic : (circuit : Circuit) → circuit_of netlist delays stimuli default period ≡ Ok circuit → AllPeriodic period circuit
  all_periodic circuit = go (option_fault default period) (properties_of netlist delays) (stimuli_of netlist stimuli) refl
    where
      go : (fault : Option OptionFault) (lines : Result (List NetProperty) DelayFault) (changes : Result (List NamedChange) StimulusFault) →
          properties_of netlist delays ≡ lines →
          option_map_or (λ f. Err (build.Setting f)) fault (result_map_both (λ x. x) build.Timing lines
          >>= λ ls. result_map_both (λ x. x) build.Stimulus changes >>= λ cs. Ok (circuit_with netlist ls cs default period)) ≡ Ok circuit →
          AllPeriodic period circuit
      go (Some f) lines changes a e = absurd (cc)
      go None (Err f) changes a e = absurd (cc)
      go None (Ok lines) (Err f) a e = absurd (cc)
      go None (Ok lines) (Ok changes) a e =
          let same : circuit_with netlist lines changes default period ≡ circuit = cc in
          subst (AllPeriodic period) same (periodic_circuit lines changes a)

  module _ (circuit : Circuit) (ok : IsNetlist netlist) (made : circuit_of netlist delays stimuli default period ≡ Ok circuit) where
    formed : IsCircuit circuit
    formed = IsCircuit-from_IsDesign _ (IsDesign-circuit_of netlist delays stimuli default period circuit ok made)

    pub solves_periodic : IsPeriodicSolution period circuit (value_of circuit)
    solves_periodic = λ net tick.
        value_solves circuit formed net tick ∙ at_place period circuit formed (all_periodic circuit made) (value_of circuit) net tick

    pub only_periodic : (signals : ℕ → ℕ → Value) → IsPeriodicSolution period circuit signals → (net tick : ℕ) →
        signals net tick ≡ value_of circuit net tick
    only_periodic signals solves =
        value_only circuit signals formed
        (λ net tick. solves net tick ∙ sym (at_place period circuit formed (all_periodic circuit made) signals net tick))
