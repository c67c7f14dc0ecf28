-- The design that a netlist makes with its texts and settings.
use Rattle.std.proofs.Common.{◌≡◌, ◌≢◌, ℕ, ◌≤◌, Bool, true, false, cond, not, List, [], ◌∷◌, length, get_or, map, Option, None, Some, Result, Ok, Err, All, refl, ap, sym, subst, ◌∙◌}
use Rattle.std.specs.Result.{result_map_both}
use Rattle.std.specs.Option.{option_map_or}
use Rattle.std.proofs.lemmas.Bool.{and_parts, leb-true}
use Rattle.std.proofs.lemmas.List.{length-map}
use Rattle.std.proofs.lemmas.List.Elements.{All-map}
use Rattle.logic3.specs.declared.change.Change.{Change}
use Rattle.texts.specs.Text.{◌>>=◌}
use Rattle.netlist.specs.Netlist.{NetView, NetlistView, IsNetlist, all_pins}
use Rattle.timing_text.specs.declared.fault.OptionFault.{OptionFault}
use Rattle.timing_text.specs.declared.fault.OptionFault.TheVariants.{BadDelay, BadPeriod}
use Rattle.timing_text.specs.declared.fault.DelayFault.{DelayFault}
use Rattle.timing_text.specs.declared.fault.DelayFault.TheVariants as delay
use Rattle.timing_text.specs.declared.fault.StimulusFault.{StimulusFault}
use Rattle.timing_text.specs.declared.fault.StimulusFault.TheVariants as stimulus
use Rattle.design.specs.declared.fault.BuildFault.{BuildFault}
use Rattle.design.specs.declared.fault.BuildFault.TheVariants.{Setting, Stimulus, Memory}
use Rattle.design.specs.declared.fault.BuildFault.TheVariants as build
use Rattle.design.specs.Circuit.{Net, Circuit, IsTimed}
use Rattle.timing_text.specs.Ranges.{most_delay, most_ticks}
use Rattle.design.specs.Design.{DesignView, IsDesign, untimed}
use Rattle.design.specs.Joined.{timed_nets, design_view, first_pins_of, IsJoined}
use Rattle.design.specs.Pins.{all_fed}
use Rattle.timing_text.specs.Options.{is_in_limits, option_fault, options_of}
use Rattle.timing_text.specs.declared.timing.Timing.{Timing}
use Rattle.timing_text.specs.TimingLines.{NetProperty}
use Rattle.timing_text.specs.Timings.{properties_of, net_timings, timing_of_net, wires_of_net}
use Rattle.timing_text.specs.Stimuli.{NamedChange, stimuli_of, net_stimuli, stimuli_named}
use Rattle.design.specs.Faults.{timing_fault, stimulus_fault}
use Rattle.design.specs.Build.{circuit_with, circuit_of, design_of}
use Rattle.timing_text.proofs.CallerLemmas.{HasTiming-properties_of, HasWires-properties_of, HasStimuli-stimuli_of}

module _ (timing : NetView → Timing) (wires : NetView → List ℕ) (stimuli : NetView → List Change) where
  -- a net with what times it
  abbrev with_timing : NetView → Net
  with_timing net = record {
    name = net.name;
    part = net.part;
    pins = net.pins;
    wires = wires net;
    timing = timing net;
    stimuli = stimuli net;
  }

  -- nets without what timed them
  untimed-timed : (nets : List NetView) → map untimed (map with_timing nets) ≡ nets
  untimed-timed [] = refl
  untimed-timed (net ∷ nets) = ap (λ rest. net ∷ rest) (untimed-timed nets)

  -- timings, wires and stimuli that were made net by net
  timed_nets-by_net : (nets : List NetView) →
      timed_nets nets (map (λ (net : NetView). (timing net, wires net)) nets) (map stimuli nets) ≡ map with_timing nets
  timed_nets-by_net [] = refl
  timed_nets-by_net (net ∷ nets) = ap (λ rest. with_timing net ∷ rest) (timed_nets-by_net nets)

-- ---- what the steps of a build gave

no_fault : (fault : Option OptionFault) (done : Unit {0}) → Ok done ≡ option_map_or Err fault (Ok tt) → fault ≡ None
no_fault None done e = refl
no_fault (Some fault) done e = absurd (cc)

given_by : {A B E : Type 0} (f : A → B) (r : Result A E) (y : B) → Ok y ≡ result_map_both f (λ fault. fault) r → (x : A) × (r ≡ Ok x) × (y ≡ f x)
given_by f (Ok x) y e = (x, refl, cc)
given_by f (Err fault) y e = absurd (cc)

in_limits : (number most : ℕ) → is_in_limits number most ≡ true → (1 ≤ number) × (number ≤ most)
in_limits number most e = let both = and_parts _ _ e in (leb-true _ _ both.0, leb-true _ _ both.1)

-- settings in their ranges
pub record InRange (default period : ℕ) : Type 0 where
  pub delay_in_range : (1 ≤ default) × (default ≤ most_delay)
  pub period_in_range : (1 ≤ period) × (period ≤ most_ticks)

pub InRange-option_fault : (default period : ℕ) → option_fault default period ≡ None → InRange default period
InRange-option_fault default period = go (is_in_limits default most_delay) (is_in_limits period most_ticks) refl refl
  where
    go : (delay_in period_in : Bool) → is_in_limits default most_delay ≡ delay_in → is_in_limits period most_ticks ≡ period_in →
        cond (not delay_in) (Some BadDelay) (cond (not period_in) (Some BadPeriod) None) ≡ None → InRange default period
    go true true d p e = record { delay_in_range = in_limits default most_delay d; period_in_range = in_limits period most_ticks p }
    go true false d p e = absurd (cc)
    go false period_in d p e = absurd (cc)

-- timings and stimuli of the nets, as the texts say
pub record IsGiven (netlist : NetlistView) (delay_text stimulus_text : List ℕ) (default period : ℕ) (timings : List (Timing × List ℕ)) (stimuli : List (List Change)) : Type 0 where
  pub lines : List NetProperty
  pub changes : List NamedChange
  pub no_fault : option_fault default period ≡ None
  pub lines_are : properties_of netlist delay_text ≡ Ok lines
  pub changes_are : stimuli_of netlist stimulus_text ≡ Ok changes
  pub timings_are : timings ≡ net_timings netlist default period lines
  pub stimuli_are : stimuli ≡ net_stimuli netlist changes

pub is_given : (netlist : NetlistView) (delay_text stimulus_text : List ℕ) (default period : ℕ) (timings : List (Timing × List ℕ)) (stimuli : List (List Change)) (done : Unit {0}) →
    Ok done ≡ options_of default period →
    Ok timings ≡ result_map_both (net_timings netlist default period) (λ fault. fault) (properties_of netlist delay_text) →
    Ok stimuli ≡ result_map_both (net_stimuli netlist) (λ fault. fault) (stimuli_of netlist stimulus_text) →
    IsGiven netlist delay_text stimulus_text default period timings stimuli
is_given netlist delay_text stimulus_text default period timings stimuli done options lines changes =
    let by_lines = given_by (net_timings netlist default period) (properties_of netlist delay_text) timings lines in
    let by_changes = given_by (net_stimuli netlist) (stimuli_of netlist stimulus_text) stimuli changes in
    record {
      lines = by_lines.0;
      changes = by_changes.0;
      no_fault = no_fault (option_fault default period) done options;
      lines_are = by_lines.1;
      changes_are = by_changes.1;
      timings_are = by_lines.2;
      stimuli_are = by_changes.2;
    }

-- ---- the design that they make

module _ {netlist : NetlistView} {delay_text stimulus_text : List ℕ} {default period : ℕ} {timings : List (Timing × List ℕ)} {stimuli : List (List Change)}
    (given : IsGiven netlist delay_text stimulus_text default period timings stimuli) where
  circuit_is : timed_nets netlist.nets timings stimuli ≡ circuit_with netlist given.lines given.changes default period
  circuit_is =
      (λ i. timed_nets netlist.nets (given.timings_are i) (given.stimuli_are i))
      ∙ timed_nets-by_net (timing_of_net default period given.lines) (wires_of_net given.lines) (λ (net : NetView). stimuli_named given.changes net.name) netlist.nets

  -- it is the one that the definition gives
  pub design_of-given : design_of netlist delay_text stimulus_text default period ≡ Ok (design_view netlist timings stimuli)
  design_of-given = rw (given.no_fault, given.lines_are, given.changes_are) (ap (λ nets. Ok (record { netlist = netlist; circuit = nets })) (sym circuit_is))

  all_timed : IsNetlist netlist → All IsTimed (circuit_with netlist given.lines given.changes default period)
  all_timed ok =
      let range = InRange-option_fault default period given.no_fault in
      let timed = HasTiming-properties_of netlist delay_text default period given.lines given.lines_are range.delay_in_range.0 range.delay_in_range.1
      range.period_in_range.0 range.period_in_range.1 in
      let wired = HasWires-properties_of netlist delay_text given.lines given.lines_are in
      let stimulated = HasStimuli-stimuli_of netlist stimulus_text given.changes ok.distinct given.changes_are in
      All-map IsTimed _ netlist.nets
      (λ k d below. record { timing = timed (get_or netlist.nets k d); wires = wired (get_or netlist.nets k d); stimuli = stimulated k d below })

  -- and its parts fit together
  pub IsJoined-given : (first_pins sources : List ℕ) (fed : List (List ℕ)) → IsNetlist netlist → first_pins ≡ first_pins_of netlist →
      sources ≡ all_pins netlist.nets → fed ≡ all_fed (length netlist.nets) sources →
      IsJoined netlist first_pins sources fed timings stimuli
  IsJoined-given first_pins sources fed ok starts feeds fed_are = record {
    starts = starts;
    feeds = feeds;
    fan_out = fed_are;
    some_timing = ap length given.timings_are ∙ length-map netlist.nets _;
    some_stimuli = ap length given.stimuli_are ∙ length-map netlist.nets _;
    well_formed = record {
      netlist = ok;
      same_nets = ap (map untimed) circuit_is ∙ untimed-timed (timing_of_net default period given.lines) (wires_of_net given.lines) (λ (net : NetView). stimuli_named given.changes net.name) netlist.nets;
      timed = rw circuit_is (all_timed ok);
    };
  }

-- ---- the faults of the texts

refused_by : {A B E : Type 0} (f : A → B) (r : Result A E) (fault : E) → Err fault ≡ result_map_both f (λ fault. fault) r → r ≡ Err fault
refused_by f (Ok x) fault e = absurd (cc)
refused_by f (Err other) fault e = cc

-- a fault that isn't want of memory is passed on
timing_fault-other : (fault : DelayFault) → timing_fault fault ≢ Memory → (fault ≢ delay.Memory) × (timing_fault fault ≡ build.Timing fault)
timing_fault-other delay.Memory differs = absurd (differs refl)
timing_fault-other _ differs = ((λ e. (cc)), refl)

stimulus_fault-other : (fault : StimulusFault) → stimulus_fault fault ≢ Memory → (fault ≢ stimulus.Memory) × (stimulus_fault fault ≡ Stimulus fault)
stimulus_fault-other stimulus.Memory differs = absurd (differs refl)
stimulus_fault-other _ differs = ((λ e. (cc)), refl)

module _ (netlist : NetlistView) (delay_text stimulus_text : List ℕ) (default period : ℕ) (done : Unit {0}) (options : Ok done ≡ options_of default period) where
  pub design_of-timing_fault : (fault : DelayFault) →
      (fault ≢ delay.Memory → Err fault ≡ result_map_both (net_timings netlist default period) (λ fault. fault) (properties_of netlist delay_text)) →
      timing_fault fault ≢ Memory → Err (timing_fault fault) ≡ design_of netlist delay_text stimulus_text default period
  design_of-timing_fault fault refused differs =
      let other = timing_fault-other fault differs in
      let none = no_fault (option_fault default period) done options in
      let lines = refused_by (net_timings netlist default period) (properties_of netlist delay_text) fault (refused other.0) in
      rw (none, lines) (ap Err other.1)

  pub design_of-stimulus_fault : (timings : List (Timing × List ℕ)) (fault : StimulusFault) →
      Ok timings ≡ result_map_both (net_timings netlist default period) (λ fault. fault) (properties_of netlist delay_text) →
      (fault ≢ stimulus.Memory → Err fault ≡ result_map_both (net_stimuli netlist) (λ fault. fault) (stimuli_of netlist stimulus_text)) →
      stimulus_fault fault ≢ Memory → Err (stimulus_fault fault) ≡ design_of netlist delay_text stimulus_text default period
  design_of-stimulus_fault timings fault given refused differs =
      let other = stimulus_fault-other fault differs in
      let none = no_fault (option_fault default period) done options in
      let lines = given_by (net_timings netlist default period) (properties_of netlist delay_text) timings given in
      let changes = refused_by (net_stimuli netlist) (stimuli_of netlist stimulus_text) fault (refused other.0) in
      rw (none, lines.1, changes) (ap Err other.1)

-- ---- laws of the definition

-- a circuit that is made of a well-formed netlist makes a design with it
pub IsDesign-circuit_of : (netlist : NetlistView) (delay_text stimulus_text : List ℕ) (default period : ℕ) (circuit : Circuit) → IsNetlist netlist →
    circuit_of netlist delay_text stimulus_text default period ≡ Ok circuit → IsDesign (record { netlist = netlist; circuit = circuit })
IsDesign-circuit_of netlist delay_text stimulus_text default period circuit ok =
    go (option_fault default period) (properties_of netlist delay_text) (stimuli_of netlist stimulus_text) refl refl refl
  where
    made : (lines : List NetProperty) (changes : List NamedChange) → option_fault default period ≡ None → properties_of netlist delay_text ≡ Ok lines →
        stimuli_of netlist stimulus_text ≡ Ok changes →
        IsDesign (record { netlist = netlist; circuit = circuit_with netlist lines changes default period })
    made lines changes none lines_are changes_are =
        let given : IsGiven netlist delay_text stimulus_text default period (net_timings netlist default period lines) (net_stimuli netlist changes) = record {
          lines = lines;
          changes = changes;
          no_fault = none;
          lines_are = lines_are;
          changes_are = changes_are;
          timings_are = refl;
          stimuli_are = refl;
        } in
        record {
          netlist = ok;
          same_nets = untimed-timed (timing_of_net default period lines) (wires_of_net lines) (λ (net : NetView). stimuli_named changes net.name) netlist.nets;
          timed = all_timed given ok;
        }

    go : (fault : Option OptionFault) (lines : Result (List NetProperty) DelayFault) (changes : Result (List NamedChange) StimulusFault) →
        option_fault default period ≡ fault → properties_of netlist delay_text ≡ lines → stimuli_of netlist stimulus_text ≡ changes →
        option_map_or (λ f. Err (Setting f)) fault (result_map_both (λ x. x) build.Timing lines
        >>= λ ls. result_map_both (λ x. x) Stimulus changes >>= λ cs. Ok (circuit_with netlist ls cs default period)) ≡ Ok circuit →
        IsDesign (record { netlist = netlist; circuit = circuit })
    go (Some f) lines changes a b c e = absurd (cc)
    go None (Err f) changes a b c e = absurd (cc)
    go None (Ok lines) (Err f) a b c e = absurd (cc)
    go None (Ok lines) (Ok changes) a b c e =
        let same : circuit_with netlist lines changes default period ≡ circuit = cc in
        subst (λ nets. IsDesign (record { netlist = netlist; circuit = nets })) same (made lines changes a b c)

pub IsDesign-design_of : (netlist : NetlistView) (delay_text stimulus_text : List ℕ) (default period : ℕ) (design : DesignView) → IsNetlist netlist →
    design_of netlist delay_text stimulus_text default period ≡ Ok design → IsDesign design
IsDesign-design_of netlist delay_text stimulus_text default period design ok =
    go (circuit_of netlist delay_text stimulus_text default period) (IsDesign-circuit_of netlist delay_text stimulus_text default period)
  where
    go : (made : Result Circuit BuildFault) →
        ((circuit : Circuit) → IsNetlist netlist → made ≡ Ok circuit → IsDesign (record { netlist = netlist; circuit = circuit })) →
        ◌≡◌ {A = Result DesignView BuildFault} (made >>= λ circuit. Ok (record { netlist = netlist; circuit = circuit })) (Ok design) → IsDesign design
    go (Ok circuit) formed e =
        let same : ◌≡◌ {A = DesignView} (record { netlist = netlist; circuit = circuit }) design = cc in subst IsDesign same (formed circuit ok refl)
    go (Err fault) formed e = cc
