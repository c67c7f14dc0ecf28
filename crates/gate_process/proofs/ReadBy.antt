-- What a net reads, by how many pins it has: an input, and it alone, has none.
use Rattle.std.proofs.Common.{◌≡◌, ◌≢◌, ℕ, zero, suc, ◌<◌, ◌≤◌, ◌==◌, true, cond, List, [], ◌∷◌, map, length, get_or, None, Some, Result, refl, ap, sym, ◌∙◌, arith}
use Rattle.std.specs.Option.{option_map_or}
use Rattle.std.proofs.lemmas.Bool.{eqb-true}
use Rattle.std.proofs.lemmas.List.{length-map}
use Rattle.logic3.specs.declared.value.Value.{Value}
use Rattle.logic3.specs.declared.value.Value.TheVariants.{Unknown}
use Rattle.logic3.specs.Gate.{value_of_gate, only_pin}
use Rattle.logic3.specs.Summary.{summary_of}
use Rattle.logic3.specs.declared.gates.GateKind.TheVariants.{Not, Buf}
use Rattle.logic3.specs.Wave.{Wave, value_at, changes_between}
use Rattle.netlist.specs.declared.part.Part.{Part}
use Rattle.netlist.specs.declared.part.Part.TheVariants.{Input, Gate, Flop}
use Rattle.netlist.specs.Part.{takes_pins}
use Rattle.cmb_channels.specs.declared.message.Message.{Message}
use Rattle.design.specs.Circuit.{Net}
use Rattle.timing_text.specs.Ranges.{HasClock}
use Rattle.design.specs.Equations.{values_at, equation_of_part, equation}
use Rattle.gate_process.specs.Knowledge.{Knowledge, seen, seen_pins, as_known, news_of}
use Rattle.gate_process.specs.Reading.{read_by_part, read_by, reads_of_part, reads, read_tick, made_of, shown}
use Rattle.gate_process.specs.Step.{signals_of, continued, first_unknown}
use Rattle.gate_process.proofs.Steady.{shown_by, unread-initial}
use Rattle.gate_process.specs.Truth.{IsNet}
use Rattle.gate_process.proofs.SeenPins.{length-seen_pins}
use Rattle.std.specs.Result.{IfOk}
use Rattle.std.proofs.lemmas.Result.{IfOk-weaker}

takes_some : (part : Part) (pins : ℕ) → takes_pins part pins ≡ true → pins < 1 → part ≡ Input
takes_some Input pins takes none = refl
takes_some Flop zero takes none = cc
takes_some (Gate Not) zero takes none = cc
takes_some (Gate Buf) zero takes none = cc
takes_some (Gate _) zero takes none = cc
takes_some _ (suc pins) takes none = absurd (omega arith)

-- ---- what the net sees of its pins

seen_one : (wires : List ℕ) (received : List Knowledge) (pin : Knowledge) → length wires ≡ length received →
    1 ≤ length received → length received < 2 → pin ≡ get_or received 0 pin →
    (as_known (seen (get_or wires 0 0) pin) ∷ []) ≡ map as_known (seen_pins wires received)
seen_one wires [] pin long some few is = absurd (omega arith)
seen_one wires (first ∷ second ∷ received) pin long some few is = absurd (omega arith)
seen_one [] (first ∷ []) pin long some few is = absurd (omega arith)
seen_one (wire ∷ other ∷ wires) (first ∷ []) pin long some few is = absurd (omega arith)
seen_one (wire ∷ []) (first ∷ []) pin long some few is = ap (λ (known : Knowledge). as_known (seen wire known) ∷ []) is

seen_two : (wires : List ℕ) (received : List Knowledge) (pin other : Knowledge) → length wires ≡ length received →
    2 ≤ length received → length received < 3 → pin ≡ get_or received 0 pin → other ≡ get_or received 1 other →
    (as_known (seen (get_or wires 0 0) pin) ∷ as_known (seen (get_or wires 1 0) other) ∷ [])
    ≡ map as_known (seen_pins wires received)
seen_two wires [] pin other long some few is other_is = absurd (omega arith)
seen_two wires (first ∷ []) pin other long some few is other_is = absurd (omega arith)
seen_two wires (first ∷ second ∷ third ∷ received) pin other long some few is other_is = absurd (omega arith)
seen_two [] (first ∷ second ∷ []) pin other long some few is other_is = absurd (omega arith)
seen_two (wire ∷ []) (first ∷ second ∷ []) pin other long some few is other_is = absurd (omega arith)
seen_two (wire ∷ next ∷ more ∷ wires) (first ∷ second ∷ []) pin other long some few is other_is = absurd (omega arith)
seen_two (wire ∷ next ∷ []) (first ∷ second ∷ []) pin other long some few is other_is =
    λ i. as_known (seen wire (is i)) ∷ as_known (seen next (other_is i)) ∷ []

seen_three : (wires : List ℕ) (received : List Knowledge) (pin other last : Knowledge) → length wires ≡ length received →
    3 ≤ length received → length received < 4 → pin ≡ get_or received 0 pin → other ≡ get_or received 1 other → last ≡ get_or received 2 last →
    (as_known (seen (get_or wires 0 0) pin) ∷ as_known (seen (get_or wires 1 0) other) ∷ as_known (seen (get_or wires 2 0) last) ∷ [])
    ≡ map as_known (seen_pins wires received)
seen_three wires [] pin other last long some few is other_is last_is = absurd (omega arith)
seen_three wires (first ∷ []) pin other last long some few is other_is last_is = absurd (omega arith)
seen_three wires (first ∷ second ∷ []) pin other last long some few is other_is last_is = absurd (omega arith)
seen_three wires (first ∷ second ∷ third ∷ fourth ∷ received) pin other last long some few is other_is last_is = absurd (omega arith)
seen_three [] (first ∷ second ∷ third ∷ []) pin other last long some few is other_is last_is = absurd (omega arith)
seen_three (wire ∷ []) (first ∷ second ∷ third ∷ []) pin other last long some few is other_is last_is = absurd (omega arith)
seen_three (wire ∷ next ∷ []) (first ∷ second ∷ third ∷ []) pin other last long some few is other_is last_is = absurd (omega arith)
seen_three (wire ∷ next ∷ end ∷ more ∷ wires) (first ∷ second ∷ third ∷ []) pin other last long some few is other_is last_is = absurd (omega arith)
seen_three (wire ∷ next ∷ end ∷ []) (first ∷ second ∷ third ∷ []) pin other last long some few is other_is last_is =
    λ i. as_known (seen wire (is i)) ∷ as_known (seen next (other_is i)) ∷ as_known (seen end (last_is i)) ∷ []

-- ---- the waveforms that are read

module _ (net : Net) (received : List Knowledge) (ok : IsNet net) (pins : length received ≡ length net.pins) where
  each_wire : length net.wires ≡ length received
  each_wire = ok.timed.wires.each ∙ sym pins

  pub stimuli_read : length received < 1 → (record { before = Unknown; changes = net.stimuli } ∷ []) ≡ read_by net (seen_pins net.wires received)
  stimuli_read none =
      ap (λ part. read_by_part part net (seen_pins net.wires received))
      (sym (takes_some net.part (length net.pins) ok.arity (omega (arith, pins, none))))

  pins_read : 0 < length received → map as_known (seen_pins net.wires received) ≡ read_by net (seen_pins net.wires received)
  pins_read some = go net.part ok.arity
    where
      go : (part : Part) → takes_pins part (length net.pins) ≡ true →
          map as_known (seen_pins net.wires received) ≡ read_by_part part net (seen_pins net.wires received)
      go Input none = let e = eqb-true (length net.pins) 0 none in absurd (omega (arith, e, pins, some))
      go (Gate kind) e = refl
      go Flop e = refl

  -- there are as many as the net reads
  pub count_read : (read : List Wave) → read ≡ read_by net (seen_pins net.wires received) → length read ≡ reads net
  count_read read is = ap length is ∙ go net.part
    where
      count : length (map as_known (seen_pins net.wires received)) ≡ length net.pins
      count =
          length-map (seen_pins net.wires received) as_known
          ∙ length-seen_pins net.wires received each_wire ∙ pins

      go : (part : Part) → length (read_by_part part net (seen_pins net.wires received)) ≡ reads_of_part part net
      go Input = refl
      go (Gate kind) = count
      go Flop = count

  module _ (wires : List ℕ) (same : wires ≡ net.wires) where
    pub one_read : (pin : Knowledge) → 1 ≤ length received → length received < 2 → pin ≡ get_or received 0 pin →
        (as_known (seen (get_or wires 0 0) pin) ∷ []) ≡ read_by net (seen_pins net.wires received)
    one_read pin some few is =
        ap (λ ws. as_known (seen (get_or ws 0 0) pin) ∷ []) same
        ∙ seen_one net.wires received pin each_wire some few is ∙ pins_read some

    pub two_read : (pin other : Knowledge) → 2 ≤ length received → length received < 3 → pin ≡ get_or received 0 pin → other ≡ get_or received 1 other →
        (as_known (seen (get_or wires 0 0) pin) ∷ as_known (seen (get_or wires 1 0) other) ∷ []) ≡ read_by net (seen_pins net.wires received)
    two_read pin other some few is other_is =
        ap (λ ws. as_known (seen (get_or ws 0 0) pin) ∷ as_known (seen (get_or ws 1 0) other) ∷ []) same
        ∙ seen_two net.wires received pin other each_wire some few is other_is ∙ pins_read (omega (arith, some))

    pub three_read : (pin other last : Knowledge) → 3 ≤ length received → length received < 4 → pin ≡ get_or received 0 pin →
        other ≡ get_or received 1 other → last ≡ get_or received 2 last →
        (as_known (seen (get_or wires 0 0) pin) ∷ as_known (seen (get_or wires 1 0) other) ∷ as_known (seen (get_or wires 2 0) last) ∷ [])
        ≡ read_by net (seen_pins net.wires received)
    three_read pin other last some few is other_is last_is =
        ap (λ ws. as_known (seen (get_or ws 0 0) pin) ∷ as_known (seen (get_or ws 1 0) other) ∷ as_known (seen (get_or ws 2 0) last) ∷ []) same
        ∙ seen_three net.wires received pin other last each_wire some few is other_is last_is ∙ pins_read (omega (arith, some))

    pub all_read : 0 < length received → map as_known (seen_pins wires received) ≡ read_by net (seen_pins net.wires received)
    all_read some = ap (λ ws. map as_known (seen_pins ws received)) same ∙ pins_read some

-- ---- what a net shows that is no input

shows_read : (part : Part) (net : Net) (seen : List (ℕ → Value)) (tick at : ℕ) → part ≢ Input → read_tick part net.timing tick ≡ Some at →
    made_of part (values_at at seen) ≡ equation_of_part part net seen tick
shows_read Input net seen tick at other is = absurd (other refl)
shows_read (Gate kind) net seen tick at other is =
    sym (ap (λ asked. option_map_or (λ t. value_of_gate kind (values_at t seen)) asked Unknown) is)
shows_read Flop net seen tick at other is =
    sym (ap (λ asked. option_map_or (λ t. only_pin (values_at t seen)) asked net.timing.initial) is)

shows_unread : (part : Part) (net : Net) (seen : List (ℕ → Value)) (tick : ℕ) → HasClock part net.timing → part ≢ Input →
    read_tick part net.timing tick ≡ None → net.timing.initial ≡ equation_of_part part net seen tick
shows_unread Input net seen tick clock other is = absurd (other refl)
shows_unread (Gate kind) net seen tick clock other is =
    sym (unread-initial (Gate kind) net.timing clock)
    ∙ sym (ap (λ asked. option_map_or (λ t. value_of_gate kind (values_at t seen)) asked Unknown) is)
shows_unread Flop net seen tick clock other is =
    sym (ap (λ asked. option_map_or (λ t. only_pin (values_at t seen)) asked net.timing.initial) is)

reads_pins : (part : Part) (net : Net) → part ≢ Input → length net.pins ≡ reads_of_part part net
reads_pins Input net other = absurd (other refl)
reads_pins (Gate kind) net other = refl
reads_pins Flop net other = refl

module _ (net : Net) (received : List Knowledge) (ok : IsNet net) (pins : length received ≡ length net.pins) (other : net.part ≢ Input) where
  pub shows_there : (tick at : ℕ) (value : Value) → read_tick net.part net.timing tick ≡ Some at →
      ((values : List Value) → summary_of (values_at at (signals_of (seen_pins net.wires received))) ≡ summary_of values →
      length values ≡ reads net → value ≡ made_of net.part values) →
      value ≡ equation net (signals_of (seen_pins net.wires received)) tick
  shows_there tick at value is made =
      made (values_at at (signals_of (seen_pins net.wires received))) refl
      (length-map (signals_of (seen_pins net.wires received)) (λ (signal : ℕ → Value). signal at)
      ∙ length-map (seen_pins net.wires received) (λ (known : Knowledge). value_at (as_known known))
      ∙ length-seen_pins net.wires received (ok.timed.wires.each ∙ sym pins) ∙ pins ∙ reads_pins net.part net other)
      ∙ shows_read net.part net (signals_of (seen_pins net.wires received)) tick at other is

  pub shows_nowhere : (tick : ℕ) → read_tick net.part net.timing tick ≡ None →
      net.timing.initial ≡ equation net (signals_of (seen_pins net.wires received)) tick
  shows_nowhere tick is =
      shows_unread net.part net (signals_of (seen_pins net.wires received)) tick ok.timed.timing.clock other is

-- ---- over these it shows what its equation gives

module _ (net : Net) (received : List Knowledge) (read : List Wave) (is : read ≡ read_by net received) where
  shown_is : shown net read ≡ equation net (signals_of received)
  shown_is = ap (shown net) is ∙ (λ i tick. shown_by net received tick i)

  module _ {E : Type 0} (result : Result ℕ E) (from : ℕ) where
    pub goes_to : (start ticks : ℕ) → IfOk result (λ to. to ≡ first_unknown (shown net read) start ticks) →
        IfOk result (λ to. to ≡ first_unknown (equation net (signals_of received)) start ticks)
    goes_to start ticks ok =
        IfOk-weaker result _ _ (λ to walked. walked ∙ ap (λ signal. first_unknown signal start ticks) shown_is) ok

    pub news_tell_of_it : (wave : Wave) (told : List Message) →
        IfOk result (λ to. told ≡ cond (to == from) [] (news_of (changes_between (continued wave from (shown net read)) from to) to)) →
        IfOk result (λ to. told ≡ cond (to == from) [] (news_of (changes_between (continued wave from (equation net (signals_of received))) from to) to))
    news_tell_of_it wave told ok =
        IfOk-weaker result _ _ (λ to walked.
        walked ∙ ap (λ signal. cond (to == from) [] (news_of (changes_between (continued wave from signal) from to) to)) shown_is) ok
