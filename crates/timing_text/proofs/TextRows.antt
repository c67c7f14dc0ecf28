-- Small delay and stimulus texts, by computation.
use Rattle.std.proofs.Common.{◌≡◌, ℕ, List, [], ◌∷◌, ◌++◌, Result, Ok, Err, refl, codes, replicate}
use Rattle.std.specs.Result.{result_map_both}
use Rattle.logic3.specs.declared.value.Value.{Value}
use Rattle.logic3.specs.declared.value.Value.TheVariants.{Zero, One, Unknown}
use Rattle.logic3.specs.declared.gates.GateKind.TheVariants.{Not}
use Rattle.logic3.specs.declared.change.Change.{Change}
use Rattle.netlist.specs.declared.part.Part.TheVariants.{Input, Gate, Flop}
use Rattle.netlist.specs.Netlist.{NetlistView}
use Rattle.timing_text.specs.declared.fault.DelayFault.{DelayFault}
use Rattle.timing_text.specs.declared.fault.DelayFault.TheVariants as delay
use Rattle.timing_text.specs.declared.fault.StimulusFault.{StimulusFault}
use Rattle.timing_text.specs.declared.fault.StimulusFault.TheVariants as stimulus
use Rattle.timing_text.specs.declared.timing.Timing.{Timing}
use Rattle.timing_text.specs.Timings.{net_timings, properties_of}
use Rattle.timing_text.specs.Stimuli.{stimuli_of, net_stimuli}

-- an input `a` and a gate `y` that inverts it
not_gate : NetlistView
not_gate = record {
  nets = record { name = codes "a"; part = Input; pins = [] } ∷ record { name = codes "y"; part = Gate Not; pins = 0 ∷ [] } ∷ [];
  outputs = 1 ∷ [];
}

-- and a flip-flop `q` behind it
flop_behind : NetlistView
flop_behind = record {
  nets = record { name = codes "a"; part = Input; pins = [] } ∷ record { name = codes "y"; part = Gate Not; pins = 0 ∷ [] }
      ∷ record { name = codes "q"; part = Flop; pins = 1 ∷ [] } ∷ [];
  outputs = 2 ∷ [];
}

-- the timings of an input, a gate and a flip-flop, whose pins have these wire delays
wired_timings : ℕ → ℕ → ℕ → ℕ → Value → ℕ → ℕ → List (Timing × List ℕ)
wired_timings gate flop period phase initial gate_wire flop_wire =
    (record { delay = 0; period = 0; phase = 0; initial = Unknown }, [])
    ∷ (record { delay = gate; period = 0; phase = 0; initial = Unknown }, gate_wire ∷ [])
    ∷ (record { delay = flop; period = period; phase = phase; initial = initial }, flop_wire ∷ []) ∷ []

-- and where no wire takes a tick
timings : ℕ → ℕ → ℕ → ℕ → Value → List (Timing × List ℕ)
unfolding wired_timings
timings gate flop period phase initial = wired_timings gate flop period phase initial 0 0

-- what a delay text gives the three nets, where the default is 7 ticks and the period 20
timings_from : List ℕ → Result (List (Timing × List ℕ)) DelayFault
unfolding flop_behind
timings_from text = result_map_both (net_timings flop_behind 7 20) (λ fault. fault) (properties_of flop_behind text)

-- what a stimulus text gives the two nets
stimuli_from : List ℕ → Result (List (List Change)) StimulusFault
unfolding not_gate
stimuli_from text = result_map_both (net_stimuli not_gate) (λ fault. fault) (stimuli_of not_gate text)

-- ---- delays

default_delay : timings_from [] ≡ Ok (timings 7 7 20 0 Unknown)
unfolding timings_from timings wired_timings
default_delay = refl

longest_delay : timings_from (codes "y 1000000") ≡ Ok (timings 1_000_000 7 20 0 Unknown)
unfolding timings_from timings wired_timings
longest_delay = refl

delay_too_long : timings_from (codes "y 1000001") ≡ Err (delay.BadTicks 1)
unfolding timings_from timings wired_timings
delay_too_long = refl

delay_of_no_ticks : timings_from (codes "y 0") ≡ Err (delay.BadTicks 1)
unfolding timings_from timings wired_timings
delay_of_no_ticks = refl

delay_given_twice : timings_from (codes "y 2\ny 2") ≡ Err (delay.Twice 2)
unfolding timings_from timings wired_timings
delay_given_twice = refl

delay_of_an_input : timings_from (codes "a 2") ≡ Err (delay.IsInput 1)
unfolding timings_from timings wired_timings
delay_of_an_input = refl

first_faulty_line : timings_from (codes "zz 2\ny") ≡ Err (delay.UnknownNet 1)
unfolding timings_from timings wired_timings
first_faulty_line = refl

leading_zeros : timings_from (codes "y 0000000000000000000000000000000002") ≡ Ok (timings 2 7 20 0 Unknown)
unfolding timings_from timings wired_timings
leading_zeros = refl

hundred_nines : timings_from (codes "y " ++ replicate 100 57) ≡ Err (delay.BadTicks 1)
unfolding timings_from timings wired_timings
hundred_nines = refl

name_alone : timings_from (codes "y 2\nq") ≡ Err (delay.BadLine 2)
unfolding timings_from timings wired_timings
name_alone = refl

-- ---- the second version

header_alone : timings_from (codes "timing version 2") ≡ Ok (timings 7 7 20 0 Unknown)
unfolding timings_from timings wired_timings
header_alone = refl

header_behind_a_comment : timings_from (codes "# later\n\ttiming  version 2 # so\ny 2") ≡ Err (delay.BadLine 3)
unfolding timings_from timings wired_timings
header_behind_a_comment = refl

one_line_of_each_kind : timings_from (codes "timing version 2\ndelay q 3\nclock q 10 9\ninit q 1\ndelay y 2") ≡ Ok (timings 2 3 10 9 One)
unfolding timings_from timings wired_timings
one_line_of_each_kind = refl

second_header : timings_from (codes "timing version 2\ntiming version 2") ≡ Err (delay.BadLine 2)
unfolding timings_from timings wired_timings
second_header = refl

header_of_four_words : timings_from (codes "timing version 2 2") ≡ Err (delay.BadLine 1)
unfolding timings_from timings wired_timings
header_of_four_words = refl

header_of_another_version : timings_from (codes "timing version 3") ≡ Err (delay.BadLine 1)
unfolding timings_from timings wired_timings
header_of_another_version = refl

header_behind_a_line : timings_from (codes "y 2\ntiming version 2") ≡ Err (delay.BadLine 2)
unfolding timings_from timings wired_timings
header_behind_a_line = refl

header_in_capitals : timings_from (codes "TIMING VERSION 2") ≡ Err (delay.BadLine 1)
unfolding timings_from timings wired_timings
header_in_capitals = refl

clock_in_the_first_version : timings_from (codes "clock q 10 9") ≡ Err (delay.BadLine 1)
unfolding timings_from timings wired_timings
clock_in_the_first_version = refl

phase_left_out : timings_from (codes "timing version 2\nclock q 10") ≡ Err (delay.BadLine 2)
unfolding timings_from timings wired_timings
phase_left_out = refl

phase_of_no_digits : timings_from (codes "timing version 2\nclock zz 10 x") ≡ Err (delay.BadLine 2)
unfolding timings_from timings wired_timings
phase_of_no_digits = refl

clock_of_no_net : timings_from (codes "timing version 2\nclock zz 0 9") ≡ Err (delay.UnknownNet 2)
unfolding timings_from timings wired_timings
clock_of_no_net = refl

clock_of_a_gate : timings_from (codes "timing version 2\nclock y 0 9") ≡ Err (delay.NotAFlop 2)
unfolding timings_from timings wired_timings
clock_of_a_gate = refl

period_of_no_ticks : timings_from (codes "timing version 2\nclock q 0 9") ≡ Err (delay.BadPeriod 2)
unfolding timings_from timings wired_timings
period_of_no_ticks = refl

longest_period : timings_from (codes "timing version 2\nclock q 10000000 9999999") ≡ Ok (timings 7 7 10_000_000 9_999_999 Unknown)
unfolding timings_from timings wired_timings
longest_period = refl

period_too_long : timings_from (codes "timing version 2\nclock q 10000001 0") ≡ Err (delay.BadPeriod 2)
unfolding timings_from timings wired_timings
period_too_long = refl

phase_of_a_whole_period : timings_from (codes "timing version 2\nclock q 10 10") ≡ Err (delay.BadPhase 2)
unfolding timings_from timings wired_timings
phase_of_a_whole_period = refl

clock_given_twice : timings_from (codes "timing version 2\nclock q 10 9\nclock q 10 9") ≡ Err (delay.Twice 3)
unfolding timings_from timings wired_timings
clock_given_twice = refl

initial_value_of_a_gate : timings_from (codes "timing version 2\ninit y z") ≡ Err (delay.NotAFlop 2)
unfolding timings_from timings wired_timings
initial_value_of_a_gate = refl

initial_value_of_an_input : timings_from (codes "timing version 2\ninit a 0") ≡ Err (delay.NotAFlop 2)
unfolding timings_from timings wired_timings
initial_value_of_an_input = refl

no_initial_value : timings_from (codes "timing version 2\ninit q z") ≡ Err (delay.BadValue 2)
unfolding timings_from timings wired_timings
no_initial_value = refl

initial_value_given_twice : timings_from (codes "timing version 2\ninit q X\ninit q 0") ≡ Err (delay.Twice 3)
unfolding timings_from timings wired_timings
initial_value_given_twice = refl

-- ---- wires

wires_of_two_nets : timings_from (codes "timing version 2\nwire q 0 1000000\nwire y 00 3\ndelay y 2") ≡ Ok (wired_timings 2 7 20 0 Unknown 3 1_000_000)
unfolding timings_from wired_timings
wires_of_two_nets = refl

wire_of_no_ticks : timings_from (codes "timing version 2\nwire q 0 0") ≡ Ok (timings 7 7 20 0 Unknown)
unfolding timings_from timings wired_timings
wire_of_no_ticks = refl

wire_too_long : timings_from (codes "timing version 2\nwire q 0 1000001") ≡ Err (delay.BadTicks 2)
unfolding timings_from timings wired_timings
wire_too_long = refl

wire_past_the_last_pin : timings_from (codes "timing version 2\nwire q 1 1000001") ≡ Err (delay.BadPin 2)
unfolding timings_from timings wired_timings
wire_past_the_last_pin = refl

wire_of_an_input : timings_from (codes "timing version 2\nwire a 0 1") ≡ Err (delay.BadPin 2)
unfolding timings_from timings wired_timings
wire_of_an_input = refl

wire_of_no_net : timings_from (codes "timing version 2\nwire zz 9 1000001") ≡ Err (delay.UnknownNet 2)
unfolding timings_from timings wired_timings
wire_of_no_net = refl

wire_given_twice : timings_from (codes "timing version 2\nwire q 0 1\nwire q 00 1") ≡ Err (delay.Twice 3)
unfolding timings_from timings wired_timings
wire_given_twice = refl

wire_without_ticks : timings_from (codes "timing version 2\nwire q 0") ≡ Err (delay.BadLine 2)
unfolding timings_from timings wired_timings
wire_without_ticks = refl

wire_of_no_place : timings_from (codes "timing version 2\nwire q x 1") ≡ Err (delay.BadLine 2)
unfolding timings_from timings wired_timings
wire_of_no_place = refl

wire_in_the_first_version : timings_from (codes "wire q 0 1") ≡ Err (delay.BadLine 1)
unfolding timings_from timings wired_timings
wire_in_the_first_version = refl

-- ---- stimuli

two_changes : stimuli_from (codes "0 a 0\n3 a X # later") ≡ Ok ((record { tick = 0; value = Zero } ∷ record { tick = 3; value = Unknown } ∷ []) ∷ [] ∷ [])
unfolding stimuli_from
two_changes = refl

stimulus_at_a_gate : stimuli_from (codes "3 y 1") ≡ Err (stimulus.NotAnInput 1)
unfolding stimuli_from
stimulus_at_a_gate = refl

equal_ticks : stimuli_from (codes "3 a 1\n3 a 1") ≡ Err (stimulus.NotRising 2)
unfolding stimuli_from
equal_ticks = refl

last_tick : stimuli_from (codes "10000000 a 1") ≡ Ok ((record { tick = 10_000_000; value = One } ∷ []) ∷ [] ∷ [])
unfolding stimuli_from
last_tick = refl

stimulus_past_the_last_tick : stimuli_from (codes "10000001 a 1") ≡ Err (stimulus.TickTooLarge 1)
unfolding stimuli_from
stimulus_past_the_last_tick = refl

no_value : stimuli_from (codes "0 a z") ≡ Err (stimulus.BadValue 1)
unfolding stimuli_from
no_value = refl
