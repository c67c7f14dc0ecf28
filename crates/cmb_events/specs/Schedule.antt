-- The events of a circuit, those that a schedule text gives, and those that a seed picks.
use Rattle.std.specs.Prelude.{ℕ, ◌+◌, ◌-◌, ◌%◌, ◌<◌, nat_lt, if◌then◌else◌, List, [], ◌∷◌, length, map, position, Result, Ok, Err, codes, bytes_eq, slice_get}
use Rattle.std.specs.Option.{option_map_or, ok_or}
use Rattle.rand_core.specs.Steps.{first_words}
use Rattle.rand_core.specs.Pcg32Seed.{pcg32_seed}
use Rattle.rand_pcg.specs.Pcg.{pcg32, pcg32_of_seed}
use Rattle.texts.specs.Text.{◌>>=◌, words_of, number_of, is_plain, unless_too_long}
use Rattle.texts.specs.Fold.{fold_text, one_a_line}
use Rattle.design.specs.Circuit.{Net, Circuit, pin_count}
use Rattle.design.specs.Pins.{first_pin}
use Rattle.cmb_events.specs.declared.event.Event.{Event}
use Rattle.cmb_events.specs.declared.event.Event.TheVariants.{Deliver, Advance}
use Rattle.cmb_events.specs.declared.schedule_fault.ScheduleFault.{ScheduleFault}
use Rattle.cmb_events.specs.declared.schedule_fault.ScheduleFault.TheVariants.{TooLong, BadLine, UnknownNet, BadPin, TooManyEvents}

-- the event names a pin or a net of the circuit
abbrev pub Exists : Circuit → Event → Type 0
Exists circuit (Deliver pin) = pin < pin_count circuit
Exists circuit (Advance net) = net < length circuit

-- the largest number of events in a list
abbrev pub most_events : ℕ
most_events = 10_000_000

-- ---- from a text

-- the number of the net with this name, for the line with this number
abbrev pub net_in : Circuit → ℕ → List ℕ → Result ℕ ScheduleFault
net_in circuit line name = ok_or (position (λ (net : Net). bytes_eq net.name name) circuit) (UnknownNet line)

-- the number of pins of the net with a number
abbrev pub pin_count_at : Circuit → ℕ → ℕ
pin_count_at circuit net = option_map_or (λ (n : Net). length n.pins) (slice_get circuit net) 0

-- the delivery to the pin of a net at a place, counted from 0
abbrev pub delivery_at : Circuit → ℕ → ℕ → ℕ → Result Event ScheduleFault
delivery_at circuit line net place =
    if nat_lt place (pin_count_at circuit net) then Ok (Deliver (first_pin circuit net + place)) else Err (BadPin line)

-- the event of a line `advance NAME`
abbrev pub advance_in : Circuit → ℕ → List ℕ → Result Event ScheduleFault
advance_in circuit line name = net_in circuit line name >>= λ net. Ok (Advance net)

-- the event of a line `deliver NAME PLACE`
abbrev pub deliver_in : Circuit → ℕ → List ℕ → List ℕ → Result Event ScheduleFault
deliver_in circuit line name word = do
  place ← ok_or (number_of word) (BadLine line)
  net ← net_in circuit line name
  delivery_at circuit line net place

-- the event that the words of a line give
abbrev pub event_of_words : Circuit → ℕ → List (List ℕ) → Result Event ScheduleFault
event_of_words circuit line (verb ∷ name ∷ []) =
    if bytes_eq verb (codes "advance") then advance_in circuit line name else Err (BadLine line)
event_of_words circuit line (verb ∷ name ∷ place ∷ []) =
    if bytes_eq verb (codes "deliver") then deliver_in circuit line name place else Err (BadLine line)
event_of_words circuit line _ = Err (BadLine line)

-- what a line gives, or its first fault
abbrev pub event_or_fault : Circuit → ℕ × List ℕ → Result Event ScheduleFault
event_or_fault circuit (line, code) =
    if is_plain code then event_of_words circuit line (words_of code) else Err (BadLine line)

-- the events of earlier lines and then that of this line, or its first fault
abbrev pub events_after : Circuit → List Event → ℕ × List ℕ → Result (List Event) ScheduleFault
events_after circuit = one_a_line (event_or_fault circuit)

-- the events that a text gives, line after line, or its first fault
abbrev pub events_of : Circuit → List ℕ → Result (List Event) ScheduleFault
events_of circuit text = unless_too_long TooLong (fold_text (events_after circuit) []) text

-- ---- from a seed

-- the event that a word picks: the deliveries to all pins come first, and then the advances of all nets
abbrev pub pick_of : Circuit → ℕ → Event
pick_of circuit word =
    let place = word % (length circuit + pin_count circuit) in
    if nat_lt place (pin_count circuit) then Deliver place else Advance (place - pin_count circuit)

-- the words of the generator of this seed
abbrev pub words_from : ℕ → ℕ → List ℕ
words_from seed count = first_words pcg32 count (pcg32_of_seed (pcg32_seed 16 seed))

-- the events that a seed picks
abbrev pub picks_of : Circuit → ℕ → ℕ → Result (List Event) ScheduleFault
picks_of circuit seed picks =
    if nat_lt most_events picks then Err TooManyEvents else Ok (map (pick_of circuit) (words_from seed picks))
