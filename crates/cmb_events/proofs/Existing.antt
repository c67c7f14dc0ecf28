-- Accepted events name pins and nets that the circuit has.
use Rattle.std.proofs.Common.{◌≡◌, ℕ, ◌+◌, ◌-◌, ◌%◌, ◌<◌, nat_lt, ltb, Bool, true, false, cond, List, [], ◌∷◌, length, map, get_or, position, Option, None, Some, Result, Ok, Err, codes, bytes_eq, slice_get, All, refl, subst, arith}
use Rattle.std.specs.List.{position_or_len}
use Rattle.std.specs.Option.{ok_or, option_map_or}
use Rattle.std.proofs.lemmas.Bool.Decides.{nat_tests}
use Rattle.std.proofs.lemmas.List.Elements.{All-map}
use Rattle.std.proofs.lemmas.Option.{slice_get-get_or}
use Rattle.texts.specs.Text.{◌>>=◌, code_lines, is_plain, number_of, words_of}
use Rattle.texts.specs.Fold.{fold_text}
use Rattle.texts.proofs.CallerLemmas.{All-one_a_line, bind-Ok, unless_too_long-Ok}
use Rattle.design.specs.Circuit.{Net, Circuit, pin_count}
use Rattle.design.specs.Pins.{first_pin}
use Rattle.design.proofs.CallerLemmas.{pin_below}
use Rattle.cmb_events.specs.declared.event.Event.{Event}
use Rattle.cmb_events.specs.declared.event.Event.TheVariants.{Deliver, Advance}
use Rattle.cmb_events.specs.declared.schedule_fault.ScheduleFault.{ScheduleFault}
use Rattle.cmb_events.specs.declared.schedule_fault.ScheduleFault.TheVariants.{TooLong, BadLine, UnknownNet, BadPin, TooManyEvents}
use Rattle.cmb_events.specs.Schedule.{advance_in, deliver_in, delivery_at, event_of_words, event_or_fault, events_after, events_of, most_events, net_in, pick_of, picks_of, pin_count_at, words_from, Exists}

-- a place that was found is one of the list
position_below : {A : Type 0} (p : A → Bool) (xs : List A) (place : ℕ) → position p xs ≡ Some place → place < length xs
position_below p xs place = go (ltb (position_or_len p xs) (length xs)) refl
  where
    go : (within : Bool) → ltb (position_or_len p xs) (length xs) ≡ within → cond within (Some (position_or_len p xs)) None ≡ Some place →
        place < length xs
    go true within is =
        let same : position_or_len p xs ≡ place = cc in
        let below : position_or_len p xs < length xs = grind (arith, nat_tests) in
        subst (λ n. n < length xs) same below
    go false within is = absurd (cc)

module _ (circuit : Circuit) where
  net_exists : (line : ℕ) (name : List ℕ) (net : ℕ) → net_in circuit line name ≡ Ok net → net < length circuit
  net_exists line name net = go (position (λ (n : Net). bytes_eq n.name name) circuit) refl
    where
      go : (found : Option ℕ) → position (λ (n : Net). bytes_eq n.name name) circuit ≡ found → ok_or found (UnknownNet line) ≡ Ok net →
          net < length circuit
      go (Some at) is same =
          let here : at ≡ net = cc in
          subst (λ n. n < length circuit) here (position_below (λ (n : Net). bytes_eq n.name name) circuit at is)
      go None is same = absurd (cc)

  pin_exists : (net place : ℕ) → place < pin_count_at circuit net → first_pin circuit net + place < pin_count circuit
  pin_exists net place = go (slice_get circuit net) refl
    where
      go : (found : Option Net) → slice_get circuit net ≡ found → place < option_map_or (λ (n : Net). length n.pins) found 0 →
          first_pin circuit net + place < pin_count circuit
      go (Some n) is within = pin_below circuit net place (get_or n.pins place 0) n is (slice_get-get_or n.pins place 0 within)
      go None is within = absurd (omega arith)

  delivery_exists : (line net place : ℕ) (event : Event) → delivery_at circuit line net place ≡ Ok event → Exists circuit event
  delivery_exists line net place event = go (nat_lt place (pin_count_at circuit net)) refl
    where
      go : (within : Bool) → nat_lt place (pin_count_at circuit net) ≡ within →
          cond within (Ok (Deliver (first_pin circuit net + place))) (Err (BadPin line)) ≡ Ok event → Exists circuit event
      go true within is =
          let same : Deliver (first_pin circuit net + place) ≡ event = cc in
          let below : place < pin_count_at circuit net = grind (arith, nat_tests) in
          subst (Exists circuit) same (pin_exists net place below)
      go false within is = absurd (cc)

  advance_exists : (line : ℕ) (name : List ℕ) (event : Event) → advance_in circuit line name ≡ Ok event → Exists circuit event
  advance_exists line name event is =
      let found = bind-Ok (net_in circuit line name) (λ net. Ok (Advance net)) event is in
      let same : Advance found.0 ≡ event = let here = found.2 in (cc) in
      subst (Exists circuit) same (net_exists line name found.0 found.1)

  deliver_exists : (line : ℕ) (name word : List ℕ) (event : Event) → deliver_in circuit line name word ≡ Ok event → Exists circuit event
  deliver_exists line name word event is =
      let placed = bind-Ok (ok_or (number_of word) (BadLine line)) (λ place. bind_net place) event is in
      let found = bind-Ok (net_in circuit line name) (λ net. delivery_at circuit line net placed.0) event placed.2 in
      delivery_exists line found.0 placed.0 event found.2
    where
      bind_net : ℕ → Result Event ScheduleFault
      bind_net place = net_in circuit line name >>= λ net. delivery_at circuit line net place

  -- so the event of a line does
  words_exist : (line : ℕ) (words : List (List ℕ)) (event : Event) → event_of_words circuit line words ≡ Ok event → Exists circuit event
  words_exist line [] event is = absurd (cc)
  words_exist line (verb ∷ []) event is = absurd (cc)
  words_exist line (verb ∷ name ∷ []) event is = go (bytes_eq verb (codes "advance")) is
    where
      go : (asks : Bool) → cond asks (advance_in circuit line name) (Err (BadLine line)) ≡ Ok event → Exists circuit event
      go true is = advance_exists line name event is
      go false is = absurd (cc)
  words_exist line (verb ∷ name ∷ place ∷ []) event is = go (bytes_eq verb (codes "deliver")) is
    where
      go : (asks : Bool) → cond asks (deliver_in circuit line name place) (Err (BadLine line)) ≡ Ok event → Exists circuit event
      go true is = deliver_exists line name place event is
      go false is = absurd (cc)
  words_exist line (verb ∷ name ∷ place ∷ more ∷ words) event is = absurd (cc)

  line_exists : (line : ℕ × List ℕ) (event : Event) → event_or_fault circuit line ≡ Ok event → Exists circuit event
  line_exists (line, code) event = go (is_plain code)
    where
      go : (plain : Bool) → cond plain (event_of_words circuit line (words_of code)) (Err (BadLine line)) ≡ Ok event → Exists circuit event
      go true is = words_exist line (words_of code) event is
      go false is = absurd (cc)

  -- each event that a text gives
  pub events_of-exist : (bytes : List ℕ) (events : List Event) → events_of circuit bytes ≡ Ok events → All (Exists circuit) events
  events_of-exist bytes events is =
      All-one_a_line (event_or_fault circuit) (λ line. Unit {0}) (Exists circuit) (λ line event any is. line_exists line event is)
      (code_lines bytes) events (λ place default within. tt)
      (unless_too_long-Ok TooLong (fold_text (events_after circuit) []) bytes events is)

  -- the event that a word picks
  pick_exists : 0 < length circuit → (word : ℕ) → Exists circuit (pick_of circuit word)
  pick_exists some word = go (nat_lt (word % (length circuit + pin_count circuit)) (pin_count circuit)) refl
    where
      go : (delivers : Bool) → nat_lt (word % (length circuit + pin_count circuit)) (pin_count circuit) ≡ delivers →
          Exists circuit (cond delivers (Deliver (word % (length circuit + pin_count circuit)))
          (Advance (word % (length circuit + pin_count circuit) - pin_count circuit)))
      go true is = let below : word % (length circuit + pin_count circuit) < pin_count circuit = grind (arith, nat_tests) in below
      go false is =
          let below : word % (length circuit + pin_count circuit) < length circuit + pin_count circuit = omega arith in
          omega arith

  -- each event that a seed picks, where there is a net
  pub picks_of-exist : (seed picks : ℕ) (events : List Event) → 0 < length circuit → picks_of circuit seed picks ≡ Ok events →
      All (Exists circuit) events
  picks_of-exist seed picks events some = go (nat_lt most_events picks)
    where
      go : (many : Bool) → cond many (Err TooManyEvents) (Ok (map (pick_of circuit) (words_from seed picks))) ≡ Ok events → All (Exists circuit) events
      go true is = absurd (cc)
      go false is =
          let same : map (pick_of circuit) (words_from seed picks) ≡ events = cc in
          let words = words_from seed picks in
          subst (All (Exists circuit)) same
          (All-map (Exists circuit) (pick_of circuit) words (λ place default within. pick_exists some (get_or words place default)))
