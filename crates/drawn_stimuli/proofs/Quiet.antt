-- Where nothing changes there are no lines.
use Rattle.std.proofs.Common.{◌≡◌, ◌≢◌, ℕ, zero, suc, ◌+◌, ◌-◌, ◌*◌, ◌/◌, ◌%◌, ◌<◌, ◌≤◌, ◌&&◌, ◌==◌, min, not, nat_lt, nat_le, ◌||◌, Bool, true, false, cond, List, [], ◌∷◌, ◌++◌, map, flat_map, filter, All, length, Ok, Err, ◌⊎◌, inl, inr, add-zero, append-nil, append_assoc, refl, sym, ap, ◌∙◌, subst, arith}
use Rattle.std.specs.List.{fold, list_any, range_with_len}
use Rattle.std.proofs.Math.Nat.{div-lt_iff_lt-mul, div-mul-le_self, mod-eq-sub-div-mul, mod-lt, mod_self, suc-mod, zero-mod}
use Rattle.std.proofs.lemmas.Bool.{cases_lt, le-leb, le-ltb, lt-leb, lt-ltb}
use Rattle.std.proofs.lemmas.Bool.Decides.{nat_tests}
use Rattle.std.proofs.lemmas.List.{length-append}
use Rattle.std.proofs.lemmas.List.Elements.{All-cons, All-filter, All-head, All-nil, All-tail, All-weaker}
use Rattle.logic3.specs.declared.value.Value.{Value}
use Rattle.logic3.specs.declared.value.Value.TheVariants.{One, Unknown}
use Rattle.logic3.specs.declared.change.Change.{Change}
use Rattle.logic3.specs.Value.{is_same, is_same_equiv}
use Rattle.logic3.specs.Wave.{change_at, value_before}
use Rattle.texts.specs.Text.{longest_text, unless_too_long}
use Rattle.texts.proofs.CallerLemmas.{unless_too_long-short}
use Rattle.netlist.specs.Netlist.{NetlistView}
use Rattle.drawn_stimuli.specs.declared.drive.Drive.{Drive}
use Rattle.drawn_stimuli.specs.declared.drive.Drive.TheVariants.{Clock, ClockFrom, Hold, HoldBits, Pulse}
use Rattle.drawn_stimuli.specs.declared.drive.Rounds.{Rounds}
use Rattle.drawn_stimuli.specs.declared.fault.DriveFault.TheVariants.{TooLong}
use Rattle.drawn_stimuli.specs.declared.input.InputNet.{InputNet}
use Rattle.drawn_stimuli.specs.Signals.{AreRounds, IsDrive, bit, drive_value, in_pulse, is_turned, signal_of, word_after}
use Rattle.drawn_stimuli.specs.Inputs.{IsInputNet, seen_input}
use Rattle.drawn_stimuli.specs.Ticks.{is_moving, moves, never, next_change, next_multiple, next_of, next_tick}
use Rattle.drawn_stimuli.specs.StimulusText.{change_line, input_text, tick_text}

-- ---- one signal

-- a value that is the one before is no change
unchanged : (signal : ℕ → Value) (tick : ℕ) → signal tick ≡ value_before signal tick → change_at signal tick ≡ []
unchanged signal tick same =
    ap (λ b. cond b [] (record { tick = tick; value = signal tick } ∷ []))
    (ap (λ v. is_same v (value_before signal tick)) same ∙ is_same_equiv.refl (value_before signal tick))

-- numbers from one on and below the next multiple have its quotient
same_quotient : (step tick at : ℕ) → 0 < step → tick ≤ at → at < tick - tick % step + step → at / step ≡ tick / step
same_quotient step tick at some from below =
    let part = mod-eq-sub-div-mul tick step in
    let whole = div-mul-le_self tick step in
    let high : at < tick / step * step + step = omega (arith, part, whole) in
    let above : (tick / step + 1) * step ≡ tick / step * step + step = omega arith in
    let up : at / step < tick / step + 1 = (div-lt_iff_lt-mul some).1 (omega (arith, high, above)) in
    go up (cases_lt (at / step) (tick / step))
  where
    go : at / step < tick / step + 1 → (at / step < tick / step) ⊎ (tick / step ≤ at / step) → at / step ≡ tick / step
    go up (inl down) =
        let low : at < tick / step * step = (div-lt_iff_lt-mul some).0 down in
        absurd (omega (arith, low, div-mul-le_self tick step))
    go up (inr same) = omega arith

-- so does each after it before the next multiple, and the one before that
same_round : (step tick at : ℕ) → 0 < step → tick ≤ at → suc at < next_multiple step tick → suc at / step ≡ at / step
same_round step tick at some from below =
    same_quotient step tick (suc at) some (omega arith) (omega arith) ∙ sym (same_quotient step tick at some from (omega arith))

-- ---- several drives

-- what is below the least of all is below each
below_each : {X : Type 0} (next_of : X → ℕ) (inputs : List X) (next at : ℕ) →
    at < fold (λ (next : ℕ) (input : X). min next (next_of input)) next inputs →
    (at < next) × All (λ input. at < next_of input) inputs
below_each next_of [] next at below = (below, All-nil (λ input. at < next_of input))
below_each next_of (input ∷ inputs) next at below =
    let rest = below_each next_of inputs (min next (next_of input)) at below in
    let first = rest.0 in
    (omega arith, All-cons (λ input. at < next_of input) input inputs (omega arith) rest.1)

-- and what is below each is below the least
below_least : {X : Type 0} (next_of : X → ℕ) (inputs : List X) (next at : ℕ) → at < next → All (λ input. at < next_of input) inputs →
    at < fold (λ (next : ℕ) (input : X). min next (next_of input)) next inputs
below_least next_of [] next at first each = first
below_least next_of (input ∷ inputs) next at first each =
    let own = All-head (λ input. at < next_of input) input inputs each in
    below_least next_of inputs (min next (next_of input)) at (omega arith) (All-tail (λ input. at < next_of input) input inputs each)

-- a tick stays in a pulse, or out of it, until the pulse may change
pulse_stays : (drive : Drive) (tick at : ℕ) → tick ≤ at → suc at < next_change drive tick → in_pulse drive (suc at) ≡ in_pulse drive at
pulse_stays (Clock half) tick at from below = refl
pulse_stays (ClockFrom half start begins_high) tick at from below = refl
pulse_stays (Hold value) tick at from below = refl
pulse_stays (HoldBits ones unknown) tick at from below = refl
pulse_stays (Pulse first last) tick at from below = go (cases_lt tick first) (cases_lt tick last) below
  where
    go : (tick < first) ⊎ (first ≤ tick) → (tick < last) ⊎ (last ≤ tick) →
        suc at < cond (nat_lt tick first) first (cond (nat_lt tick last) last never) →
        (nat_le first (suc at) && nat_lt (suc at) last) ≡ (nat_le first at && nat_lt at last)
    go (inl before) later below = grind (arith, nat_tests)
    go (inr begun) (inl before) below = grind (arith, nat_tests)
    go (inr begun) (inr over) below = grind (arith, nat_tests)

pulses_stay : (drives : List Drive) (tick at : ℕ) → tick ≤ at → All (λ drive. suc at < next_change drive tick) drives →
    list_any (λ drive. in_pulse drive (suc at)) drives ≡ list_any (λ drive. in_pulse drive at) drives
pulses_stay [] tick at from each = refl
pulses_stay (drive ∷ drives) tick at from each =
    let own = pulse_stays drive tick at from (All-head (λ drive. suc at < next_change drive tick) drive drives each) in
    let rest = pulses_stay drives tick at from (All-tail (λ drive. suc at < next_change drive tick) drive drives each) in
    ap (λ b. b || list_any (λ drive. in_pulse drive (suc at)) drives) own ∙ ap (λ b. in_pulse drive at || b) rest

-- a clock with a first change stays before it, and then in each half period
clock_stays : (half start tick at : ℕ) → 0 < half → tick ≤ at → (tick < start) ⊎ (start ≤ tick) →
    suc at < cond (nat_lt tick start) start (min never (start + next_multiple half (tick - start))) →
    is_turned half start (suc at) ≡ is_turned half start at
clock_stays half start tick at some from (inl before) below =
    let early : suc at < start = subst (λ b. suc at < cond b start (min never (start + next_multiple half (tick - start)))) (lt-ltb tick start before) below in
    ap (λ b. b && (suc at - start) / half % 2 == 0) (lt-leb start (suc at) early)
    ∙ sym (ap (λ b. b && (at - start) / half % 2 == 0) (lt-leb start at (omega (arith, early))))
clock_stays half start tick at some from (inr begun) below =
    let late : suc at < min never (start + next_multiple half (tick - start)) =
    subst (λ b. suc at < cond b start (min never (start + next_multiple half (tick - start)))) (le-ltb tick start begun) below in
    let one : suc at - start ≡ suc (at - start) = omega (arith, begun, from) in
    ap (λ b. b && (suc at - start) / half % 2 == 0) (le-leb start (suc at) (omega (arith, begun, from)))
    ∙ ap (λ n. n / half % 2 == 0) one
    ∙ ap (λ q. q % 2 == 0) (same_round half (tick - start) (at - start) some (omega (arith, begun, from)) (omega (arith, begun, from, late)))
    ∙ sym (ap (λ b. b && (at - start) / half % 2 == 0) (le-leb start at (omega (arith, begun, from))))

-- a drive stays from a tick on until it may change
drive_stays : (drive : Drive) (tick at : ℕ) → IsDrive drive → tick ≤ at → suc at < next_change drive tick → drive_value drive (suc at) ≡ drive_value drive at
drive_stays (Clock half) tick at sound from below = ap (λ q. bit (q % 2 == 1)) (same_round half tick at sound from below)
drive_stays (ClockFrom half start begins_high) tick at sound from below =
    ap (λ turned. bit (cond begins_high (not turned) turned)) (clock_stays half start tick at sound from (cases_lt tick start) below)
drive_stays (Hold value) tick at sound from below = refl
drive_stays (HoldBits ones unknown) tick at sound from below = refl
drive_stays (Pulse first last) tick at sound from below = ap bit (pulse_stays (Pulse first last) tick at from below)

-- a drive that can't change has no next change
still : (drive : Drive) (tick at : ℕ) → at < never → moves drive ≡ false → at < next_change drive tick
still (Clock half) tick at early is = (cc)
still (ClockFrom half start begins_high) tick at early is = (cc)
still (Hold value) tick at early is = early
still (HoldBits ones unknown) tick at early is = early
still (Pulse first last) tick at early is = (cc)

all_still : (drives : List Drive) (tick at : ℕ) → at < never → is_moving drives ≡ false → All (λ drive. at < next_change drive tick) drives
all_still [] tick at early none = All-nil (λ drive. at < next_change drive tick)
all_still (drive ∷ drives) tick at early none = go (moves drive) refl none (all_still drives tick at early)
  where
    go : (b : Bool) → moves drive ≡ b → (b || is_moving drives) ≡ false →
        (is_moving drives ≡ false → All (λ drive. at < next_change drive tick) drives) → All (λ drive. at < next_change drive tick) (drive ∷ drives)
    go true is none rest = (cc)
    go false is none rest = All-cons (λ drive. at < next_change drive tick) drive drives (still drive tick at early is) (rest none)

each_later : (drives : List Drive) (tick at : ℕ) → at < never → (is_moving drives ≡ true → at < next_of drives tick) → All (λ drive. at < next_change drive tick) drives
each_later drives tick at early moved = go (is_moving drives) refl moved
  where
    go : (b : Bool) → is_moving drives ≡ b → (is_moving drives ≡ true → at < next_of drives tick) → All (λ drive. at < next_change drive tick) drives
    go true is moved = (below_each (λ (drive : Drive). next_change drive tick) drives never at (moved is)).1
    go false is moved = all_still drives tick at early is

-- an input stays from a tick on until it may change
stays : (rounds : Rounds) (drives : List Drive) (place tick at : ℕ) → AreRounds rounds → All IsDrive drives → tick ≤ at →
    suc at < next_multiple rounds.draws.every tick → (is_moving drives ≡ true → suc at < next_of drives tick) →
    signal_of rounds drives place (suc at) ≡ signal_of rounds drives place at
stays rounds [] place tick at fit sound from drawn moved =
    ap (λ q. cond rounds.draws.only Unknown (bit (word_after rounds.draws.seed (q * rounds.inputs + place) % 2 == 1))) (same_round rounds.draws.every tick at fit.apart from drawn)
stays rounds (first ∷ others) place tick at fit sound from drawn moved =
    let later = each_later (first ∷ others) tick (suc at) (omega arith) moved in
    let own = drive_stays first tick at (All-head IsDrive first others sound) from (All-head (λ drive. suc at < next_change drive tick) first others later) in
    let rest = pulses_stay others tick at from (All-tail (λ drive. suc at < next_change drive tick) first others later) in
    ap (λ b. cond b One (drive_value first (suc at))) rest ∙ ap (λ value. cond (list_any (λ drive. in_pulse drive at) others) One value) own

-- so it has no line there
quiet_input : (netlist : NetlistView) (rounds : Rounds) (input : InputNet) (tick at : ℕ) → AreRounds rounds → All IsDrive input.drives.now → tick ≤ at →
    suc at < next_multiple rounds.draws.every tick → (is_moving input.drives.now ≡ true → suc at < next_of input.drives.now tick) →
    input_text rounds (suc at) (seen_input netlist input) ≡ []
quiet_input netlist rounds input tick at fit sound from drawn moved =
    ap (λ (changes : List Change). flat_map change_line (map (λ change. record { name = (seen_input netlist input).name; change = change }) changes))
    (unchanged (signal_of rounds input.drives.now input.place) (suc at) (stays rounds input.drives.now input.place tick at fit sound from drawn moved))

-- ---- several inputs

abbrev pub input_moves : InputNet → Bool
input_moves input = is_moving input.drives.now

-- no input of these has a line where those that move don't change, before the next round
quiet_tick : (netlist : NetlistView) (rounds : Rounds) (inputs : List InputNet) (tick at : ℕ) → AreRounds rounds → All (IsInputNet netlist) inputs → tick ≤ at →
    suc at < next_multiple rounds.draws.every tick → All (λ (input : InputNet). suc at < next_of input.drives.now tick) (filter input_moves inputs) →
    tick_text rounds (map (seen_input netlist) inputs) (suc at) ≡ []
quiet_tick netlist rounds [] tick at fit sound from drawn moved = refl
quiet_tick netlist rounds (input ∷ inputs) tick at fit sound from drawn moved =
    go (input_moves input) refl moved (λ moved. quiet_tick netlist rounds inputs tick at fit (All-tail (IsInputNet netlist) input inputs sound) from drawn moved)
  where
    later : List InputNet → Type 0
    later inputs = All (λ (input : InputNet). suc at < next_of input.drives.now tick) inputs

    here : (input_moves input ≡ true → suc at < next_of input.drives.now tick) → input_text rounds (suc at) (seen_input netlist input) ≡ []
    here moved = quiet_input netlist rounds input tick at fit (All-head (IsInputNet netlist) input inputs sound).drives from drawn moved

    go : (b : Bool) → input_moves input ≡ b → later (cond b (input ∷ filter input_moves inputs) (filter input_moves inputs)) →
        (later (filter input_moves inputs) → tick_text rounds (map (seen_input netlist) inputs) (suc at) ≡ []) →
        tick_text rounds (map (seen_input netlist) (input ∷ inputs)) (suc at) ≡ []
    go true e moved rest =
        let own = here (λ _. All-head (λ (input : InputNet). suc at < next_of input.drives.now tick) input (filter input_moves inputs) moved) in
        let others = rest (All-tail (λ (input : InputNet). suc at < next_of input.drives.now tick) input (filter input_moves inputs) moved) in
        rw (own, others) refl
    go false e moved rest =
        let own = here (λ moving. let no : true ≡ false = sym moving ∙ e in (cc)) in
        rw (own, rest moved) refl

-- a tick that is no round comes before the next round after the tick before it
before_round : (step at : ℕ) → 0 < step → suc at % step ≢ 0 → suc at < never → suc at < next_multiple step at
before_round step at some odd early = go (cases_lt (suc (at % step)) step)
  where
    go : (suc (at % step) < step) ⊎ (step ≤ suc (at % step)) → suc at < next_multiple step at
    go (inl inside) = let part : at % step ≤ at = omega (arith, mod-eq-sub-div-mul at step) in omega arith
    go (inr last) =
        let end : suc (at % step) ≡ step = omega (arith, mod-lt at some) in
        absurd (odd (suc-mod at step ∙ ap (λ n. n % step) end ∙ mod_self step))

-- there the inputs that move have all the lines
pub moving_tick : (netlist : NetlistView) (rounds : Rounds) (inputs : List InputNet) (tick : ℕ) → AreRounds rounds → All (IsInputNet netlist) inputs →
    tick % rounds.draws.every ≢ 0 → tick < never →
    tick_text rounds (map (seen_input netlist) (filter input_moves inputs)) tick ≡ tick_text rounds (map (seen_input netlist) inputs) tick
moving_tick netlist rounds inputs zero fit sound odd early = absurd (odd (zero-mod rounds.draws.every))
moving_tick netlist rounds [] (suc at) fit sound odd early = refl
moving_tick netlist rounds (input ∷ inputs) (suc at) fit sound odd early =
    go (input_moves input) refl (moving_tick netlist rounds inputs (suc at) fit (All-tail (IsInputNet netlist) input inputs sound) odd early)
  where
    text : List InputNet → List ℕ
    text inputs = tick_text rounds (map (seen_input netlist) inputs) (suc at)

    go : (b : Bool) → input_moves input ≡ b → text (filter input_moves inputs) ≡ text inputs →
        text (cond b (input ∷ filter input_moves inputs) (filter input_moves inputs)) ≡ text (input ∷ inputs)
    go true e same = ap (λ rest. input_text rounds (suc at) (seen_input netlist input) ++ rest) same
    go false e same =
        let own = quiet_input netlist rounds input at at fit (All-head (IsInputNet netlist) input inputs sound).drives (omega arith) (before_round rounds.draws.every at fit.apart odd early) (λ moving. let no : true ≡ false = sym moving ∙ e in (cc)) in
        rw own same

-- ---- the next tick

later_multiple : (step tick : ℕ) → 0 < step → tick < never → tick < next_multiple step tick
later_multiple step tick some early =
    let part : tick % step ≤ tick = omega (arith, mod-eq-sub-div-mul tick step) in
    omega (arith, mod-lt tick some)

later_clock : (half start tick : ℕ) → 0 < half → tick < never → (tick < start) ⊎ (start ≤ tick) →
    tick < cond (nat_lt tick start) start (min never (start + next_multiple half (tick - start)))
later_clock half start tick some early (inl before) =
    subst (λ b. tick < cond b start (min never (start + next_multiple half (tick - start)))) (sym (lt-ltb tick start before)) before
later_clock half start tick some early (inr begun) =
    let later = later_multiple half (tick - start) some (omega (arith, early)) in
    subst (λ b. tick < cond b start (min never (start + next_multiple half (tick - start)))) (sym (le-ltb tick start begun)) (omega (arith, later, early, begun))

later_change : (drive : Drive) (tick : ℕ) → IsDrive drive → tick < never → tick < next_change drive tick
later_change (Clock half) tick sound early = later_multiple half tick sound early
later_change (ClockFrom half start begins_high) tick sound early = later_clock half start tick sound early (cases_lt tick start)
later_change (Hold value) tick sound early = early
later_change (HoldBits ones unknown) tick sound early = early
later_change (Pulse first last) tick sound early = go (cases_lt tick first) (cases_lt tick last)
  where
    go : (tick < first) ⊎ (first ≤ tick) → (tick < last) ⊎ (last ≤ tick) →
        tick < cond (nat_lt tick first) first (cond (nat_lt tick last) last never)
    go (inl before) later = grind (arith, nat_tests)
    go (inr begun) (inl before) = grind (arith, nat_tests)
    go (inr begun) (inr over) = grind (arith, nat_tests)

later_of : (drives : List Drive) (tick : ℕ) → All IsDrive drives → tick < never → tick < next_of drives tick
later_of drives tick sound early =
    below_least (λ (drive : Drive). next_change drive tick) drives never tick early
    (All-weaker IsDrive (λ (drive : Drive). tick < next_change drive tick) (λ drive sound. later_change drive tick sound early) drives sound)

-- the next tick is a later one
pub later_tick : (every : ℕ) (inputs : List InputNet) (tick : ℕ) → 0 < every → All (λ (input : InputNet). All IsDrive input.drives.now) inputs → tick < never →
    tick < next_tick every inputs tick
later_tick every inputs tick some sound early =
    below_least (λ (input : InputNet). next_of input.drives.now tick) inputs (next_multiple every tick) tick (later_multiple every tick some early)
    (All-weaker (λ (input : InputNet). All IsDrive input.drives.now) (λ (input : InputNet). tick < next_of input.drives.now tick)
    (λ input sound. later_of input.drives.now tick sound early) inputs sound)

-- ---- from tick to next tick

-- ticks without lines can be left out
skip : (text : ℕ → List ℕ) (at end gap : ℕ) → ((tick : ℕ) → at ≤ tick → tick < at + gap → text tick ≡ []) →
    flat_map text (range_with_len at (end - at)) ≡ flat_map text (range_with_len (at + gap) (end - (at + gap)))
skip text at end zero quiet = rw add-zero refl
skip text at end (suc gap) quiet =
    go (cases_lt at end) (skip text (at + 1) end gap (λ tick a b. quiet tick (omega arith) (omega arith)))
  where
    shift : at + suc gap ≡ at + 1 + gap
    shift = omega arith

    go : (at < end) ⊎ (end ≤ at) →
        flat_map text (range_with_len (at + 1) (end - (at + 1))) ≡ flat_map text (range_with_len (at + 1 + gap) (end - (at + 1 + gap))) →
        flat_map text (range_with_len at (end - at)) ≡ flat_map text (range_with_len (at + suc gap) (end - (at + suc gap)))
    go (inl inside) rest =
        let one : end - at ≡ suc (end - (at + 1)) = omega arith in
        ap (λ n. flat_map text (range_with_len at n)) one
        ∙ ap (λ first. first ++ flat_map text (range_with_len (at + 1) (end - (at + 1)))) (quiet at (omega arith) (omega arith))
        ∙ rest
        ∙ ap (λ n. flat_map text (range_with_len n (end - n))) (sym shift)
    go (inr past) rest =
        let none : end - at ≡ 0 = omega arith in
        let none_then : end - (at + suc gap) ≡ 0 = omega arith in
        rw (none, none_then) refl

-- the lines of a tick, and then those from the next tick on
next_lines : (netlist : NetlistView) (rounds : Rounds) (inputs : List InputNet) (tick end : ℕ) → AreRounds rounds → All (IsInputNet netlist) inputs →
    tick < end → tick < never → (next : ℕ) → next ≡ next_tick rounds.draws.every (filter input_moves inputs) tick →
    tick_text rounds (map (seen_input netlist) inputs) tick ++ flat_map (tick_text rounds (map (seen_input netlist) inputs)) (range_with_len next (end - next))
    ≡ flat_map (tick_text rounds (map (seen_input netlist) inputs)) (range_with_len tick (end - tick))
next_lines netlist rounds inputs tick end fit sound inside early next is =
    let one : end - tick ≡ suc (end - (tick + 1)) = omega arith in
    ap (λ rest. text tick ++ rest) (sym skipped) ∙ ap (λ n. flat_map text (range_with_len tick n)) (sym one)
  where
    text : ℕ → List ℕ
    text = tick_text rounds (map (seen_input netlist) inputs)

    later : tick < next
    later =
        let far = later_tick rounds.draws.every (filter input_moves inputs) tick fit.apart
        (All-filter input_moves (λ (input : InputNet). All IsDrive input.drives.now) inputs
        (All-weaker (IsInputNet netlist) (λ (input : InputNet). All IsDrive input.drives.now) (λ input sound. sound.drives) inputs sound)) early in
        omega (arith, far, is)

    quiet : (at : ℕ) → tick + 1 ≤ at → at < next → text at ≡ []
    quiet zero after before = absurd (omega arith)
    quiet (suc at) after before =
        let below = below_each (λ (input : InputNet). next_of input.drives.now tick) (filter input_moves inputs) (next_multiple rounds.draws.every tick) (suc at)
        (omega (arith, before, is)) in
        quiet_tick netlist rounds inputs tick at fit sound (omega arith) below.0 below.1

    skipped : flat_map text (range_with_len (tick + 1) (end - (tick + 1))) ≡ flat_map text (range_with_len next (end - next))
    skipped =
        let gap : tick + 1 + (next - (tick + 1)) ≡ next = omega (arith, later) in
        skip text (tick + 1) end (next - (tick + 1)) (λ at a b. quiet at a (omega (arith, gap)))
        ∙ ap (λ n. flat_map text (range_with_len n (end - n))) gap

-- the lines so far with those of one more tick, and then those from the next tick on
pub more_lines : (netlist : NetlistView) (rounds : Rounds) (inputs : List InputNet) (tick end : ℕ) → AreRounds rounds → All (IsInputNet netlist) inputs →
    tick < end → tick < never → (next : ℕ) → next ≡ next_tick rounds.draws.every (filter input_moves inputs) tick →
    (old new whole : List ℕ) → new ≡ old ++ tick_text rounds (map (seen_input netlist) inputs) tick →
    old ++ flat_map (tick_text rounds (map (seen_input netlist) inputs)) (range_with_len tick (end - tick)) ≡ whole →
    new ++ flat_map (tick_text rounds (map (seen_input netlist) inputs)) (range_with_len next (end - next)) ≡ whole
more_lines netlist rounds inputs tick end fit sound inside early next is old new whole more so_far =
    let text : ℕ → List ℕ = tick_text rounds (map (seen_input netlist) inputs) in
    ap (λ new. new ++ flat_map text (range_with_len next (end - next))) more
    ∙ append_assoc old (text tick) (flat_map text (range_with_len next (end - next)))
    ∙ ap (λ rest. old ++ rest) (next_lines netlist rounds inputs tick end fit sound inside early next is)
    ∙ so_far

-- a text that is too long already is so with what follows
pub too_long : (text rest whole : List ℕ) → text ++ rest ≡ whole → longest_text < length text → unless_too_long TooLong Ok whole ≡ Err TooLong
too_long text rest whole joined long =
    let longer : longest_text < length whole = omega (arith, long, ap length joined, length-append text rest) in
    ap (λ too. cond too (Err TooLong) (Ok whole)) (lt-ltb longest_text (length whole) longer)

-- where no tick is left, the lines so far are the text
pub all_lines : (lines : ℕ → List ℕ) (at end : ℕ) (text whole : List ℕ) → end ≤ at → text ++ flat_map lines (range_with_len at (end - at)) ≡ whole →
    length text ≤ longest_text → Ok text ≡ unless_too_long TooLong Ok whole
all_lines lines at end text whole past joined short =
    let none : end - at ≡ 0 = omega arith in
    let same : text ≡ whole = sym (append-nil text) ∙ ap (λ n. text ++ flat_map lines (range_with_len at n)) (sym none) ∙ joined in
    sym (unless_too_long-short TooLong Ok text short) ∙ ap (unless_too_long TooLong Ok) same
