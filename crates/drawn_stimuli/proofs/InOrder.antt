-- The reader takes changes whose ticks rise for each name.
use Rattle.std.proofs.Common.{◌≡◌, ℕ, zero, suc, ◌+◌, ◌-◌, ◌<◌, ◌≤◌, nat_le, Bool, true, false, cond, List, [], ◌∷◌, ◌++◌, map, filter, flat_map, get_or, All, Result, Ok, Err, append_assoc, append-nil, refl, sym, ap, ◌∙◌, subst, true≢false, arith}
use Rattle.std.specs.List.{list_any, range_with_len}
use Rattle.std.specs.Str.{bytes_eq}
use Rattle.std.proofs.lemmas.Bool.Decides.{nat_tests}
use Rattle.std.proofs.lemmas.List.Elements.{All-append, All-cons, All-head, All-nil, All-tail, All-weaker, filter-append}
use Rattle.std.proofs.lemmas.List.{map-append}
use Rattle.logic3.specs.declared.value.Value.{Value}
use Rattle.logic3.specs.declared.value.Value.TheVariants.{Unknown}
use Rattle.logic3.specs.declared.change.Change.{Change}
use Rattle.logic3.specs.Value.{is_same}
use Rattle.logic3.specs.Wave.{change_at, changes_between, value_after, value_before}
use Rattle.logic3.proofs.CallerLemmas.{value_at-wave_of}
use Rattle.texts.specs.Text.{◌>>=◌, code_lines_from}
use Rattle.texts.specs.Fold.{fold_lines}
use Rattle.netlist.specs.Netlist.{NetlistView}
use Rattle.netlist.proofs.CallerLemmas.{bytes_eq-other, bytes_eq-same}
use Rattle.timing_text.specs.declared.fault.StimulusFault.{StimulusFault}
use Rattle.timing_text.specs.declared.fault.StimulusFault.TheVariants.{NotRising}
use Rattle.timing_text.specs.Ranges.{most_ticks}
use Rattle.timing_text.specs.Stimuli.{NamedChange, stimuli_after, stimuli_named, with_stimulus}
use Rattle.drawn_stimuli.specs.declared.drive.Rounds.{Rounds}
use Rattle.drawn_stimuli.specs.Inputs.{InputView}
use Rattle.drawn_stimuli.specs.Signals.{signal_of}
use Rattle.drawn_stimuli.specs.StimulusText.{change_line, drawn_changes, input_changes, tick_changes}
use Rattle.drawn_stimuli.proofs.DistinctInputs.{AreDistinct, HasOwnName, IsFound}
use Rattle.drawn_stimuli.proofs.ReadLine.{IsDrawnChange, code_lines_from-change, stimulus_or_fault-change}

-- names that differ do so either way
bytes_eq-swapped : (name other : List ℕ) → bytes_eq name other ≡ false → bytes_eq other name ≡ false
bytes_eq-swapped name other apart =
    bytes_eq-other other name (λ same. true≢false (sym (bytes_eq-same name) ∙ ap (bytes_eq name) (sym same) ∙ apart))

-- ---- changes in order

-- of another name, or earlier
abbrev IsBefore : NamedChange → NamedChange → Type 0
IsBefore later earlier = bytes_eq earlier.name later.name ≡ true → earlier.change.tick < later.change.tick

-- each change comes behind those of its name
abbrev InOrder : List NamedChange → List NamedChange → Type 0
InOrder given [] = Unit {0}
InOrder given (s ∷ changes) = All (IsBefore s) given × InOrder (given ++ s ∷ []) changes

InOrder-append : (given first second : List NamedChange) → InOrder given first → InOrder (given ++ first) second → InOrder given (first ++ second)
InOrder-append given [] second a b = subst (λ given. InOrder given second) (append-nil given) b
InOrder-append given (s ∷ first) second a b =
    (a.0, InOrder-append (given ++ s ∷ []) first second a.1 (subst (λ given. InOrder given second) (sym (append_assoc given (s ∷ []) first)) b))

-- no earlier change of the name is at the tick or later
unreached : (s : NamedChange) (given : List NamedChange) → All (IsBefore s) given →
    list_any (λ (change : Change). nat_le s.change.tick change.tick) (stimuli_named given s.name) ≡ false
unreached s [] before = refl
unreached s (g ∷ given) before =
    go (bytes_eq g.name s.name) refl (unreached s given (All-tail (IsBefore s) g given before))
  where
    late : Change → Bool
    late change = nat_le s.change.tick change.tick

    go : (same : Bool) → bytes_eq g.name s.name ≡ same → list_any late (stimuli_named given s.name) ≡ false →
        list_any late (map (λ (s : NamedChange). s.change) (cond same (g ∷ filter (λ (g : NamedChange). bytes_eq g.name s.name) given) (filter (λ (g : NamedChange). bytes_eq g.name s.name) given))) ≡ false
    go true same rest =
        let earlier = All-head (IsBefore s) g given before same in
        let early : nat_le s.change.tick g.change.tick ≡ false = grind (arith, nat_tests) in
        rw (early, rest) refl
    go false same rest = rest

-- so the lines of changes in order are read
read_from : (netlist : NetlistView) (given : List NamedChange) (number : ℕ) (changes : List NamedChange) → All (IsDrawnChange netlist) changes → InOrder given changes →
    fold_lines (stimuli_after netlist) given (code_lines_from number (flat_map change_line changes)) ≡ Ok (given ++ changes)
read_from netlist given number [] can order = ap Ok (sym (append-nil given))
read_from netlist given number (s ∷ changes) can order =
    let own = All-head (IsDrawnChange netlist) s changes can in
    let rest = flat_map change_line changes in
    let after : List NamedChange → Result (List NamedChange) StimulusFault = λ more. fold_lines (stimuli_after netlist) more (code_lines_from (number + 1) rest) in
    ap (fold_lines (stimuli_after netlist) given) (code_lines_from-change netlist s own number rest)
    ∙ ap (λ first. first >>= with_stimulus given number >>= after) (stimulus_or_fault-change netlist s own number)
    ∙ ap (λ reached. cond reached (Err (NotRising number)) (Ok (given ++ s ∷ [])) >>= after) (unreached s given order.0)
    ∙ read_from netlist (given ++ s ∷ []) (number + 1) changes (All-tail (IsDrawnChange netlist) s changes can) order.1
    ∙ ap Ok (append_assoc given (s ∷ []) changes)

pub read_changes : (netlist : NetlistView) (changes : List NamedChange) → All (IsDrawnChange netlist) changes → InOrder [] changes →
    fold_lines (stimuli_after netlist) [] (code_lines_from 1 (flat_map change_line changes)) ≡ Ok changes
read_changes netlist changes can order = read_from netlist [] 1 changes can order

-- ---- the changes of inputs

module _ (rounds : Rounds) where
  abbrev signal : InputView → ℕ → Value
  signal input = signal_of rounds input.drives input.place

  abbrev named : InputView → Change → NamedChange
  named input change = record { name = input.name; change = change }

  -- what an input has at a tick is nothing, or a change at the tick
  by_change : (P : List NamedChange → Type 0) (input : InputView) (tick : ℕ) → P [] →
      P (named input (record { tick = tick; value = signal input tick }) ∷ []) → P (input_changes rounds tick input)
  by_change P input tick none some = go (is_same (signal input tick) (value_before (signal input) tick))
    where
      go : (same : Bool) → P (map (named input) (cond same [] (record { tick = tick; value = signal input tick } ∷ [])))
      go true = none
      go false = some

  -- a change is before those of these inputs at a tick
  abbrev IsClear : ℕ → List InputView → NamedChange → Type 0
  IsClear tick inputs s = All (λ (input : InputView). bytes_eq s.name input.name ≡ true → s.change.tick < tick) inputs

  -- the changes at a tick come in order behind such ones
  tick_order : (given : List NamedChange) (tick : ℕ) (inputs : List InputView) → AreDistinct inputs → All (IsClear tick inputs) given →
      InOrder given (tick_changes rounds inputs tick)
  tick_order given tick [] distinct clear = tt
  tick_order given tick (input ∷ inputs) distinct clear =
      InOrder-append given (input_changes rounds tick input) (tick_changes rounds inputs tick)
      (by_change (InOrder given) input tick tt (here, tt))
      (by_change (λ own. InOrder (given ++ own) (tick_changes rounds inputs tick)) input tick
      (tick_order (given ++ []) tick inputs distinct.1 (All-append (IsClear tick inputs) given [] rest (All-nil (IsClear tick inputs))))
      (tick_order (given ++ own ∷ []) tick inputs distinct.1 (All-append (IsClear tick inputs) given (own ∷ []) rest (All-cons (IsClear tick inputs) own [] apart (All-nil (IsClear tick inputs))))))
    where
      own : NamedChange
      own = named input (record { tick = tick; value = signal input tick })

      here : All (IsBefore own) given
      here =
          All-weaker (IsClear tick (input ∷ inputs)) (IsBefore own)
          (λ s clear. All-head (λ (input : InputView). bytes_eq s.name input.name ≡ true → s.change.tick < tick) input inputs clear) given clear

      rest : All (IsClear tick inputs) given
      rest =
          All-weaker (IsClear tick (input ∷ inputs)) (IsClear tick inputs)
          (λ s clear. All-tail (λ (input : InputView). bytes_eq s.name input.name ≡ true → s.change.tick < tick) input inputs clear) given clear

      apart : IsClear tick inputs own
      apart =
          All-weaker (HasOwnName input) (λ (other : InputView). bytes_eq input.name other.name ≡ true → tick < tick)
          (λ other different same. absurd (true≢false (sym same ∙ different))) inputs distinct.0

  -- each of them is at the tick
  tick_All : (P : NamedChange → Type 0) (tick : ℕ) (inputs : List InputView) →
      All (λ (input : InputView). P (named input (record { tick = tick; value = signal input tick }))) inputs → All P (tick_changes rounds inputs tick)
  tick_All P tick [] each = All-nil P
  tick_All P tick (input ∷ inputs) each =
      let Q : InputView → Type 0 = λ input. P (named input (record { tick = tick; value = signal input tick })) in
      All-append P (input_changes rounds tick input) (tick_changes rounds inputs tick)
      (by_change (All P) input tick (All-nil P) (All-cons P (named input (record { tick = tick; value = signal input tick })) [] (All-head Q input inputs each) (All-nil P)))
      (tick_All P tick inputs (All-tail Q input inputs each))

  ticks_order : (given : List NamedChange) (inputs : List InputView) (from count : ℕ) → AreDistinct inputs → All (λ (s : NamedChange). s.change.tick < from) given →
      InOrder given (flat_map (tick_changes rounds inputs) (range_with_len from count))
  ticks_order given inputs from zero distinct early = tt
  ticks_order given inputs from (suc count) distinct early =
      InOrder-append given (tick_changes rounds inputs from) (flat_map (tick_changes rounds inputs) (range_with_len (from + 1) count))
      (tick_order given from inputs distinct
      (All-weaker (λ (s : NamedChange). s.change.tick < from) (IsClear from inputs) (λ s early k d within same. early) given early))
      (ticks_order (given ++ tick_changes rounds inputs from) inputs (from + 1) count distinct
      (All-append (λ (s : NamedChange). s.change.tick < from + 1) given (tick_changes rounds inputs from)
      (All-weaker (λ (s : NamedChange). s.change.tick < from) (λ (s : NamedChange). s.change.tick < from + 1) (λ s early. omega arith) given early)
      (tick_All (λ (s : NamedChange). s.change.tick < from + 1) from inputs (λ k d within. omega arith))))

  -- all changes are in order
  pub drawn_order : (inputs : List InputView) (horizon : ℕ) → AreDistinct inputs → InOrder [] (drawn_changes rounds inputs horizon)
  drawn_order inputs horizon distinct =
      ticks_order [] inputs 0 (horizon + 1) distinct (All-nil (λ (s : NamedChange). s.change.tick < 0))

  ticks_can : (netlist : NetlistView) (inputs : List InputView) (from count : ℕ) → from + count ≤ most_ticks + 1 →
      All (λ (input : InputView). IsFound netlist input.name) inputs →
      All (IsDrawnChange netlist) (flat_map (tick_changes rounds inputs) (range_with_len from count))
  ticks_can netlist inputs from zero in_time found = All-nil (IsDrawnChange netlist)
  ticks_can netlist inputs from (suc count) in_time found =
      All-append (IsDrawnChange netlist) (tick_changes rounds inputs from) (flat_map (tick_changes rounds inputs) (range_with_len (from + 1) count))
      (tick_All (IsDrawnChange netlist) from inputs
      (All-weaker (λ (input : InputView). IsFound netlist input.name)
      (λ (input : InputView). IsDrawnChange netlist (named input (record { tick = from; value = signal input from })))
      (λ input found. record { named = found.named; in_time = omega arith; net = found.net; found = found.found; driven = found.driven }) inputs found))
      (ticks_can netlist inputs (from + 1) count (omega arith) found)

  -- and of inputs, in time
  pub drawn_can : (netlist : NetlistView) (inputs : List InputView) (horizon : ℕ) → horizon ≤ most_ticks →
      All (λ (input : InputView). IsFound netlist input.name) inputs → All (IsDrawnChange netlist) (drawn_changes rounds inputs horizon)
  drawn_can netlist inputs horizon in_time found = ticks_can netlist inputs 0 (horizon + 1) (omega arith) found

  -- ---- those of one input

  stimuli_named-append : (first second : List NamedChange) (name : List ℕ) →
      stimuli_named (first ++ second) name ≡ stimuli_named first name ++ stimuli_named second name
  stimuli_named-append first second name =
      ap (map (λ (s : NamedChange). s.change)) (filter-append (λ (s : NamedChange). bytes_eq s.name name) first second)
      ∙ map-append (λ (s : NamedChange). s.change) (filter (λ (s : NamedChange). bytes_eq s.name name) first) (filter (λ (s : NamedChange). bytes_eq s.name name) second)

  -- what an input has at a tick is of its own name
  own_changes : (input : InputView) (tick : ℕ) → stimuli_named (input_changes rounds tick input) input.name ≡ change_at (signal input) tick
  own_changes input tick = go (is_same (signal input tick) (value_before (signal input) tick))
    where
      go : (same : Bool) →
          stimuli_named (map (named input) (cond same [] (record { tick = tick; value = signal input tick } ∷ []))) input.name
          ≡ cond same [] (record { tick = tick; value = signal input tick } ∷ [])
      go true = refl
      go false = rw (bytes_eq-same input.name) refl

  -- and of no other
  other_changes : (input : InputView) (tick : ℕ) (name : List ℕ) → bytes_eq input.name name ≡ false → stimuli_named (input_changes rounds tick input) name ≡ []
  other_changes input tick name apart =
      by_change (λ own. stimuli_named own name ≡ []) input tick refl (rw apart refl)

  -- so are those of other inputs
  none_named : (inputs : List InputView) (tick : ℕ) (name : List ℕ) → All (λ (other : InputView). bytes_eq other.name name ≡ false) inputs →
      stimuli_named (tick_changes rounds inputs tick) name ≡ []
  none_named [] tick name apart = refl
  none_named (input ∷ inputs) tick name apart =
      stimuli_named-append (input_changes rounds tick input) (tick_changes rounds inputs tick) name
      ∙ ap (λ own. own ++ stimuli_named (tick_changes rounds inputs tick) name) (other_changes input tick name (All-head (λ (other : InputView). bytes_eq other.name name ≡ false) input inputs apart))
      ∙ none_named inputs tick name (All-tail (λ (other : InputView). bytes_eq other.name name ≡ false) input inputs apart)

  tick_named : (inputs : List InputView) (tick : ℕ) → AreDistinct inputs →
      All (λ (input : InputView). stimuli_named (tick_changes rounds inputs tick) input.name ≡ change_at (signal input) tick) inputs
  tick_named [] tick distinct = All-nil (λ (input : InputView). [] ≡ change_at (signal input) tick)
  tick_named (input ∷ inputs) tick distinct =
      All-cons (λ (other : InputView). stimuli_named (tick_changes rounds (input ∷ inputs) tick) other.name ≡ change_at (signal other) tick) input inputs
      (stimuli_named-append (input_changes rounds tick input) (tick_changes rounds inputs tick) input.name
      ∙ ap (λ rest. stimuli_named (input_changes rounds tick input) input.name ++ rest)
      (none_named inputs tick input.name (All-weaker (HasOwnName input) (λ (other : InputView). bytes_eq other.name input.name ≡ false) (λ other apart. bytes_eq-swapped input.name other.name apart) inputs distinct.0))
      ∙ append-nil (stimuli_named (input_changes rounds tick input) input.name)
      ∙ own_changes input tick)
      (λ k d within.
      stimuli_named-append (input_changes rounds tick input) (tick_changes rounds inputs tick) (get_or inputs k d).name
      ∙ ap (λ own. own ++ stimuli_named (tick_changes rounds inputs tick) (get_or inputs k d).name) (other_changes input tick (get_or inputs k d).name (distinct.0 k d within))
      ∙ tick_named inputs tick distinct.1 k d within)

  ticks_named : (inputs : List InputView) (from count : ℕ) → AreDistinct inputs →
      All (λ (input : InputView). stimuli_named (flat_map (tick_changes rounds inputs) (range_with_len from count)) input.name
      ≡ flat_map (change_at (signal input)) (range_with_len from count)) inputs
  ticks_named inputs from zero distinct = λ k d within. refl
  ticks_named inputs from (suc count) distinct = λ k d within.
      stimuli_named-append (tick_changes rounds inputs from) (flat_map (tick_changes rounds inputs) (range_with_len (from + 1) count)) (get_or inputs k d).name
      ∙ ap (λ first. first ++ stimuli_named (flat_map (tick_changes rounds inputs) (range_with_len (from + 1) count)) (get_or inputs k d).name) (tick_named inputs from distinct k d within)
      ∙ ap (λ rest. change_at (signal (get_or inputs k d)) from ++ rest) (ticks_named inputs (from + 1) count distinct k d within)

  -- each input has the changes of its signal
  pub drawn_named : (inputs : List InputView) (horizon : ℕ) → AreDistinct inputs →
      All (λ (input : InputView). stimuli_named (drawn_changes rounds inputs horizon) input.name ≡ changes_between (signal input) 0 (horizon + 1)) inputs
  drawn_named inputs horizon distinct = λ k d within.
      let all : horizon + 1 - 0 ≡ horizon + 1 = omega arith in
      ticks_named inputs 0 (horizon + 1) distinct k d within ∙ ap (λ n. flat_map (change_at (signal (get_or inputs k d))) (range_with_len 0 n)) (sym all)

  -- and so its values
  pub drawn_values : (inputs : List InputView) (horizon tick : ℕ) → AreDistinct inputs → tick ≤ horizon →
      All (λ (input : InputView). value_after Unknown (stimuli_named (drawn_changes rounds inputs horizon) input.name) tick ≡ signal input tick) inputs
  drawn_values inputs horizon tick distinct in_time = λ k d within.
      ap (λ changes. value_after Unknown changes tick) (drawn_named inputs horizon distinct k d within)
      ∙ value_at-wave_of (signal (get_or inputs k d)) 0 (horizon + 1) tick (omega arith) (omega arith)
