-- Waveforms that go on past a tick give the reasons that the circuit gives.
use Rattle.std.proofs.Common.{◌≡◌, ℕ, zero, suc, ◌+◌, ◌-◌, ◌<◌, ◌≤◌, nat_lt, Bool, true, false, cond, List, [], ◌∷◌, length, Option, None, Some, refl, ap, sym, ◌∙◌, arith, slice_get, ◌⊎◌, inl, inr}
use Rattle.std.specs.Option.{option_map_or}
use Rattle.std.proofs.lemmas.Bool.{cases_lt, le-ltb}
use Rattle.std.proofs.lemmas.Option.{slice_get_past, slice_get-get_or, none-some, same_Some}
use Rattle.logic3.specs.declared.value.Value.{Value}
use Rattle.logic3.specs.declared.value.Value.TheVariants.{Unknown}
use Rattle.logic3.specs.declared.gates.GateKind.{GateKind}
use Rattle.logic3.specs.Value.{is_same}
use Rattle.logic3.specs.Wave.{Wave, value_at, wave_of}
use Rattle.logic3.proofs.CallerLemmas.{value_at-wave_of}
use Rattle.netlist.specs.declared.part.Part.{Part}
use Rattle.netlist.specs.declared.part.Part.TheVariants.{Input, Gate, Flop}
use Rattle.design.specs.Circuit.{Net, Circuit}
use Rattle.design.specs.Samples.{asked_of_part, source_tick}
use Rattle.design.specs.Equations.{signals_in, value_of, waves_of}
use Rattle.design.proofs.CallerLemmas.{same_asked, source_tick-is, get_or-waves_of, length-waves_of, same_pin_signals, value_of-past}
use Rattle.causes.specs.Causes.{ShowUpTo}
use Rattle.causes.specs.Deciding.{deciding_place, pin_since, pins_since, since}
use Rattle.causes.specs.Reasons.{gate_place, pin_reason, reason_at, reason_of_part}

wave_there : (circuit : Circuit) (to net : ℕ) → net < length circuit →
    slice_get (waves_of circuit to) net ≡ Some (wave_of (value_of circuit net) 0 to)
wave_there circuit to net below =
    slice_get-get_or (waves_of circuit to) net (wave_of (value_of circuit net) 0 to) (omega (arith, length-waves_of circuit to))
    ∙ ap Some (get_or-waves_of circuit to net (wave_of (value_of circuit net) 0 to) below)

pub wave_each : (circuit : Circuit) (tick : ℕ) (waves : List Wave) → ShowUpTo circuit tick waves → length waves ≡ length circuit
wave_each circuit tick waves show = ap length show.same ∙ length-waves_of circuit show.to

-- up to the tick they show what the nets show
pub shown_up_to : (circuit : Circuit) (tick : ℕ) (waves : List Wave) → ShowUpTo circuit tick waves → (net at : ℕ) → at ≤ tick →
    signals_in waves net at ≡ value_of circuit net at
shown_up_to circuit tick waves show net at le = ap (λ waves. signals_in waves net at) show.same ∙ go (cases_lt net (length circuit))
  where
    go : (net < length circuit) ⊎ (length circuit ≤ net) → signals_in (waves_of circuit show.to) net at ≡ value_of circuit net at
    go (inl below) =
        ap (λ place. option_map_or (λ (w : Wave). value_at w at) place Unknown) (wave_there circuit show.to net below)
        ∙ value_at-wave_of (value_of circuit net) 0 show.to at (omega arith) (let past = show.past in omega arith)
    go (inr past) =
        ap (λ place. option_map_or (λ (w : Wave). value_at w at) place Unknown)
        (slice_get_past (waves_of circuit show.to) net (omega (arith, length-waves_of circuit show.to)))
        ∙ sym (value_of-past circuit net at past)

pub show_earlier : (circuit : Circuit) (tick early : ℕ) (waves : List Wave) → ShowUpTo circuit tick waves → early ≤ tick →
    ShowUpTo circuit early waves
show_earlier circuit tick early waves show le = record { to = show.to; past = (let past = show.past in omega arith); same = show.same }

-- the tick of its source that a pin shows, once the delay of its wire is over
pub source_found : (wire asked at : ℕ) → wire ≤ asked → at ≡ asked - wire → source_tick wire asked ≡ Some at
source_found wire asked at le is = rw (le-ltb asked wire le) (ap Some (sym is))

-- ---- signals that are the same up to a tick

module _ (f g : ℕ → ℕ → Value) where
  pub same_since : (net tick : ℕ) → ((at : ℕ) → at ≤ tick → f net at ≡ g net at) → since (f net) tick ≡ since (g net) tick
  same_since net zero same = refl
  same_since net (suc tick) same =
      λ i. cond (is_same (same (suc tick) (omega arith) i) (same tick (omega arith) i)) (same_since net tick (λ at le. same at (omega arith)) i) (suc tick)

  same_pins_since : (tick : ℕ) (pins wires : List ℕ) → ((net at : ℕ) → at ≤ tick → f net at ≡ g net at) →
      pins_since f tick pins wires ≡ pins_since g tick pins wires
  same_pins_since tick [] wires same = refl
  same_pins_since tick (pin ∷ pins) [] same = refl
  same_pins_since tick (pin ∷ pins) (wire ∷ wires) same =
      let here : pin_since wire (f pin) tick ≡ pin_since wire (g pin) tick =
      same_asked (source_tick wire tick) (λ at. since (f pin) at + wire) (λ at. since (g pin) at + wire) 0
      (λ at is. ap (λ n. n + wire) (same_since pin at (λ early le. same pin early (let e = source_tick-is wire tick at is in omega (arith, e, le))))) in
      let rest = same_pins_since tick pins wires same in
      λ i. here i ∷ rest i

  same_gate_place : (kind : GateKind) (pins wires : List ℕ) (tick : ℕ) → ((net at : ℕ) → at ≤ tick → f net at ≡ g net at) →
      gate_place kind pins wires f tick ≡ gate_place kind pins wires g tick
  same_gate_place kind pins wires tick same =
      λ i. deciding_place kind (same_pin_signals f g tick pins wires same i) (same_pins_since tick pins wires same i)

  gate_asked : (kind : GateKind) (net : Net) (tick asked : ℕ) → asked_of_part (Gate kind) net.timing tick ≡ Some asked → asked ≤ tick
  gate_asked kind net tick asked is = go (nat_lt tick net.timing.delay) is
    where
      go : (early : Bool) → cond early None (Some (tick - net.timing.delay)) ≡ Some asked → asked ≤ tick
      go true e = absurd (none-some asked e)
      go false e = let same = same_Some (tick - net.timing.delay) asked e in omega (arith, same)

  same_reason_of_part : (part : Part) (net : Net) (tick : ℕ) → ((number at : ℕ) → at ≤ tick → f number at ≡ g number at) →
      reason_of_part part net f tick ≡ reason_of_part part net g tick
  same_reason_of_part Input net tick same = refl
  same_reason_of_part (Gate kind) net tick same =
      same_asked (asked_of_part (Gate kind) net.timing tick) _ _ _
      (λ at is. ap (pin_reason net.wires at) (same_gate_place kind net.pins net.wires at
      (λ number early le. same number early (let e = gate_asked kind net tick at is in omega (arith, e, le)))))
  same_reason_of_part Flop net tick same = refl

  pub same_reason : (place : Option Net) (tick : ℕ) → ((net at : ℕ) → at ≤ tick → f net at ≡ g net at) →
      reason_at place f tick ≡ reason_at place g tick
  same_reason None tick same = refl
  same_reason (Some net) tick same = same_reason_of_part net.part net tick same
