-- Designs that agree on a closed set of names show the same there.
use Rattle.std.proofs.Common.{◌≡◌, ℕ, zero, suc, ◌+◌, ◌<◌, ◌≤◌, nat_le, false, cond, List, [], ◌∷◌, length, Some, refl, ap, sym, ◌∙◌, subst, arith, slice_get, ◌⊎◌, inl, inr, All}
use Rattle.std.specs.List.{AllByRecursion}
use Rattle.std.proofs.lemmas.Bool.{le-leb, cases_lt}
use Rattle.std.proofs.lemmas.Bool.Decides.{nat_tests}
use Rattle.std.proofs.lemmas.List.Elements.{recursion_from_All}
use Rattle.logic3.specs.declared.value.Value.{Value}
use Rattle.logic3.specs.declared.value.Value.TheVariants.{Unknown}
use Rattle.logic3.specs.declared.change.Change.{Change}
use Rattle.logic3.specs.Gate.{value_of_gate, only_pin}
use Rattle.logic3.specs.Wave.{changes_until, value_after}
use Rattle.netlist.specs.declared.part.Part.{Part}
use Rattle.netlist.specs.declared.part.Part.TheVariants.{Input, Gate, Flop}
use Rattle.netlist.specs.Netlist.{NetView, net_named, name_at}
use Rattle.design.specs.Circuit.{Net}
use Rattle.timing_text.specs.Ranges.{HasTiming}
use Rattle.design.specs.Design.{DesignView, IsDesign}
use Rattle.design.specs.Samples.{asked_of_part}
use Rattle.design.specs.Equations.{pin_signals, values_at, equation_of_part, value_within, value_of}
use Rattle.design.proofs.CallerLemmas.{net_named-circuit, asked-early, same_asked, same_later, source_tick-is, length-circuit, timed_at, pins_at, IsCircuit-from_IsDesign}
use Rattle.netlist.proofs.CallerLemmas.{no_net, net_at-named}
use Rattle.fanin_cone.specs.Cone.{pin_names, IsClosed}
use Rattle.fanin_cone.specs.Agreement.{net_of, IsSameNet, AgreesAt, AgreesOn}
use Rattle.fanin_cone.proofs.DesignNets.{net_at-untimed}
use Rattle.fanin_cone.proofs.NetOf.{own_number, net_of-found}

lt-leb : (x y : ℕ) → y < x → nat_le x y ≡ false
lt-leb x y h = grind (arith, nat_tests)

-- what comes after the horizon changes nothing up to it
value_after-filter : (v : Value) (changes : List Change) (horizon tick : ℕ) → tick ≤ horizon →
    value_after v (changes_until horizon changes) tick ≡ value_after v changes tick
value_after-filter v [] horizon tick h = refl
value_after-filter v (change ∷ changes) horizon tick h =
    go (cases_lt horizon change.tick) (λ w. value_after-filter w changes horizon tick h)
  where
    kept : List Change
    kept = changes_until horizon changes

    go : (horizon < change.tick) ⊎ (change.tick ≤ horizon) → ((w : Value) → value_after w kept tick ≡ value_after w changes tick) →
        value_after v (cond (nat_le change.tick horizon) (change ∷ kept) kept) tick
        ≡ value_after (cond (nat_le change.tick tick) change.value v) changes tick
    go (inl late) rest = rw (lt-leb change.tick horizon late, lt-leb change.tick tick (omega arith)) (rest v)
    go (inr early) rest = rw (le-leb change.tick horizon early) (rest (cond (nat_le change.tick tick) change.value v))

-- the same signals at each earlier tick give the same value
same_equation : (part : Part) (x y : Net) (f g : ℕ → ℕ → Value) (horizon tick : ℕ) → HasTiming part x.timing →
    x.timing ≡ y.timing → changes_until horizon x.stimuli ≡ changes_until horizon y.stimuli → tick ≤ horizon →
    ((at : ℕ) → at < tick → values_at at (pin_signals f x.pins x.wires) ≡ values_at at (pin_signals g y.pins y.wires)) →
    equation_of_part part x (pin_signals f x.pins x.wires) tick ≡ equation_of_part part y (pin_signals g y.pins y.wires) tick
same_equation Input x y f g horizon tick timed timing stimuli h pins =
    sym (value_after-filter Unknown x.stimuli horizon tick h)
    ∙ ap (λ changes. value_after Unknown changes tick) stimuli
    ∙ value_after-filter Unknown y.stimuli horizon tick h
same_equation (Gate kind) x y f g horizon tick timed timing stimuli h pins =
    rw (← timing) (same_asked (asked_of_part (Gate kind) x.timing tick) _ _ Unknown (λ at is.
    let early = asked-early x.timing (Gate kind) timed.clock tick at is in
    let delay = timed.delay in
    ap (value_of_gate kind) (pins at (omega arith))))
same_equation Flop x y f g horizon tick timed timing stimuli h pins =
    rw (← timing) (same_asked (asked_of_part Flop x.timing tick) _ _ x.timing.initial (λ at is.
    let early = asked-early x.timing Flop timed.clock tick at is in
    let delay = timed.delay in
    ap only_pin (pins at (omega arith))))

module _ (a b : DesignView) (ok_a : IsDesign a) (ok_b : IsDesign b) (K : List ℕ → Type 0) where
  -- pins of the same names with the same wires show the same
  same_pins : (f g : ℕ → ℕ → Value) (at : ℕ) →
      ((name : List ℕ) (m n early : ℕ) → K name → net_named a.netlist name ≡ Some m → net_named b.netlist name ≡ Some n → early ≤ at → f m early ≡ g n early) →
      (ps qs wires : List ℕ) → AllByRecursion (λ pin. pin < length a.circuit) ps → AllByRecursion (λ pin. pin < length b.circuit) qs →
      AllByRecursion K (pin_names a.netlist ps) → pin_names a.netlist ps ≡ pin_names b.netlist qs →
      values_at at (pin_signals f ps wires) ≡ values_at at (pin_signals g qs wires)
  same_pins f g at same [] [] wires u v k e = refl
  same_pins f g at same [] (q ∷ qs) wires u v k e = cc
  same_pins f g at same (p ∷ ps) [] wires u v k e = cc
  same_pins f g at same (p ∷ ps) (q ∷ qs) [] u v k e = refl
  same_pins f g at same (p ∷ ps) (q ∷ qs) (wire ∷ wires) u v k e =
      let rest = same_pins f g at same ps qs wires u.1 v.1 k.1 (cc) in
      let equal : name_at a.netlist p ≡ name_at b.netlist q = cc in
      let first = own_number a.netlist ok_a.netlist p (omega (arith, u.0, length-circuit a ok_a)) in
      let second = own_number b.netlist ok_b.netlist q (omega (arith, v.0, length-circuit b ok_b)) in
      let head = same_later (f p) (g q) at wire (λ early is.
      same (name_at a.netlist p) p q early k.0 first (subst (λ name. net_named b.netlist name ≡ Some q) (sym equal) second)
      (omega (arith, source_tick-is wire at early is))) in
      cc

  -- the net of a number, where its name is that of a net
  net_is : (design : DesignView) → IsDesign design → (name : List ℕ) (number : ℕ) (net : Net) → net_named design.netlist name ≡ Some number →
      net_of design name ≡ Some net → slice_get design.circuit number ≡ Some net
  net_is design ok name number net found named =
      sym (net_of-found design name number (sym (net_named-circuit design ok name) ∙ found)) ∙ named

  -- the set holds the names at its pins
  pins_in : IsClosed a.netlist K → (name : List ℕ) (number : ℕ) (net : Net) → K name → net_named a.netlist name ≡ Some number →
      slice_get a.circuit number ≡ Some net → All K (pin_names a.netlist net.pins)
  pins_in closed name number net k found at =
      let there = net_at-named a.netlist name number found in
      subst (λ (n : NetView). All K (pin_names a.netlist n.pins)) (net_at-untimed a ok_a number net at)
      (closed number no_net there.0 (subst K (sym there.1) k))

  value_agrees_within : (horizon : ℕ) → IsClosed a.netlist K → AgreesOn a b K horizon → (ticks : ℕ) (name : List ℕ) (m n tick : ℕ) → K name →
      net_named a.netlist name ≡ Some m → net_named b.netlist name ≡ Some n → tick < ticks → tick ≤ horizon →
      value_within a.circuit ticks m tick ≡ value_within b.circuit ticks n tick
  value_agrees_within horizon closed agree zero name m n tick k found_a found_b below h = absurd (omega arith)
  value_agrees_within horizon closed agree (suc ticks) name m n tick k found_a found_b below h =
      let both : AgreesAt a b horizon name = agree name k in
      let x = both.x in
      let y = both.y in
      let same : IsSameNet a b horizon x y = both.same in
      let at_a = net_is a ok_a name m x found_a both.first in
      let at_b = net_is b ok_b name n y found_b both.second in
      let circuit_a = IsCircuit-from_IsDesign a ok_a in
      let circuit_b = IsCircuit-from_IsDesign b ok_b in
      let timed = timed_at a.circuit circuit_a m x at_a in
      rw (at_a, at_b)
      (same_equation x.part x y (value_within a.circuit ticks) (value_within b.circuit ticks) horizon tick timed.timing same.timing.timing same.timing.stimuli h
      (λ at early. same_pins (value_within a.circuit ticks) (value_within b.circuit ticks) at
      (λ other p q past k_p at_p at_q before. value_agrees_within horizon closed agree ticks other p q past k_p at_p at_q (omega arith) (omega arith))
      x.pins y.pins x.wires
      (recursion_from_All _ x.pins (pins_at a.circuit circuit_a m x at_a)) (recursion_from_All _ y.pins (pins_at b.circuit circuit_b n y at_b))
      (recursion_from_All K (pin_names a.netlist x.pins) (pins_in closed name m x k found_a at_a)) same.pins
      ∙ ap (λ wires. values_at at (pin_signals (value_within b.circuit ticks) y.pins wires)) same.timing.wires)
      ∙ ap (λ part. equation_of_part part y (pin_signals (value_within b.circuit ticks) y.pins y.wires) tick) same.part)

  -- two designs that agree on a closed set show the same there, at every tick up to the horizon
  pub value_agrees : (horizon : ℕ) → IsClosed a.netlist K → AgreesOn a b K horizon → (name : List ℕ) (m n tick : ℕ) → K name →
      net_named a.netlist name ≡ Some m → net_named b.netlist name ≡ Some n → tick ≤ horizon →
      value_of a.circuit m tick ≡ value_of b.circuit n tick
  unfolding value_of
  value_agrees horizon closed agree name m n tick k found_a found_b h =
      value_agrees_within horizon closed agree (tick + 1) name m n tick k found_a found_b (omega arith) h
