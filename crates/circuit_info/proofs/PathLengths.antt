-- No path takes more ticks than the longest one, and one takes as many.
use Rattle.std.proofs.Common.{◌≡◌, ℕ, zero, suc, ◌+◌, ◌<◌, ◌≤◌, Bool, true, false, true≢false, leb, IsTrue, List, [], ◌∷◌, ◌++◌, length, get_or, option_map, ◌⊎◌, inl, inr, ⊎_elim, refl, sym, ap, ◌∙◌, subst, arith}
use Rattle.std.proofs.lemmas.Bool.{and_parts, cases_lt, eqb-true, leb-true}
use Rattle.std.proofs.lemmas.Option.{slice_get_cases}
use Rattle.logic3.specs.declared.gates.GateKind.TheVariants.{Not, Buf}
use Rattle.netlist.specs.declared.part.Part.{Part}
use Rattle.netlist.specs.declared.part.Part.TheVariants.{Input, Gate, Flop}
use Rattle.netlist.specs.Netlist.{NetView, net_at}
use Rattle.netlist.specs.Part.{is_flop, is_gate, takes_pins}
use Rattle.netlist.proofs.CallerLemmas.{gate_within, no_net}
use Rattle.timing_text.specs.Ranges.{HasDelay}
use Rattle.design.specs.Circuit.{Net, IsTimed}
use Rattle.design.specs.Design.{DesignView, IsDesign}
use Rattle.design.proofs.CallerLemmas.{All-slice_get, length-circuit}
use Rattle.circuit_info.specs.Levels.{is_gate_at, level_at, pins_at, IsLevelling}
use Rattle.circuit_info.specs.Paths.{delay_at, wires_at, last_seen, longest_to, IsPath, from_source, over_gate}
use Rattle.circuit_info.specs.PathText.{is_flop_at}
use Rattle.circuit_info.proofs.Levelling.{above_pin}
use Rattle.circuit_info.proofs.Longest.{delay_is, longest_gate, longest_source, net_is, wires_are, wires_fit}

-- each pin sees its source's value at the last tick or before
pub last_least : (f : ℕ → ℕ) (pins wires : List ℕ) (k : ℕ) → k < length pins → k < length wires →
    f (get_or pins k 0) + get_or wires k 0 ≤ last_seen f pins wires
last_least f [] wires k within also = absurd (omega (arith, within))
last_least f (pin ∷ pins) [] k within also = absurd (omega (arith, also))
last_least f (pin ∷ pins) (wire ∷ wires) zero within also = omega arith
last_least f (pin ∷ pins) (wire ∷ wires) (suc k) within also = omega (arith, last_least f pins wires k (omega (arith, within)) (omega (arith, also)))

some_pin : (f : ℕ → ℕ) (pins wires : List ℕ) → 0 < last_seen f pins wires → 0 < length pins
some_pin f [] wires some = absurd (omega (arith, some))
some_pin f (pin ∷ pins) wires some = omega arith

-- one of them at the last tick
pub last_one : (f : ℕ → ℕ) (pins wires : List ℕ) → 0 < length pins → length wires ≡ length pins →
    (k : ℕ) × (k < length pins) × (last_seen f pins wires ≡ f (get_or pins k 0) + get_or wires k 0)
last_one f [] wires some fit = absurd (omega (arith, some))
last_one f (pin ∷ pins) [] some fit = absurd (omega (arith, fit))
last_one f (pin ∷ pins) (wire ∷ wires) some fit = go (cases_lt (f pin + wire) (last_seen f pins wires)) (λ more. last_one f pins wires more (omega (arith, fit)))
  where
    go : (f pin + wire < last_seen f pins wires) ⊎ (last_seen f pins wires ≤ f pin + wire) →
        (0 < length pins → (k : ℕ) × (k < length pins) × (last_seen f pins wires ≡ f (get_or pins k 0) + get_or wires k 0)) →
        (k : ℕ) × (k < length (pin ∷ pins)) × (last_seen f (pin ∷ pins) (wire ∷ wires) ≡ f (get_or (pin ∷ pins) k 0) + get_or (wire ∷ wires) k 0)
    go (inl later) rest =
        let at = rest (some_pin f pins wires (omega (arith, later))) in
        (suc at.0, omega (arith, at.1), omega (arith, at.2, later))
    go (inr earlier) rest = (0, omega arith, omega (arith, earlier))

-- a gate has a delay
some_delay : (part : Part) (delay : ℕ) → IsTrue (is_gate part) → HasDelay part delay → 1 ≤ delay
some_delay Input delay gate is = absurd (true≢false (sym gate))
some_delay (Gate kind) delay gate (some, most) = some
some_delay Flop delay gate is = absurd (true≢false (sym gate))

-- a gate has pins
some_pins : (part : Part) (pins : ℕ) → IsTrue (is_gate part) → takes_pins part pins ≡ true → 0 < pins
some_pins Input pins gate takes = absurd (true≢false (sym gate))
some_pins Flop pins gate takes = absurd (true≢false (sym gate))
some_pins (Gate Not) pins gate takes = omega (arith, eqb-true pins 1 takes)
some_pins (Gate Buf) pins gate takes = omega (arith, eqb-true pins 1 takes)
some_pins (Gate _) pins gate takes = omega (arith, leb-true 1 pins (and_parts (leb 1 pins) (leb pins 1024) takes).0)

-- a flip-flop has one
flop_pin : (part : Part) (pins : ℕ) → IsTrue (is_flop part) → takes_pins part pins ≡ true → 0 < pins
flop_pin Input pins flop takes = absurd (true≢false (sym flop))
flop_pin (Gate kind) pins flop takes = absurd (true≢false (sym flop))
flop_pin Flop pins flop takes = omega (arith, eqb-true pins 1 takes)

module _ (design : DesignView) (formed : IsDesign design) where
  pub wires_fit_pins : (net : ℕ) → net < length design.netlist.nets → length (wires_at design net) ≡ length (pins_at design.netlist net)
  wires_fit_pins net below = ⊎_elim
      (λ found.
      let told = ap (option_map (λ (n : Net). n.wires)) found.2 in
      ap (λ (wires : List ℕ). length wires) (sym (wires_are design formed net found.0.wires told)) ∙ wires_fit design formed net found.0.wires told)
      (λ past. absurd (omega (arith, past.0, below, length-circuit design formed)))
      (slice_get_cases design.circuit net).1

  pub wires_each : (net : ℕ) → IsTrue (is_gate_at design.netlist net) → length (wires_at design net) ≡ length (pins_at design.netlist net)
  wires_each net is = wires_fit_pins net (gate_within design.netlist.nets net is)

  pub delay_some : (net : ℕ) → IsTrue (is_gate_at design.netlist net) → 1 ≤ delay_at design net
  delay_some net is = ⊎_elim
      (λ found.
      let n : Net = found.0 in
      let timed = All-slice_get IsTimed design.circuit net n formed.timed found.2 in
      let gate : IsTrue (is_gate n.part) = sym (ap (λ (n : NetView). is_gate n.part) (net_is design formed net n found.2)) ∙ is in
      let delay = delay_is design formed net n.timing.delay (ap (option_map (λ (n : Net). n.timing.delay)) found.2) in
      omega (arith, delay, some_delay n.part n.timing.delay gate timed.timing.delay))
      (λ past. absurd (omega (arith, past.0, gate_within design.netlist.nets net is, length-circuit design formed)))
      (slice_get_cases design.circuit net).1

  pub gate_pins : (net : ℕ) → IsTrue (is_gate_at design.netlist net) → 0 < length (pins_at design.netlist net)
  gate_pins net is = some_pins (net_at design.netlist net).part (length (pins_at design.netlist net)) is
      (formed.netlist.arities net no_net (gate_within design.netlist.nets net is))

  pub flop_pins : (net : ℕ) → net < length design.netlist.nets → IsTrue (is_flop_at design.netlist net) → 0 < length (pins_at design.netlist net)
  flop_pins net below is = flop_pin (net_at design.netlist net).part (length (pins_at design.netlist net)) is (formed.netlist.arities net no_net below)

  module _ (levels : List ℕ) (ok : IsLevelling design.netlist levels) (few : (net : ℕ) → level_at levels net ≤ length design.netlist.nets) where
    pub path_most : (net ticks : ℕ) (path : List ℕ) → IsPath design net path ticks → ticks ≤ longest_to design net
    path_most _ _ _ (from_source net is) = omega (arith, longest_source design formed net is)
    path_most _ _ _ (over_gate net place ticks path is within before) =
        let rest = path_most (get_or (pins_at design.netlist net) place 0) ticks path before in
        let seen = last_least (longest_to design) (pins_at design.netlist net) (wires_at design net) place within (omega (arith, within, wires_each net is)) in
        omega (arith, rest, seen, longest_gate design formed levels ok few net is)

    path_within : (bound net : ℕ) → level_at levels net < bound → (path : List ℕ) × IsPath design net path (longest_to design net)
    path_within zero net less = absurd (omega (arith, less))
    path_within (suc bound) net less = go (is_gate_at design.netlist net) refl (λ pin lower. path_within bound pin lower)
      where
        go : (gate : Bool) → is_gate_at design.netlist net ≡ gate →
            ((pin : ℕ) → level_at levels pin < bound → (path : List ℕ) × IsPath design pin path (longest_to design pin)) →
            (path : List ℕ) × IsPath design net path (longest_to design net)
        go true is lower =
            let at = last_one (longest_to design) (pins_at design.netlist net) (wires_at design net) (gate_pins net is) (wires_each net is) in
            let rest = lower (get_or (pins_at design.netlist net) at.0 0) (omega (arith, less, above_pin design.netlist levels ok net is at.0 at.1)) in
            let same = longest_gate design formed levels ok few net is ∙ ap (λ last. last + delay_at design net) at.2 in (
              rest.0 ++ net ∷ [],
              subst (IsPath design net (rest.0 ++ net ∷ [])) (sym same)
                  (over_gate net at.0 (longest_to design (get_or (pins_at design.netlist net) at.0 0)) rest.0 is at.1 rest.1),
            )
        go false is lower = (net ∷ [], subst (IsPath design net (net ∷ [])) (sym (longest_source design formed net is)) (from_source net is))

    pub path_one : (net : ℕ) → (path : List ℕ) × IsPath design net path (longest_to design net)
    path_one net = path_within (level_at levels net + 1) net (omega arith)
