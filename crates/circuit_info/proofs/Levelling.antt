-- Levels are one way at most, and none where gates form a loop.
use Rattle.std.proofs.Common.{◌≡◌, ℕ, zero, suc, ◌+◌, ◌-◌, ◌<◌, ◌≤◌, Bool, true, false, IsTrue, if◌then◌else◌, List, length, get_or, map, refl, sym, ap, ◌∙◌, subst, arith, Contains, ◌⊎◌, inl, inr}
use Rattle.std.proofs.lemmas.Bool.{cases_lt}
use Rattle.std.proofs.lemmas.List.{ext_get_or, get_or-map, length-map, get_or_default, get_or_past}
use Rattle.netlist.specs.Netlist.{NetlistView}
use Rattle.netlist.proofs.CallerLemmas.{gate_within}
use Rattle.circuit_info.specs.Levels.{greatest, is_gate_at, pins_at, level_at, level_above, IsLevelling, IsGateLoop}
use Rattle.circuit_info.specs.Loops.{HasLevel, at_source, above_pins}
use Rattle.circuit_info.proofs.Tops.{greatest_bounds, map_alike}

module _ (netlist : NetlistView) where
  pub gate_level : (levels : List ℕ) → IsLevelling netlist levels → (net : ℕ) → IsTrue (is_gate_at netlist net) → level_at levels net ≡ level_above netlist levels net
  gate_level levels ok net is = ok.each net (gate_within netlist.nets net is) ∙ ap (λ gate. if gate then level_above netlist levels net else 0) is

  -- a gate is above each net at its pins
  pub above_pin : (levels : List ℕ) → IsLevelling netlist levels → (net : ℕ) → IsTrue (is_gate_at netlist net) →
      (k : ℕ) → k < length (pins_at netlist net) → level_at levels (get_or (pins_at netlist net) k 0) < level_at levels net
  above_pin levels ok net is k within =
      let size = length-map (pins_at netlist net) (level_at levels) in
      let most = greatest_bounds (map (level_at levels) (pins_at netlist net)) k (omega (arith, within, size)) in
      omega (arith, most, get_or-map (level_at levels) (pins_at netlist net) k 0 0 within, gate_level levels ok net is)

  pub above : (levels : List ℕ) → IsLevelling netlist levels → (net pin : ℕ) → IsTrue (is_gate_at netlist net) → Contains (pins_at netlist net) pin →
      level_at levels pin < level_at levels net
  above levels ok net pin is (k, within, at) =
      subst (λ pin. level_at levels pin < level_at levels net) (get_or_default (pins_at netlist net) k 0 pin within ∙ at) (above_pin levels ok net is k within)

  module _ (levels nets : List ℕ) (ok : IsLevelling netlist levels) (gates : IsGateLoop netlist nets) where
    gate_in : (place : ℕ) → place < length nets → IsTrue (is_gate_at netlist (get_or nets place 0))
    gate_in place within = gates.gates place 0 within

    -- levels fall along a loop
    falls : (place : ℕ) → place < length nets → level_at levels (get_or nets place 0) + place ≤ level_at levels (get_or nets 0 0)
    falls zero within = omega arith
    falls (suc place) within =
        let next : suc place ≡ place + 1 = omega arith in
        let less = above levels ok (get_or nets place 0) (get_or nets (place + 1) 0) (gate_in place (omega (arith, within))) (gates.linked place (omega (arith, within))) in
        let same = ap (λ k. level_at levels (get_or nets k 0)) next in
        omega (arith, falls place (omega (arith, within)), less, same)

    pub no_loop : ⊥
    no_loop =
        let last : length nets - 1 < length nets = omega (arith, gates.some) in
        let less = above levels ok (get_or nets (length nets - 1) 0) (get_or nets 0 0) (gate_in (length nets - 1) last) gates.closed in
        omega (arith, less, falls (length nets - 1) last)

  module _ (levels : List ℕ) (ok : IsLevelling netlist levels) where
    level_below : (bound net : ℕ) → level_at levels net < bound → HasLevel netlist net
    level_below zero net less = absurd (omega (arith, less))
    level_below (suc bound) net less = go (is_gate_at netlist net) refl (λ pin lower. level_below bound pin lower)
      where
        go : (gate : Bool) → is_gate_at netlist net ≡ gate → ((pin : ℕ) → level_at levels pin < bound → HasLevel netlist pin) → HasLevel netlist net
        go true is lower = above_pins net is (λ pin at. lower pin (omega (arith, less, above levels ok net pin is at)))
        go false is lower = at_source net is

    pub each_has_level : (net : ℕ) → HasLevel netlist net
    each_has_level net = level_below (level_at levels net + 1) net (omega arith)

  module _ (levels others : List ℕ) (ok : IsLevelling netlist levels) (also : IsLevelling netlist others) where
    same_below : (bound net : ℕ) → net < length netlist.nets → level_at levels net < bound → level_at levels net ≡ level_at others net
    same_below zero net below less = absurd (omega (arith, less))
    same_below (suc bound) net below less = go (is_gate_at netlist net) refl (λ pin inside lower. same_below bound pin inside lower)
      where
        go : (gate : Bool) → is_gate_at netlist net ≡ gate →
            ((pin : ℕ) → pin < length netlist.nets → level_at levels pin < bound → level_at levels pin ≡ level_at others pin) → level_at levels net ≡ level_at others net
        go true is lower =
            gate_level levels ok net is
            ∙ ap (λ numbers. greatest numbers + 1) (map_alike (level_at levels) (level_at others) (pins_at netlist net)
            (λ k within. alike k within (cases_lt (get_or (pins_at netlist net) k 0) (length netlist.nets))))
            ∙ sym (gate_level others also net is)
          where
            alike : (k : ℕ) → k < length (pins_at netlist net) →
                (get_or (pins_at netlist net) k 0 < length netlist.nets) ⊎ (length netlist.nets ≤ get_or (pins_at netlist net) k 0) →
                level_at levels (get_or (pins_at netlist net) k 0) ≡ level_at others (get_or (pins_at netlist net) k 0)
            alike k within (inl inside) = lower _ inside (omega (arith, less, above_pin levels ok net is k within))
            alike k within (inr past) =
                get_or_past levels _ 0 (omega (arith, past, ok.size)) ∙ sym (get_or_past others _ 0 (omega (arith, past, also.size)))
        go false is lower = none levels ok ∙ sym (none others also)
          where
            none : (levels : List ℕ) → IsLevelling netlist levels → level_at levels net ≡ 0
            none levels ok = ok.each net below ∙ ap (λ gate. if gate then level_above netlist levels net else 0) is

    pub one_levelling : levels ≡ others
    one_levelling = ext_get_or 0 levels others (ok.size ∙ sym also.size) (λ net within.
        same_below (level_at levels net + 1) net (omega (arith, within, ok.size)) (omega arith))
