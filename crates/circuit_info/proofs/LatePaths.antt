-- The test for loops decides, and so does that for paths that take longer than a period.
use Rattle.std.proofs.Common.{◌≡◌, ℕ, zero, suc, ◌<◌, ◌≤◌, ◌||◌, ◌&&◌, not, nat_lt, Bool, true, false, true≢false, IsTrue, List, length, get_or, refl, sym, ap, ◌∙◌, subst, arith, ⊎_elim}
use Rattle.std.specs.List.{list_all, range_with_len}
use Rattle.std.proofs.lemmas.Bool.{and_parts, cases_Bool, cases_lt, ltb-true, lt-ltb}
use Rattle.std.proofs.lemmas.List.{get_or_default, get_or_past}
use Rattle.std.proofs.lemmas.List.Sums.{AllPass-from_list_all, list_all-from_AllPass}
use Rattle.std.proofs.lemmas.List.FromFn.{get_or-range_with_len, length-range_with_len}
use Rattle.netlist.specs.Netlist.{NetView, NetlistView}
use Rattle.netlist.specs.Part.{is_flop, is_gate}
use Rattle.netlist.proofs.CallerLemmas.{no_net}
use Rattle.design.specs.Design.{DesignView, IsDesign}
use Rattle.circuit_info.specs.Levels.{is_gate_at, level_at, pins_at, IsLevelling}
use Rattle.circuit_info.specs.Loops.{HasLevel, at_source, above_pins}
use Rattle.circuit_info.specs.Paths.{last_seen, longest_to, wires_at, HasLoop, HasNoLoop}
use Rattle.circuit_info.specs.PathText.{is_flop_at}
use Rattle.circuit_info.specs.Periods.{has_level_within, is_late, is_loop_free, period_at, IsLatePath}
use Rattle.circuit_info.proofs.Heights.{levels_where_each_has_one}
use Rattle.circuit_info.proofs.Levelling.{above_pin, gate_level, no_loop}
use Rattle.circuit_info.proofs.PathLengths.{flop_pins, last_least, last_one, path_most, path_one, wires_fit_pins}

-- ---- loops

module _ (netlist : NetlistView) where
  module _ (levels : List ℕ) (ok : IsLevelling netlist levels) where
    within_level : (gates net : ℕ) → level_at levels net ≤ gates → has_level_within netlist gates net ≡ true
    within_level zero net low = go (is_gate_at netlist net) refl
      where
        go : (gate : Bool) → is_gate_at netlist net ≡ gate → not (is_gate_at netlist net) ≡ true
        go true is = absurd (omega (arith, gate_level netlist levels ok net is, low))
        go false is = ap not is
    within_level (suc gates) net low = go (is_gate_at netlist net) refl (λ pin lower. within_level gates pin lower)
      where
        go : (gate : Bool) → is_gate_at netlist net ≡ gate → ((pin : ℕ) → level_at levels pin ≤ gates → has_level_within netlist gates pin ≡ true) →
            (not (is_gate_at netlist net) || list_all (has_level_within netlist gates) (pins_at netlist net)) ≡ true
        go true is lower =
            ap (λ gate. not gate || list_all (has_level_within netlist gates) (pins_at netlist net)) is
            ∙ list_all-from_AllPass (has_level_within netlist gates) (pins_at netlist net) (λ k d within.
            ap (has_level_within netlist gates) (get_or_default (pins_at netlist net) k d 0 within)
            ∙ lower (get_or (pins_at netlist net) k 0) (omega (arith, low, above_pin netlist levels ok net is k within)))
        go false is lower = ap (λ gate. not gate || list_all (has_level_within netlist gates) (pins_at netlist net)) is

  has_level : (gates net : ℕ) → has_level_within netlist gates net ≡ true → HasLevel netlist net
  has_level zero net passes = go (is_gate_at netlist net) refl
    where
      go : (gate : Bool) → is_gate_at netlist net ≡ gate → HasLevel netlist net
      go true is = absurd (true≢false (sym passes ∙ ap not is))
      go false is = at_source net is
  has_level (suc gates) net passes = go (is_gate_at netlist net) refl (λ pin lower. has_level gates pin lower)
    where
      go : (gate : Bool) → is_gate_at netlist net ≡ gate → ((pin : ℕ) → has_level_within netlist gates pin ≡ true → HasLevel netlist pin) → HasLevel netlist net
      go true is lower =
          let all = AllPass-from_list_all (has_level_within netlist gates) (pins_at netlist net)
          (sym (ap (λ gate. not gate || list_all (has_level_within netlist gates) (pins_at netlist net)) is) ∙ passes) in
          above_pins net is (λ pin at.
          subst (HasLevel netlist) at.2 (lower (get_or (pins_at netlist net) at.0 pin) (all at.0 pin at.1)))
      go false is lower = at_source net is

  pub loop_free : HasNoLoop netlist → is_loop_free netlist ≡ true
  loop_free flat =
      list_all-from_AllPass (has_level_within netlist (length netlist.nets)) (range_with_len 0 (length netlist.nets))
      (λ k d within. within_level flat.levels flat.levelling (length netlist.nets) _ (flat.few _))

  -- past the nets there are no gates
  past : (net : ℕ) → length netlist.nets ≤ net → is_gate_at netlist net ≡ false
  past net above = ap (λ (net : NetView). is_gate net.part) (get_or_past netlist.nets net no_net above)

  each_level : is_loop_free netlist ≡ true → (net : ℕ) → HasLevel netlist net
  each_level free net = ⊎_elim
      (λ below.
      let all = AllPass-from_list_all (has_level_within netlist (length netlist.nets)) (range_with_len 0 (length netlist.nets)) free in
      let within : net < length (range_with_len 0 (length netlist.nets)) = omega (arith, below, length-range_with_len 0 (length netlist.nets)) in
      let same : get_or (range_with_len 0 (length netlist.nets)) net 0 ≡ net = omega (arith, get_or-range_with_len 0 (length netlist.nets) net 0 below) in
      has_level (length netlist.nets) net (ap (has_level_within netlist (length netlist.nets)) (sym same) ∙ all net 0 within))
      (λ above. at_source net (past net above))
      (cases_lt net (length netlist.nets))

  pub loop_found : HasLoop netlist → is_loop_free netlist ≡ false
  loop_found found = ⊎_elim
      (λ free.
      let levels = levels_where_each_has_one netlist (each_level free) in
      absurd (no_loop netlist levels.0 found.0 levels.1 found.1))
      (λ not_free. not_free)
      (cases_Bool (is_loop_free netlist))

-- ---- paths to flip-flops

flop_within : (netlist : NetlistView) (net : ℕ) → IsTrue (is_flop_at netlist net) → net < length netlist.nets
flop_within netlist net is = ⊎_elim
    (λ below. below)
    (λ above. absurd (true≢false (sym is ∙ ap (λ (net : NetView). is_flop net.part) (get_or_past netlist.nets net no_net above))))
    (cases_lt net (length netlist.nets))

module _ (design : DesignView) (formed : IsDesign design) (flat : HasNoLoop design.netlist) (flop : ℕ) where
  abbrev pins : List ℕ
  pins = pins_at design.netlist flop

  abbrev wires : List ℕ
  wires = wires_at design flop

  pub late_some : IsTrue (is_late design flop) → (path : List ℕ) × IsLatePath design flop path
  late_some late =
      let parts = and_parts (is_flop_at design.netlist flop) (nat_lt (period_at design flop) (last_seen (longest_to design) pins wires)) late in
      let below = flop_within design.netlist flop parts.0 in
      let at = last_one (longest_to design) pins wires (flop_pins design formed flop below parts.0) (wires_fit_pins design formed flop below) in
      let path = path_one design formed flat.levels flat.levelling flat.few (get_or pins at.0 0) in (
        path.0,
        record {
          ends = parts.0;
          place = at.0;
          ticks = longest_to design (get_or pins at.0 0);
          within = at.1;
          over = path.1;
          longer = omega (arith, at.2, ltb-true (period_at design flop) (last_seen (longest_to design) pins wires) parts.1);
        },
      )

  pub late_each : (path : List ℕ) → IsLatePath design flop path → IsTrue (is_late design flop)
  late_each path long =
      let below = flop_within design.netlist flop long.ends in
      let most = path_most design formed flat.levels flat.levelling flat.few (get_or pins long.place 0) long.ticks path long.over in
      let seen = last_least (longest_to design) pins wires long.place long.within (omega (arith, long.within, wires_fit_pins design formed flop below)) in
      ap (λ flop_is. flop_is && nat_lt (period_at design flop) (last_seen (longest_to design) pins wires)) long.ends
      ∙ lt-ltb (period_at design flop) (last_seen (longest_to design) pins wires) (omega (arith, most, seen, long.longer))
