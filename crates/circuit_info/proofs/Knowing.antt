-- What is known at the end of the pass over gates.
use Rattle.std.proofs.Common.{◌≡◌, ℕ, zero, suc, ◌+◌, ◌==◌, ◌&&◌, ◌<◌, not, Bool, true, false, cond, IsTrue, true≢false, if◌then◌else◌, List, map, refl, sym, ap, ◌∙◌, arith, Contains, ⊎_elim}
use Rattle.std.proofs.lemmas.List.{get_or-map, length-map}
use Rattle.std.proofs.lemmas.List.Elements.{All-contains}
use Rattle.netlist.specs.Netlist.{NetlistView}
use Rattle.netlist.specs.Repeats.{times}
use Rattle.netlist.specs.Flow.{is_gate_in}
use Rattle.netlist.proofs.CallerLemmas.{contains_from_times, the_count}
use Rattle.circuit_info.specs.Levels.{is_gate_at, pins_at, level_at, level_above}
use Rattle.circuit_info.specs.Loops.{HasLevel, at_source, above_pins}
use Rattle.circuit_info.specs.Known.{is_known, KnowsLevels}
use Rattle.circuit_info.proofs.OnePass.{unknown_gate, IsLevelled, IsPassed}
use Rattle.circuit_info.proofs.Marks.{cases_zero}
use Rattle.circuit_info.proofs.Tops.{greatest_bounds}

module _ (netlist : NetlistView) (levels : List ℕ) where
  -- a gate whose level is known has one above 0
  some_level : (net : ℕ) → IsTrue (is_gate_at netlist net) → IsTrue (is_known netlist levels net) → 0 < level_at levels net
  some_level net is known = ⊎_elim
      (λ none. absurd (true≢false (sym known ∙ ap (λ n. not (is_gate_at netlist net && (n == 0))) none ∙ ap (λ gate. not (gate && true)) is)))
      (λ some. some)
      (cases_zero (level_at levels net))

  -- the pins of a gate that has its level lie lower
  lower_pin : (net pin : ℕ) → IsLevelled netlist levels net → Contains (pins_at netlist net) pin → level_at levels pin < level_at levels net
  lower_pin net pin has (k, within, at) =
      let size = length-map (pins_at netlist net) (level_at levels) in
      let most = greatest_bounds (map (level_at levels) (pins_at netlist net)) k (omega (arith, within, size)) in
      let is = get_or-map (level_at levels) (pins_at netlist net) k pin 0 within ∙ ap (level_at levels) at in
      omega (arith, most, is, has.level)

module _ (netlist : NetlistView) (order : List ℕ) (each : (net : ℕ) → times net order ≡ cond (is_gate_in netlist.nets net) 1 0)
    (levels : List ℕ) (passed : IsPassed netlist order levels) where
  known_has : (bound net : ℕ) → level_at levels net < bound → IsTrue (is_known netlist levels net) → HasLevel netlist net
  known_has zero net less known = absurd (omega (arith, less))
  known_has (suc bound) net less known = go (is_gate_at netlist net) refl (λ pin lower known. known_has bound pin lower known)
    where
      go : (gate : Bool) → is_gate_at netlist net ≡ gate →
          ((pin : ℕ) → level_at levels pin < bound → IsTrue (is_known netlist levels pin) → HasLevel netlist pin) → HasLevel netlist net
      go true is lower =
          let has = passed.known net (some_level netlist levels net is known) in
          above_pins net is (λ pin at. lower pin (omega (arith, less, lower_pin netlist levels net pin has at))
          (All-contains (λ pin. IsTrue (is_known netlist levels pin)) (pins_at netlist net) pin has.known at))
      go false is lower = at_source net is

  has_known : (net : ℕ) → HasLevel netlist net → IsTrue (is_known netlist levels net)
  has_known net has = go (is_known netlist levels net) refl
    where
      go : (known : Bool) → is_known netlist levels net ≡ known → IsTrue (is_known netlist levels net)
      go true is = is
      go false is =
          let unknown = unknown_gate netlist levels net is in
          absurd (⊎_elim
          (λ some. omega (arith, some, unknown.1))
          (λ without. without has)
          (passed.each net (contains_from_times net order (omega (arith, each net, ap the_count unknown.0)))))

  level_is : (net : ℕ) → HasLevel netlist net → level_at levels net ≡ (if is_gate_at netlist net then level_above netlist levels net else 0)
  level_is net has = go (is_gate_at netlist net) refl
    where
      go : (gate : Bool) → is_gate_at netlist net ≡ gate → level_at levels net ≡ (if gate then level_above netlist levels net else 0)
      go true is = (passed.known net (some_level netlist levels net is (has_known net has))).level
      go false is = ⊎_elim
          (λ none. none)
          (λ some. absurd (true≢false (sym (passed.known net some).gate ∙ is)))
          (cases_zero (level_at levels net))

  pub KnowsLevels-passed : KnowsLevels netlist levels
  KnowsLevels-passed = record {
    size = passed.size;
    known = λ net. (known_has (level_at levels net + 1) net (omega arith), has_known net);
    each = level_is;
  }
