-- What the tests of a net say of it.
use Rattle.std.proofs.Common.{◌≡◌, ℕ, suc, ◌==◌, ◌<◌, ◌≤◌, ◌&&◌, ◌⊎◌, inl, inr, Bool, true, false, true≢false, not, List, [], ◌∷◌, length, Option, None, Some, Contains, refl, sym, ap, ◌∙◌, arith, add-one}
use Rattle.std.specs.List.{slice_get}
use Rattle.std.proofs.lemmas.Bool.Decides.{nat_tests}
use Rattle.std.specs.Option.{option_map_or}
use Rattle.logic3.specs.declared.change.Change.{Change}
use Rattle.logic3.specs.declared.value.Value.{Value}
use Rattle.logic3.specs.declared.value.Value.TheVariants as value
use Rattle.netlist.specs.declared.part.Part.{Part}
use Rattle.netlist.specs.declared.part.Part.TheVariants.{Input, Gate, Flop}
use Rattle.design.specs.Circuit.{Net, Circuit}
use Rattle.design.specs.Equations.{equation_at, value_of, value_within}
use Rattle.plain_runs.specs.declared.remark.Remark.TheVariants.{Undriven, Unknown}
use Rattle.netlist.specs.Part.{is_input}
use Rattle.plain_runs.specs.Remarks.{is_noted, is_undriven, is_unknown, net_is, noted_nets}
use Rattle.plain_runs.proofs.Listed.{Contains-listed, passes_listed}
use Rattle.plain_runs.proofs.Throughout.{is_unknown-at, is_unknown-from}

-- one more than a number isn't 0
some : (n : ℕ) → (suc n == 0) ≡ true → ⊥
some n e = grind (arith, nat_tests)

-- ---- what a noted net shows

both : (a b : Bool) → (a && b) ≡ true → (a ≡ true) × (b ≡ true)
both true b e = (refl, e)
both false b e = cc

-- an input that has no stimulus shows X
silent : (found : Option Net) (signals : ℕ → ℕ → Value) (tick : ℕ) → option_map_or is_undriven found false ≡ true →
    equation_at found signals tick ≡ value.Unknown
silent None signals tick undriven = refl
silent (Some net) signals tick undriven = go net.part refl net.stimuli refl (both (is_input net.part) (length net.stimuli == 0) undriven)
  where
    go : (part : Part) → net.part ≡ part → (stimuli : List Change) → net.stimuli ≡ stimuli → (is_input net.part ≡ true) × ((length net.stimuli == 0) ≡ true) →
        equation_at (Some net) signals tick ≡ value.Unknown
    go Input is [] are such = rw (is, are) refl
    go Input is (change ∷ changes) are such = absurd (some (length changes) (sym (ap (λ (those : List Change). length those == 0) are) ∙ such.1))
    go (Gate kind) is stimuli are such = absurd (true≢false (sym such.0 ∙ ap is_input is))
    go Flop is stimuli are such = absurd (true≢false (sym such.0 ∙ ap is_input is))

pub undriven_shows : (circuit : Circuit) (net tick : ℕ) → net_is is_undriven circuit net ≡ true → value_of circuit net tick ≡ value.Unknown
unfolding value_of
undriven_shows circuit net tick undriven = rw add-one (silent (slice_get circuit net) (value_within circuit tick) tick undriven)

module _ (circuit : Circuit) (horizon net : ℕ) where
  pub shows-undriven : (tick : ℕ) → Contains (noted_nets Undriven horizon circuit) net → value_of circuit net tick ≡ value.Unknown
  shows-undriven tick inside =
      undriven_shows circuit net tick (passes_listed (is_noted Undriven horizon circuit) (length circuit) net inside)

  pub shows-unknown : (tick : ℕ) → Contains (noted_nets Unknown horizon circuit) net → tick ≤ horizon → value_of circuit net tick ≡ value.Unknown
  shows-unknown tick inside within =
      let noted = passes_listed (is_noted Unknown horizon circuit) (length circuit) net inside in
      is_unknown-at (value_of circuit net) horizon tick
      (both (not (net_is is_undriven circuit net)) (is_unknown horizon (value_of circuit net)) noted).1 within

  -- each net that is X throughout is noted
  pub noted_so_or_so : net < length circuit → ((tick : ℕ) → tick ≤ horizon → value_of circuit net tick ≡ value.Unknown) →
      Contains (noted_nets Undriven horizon circuit) net ⊎ Contains (noted_nets Unknown horizon circuit) net
  noted_so_or_so below shows = go (net_is is_undriven circuit net) refl
    where
      go : (undriven : Bool) → net_is is_undriven circuit net ≡ undriven →
          Contains (noted_nets Undriven horizon circuit) net ⊎ Contains (noted_nets Unknown horizon circuit) net
      go true is = inl (Contains-listed (is_noted Undriven horizon circuit) (length circuit) net below is)
      go false is =
          let throughout = is_unknown-from (value_of circuit net) horizon shows in
          inr (Contains-listed (is_noted Unknown horizon circuit) (length circuit) net below (rw (is, throughout) refl))
