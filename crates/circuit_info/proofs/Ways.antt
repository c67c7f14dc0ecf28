-- The walk over nets that have no level, step by step.
use Rattle.std.proofs.Common.{◌≡◌, ◌≢◌, ℕ, ◌+◌, ◌-◌, ◌<◌, Bool, true, false, IsTrue, true≢false, List, [], ◌∷◌, ◌++◌, length, get_or, set, take, drop, refl, sym, ap, ◌∙◌, subst, arith, Contains, ⊎_elim, length-set}
use Rattle.std.proofs.lemmas.Bool.{cases_lt}
use Rattle.std.proofs.lemmas.List.{get_or_default, get_or-take, get_or-drop, get_or_push, get_or_append_left, length_push, length-take-le, length-drop, take-append-drop}
use Rattle.std.proofs.lemmas.List.Elements.{Contains-push, Contains-push_cases, Contains-append_left}
use Rattle.std.proofs.lemmas.List.Quantifiers.{all_pairs_push}
use Rattle.netlist.specs.Netlist.{NetlistView}
use Rattle.netlist.specs.Marks.{is_seen}
use Rattle.netlist.proofs.CallerLemmas.{gate_within, seen_now, seen_still, seen_cases}
use Rattle.circuit_info.specs.Levels.{pins_at}
use Rattle.circuit_info.specs.Loops.{HasLevel, above_pins, IsLeastWithout, LeadsOn, IsNamedLoop}
use Rattle.circuit_info.specs.Known.{is_known, KnownBefore, KnowsLevels, IsWay, IsRestFrom}
use Rattle.circuit_info.proofs.Links.{AreJoined-front, AreJoined-push}
use Rattle.circuit_info.proofs.NamedLoops.{gate_without}

module _ (netlist : NetlistView) where
  pub without_below : (net : ℕ) → (HasLevel netlist net → ⊥) → net < length netlist.nets
  without_below net without = gate_within netlist.nets net (gate_without netlist net without)

module _ (netlist : NetlistView) (levels : List ℕ) (knows : KnowsLevels netlist levels) where
  pub unknown_without : (net : ℕ) → is_known netlist levels net ≡ false → HasLevel netlist net → ⊥
  unknown_without net unknown has = true≢false (sym ((knows.known net).1 has) ∙ unknown)

  pub known_has : (net : ℕ) → IsTrue (is_known netlist levels net) → HasLevel netlist net
  known_has net known = (knows.known net).0 known

  module _ (net place : ℕ) (before : KnownBefore netlist levels (pins_at netlist net) place) where
    -- some pin of a net that has no level has none
    pub some_unknown : (HasLevel netlist net → ⊥) → place < length (pins_at netlist net)
    some_unknown without = ⊎_elim
        (λ less. less)
        (λ past. absurd (without (above_pins net (gate_without netlist net without) (λ pin at.
        subst (HasLevel netlist) (get_or_default (pins_at netlist net) at.0 0 pin at.1 ∙ at.2)
        (known_has _ (before at.0 (omega (arith, past, at.1)) at.1))))))
        (cases_lt place (length (pins_at netlist net)))

    pub LeadsOn-first : place < length (pins_at netlist net) → is_known netlist levels (get_or (pins_at netlist net) place 0) ≡ false →
        LeadsOn netlist net (get_or (pins_at netlist net) place 0)
    LeadsOn-first within unknown = record {
      place = place;
      within = within;
      at_pin = refl;
      without = unknown_without _ unknown;
      first = λ k d inside.
          let size = length-take-le place (pins_at netlist net) (omega (arith, within)) in
          let less : k < place = omega (arith, inside, size) in
          let in_pins : k < length (pins_at netlist net) = omega (arith, less, within) in
          subst (HasLevel netlist) (get_or_default (pins_at netlist net) k 0 d in_pins ∙ sym (get_or-take place (pins_at netlist net) k d less))
          (known_has _ (before k less in_pins));
    }

module _ (netlist : NetlistView) (start : ℕ) where
  module _ (passed : List Bool) (way : List ℕ) (net : ℕ) (so_far : IsWay netlist start passed way net) where
    pub way_below : net < length passed
    way_below = rw so_far.size (without_below netlist net so_far.without)

    -- on to the next net
    pub IsWay-on : (next : ℕ) → is_seen passed net ≡ false → LeadsOn netlist net next → IsWay netlist start (set passed net true) (way ++ net ∷ []) next
    IsWay-on next new lead = record {
      size = length-set passed net true ∙ so_far.size;
      without = lead.without;
      first = get_or_append_left (way ++ net ∷ []) (next ∷ []) 0 0 (omega (arith, length_push way net)) ∙ so_far.first;
      walk = AreJoined-push (LeadsOn netlist) way net next so_far.walk lead;
      once = all_pairs_push (λ (earlier later : ℕ). earlier ≢ later) way net so_far.once (λ k d within same.
          true≢false (sym ((so_far.passed_so net).1 (k, within, get_or_default way k net d within ∙ same)) ∙ new));
      passed_so = λ other. (
        (λ is. ⊎_elim
            (λ same. subst (Contains (way ++ net ∷ [])) (sym same) (Contains-push way net))
            (λ was. Contains-append_left way (net ∷ []) other ((so_far.passed_so other).0 was))
            (seen_cases passed net other is)),
        (λ on. ⊎_elim
            (λ before. seen_still passed net way_below other ((so_far.passed_so other).1 before))
            (λ same. subst (λ other. IsTrue (is_seen (set passed net true) other)) same (seen_now passed net way_below))
            (Contains-push_cases way net other on)),
      );
    }

    -- where a net comes again
    module _ (least : IsLeastWithout netlist start) (nets : List ℕ) (rest : IsRestFrom way net nets) where
      whole : take rest.place way ++ drop rest.place way ≡ way
      whole = take-append-drop rest.place way

      size : length (drop rest.place way) ≡ length way - rest.place
      size = length-drop rest.place way

      first : get_or way 0 0 ≡ start
      first = sym (get_or_append_left way (net ∷ []) 0 0 (omega (arith, rest.within))) ∙ so_far.first

      turns_to : get_or (drop rest.place way) 0 0 ≡ net
      turns_to =
          let here : rest.place + 0 ≡ rest.place = omega arith in
          get_or-drop rest.place way 0 0 ∙ ap (λ k. get_or way k 0) here ∙ rest.first

      closed : LeadsOn netlist (get_or (drop rest.place way) (length (drop rest.place way) - 1) 0) (get_or (drop rest.place way) 0 0)
      closed =
          let last : ℕ = length way - 1 in
          let ends : length way ≡ last + 1 = omega (arith, rest.within) in
          let at_end : rest.place + (length (drop rest.place way) - 1) ≡ last = omega (arith, size, ends, rest.within) in
          let lead = so_far.walk last (omega (arith, ends, length_push way net)) in
          subst (λ net. LeadsOn netlist net (get_or (drop rest.place way) 0 0))
          (get_or_append_left way (net ∷ []) 0 last (omega (arith, ends)) ∙ ap (λ k. get_or way k 0) (sym at_end) ∙ sym (get_or-drop rest.place way _ 0))
          (subst (LeadsOn netlist (get_or (way ++ net ∷ []) last 0)) (get_or_push way net 0 (last + 1) ends ∙ sym turns_to) lead)

      pub IsNamedLoop-way : IsNamedLoop netlist nets
      IsNamedLoop-way = subst (IsNamedLoop netlist) (sym rest.rest) (record {
        way = take rest.place way;
        some = omega (arith, size, rest.within);
        least = subst (IsLeastWithout netlist) (sym (ap (λ nets. get_or nets 0 0) whole ∙ first)) least;
        walk = rw whole (AreJoined-front (LeadsOn netlist) way net so_far.walk);
        once = rw whole so_far.once;
        closed = closed;
      })
