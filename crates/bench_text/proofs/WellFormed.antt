-- Lines without a fault make a well-formed netlist.
use Rattle.std.proofs.Common.{◌≡◌, [], ◌≢◌, ℕ, ◌<◌, ◌≤◌, not, Bool, true, false, cond, ltb, IsTrue, List, ◌∷◌, map, length, All, AllPairs, Option, Some, None, option_map, bytes_eq, refl, sym, ◌∙◌, arith}
use Rattle.std.specs.List.{filter_map, flat_map, sum_by}
use Rattle.std.specs.Option.{option_or}
use Rattle.std.proofs.lemmas.Bool.Decides.{nat_tests}
use Rattle.std.proofs.lemmas.List.{get_or-map, length-map}
use Rattle.std.proofs.lemmas.Simd.{map-map}
use Rattle.std.proofs.lemmas.List.Elements.{All-nil, All-cons, All-head, All-tail, All-map, All-weaker}
use Rattle.bench_text.specs.declared.fault.BenchFault.TheVariants.{Undefined}
use Rattle.netlist.specs.Part.{takes_pins}
use Rattle.bench_text.specs.Line.{Statement, defines, names_output, IsStatement}
use Rattle.netlist.specs.Netlist.{NetView, IsNetlist}
use Rattle.bench_text.specs.NetlistOf.{Definition, definition_in, uses_in, output_in, defined_names, undefined_fault, place_of, netlist_with}
use Rattle.netlist.specs.Name.{IsName}
use Rattle.netlist.specs.Names.{IsNames}
use Rattle.netlist.proofs.CallerLemmas.{list_any-place, sum_by-map, All-distinct, AllPairs-distinct}
use Rattle.bench_text.proofs.Wired.{undefined_fault-append}

pub both_None : {A : Type 0} (first second : Option A) → option_or first second ≡ None → (first ≡ None) × (second ≡ None)
both_None (Some x) second e = cc
both_None None second e = (refl, e)

module _ (names : List (List ℕ)) where
  abbrev pub HasPlace : List ℕ → Type 0
  HasPlace name = place_of names name < length names

  -- a use that is no fault
  HasPlace-from_use : (line : ℕ) (name : List ℕ) → undefined_fault names ((line, name) ∷ []) ≡ None → HasPlace name
  HasPlace-from_use line name none =
      go (ltb (place_of names name) (length names)) refl (rw (list_any-place (bytes_eq name) names) at none)
    where
      go : (b : Bool) → ltb (place_of names name) (length names) ≡ b →
          option_map (λ (used : ℕ × List ℕ). Undefined used.0) (cond (not b) (Some (line, name)) None) ≡ None → HasPlace name
      go true e h = grind (arith, nat_tests)
      go false e h = cc

  HasPlace-from_pins : (line : ℕ) (pins : List (List ℕ)) → undefined_fault names (map (λ pin. (line, pin)) pins) ≡ None → All HasPlace pins
  HasPlace-from_pins line [] none = All-nil HasPlace
  HasPlace-from_pins line (pin ∷ pins) none =
      let parts = both_None _ _ (sym (undefined_fault-append names ((line, pin) ∷ []) (map (λ pin. (line, pin)) pins)) ∙ none) in
      All-cons HasPlace pin pins (HasPlace-from_use line pin parts.0) (HasPlace-from_pins line pins parts.1)

  -- every pin and every output
  pub HasPlace-pins : (lines : List (ℕ × Statement)) → undefined_fault names (flat_map uses_in lines) ≡ None →
      All (λ (d : Definition). All HasPlace d.pins) (filter_map definition_in lines)
  HasPlace-pins [] none = All-nil (λ (d : Definition). All HasPlace d.pins)
  HasPlace-pins ((line, defines name part pins) ∷ lines) none =
      let parts = both_None _ _ (sym (undefined_fault-append names (map (λ pin. (line, pin)) pins) (flat_map uses_in lines)) ∙ none) in
      All-cons (λ (d : Definition). All HasPlace d.pins) (record { line = line; name = name; part = part; pins = pins }) (filter_map definition_in lines)
      (HasPlace-from_pins line pins parts.0) (HasPlace-pins lines parts.1)
  HasPlace-pins ((line, names_output name) ∷ lines) none =
      HasPlace-pins lines (both_None _ _ (sym (undefined_fault-append names ((line, name) ∷ []) (flat_map uses_in lines)) ∙ none)).1

  pub HasPlace-outputs : (lines : List (ℕ × Statement)) → undefined_fault names (flat_map uses_in lines) ≡ None →
      All HasPlace (filter_map output_in lines)
  HasPlace-outputs [] none = All-nil HasPlace
  HasPlace-outputs ((line, defines name part pins) ∷ lines) none =
      HasPlace-outputs lines (both_None _ _ (sym (undefined_fault-append names (map (λ pin. (line, pin)) pins) (flat_map uses_in lines)) ∙ none)).1
  HasPlace-outputs ((line, names_output name) ∷ lines) none =
      let parts = both_None _ _ (sym (undefined_fault-append names ((line, name) ∷ []) (flat_map uses_in lines)) ∙ none) in
      All-cons HasPlace name (filter_map output_in lines) (HasPlace-from_use line name parts.0) (HasPlace-outputs lines parts.1)

-- a definition by a line that says it well
abbrev IsDefinition : Definition → Type 0
IsDefinition d = IsName d.name × IsTrue (takes_pins d.part (length d.pins))

IsDefinition-lines : (lines : List (ℕ × Statement)) → All (λ (line : ℕ × Statement). IsStatement line.1) lines →
    All IsDefinition (filter_map definition_in lines)
IsDefinition-lines [] proper = All-nil IsDefinition
IsDefinition-lines ((line, defines name part pins) ∷ lines) proper =
    let IsLine = λ (line : ℕ × Statement). IsStatement line.1 in
    let this = All-head IsLine (line, defines name part pins) lines proper in
    All-cons IsDefinition (record { line = line; name = name; part = part; pins = pins }) (filter_map definition_in lines)
    (this.0, this.2) (IsDefinition-lines lines (All-tail IsLine (line, defines name part pins) lines proper))
IsDefinition-lines ((line, names_output name) ∷ lines) proper =
    IsDefinition-lines lines (All-tail (λ (line : ℕ × Statement). IsStatement line.1) (line, names_output name) lines proper)

AllPairs-from_map : {X Y : Type 0} (R : Y → Y → Type 0) (f : X → Y) (xs : List X) → AllPairs R (map f xs) → AllPairs (λ a b. R (f a) (f b)) xs
AllPairs-from_map R f xs pairs i j d before within =
    let size = length-map xs f in
    let first : i < length xs = omega arith in
    let last : j < length (map f xs) = omega arith in
    rw (← get_or-map f xs i d (f d) first, ← get_or-map f xs j d (f d) within) (pairs i j (f d) before last)

module _ (lines : List (ℕ × Statement)) where
  abbrev definitions : List Definition
  definitions = filter_map definition_in lines

  abbrev names : List (List ℕ)
  names = defined_names definitions

  abbrev net : Definition → NetView
  net d = record { name = d.name; part = d.part; pins = map (place_of names) d.pins }

  pub IsNetlist-with : All (λ (line : ℕ × Statement). IsStatement line.1) lines → IsNames names → undefined_fault names (flat_map uses_in lines) ≡ None →
      0 < length definitions → length definitions ≤ 100_000 → sum_by (λ (d : Definition). length d.pins) definitions ≤ 1_000_000 →
      IsNetlist (netlist_with definitions (filter_map output_in lines))
  IsNetlist-with proper known none some few_nets few_pins =
      let good = IsDefinition-lines lines proper in
      let same = length-map definitions net in
      let bound : length names ≡ length (map net definitions) = length-map definitions (λ (d : Definition). d.name) ∙ sym same in
      let Below : ℕ → Type 0 = λ n. n < length (map net definitions) in
      record {
        names = All-map (λ (n : NetView). IsName n.name) net definitions (All-weaker IsDefinition (λ d. IsName d.name) (λ d h. h.0) definitions good);
        distinct = AllPairs-from_map (λ (earlier later : List ℕ). earlier ≢ later) (λ (n : NetView). n.name) (map net definitions) (rw map-map known.distinct);
        arities =
            All-map (λ (n : NetView). IsTrue (takes_pins n.part (length n.pins))) net definitions
            (All-weaker IsDefinition (λ d. IsTrue (takes_pins d.part (length (map (place_of names) d.pins)))) (λ d h. rw length-map h.1) definitions good);
        pins =
            All-map (λ (n : NetView). All Below n.pins) net definitions
            (All-weaker (λ (d : Definition). All (HasPlace names) d.pins) (λ d. All Below (map (place_of names) d.pins))
            (λ d h. All-map Below (place_of names) d.pins (rw bound at h)) definitions (HasPlace-pins names lines none));
        outputs =
            All-distinct Below (map (place_of names) (filter_map output_in lines))
            (All-map Below (place_of names) (filter_map output_in lines) (rw bound at (HasPlace-outputs names lines none)));
        outputs_once = AllPairs-distinct (map (place_of names) (filter_map output_in lines));
        some_net = rw same some;
        net_limit = rw same few_nets;
        pin_limit = rw (sum_by-map (λ (n : NetView). length n.pins) net definitions) (simp length-map few_pins);
      }
