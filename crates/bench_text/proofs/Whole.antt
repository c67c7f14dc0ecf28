-- The netlist of names, nets and outputs that were read from lines.
use Rattle.std.proofs.Common.{◌≡◌, [], ℕ, ◌<◌, ◌≤◌, true, false, List, ◌∷◌, map, length, All, None, Ok, Err, refl, sym, ap, ◌∙◌, arith}
use Rattle.std.specs.List.{filter_map, flat_map, sum_by}
use Rattle.std.proofs.lemmas.Bool.Decides.{nat_tests}
use Rattle.std.proofs.lemmas.List.{length-map}
use Rattle.std.proofs.lemmas.List.Elements.{All-map}
use Rattle.netlist.specs.declared.netlist.Net.{Net}
use Rattle.netlist.specs.declared.part.Part.{Part}
use Rattle.bench_text.specs.declared.fault.BenchFault.TheVariants.{TooMany}
use Rattle.texts.specs.Text.{is_empty}
use Rattle.bench_text.specs.Line.{Statement, IsStatement}
use Rattle.netlist.specs.Netlist.{NetView, IsNetlist}
use Rattle.netlist.specs.Repeats.{distinct}
use Rattle.bench_text.specs.NetlistOf.{Definition, definition_in, uses_in, output_in, defined_names, repeated_fault, undefined_fault, is_over_limit, size_fault, fault_of, unless, place_of, netlist_with, netlist_of_statements}
use Rattle.netlist.specs.Names.{IsNames}
use Rattle.netlist.specs.Joined.{named_nets, netlist_view, seen_net}
use Rattle.bench_text.specs.Stages.{net_wiring, WiringView, wiring}
use Rattle.netlist.proofs.CallerLemmas.{named_nets-wired, sum_by-map}
use Rattle.bench_text.proofs.Wired.{unless-Ok}
use Rattle.bench_text.proofs.WellFormed.{HasPlace-outputs, IsNetlist-with}

pub is_empty-some : {A : Type 0} (xs : List A) → 0 < length xs → is_empty xs ≡ false
is_empty-some [] some = absurd (omega arith)
is_empty-some (x ∷ xs) some = refl

module _ (lines : List (ℕ × Statement)) (names : List (List ℕ)) (nets : List Net) (outputs : List ℕ)
    (named : Ok names ≡ unless (repeated_fault (filter_map definition_in lines)) (defined_names (filter_map definition_in lines)))
    (wired : Ok (record { nets = map seen_net nets; outputs = outputs }) ≡ unless (undefined_fault names (flat_map uses_in lines)) (wiring names lines)) where
  abbrev definitions : List Definition
  definitions = filter_map definition_in lines

  names-is : names ≡ defined_names definitions
  names-is = (unless-Ok _ _ _ named).1

  nets-is : map seen_net nets ≡ map (net_wiring names) definitions
  nets-is = ap (λ (found : WiringView). found.nets) (unless-Ok _ _ _ wired).1

  outputs-is : outputs ≡ map (place_of names) (filter_map output_in lines)
  outputs-is = ap (λ (found : WiringView). found.outputs) (unless-Ok _ _ _ wired).1

  undefined-none : undefined_fault names (flat_map uses_in lines) ≡ None
  undefined-none = (unless-Ok _ _ _ wired).0

  length-nets : length nets ≡ length definitions
  length-nets = sym (length-map nets seen_net) ∙ ap length nets-is ∙ length-map definitions (net_wiring names)

  pins-nets : sum_by (λ (net : Net). length net.pins.items) nets ≡ sum_by (λ (d : Definition). length d.pins) definitions
  pins-nets =
      sym (sum_by-map (λ (connected : Part × List ℕ). length connected.1) seen_net nets)
      ∙ ap (sum_by (λ (connected : Part × List ℕ). length connected.1)) nets-is
      ∙ sum_by-map (λ (connected : Part × List ℕ). length connected.1) (net_wiring names) definitions
      ∙ simp length-map

  -- only the limits are left to be a fault
  fault-is : fault_of definitions (flat_map uses_in lines) ≡ size_fault definitions
  fault-is =
      let undefined : undefined_fault (defined_names definitions) (flat_map uses_in lines) ≡ None =
      ap (λ names. undefined_fault names (flat_map uses_in lines)) (sym names-is) ∙ undefined-none in
      rw ((unless-Ok _ _ _ named).0, undefined) refl

  pub netlist-too_many : 0 < length nets → is_over_limit (length nets) (sum_by (λ (net : Net). length net.pins.items) nets) ≡ true →
      Err TooMany ≡ netlist_of_statements lines
  netlist-too_many some over = rw (fault-is, is_empty-some definitions (omega (arith, length-nets)), ← length-nets, ← pins-nets, over) refl

  pub length-names : length names ≡ length nets
  length-names = ap length names-is ∙ length-map definitions (λ (d : Definition). d.name) ∙ sym length-nets

  pub outputs-within : All (λ output. output < length names) outputs
  outputs-within =
      rw outputs-is (All-map (λ output. output < length names) (place_of names) (filter_map output_in lines) (HasPlace-outputs names lines undefined-none))

  view-is : netlist_view names (map seen_net nets) (distinct outputs) ≡ netlist_with definitions (filter_map output_in lines)
  view-is =
      let outs = filter_map output_in lines in
      ap (λ kept. netlist_view names (map seen_net nets) (distinct kept)) outputs-is
      ∙ ap (λ (all : List NetView). record { nets = all; outputs = distinct (map (place_of names) outs) })
      (ap (λ names. named_nets names (map seen_net nets)) names-is ∙ named_nets-wired (λ (d : Definition). d.name) (net_wiring names) definitions (map seen_net nets) nets-is)
      ∙ ap
      (λ names. record {
        nets = map (λ (d : Definition). record { name = d.name; part = d.part; pins = map (place_of names) d.pins }) definitions;
        outputs = distinct (map (place_of names) outs);
      })
      names-is

  -- within the limits
  module _ (some : 0 < length nets) (within : is_over_limit (length nets) (sum_by (λ (net : Net). length net.pins.items) nets) ≡ false) where
    pub netlist-whole : Ok (netlist_view names (map seen_net nets) (distinct outputs)) ≡ netlist_of_statements lines
    netlist-whole =
        ap Ok view-is
        ∙ rw (fault-is, is_empty-some definitions (omega (arith, length-nets)), ← length-nets, ← pins-nets, within) refl

    few : (length nets ≤ 100_000) × (sum_by (λ (net : Net). length net.pins.items) nets ≤ 1_000_000)
    few = (grind (arith, nat_tests), grind (arith, nat_tests))

    pub IsNetlist-whole : All (λ (line : ℕ × Statement). IsStatement line.1) lines → IsNames names → IsNetlist (netlist_view names (map seen_net nets) (distinct outputs))
    IsNetlist-whole proper known =
        rw view-is
        (IsNetlist-with lines proper (rw names-is at known) (rw names-is at undefined-none) (omega (arith, length-nets)) (omega (arith, length-nets, few.0))
        (omega (arith, pins-nets, few.1)))
