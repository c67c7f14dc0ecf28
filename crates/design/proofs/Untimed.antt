-- The nets of a circuit without their timing, by what a design says of them.
use Rattle.std.proofs.Common.{◌≡◌, ℕ, ◌<◌, ◌≤◌, ◌==◌, List, length, get_or, map, option_map, Some, None, slice_get, ap, sym, ◌∙◌, arith, ◌⊎◌, inl, inr}
use Rattle.std.proofs.lemmas.List.{get_or-map, length-map}
use Rattle.std.proofs.lemmas.Option.{slice_get_within, get_or_from_slice_get, slice_get_cases}
use Rattle.netlist.specs.declared.part.Part.{Part}
use Rattle.netlist.specs.Part.{is_gate}
use Rattle.netlist.specs.Netlist.{NetView}
use Rattle.netlist.specs.Flow as netlist
use Rattle.netlist.specs.Flow.{is_gate_in}
use Rattle.netlist.proofs.CallerLemmas.{no_gate_past, no_net}
use Rattle.design.specs.Circuit.{Net, Circuit}
use Rattle.design.specs.Design.{untimed}
use Rattle.design.specs.Flow.{rank_at}
use Rattle.design.proofs.Ranks.{gate_by_rank, rank_past, rank_there}
use Rattle.design.proofs.WellFormed.{net_with}

module _ (circuit : Circuit) (number : ℕ) where
  untimed_at : (net : Net) → slice_get circuit number ≡ Some net → netlist.net_in (map untimed circuit) number ≡ untimed net
  untimed_at net at =
      get_or-map untimed circuit number net no_net (slice_get_within circuit number net at)
      ∙ ap untimed (get_or_from_slice_get circuit number net net at)

  pub gate_told : (part : Part) → option_map (λ (net : Net). net.part) (slice_get circuit number) ≡ Some part →
      is_gate_in (map untimed circuit) number ≡ is_gate part
  gate_told part part_is =
      let found = net_with (λ (net : Net). net.part) (slice_get circuit number) part part_is in
      ap (λ (net : NetView). is_gate net.part) (untimed_at found.0 found.1) ∙ ap is_gate found.2

  pub pins_told : (pins : List ℕ) → option_map (λ (net : Net). net.pins) (slice_get circuit number) ≡ Some pins →
      (netlist.net_in (map untimed circuit) number).pins ≡ pins
  pins_told pins pins_are =
      let found = net_with (λ (net : Net). net.pins) (slice_get circuit number) pins pins_are in
      ap (λ (net : NetView). net.pins) (untimed_at found.0 found.1) ∙ found.2

  -- gates have rank 1
  pub gate_rank : is_gate_in (map untimed circuit) number ≡ (rank_at circuit number == 1)
  gate_rank = go (slice_get_cases circuit number).1
    where
      go : ((net : Net) × (number < length circuit) × (slice_get circuit number ≡ Some net) × (get_or circuit number net ≡ net))
          ⊎ ((length circuit ≤ number) × (slice_get circuit number ≡ None)) → is_gate_in (map untimed circuit) number ≡ (rank_at circuit number == 1)
      go (inl (net, within, at, is)) =
          ap (λ (net : NetView). is_gate net.part) (untimed_at net at) ∙ gate_by_rank net.part ∙ ap (λ rank. rank == 1) (sym (rank_there circuit number net at))
      go (inr (past, none)) =
          no_gate_past (map untimed circuit) number (omega (arith, past, length-map circuit untimed))
          ∙ ap (λ rank. rank == 1) (sym (rank_past circuit number past))
