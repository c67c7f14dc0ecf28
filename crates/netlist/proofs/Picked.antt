-- Some nets of a well-formed netlist, by numbers that rise, make a well-formed netlist.
use Rattle.std.proofs.Common.{◌≡◌, ◌≢◌, ℕ, ◌<◌, ◌≤◌, false, IsTrue, Some, None, cond, List, [], length, get_or, map, take, drop, ◌++◌, All, AllPairs, Contains, position, bytes_eq, sym, ap, ◌∙◌, arith}
use Rattle.std.specs.List.{position_or_len, sum_by}
use Rattle.std.proofs.Math.Seq.{take-append_seam}
use Rattle.std.proofs.lemmas.List.{get_or-map, get_or-take, get_or_default, length-map, length-take-le}
use Rattle.std.proofs.lemmas.List.Elements.{All-map, All-weaker}
use Rattle.std.proofs.lemmas.List.Folds.{list_any_none}
use Rattle.logic3.specs.Rising.{Rises}
use Rattle.netlist.specs.declared.netlist.Net.{Net}
use Rattle.netlist.specs.declared.part.Part.TheVariants.{Input}
use Rattle.netlist.specs.Part.{takes_pins}
use Rattle.netlist.specs.Name.{IsName}
use Rattle.netlist.specs.Netlist.{NetView, NetlistView, IsNetlist, most_nets, net_at, pin_count, name_at}
use Rattle.netlist.specs.Pick.{place_in, picked, picked_net, picked_wiring}
use Rattle.netlist.specs.Joined.{netlist_view, seen_net}
use Rattle.netlist.proofs.Among.{list_any-place, bytes_eq-other}
use Rattle.netlist.proofs.Joined.{named_nets-wired}
use Rattle.netlist.proofs.Rising.{place_in-within, AllPairs-places, length-rising, sum_by-rising}
use Rattle.netlist.proofs.Sums.{sum_by-map}

-- the stored parts make the netlist, where the places of the outputs were written over the outputs
pub netlist_view-picked : (netlist : NetlistView) (keep outputs : List ℕ) (names : List (List ℕ)) (nets : List Net) (size : ℕ) (before places : List ℕ) →
    names ≡ map (name_at netlist) keep → map seen_net nets ≡ map (picked_wiring netlist keep) keep → size ≡ length outputs →
    places ≡ map (place_in keep) outputs →
    netlist_view names (map seen_net nets) (take size (places ++ drop (length places) before)) ≡ picked netlist keep outputs
netlist_view-picked netlist keep outputs names nets size before places names-are nets-are size-is places-are =
    let same : size ≡ length places = size-is ∙ sym (ap length places-are ∙ length-map outputs (place_in keep)) in
    let written = ap (λ n. take n (places ++ drop (length places) before)) same ∙ take-append_seam places (drop (length places) before) ∙ places-are in
    ap (λ names. netlist_view names (map seen_net nets) (take size (places ++ drop (length places) before))) names-are
    ∙ (λ i. record { nets = named_nets-wired (name_at netlist) (picked_wiring netlist keep) keep (map seen_net nets) nets-are i; outputs = written i })

module _ (netlist : NetlistView) (known : IsNetlist netlist) (keep : List ℕ) (rising : Rises keep) (below : All (λ number. number < length netlist.nets) keep) where
  pub length-keep : length keep ≤ most_nets
  length-keep = omega (arith, length-rising keep (length netlist.nets) rising below, known.net_limit)

  names-differ : (i j : ℕ) → i < j → j < length keep → name_at netlist (get_or keep i 0) ≢ name_at netlist (get_or keep j 0)
  names-differ i j before within = known.distinct (get_or keep i 0) (get_or keep j 0) _ (rising i j 0 before within) (below j 0 within)

  -- the name of a net stands nowhere among those before it
  pub position-names : (i : ℕ) → i < length keep → position (bytes_eq (name_at netlist (get_or keep i 0))) (map (name_at netlist) (take i keep)) ≡ None
  position-names i inside =
      let own = bytes_eq (name_at netlist (get_or keep i 0)) in
      let names = map (name_at netlist) (take i keep) in
      let size = length-take-le i keep (omega arith) in
      let others : All (λ name. own name ≡ false) names =
      All-map (λ name. own name ≡ false) (name_at netlist) (take i keep)
      (λ k d within.
      let before : k < i = omega arith in
      rw (get_or-take i keep k d before, get_or_default keep k d 0 (omega arith)) (bytes_eq-other _ _ (λ same. names-differ k i before inside (sym same)))) in
      ap (λ found. cond found (Some (position_or_len own names)) None) (sym (list_any-place own names) ∙ list_any_none own names others)

  pins-few : (outputs : List ℕ) → pin_count (picked netlist keep outputs) ≤ pin_count netlist
  pins-few outputs =
      let pins = λ (net : NetView). length net.pins in
      let same : pin_count (picked netlist keep outputs) ≡ sum_by (λ number. pins (net_at netlist number)) keep = sum_by-map pins (picked_net netlist keep) keep ∙ simp length-map in
      omega (arith, same, sum_by-rising pins netlist.nets (record { name = []; part = Input; pins = [] }) keep rising below)

  pub IsNetlist-picked : (outputs : List ℕ) → 0 < length keep → All (λ number. All (Contains keep) (net_at netlist number).pins) keep →
      All (Contains keep) outputs → AllPairs (λ (earlier later : ℕ). earlier ≢ later) outputs → IsNetlist (picked netlist keep outputs)
  IsNetlist-picked outputs some pins kept differ =
      let net = picked_net netlist keep in
      let size = length-map keep net in
      let Below : ℕ → Type 0 = λ number. number < length (map net keep) in
      let Inside : ℕ → Type 0 = λ number. number < length netlist.nets in
      let places = All-weaker (Contains keep) (λ number. Below (place_in keep number)) (λ number among. rw size (place_in-within keep rising number among)) in
      record {
        names = All-map (λ (n : NetView). IsName n.name) net keep (All-weaker Inside (λ number. IsName (name_at netlist number)) (λ number inside. known.names number _ inside) keep below);
        distinct = λ i j d before within same.
            let last : j < length keep = omega (arith, within, size) in
            names-differ i j before last
            (ap (λ (n : NetView). n.name) (sym (get_or-map net keep i 0 d (omega arith))) ∙ same ∙ ap (λ (n : NetView). n.name) (get_or-map net keep j 0 d last));
        arities =
            All-map (λ (n : NetView). IsTrue (takes_pins n.part (length n.pins))) net keep
            (All-weaker Inside (λ number. IsTrue (takes_pins (net number).part (length (net number).pins))) (λ number inside. rw length-map (known.arities number _ inside)) keep below);
        pins =
            All-map (λ (n : NetView). All Below n.pins) net keep
            (All-weaker (λ number. All (Contains keep) (net_at netlist number).pins) (λ number. All Below (net number).pins)
            (λ number among. All-map Below (place_in keep) (net_at netlist number).pins (places (net_at netlist number).pins among)) keep pins);
        outputs = All-map Below (place_in keep) outputs (places outputs kept);
        outputs_once = AllPairs-places keep outputs rising kept differ;
        some_net = rw size some;
        net_limit = rw size length-keep;
        pin_limit = omega (arith, pins-few outputs, known.pin_limit);
      }
