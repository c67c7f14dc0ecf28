-- The nets that a dump shows, and their waveforms, are such as the dump asks for; the net of a name is one.
use Rattle.std.proofs.Common.{◌≡◌, ◌≢◌, ℕ, ◌+◌, ◌<◌, ◌≤◌, true, List, [], ◌∷◌, length, filter_map, map, get_or, Option, None, Some, Ok, All, AllPairs, refl, sym, ap, ◌∙◌, arith}
use Rattle.std.specs.List.{cons_option, range_with_len}
use Rattle.std.specs.Option.{ok_or, unwrap_or}
use Rattle.std.proofs.lemmas.List.Elements.{All-cons, All-head, All-nil, All-tail, All-map, Contains-get_or}
use Rattle.std.proofs.lemmas.List.FromFn.{length-range_with_len, get_or-range_with_len, get_or-map-range_with_len}
use Rattle.logic3.specs.declared.value.Value.{Value}
use Rattle.logic3.specs.declared.value.Value.TheVariants.{Unknown}
use Rattle.logic3.specs.declared.change.Change.{Change}
use Rattle.logic3.specs.Wave.{Wave, wave_of}
use Rattle.logic3.proofs.CallerLemmas.{Contains-wave_of_iff}
use Rattle.netlist.specs.Names.{seen_names}
use Rattle.netlist.specs.Netlist.{NetlistView, IsNetlist, net_named}
use Rattle.netlist.proofs.CallerLemmas.{All-distinct, AllPairs-distinct, net_at-named}
use Rattle.design.specs.Circuit.{Circuit}
use Rattle.design.specs.Design.{DesignView, IsDesign}
use Rattle.design.specs.Equations.{value_of, waves_of}
use Rattle.design.proofs.CallerLemmas.{length-circuit}
use Rattle.net_words.specs.Listed.{nets_of_words}
use Rattle.net_words.proofs.CallerLemmas.{IsNet-words}
use Rattle.vcd_dump.proofs.CallerLemmas.{few_below}
use Rattle.prepared_runs.specs.declared.view.Selection.{Selection}
use Rattle.prepared_runs.specs.declared.view.Selection.TheVariants as show
use Rattle.prepared_runs.specs.declared.fault.SimFault.TheVariants.{UnknownNet}
use Rattle.prepared_runs.specs.Source.{net_or_unknown, shown_nets}
use Rattle.prepared_runs.specs.Shown.{wave_at, waves_up_to}

all_below : (n : ℕ) → All (λ net. net < n) (range_with_len 0 n)
all_below n k d inside =
    let below : k < n = omega (arith, length-range_with_len 0 n) in
    omega (arith, get_or-range_with_len 0 n k d below)

all_apart : (n : ℕ) → AllPairs (λ (earlier later : ℕ). earlier ≢ later) (range_with_len 0 n)
all_apart n i j d less inside =
    let below : j < n = omega (arith, length-range_with_len 0 n) in
    λ same. absurd (omega (arith, get_or-range_with_len 0 n i d (omega arith), get_or-range_with_len 0 n j d below))

-- the nets that words mean, if each means some
words_below : (netlist : NetlistView) → IsNetlist netlist → (words : List (List ℕ)) →
    All (λ net. net < length netlist.nets) (unwrap_or (nets_of_words netlist words) [])
words_below netlist formed words = go (nets_of_words netlist words) refl
  where
    go : (meant : Option (List ℕ)) → nets_of_words netlist words ≡ meant → All (λ net. net < length netlist.nets) (unwrap_or meant [])
    go None is = All-nil (λ net. net < length netlist.nets)
    go (Some nets) is = IsNet-words netlist formed words nets is

nets_below : (kind : Selection) (netlist : NetlistView) → IsNetlist netlist → All (λ net. net < length netlist.nets) (shown_nets kind netlist)
nets_below show.All netlist formed = λ k d inside. all_below (length netlist.nets) k d inside
nets_below show.Outputs netlist formed = formed.outputs
nets_below (show.Named words) netlist formed =
    All-distinct (λ net. net < length netlist.nets) (unwrap_or (nets_of_words netlist (seen_names words.items)) [])
    (words_below netlist formed (seen_names words.items))

-- each shown net is a net
pub All-shown_nets : (kind : Selection) (design : DesignView) → IsDesign design → All (λ net. net < length design.circuit) (shown_nets kind design.netlist)
All-shown_nets kind design formed = rw (length-circuit design formed) (nets_below kind design.netlist formed.netlist)

-- and no net is shown twice
pub AllPairs-shown_nets : (kind : Selection) (design : DesignView) → IsDesign design →
    AllPairs (λ (earlier later : ℕ). earlier ≢ later) (shown_nets kind design.netlist)
AllPairs-shown_nets show.All design formed = λ i j d less inside. all_apart (length design.netlist.nets) i j d less inside
AllPairs-shown_nets show.Outputs design formed = formed.netlist.outputs_once
AllPairs-shown_nets (show.Named words) design formed = AllPairs-distinct (unwrap_or (nets_of_words design.netlist (seen_names words.items)) [])

-- no more nets are shown than there are
pub few-shown_nets : (kind : Selection) (design : DesignView) → IsDesign design → length (shown_nets kind design.netlist) ≤ length design.circuit
few-shown_nets kind design formed =
    few_below (length design.circuit) (shown_nets kind design.netlist) (All-shown_nets kind design formed) (AllPairs-shown_nets kind design formed)

-- before tick 0 every net shows X
pub All-before : (circuit : Circuit) (horizon : ℕ) (nets : List ℕ) → All (λ (wave : Wave). wave.before ≡ Unknown) (waves_up_to circuit horizon nets)
All-before circuit horizon nets =
    All-map (λ (wave : Wave). wave.before ≡ Unknown) (λ net. wave_of (value_of circuit net) 0 (horizon + 1)) nets (λ k d inside. refl)

ticks_within : (signal : ℕ → Value) (horizon : ℕ) → All (λ (change : Change). change.tick ≤ horizon) (wave_of signal 0 (horizon + 1)).changes
ticks_within signal horizon k d inside =
    let changes = (wave_of signal 0 (horizon + 1)).changes in
    let change : Change = get_or changes k d in
    let found = (Contains-wave_of_iff signal 0 (horizon + 1) change.tick change.value).0 (Contains-get_or changes k d inside) in
    omega (arith, found.1)

-- no change is behind the horizon
pub All-within : (circuit : Circuit) (horizon : ℕ) (nets : List ℕ) →
    All (λ (wave : Wave). All (λ (change : Change). change.tick ≤ horizon) wave.changes) (waves_up_to circuit horizon nets)
All-within circuit horizon nets =
    All-map (λ (wave : Wave). All (λ (change : Change). change.tick ≤ horizon) wave.changes) (λ net. wave_of (value_of circuit net) 0 (horizon + 1)) nets
    (λ k d inside. ticks_within (value_of circuit (get_or nets k d)) horizon)

-- ---- the waveforms of all nets, and those of the shown ones

-- where all nets are shown, their waveforms are all of them
pub waves_of-all : (kind : Selection) (design : DesignView) (horizon : ℕ) (nets : List ℕ) → IsDesign design → kind ≡ show.All →
    nets ≡ shown_nets kind design.netlist → waves_of design.circuit (horizon + 1) ≡ waves_up_to design.circuit horizon nets
unfolding waves_of
waves_of-all kind design horizon nets formed all are =
    let counted : range_with_len 0 (length design.circuit) ≡ range_with_len 0 (length design.netlist.nets) =
    ap (λ n. range_with_len 0 n) (length-circuit design formed) in
    ap (waves_up_to design.circuit horizon) (counted ∙ sym (are ∙ ap (λ k. shown_nets k design.netlist) all))

-- the waveforms at the places of nets are theirs
pub map-wave_at : (circuit : Circuit) (horizon : ℕ) (waves : List Wave) (nets : List ℕ) → waves ≡ waves_of circuit (horizon + 1) →
    All (λ net. net < length circuit) nets → map (wave_at waves) nets ≡ waves_up_to circuit horizon nets
unfolding waves_of
map-wave_at circuit horizon waves [] are below = refl
map-wave_at circuit horizon waves (net ∷ nets) are below =
    let IsNet : ℕ → Type 0 = λ n. n < length circuit in
    let here : wave_at waves net ≡ wave_of (value_of circuit net) 0 (horizon + 1) =
    ap (λ ws. wave_at ws net) are
    ∙ get_or-map-range_with_len (λ n. wave_of (value_of circuit n) 0 (horizon + 1)) 0 (length circuit) net net (record { before = Unknown; changes = [] })
    (All-head IsNet net nets below) (omega arith) in
    let rest = map-wave_at circuit horizon waves nets are (All-tail IsNet net nets below) in cc

-- ---- the net of a name

pub named : (found : Option ℕ) (net : ℕ) → ok_or found UnknownNet ≡ Ok net → found ≡ Some net
named (Some other) net is = cc
named None net is = cc

-- a net that was found is one of the circuit's
pub below_circuit : (design : DesignView) (name : List ℕ) (net : ℕ) → IsDesign design → net_or_unknown design name ≡ Ok net → net < length design.circuit
below_circuit design name net is found =
    let at = net_at-named design.netlist name net (named (net_named design.netlist name) net found) in
    let same = length-circuit design is in
    omega (arith, at.0, same)
