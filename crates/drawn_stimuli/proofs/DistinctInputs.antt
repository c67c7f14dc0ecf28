-- The inputs of a netlist have distinct names, and the reader finds each.
use Rattle.std.proofs.Common.{◌≡◌, ◌≢◌, ℕ, suc, ◌+◌, ◌<◌, not, Bool, true, false, cond, List, [], ◌∷◌, length, map, filter, get_or, All, Option, None, Some, option_map, inl, inr, refl, sym, ap, ◌∙◌, true≢false, arith}
use Rattle.std.specs.Str.{bytes_eq}
use Rattle.std.proofs.lemmas.Bool.{cases_eq}
use Rattle.std.proofs.lemmas.List.Elements.{All-cons, All-from_get_or, All-head, All-nil, All-tail}
use Rattle.netlist.specs.Name.{IsName}
use Rattle.netlist.specs.Netlist.{IsNetlist, NetView, NetlistView, net_at, net_named}
use Rattle.netlist.proofs.CallerLemmas.{All-from_no_position, AllPairs-tail, HasDistinctNames, bytes_eq-other, bytes_eq-same, names-differ, net_at-named, no_net}
use Rattle.netlist.specs.Part.{is_input}
use Rattle.timing_text.specs.Words.{find_net}
use Rattle.drawn_stimuli.specs.Inputs.{InputDriveView, InputView, drives_named, inputs_from, inputs_of, is_drawn}

-- no two inputs have one name
abbrev pub HasOwnName : InputView → InputView → Type 0
HasOwnName input other = bytes_eq input.name other.name ≡ false

abbrev pub AreDistinct : List InputView → Type 0
AreDistinct [] = Unit {0}
AreDistinct (input ∷ inputs) = All (HasOwnName input) inputs × AreDistinct inputs

-- what holds of the nets that are inputs holds of the inputs, if it is of the name alone
inputs-All : (P : List ℕ → Type 0) (drives : List InputDriveView) (place : ℕ) (nets : List NetView) →
    All (λ (net : NetView). is_input net.part ≡ true → P net.name) nets → All (λ (input : InputView). P input.name) (inputs_from drives place nets)
inputs-All P drives place [] each = All-nil (λ (input : InputView). P input.name)
inputs-All P drives place (net ∷ nets) each =
    go (is_input net.part) refl (λ next. inputs-All P drives next nets (All-tail (λ (net : NetView). is_input net.part ≡ true → P net.name) net nets each))
  where
    next : ℕ
    next = cond (is_drawn (drives_named drives net.name)) (place + 1) place

    own : InputView
    own = record { name = net.name; drives = drives_named drives net.name; place = place }

    go : (b : Bool) → is_input net.part ≡ b →
        ((next : ℕ) → All (λ (input : InputView). P input.name) (inputs_from drives next nets)) →
        All (λ (input : InputView). P input.name) (cond (not b) (inputs_from drives place nets) (own ∷ inputs_from drives next nets))
    go true is rest =
        All-cons (λ (input : InputView). P input.name) own (inputs_from drives next nets)
        (All-head (λ (net : NetView). is_input net.part ≡ true → P net.name) net nets each is) (rest next)
    go false is rest = rest place

-- distinct nets make distinct inputs
distinct_from : (drives : List InputDriveView) (place : ℕ) (nets : List NetView) → HasDistinctNames nets → AreDistinct (inputs_from drives place nets)
distinct_from drives place [] distinct = tt
distinct_from drives place (net ∷ nets) distinct =
    go (is_input net.part) (λ next. distinct_from drives next nets (AllPairs-tail (λ (earlier later : NetView). earlier.name ≢ later.name) net nets distinct))
  where
    next : ℕ
    next = cond (is_drawn (drives_named drives net.name)) (place + 1) place

    own : InputView
    own = record { name = net.name; drives = drives_named drives net.name; place = place }

    others : All (λ (other : NetView). is_input other.part ≡ true → bytes_eq net.name other.name ≡ false) nets
    others = λ k d within _. bytes_eq-other net.name (get_or nets k d).name (distinct 0 (suc k) d (omega arith) (omega arith))

    go : (b : Bool) → ((next : ℕ) → AreDistinct (inputs_from drives next nets)) →
        AreDistinct (cond (not b) (inputs_from drives place nets) (own ∷ inputs_from drives next nets))
    go true rest = (inputs-All (λ name. bytes_eq net.name name ≡ false) drives next nets others, rest next)
    go false rest = rest place

pub distinct_inputs : (netlist : NetlistView) (drives : List InputDriveView) → IsNetlist netlist → AreDistinct (inputs_of netlist drives)
distinct_inputs netlist drives formed = distinct_from drives 0 netlist.nets formed.distinct

-- an input that the reader finds by its name
pub record IsFound (netlist : NetlistView) (name : List ℕ) : Type 0 where
  pub named : IsName name
  pub net : NetView
  pub found : find_net netlist name ≡ Some net
  pub driven : is_input net.part ≡ true

-- the net at a place is found by its name
net_named-own : (netlist : NetlistView) (place : ℕ) → HasDistinctNames netlist.nets → place < length netlist.nets →
    net_named netlist (net_at netlist place).name ≡ Some place
net_named-own netlist place distinct within = go (net_named netlist name) refl
  where
    name : List ℕ
    name = (net_at netlist place).name

    go : (found : Option ℕ) → net_named netlist name ≡ found → found ≡ Some place
    go None none =
        let missed = All-from_no_position (λ (net : NetView). bytes_eq net.name name) netlist.nets none place no_net within in
        absurd (true≢false (sym (bytes_eq-same name) ∙ missed))
    go (Some other) found =
        let at = net_at-named netlist name other found in
        elim (cases_eq other place) [
          | inl same ↦ ap Some same
          | inr apart ↦ absurd (names-differ netlist.nets place other distinct within at.0 apart at.1)
        ]

pub found_inputs : (netlist : NetlistView) (drives : List InputDriveView) → IsNetlist netlist →
    All (λ (input : InputView). IsFound netlist input.name) (inputs_of netlist drives)
found_inputs netlist drives formed =
    inputs-All (IsFound netlist) drives 0 netlist.nets
    (All-from_get_or (λ (net : NetView). is_input net.part ≡ true → IsFound netlist net.name) netlist.nets no_net
    (λ place within is. record {
      named = formed.names place no_net within;
      net = net_at netlist place;
      found = ap (option_map (net_at netlist)) (net_named-own netlist place formed.distinct within);
      driven = is;
    }))

-- there is an input for each net that is one, in order
pub names_of_inputs : (drives : List InputDriveView) (place : ℕ) (nets : List NetView) →
    map (λ (input : InputView). input.name) (inputs_from drives place nets)
    ≡ map (λ (net : NetView). net.name) (filter (λ (net : NetView). is_input net.part) nets)
names_of_inputs drives place [] = refl
names_of_inputs drives place (net ∷ nets) = go (is_input net.part) (λ next. names_of_inputs drives next nets)
  where
    next : ℕ
    next = cond (is_drawn (drives_named drives net.name)) (place + 1) place

    own : InputView
    own = record { name = net.name; drives = drives_named drives net.name; place = place }

    go : (b : Bool) →
        ((next : ℕ) → map (λ (input : InputView). input.name) (inputs_from drives next nets)
        ≡ map (λ (net : NetView). net.name) (filter (λ (net : NetView). is_input net.part) nets)) →
        map (λ (input : InputView). input.name) (cond (not b) (inputs_from drives place nets) (own ∷ inputs_from drives next nets))
        ≡ map (λ (net : NetView). net.name) (cond b (net ∷ filter (λ (net : NetView). is_input net.part) nets) (filter (λ (net : NetView). is_input net.part) nets))
    go true rest = ap (λ names. net.name ∷ names) (rest next)
    go false rest = rest place
