-- The names for words, one word after the other, and which names are those of marked nets.
use Rattle.std.proofs.Common.{◌≡◌, ◌≢◌, ℕ, ◌+◌, ◌<◌, ◌==◌, ◌||◌, Bool, true, false, List, [], ◌∷◌, ◌++◌, cond, drop, take, filter, flat_map, length, map, append_assoc, append-nil, arith, get_or, All, Option, Some, None, is_some, Bor, bytes_eq, refl, sym, ap, ◌∙◌, ◌⊎◌, inl, inr}
use Rattle.std.specs.List.{list_all, list_any, range_with_len}
use Rattle.std.proofs.lemmas.Bool.{cases_eq, eq-eqb, ne_eqb}
use Rattle.std.proofs.lemmas.List.{get_or-map, length-map, map-append}
use Rattle.std.proofs.lemmas.List.FromFn.{filter_of_map_range_with_len_more, map-range_with_len_more}
use Rattle.std.proofs.lemmas.List.Elements.{All-head, All-tail}
use Rattle.std.proofs.lemmas.List.Folds.{list_all_at, list_all_more, list_any_none}
use Rattle.netlist.specs.Netlist.{IsNetlist, NetView, NetlistView, name_at, net_named}
use Rattle.netlist.proofs.CallerLemmas.{All-from_no_position, bytes_eq-other, bytes_eq-same, names-differ, net_at-named, no_net}
use Rattle.netlist.specs.Names.{seen_names}
use Rattle.net_words.proofs.CallerLemmas.{next}
use Rattle.kernel_runs.specs.Diffs.{is_name_among}
use Rattle.prepared_runs.specs.Marked.{is_among}

-- ---- words one after the other

module _ (p : List ℕ → Bool) (names : List (Bor (List ℕ))) (at : ℕ) (d : Bor (List ℕ)) (inside : at < length names) where
  abbrev name : List ℕ
  name = (get_or names at d).now

  place : at < length (seen_names names)
  place = rw length-map inside

  here : get_or (seen_names names) at [] ≡ name
  here = get_or-map (λ (borrowed : Bor (List ℕ)). borrowed.now) names at d [] inside

  -- one more name passes
  pub all_more : list_all p (take at (seen_names names)) ≡ true → p name ≡ true → list_all p (take (at + 1) (seen_names names)) ≡ true
  all_more so_far passes = list_all_more p (seen_names names) at [] place ∙ rw (so_far, here, passes) refl

  -- one name fails
  pub all_fail : p name ≡ false → list_all p (seen_names names) ≡ false
  all_fail fails = list_all_at p (seen_names names) at [] place (ap p here ∙ fails)

-- the names for one word more
pub one_word : (names_for : List ℕ → List (List ℕ)) (words : List (Bor (List ℕ))) (at : ℕ) (d : Bor (List ℕ)) → at < length words →
    (names more : List (List ℕ)) → more ≡ names ++ names_for (get_or words at d).now →
    more ++ flat_map names_for (drop (at + 1) (seen_names words)) ≡ names ++ flat_map names_for (drop at (seen_names words))
one_word names_for words at d inside names more longer =
    ap (λ (all : List (List ℕ)). all ++ flat_map names_for (drop (at + 1) (seen_names words))) longer
    ∙ append_assoc names (names_for (get_or words at d).now) (flat_map names_for (drop (at + 1) (seen_names words)))
    ∙ ap (λ (rest : List (List ℕ)). names ++ flat_map names_for rest) (sym (next (λ (word : Bor (List ℕ)). word.now) words at d inside))

-- ---- which names are those of some nets

-- tests that answer the same for each element find one in the same lists
list_any-alike : (p q : ℕ → Bool) (xs : List ℕ) → All (λ x. p x ≡ q x) xs → list_any p xs ≡ list_any q xs
list_any-alike p q [] alike = refl
list_any-alike p q (x ∷ xs) alike =
    let Alike : ℕ → Type 0 = λ y. p y ≡ q y in
    let here : p x ≡ q x = All-head Alike x xs alike in
    let rest = list_any-alike p q xs (All-tail Alike x xs alike) in
    ap (λ b. b || list_any p xs) here ∙ ap (λ b. q x || b) rest

list_any-map : {X Y : Type 0} (p : Y → Bool) (f : X → Y) (xs : List X) → list_any p (map f xs) ≡ list_any (λ x. p (f x)) xs
list_any-map p f [] = refl
list_any-map p f (x ∷ xs) = ap (λ b. p (f x) || b) (list_any-map p f xs)

module _ (netlist : NetlistView) (formed : IsNetlist netlist) (nets : List ℕ) (exist : All (λ net. net < length netlist.nets) nets) (name : List ℕ) where
  abbrev has_name : ℕ → Bool
  has_name net = bytes_eq (name_at netlist net) name

  -- a name that no net has isn't among those of some nets
  pub is_name_among-None : net_named netlist name ≡ None → is_name_among netlist nets name ≡ false
  is_name_among-None lacks =
      list_any-map (λ own. bytes_eq own name) (name_at netlist) nets
      ∙ list_any_none has_name nets
      (λ k d inside. All-from_no_position (λ (net : NetView). bytes_eq net.name name) netlist.nets lacks (get_or nets k d) no_net (exist k d inside))

  -- one that a net has is among them if the net is
  pub is_name_among-Some : (net : ℕ) → net_named netlist name ≡ Some net → is_name_among netlist nets name ≡ is_among nets net
  is_name_among-Some net found =
      list_any-map (λ own. bytes_eq own name) (name_at netlist) nets
      ∙ list_any-alike has_name (λ other. net == other) nets
      (λ k d inside. alike (get_or nets k d) (exist k d inside) (cases_eq net (get_or nets k d)))
    where
      alike : (other : ℕ) → other < length netlist.nets → (net ≡ other) ⊎ (net ≢ other) → has_name other ≡ (net == other)
      alike other there (inl same) =
          let named : name_at netlist other ≡ name = ap (name_at netlist) (sym same) ∙ (net_at-named netlist name net found).1 in
          ap (λ n. bytes_eq n name) named ∙ bytes_eq-same name ∙ sym (eq-eqb net other same)
      alike other there (inr apart) =
          let at = net_at-named netlist name net found in
          let differ : name_at netlist other ≢ name = λ same. names-differ netlist.nets net other formed.distinct at.0 there (λ e. apart (sym e)) (same ∙ sym at.1) in
          bytes_eq-other (name_at netlist other) name differ ∙ sym (ne_eqb net other apart)

-- ---- the names of nets, one after another

-- one more name
module _ (name_of : ℕ → List ℕ) (net : ℕ) (before : List (List ℕ)) (names more : List (Bor (List ℕ))) (name : Bor (List ℕ))
    (pushed : more ≡ names ++ name ∷ []) (named : name.now ≡ name_of net) where
  seen_more : seen_names more ≡ seen_names names ++ name_of net ∷ []
  seen_more =
      ap seen_names pushed ∙ map-append (λ (borrowed : Bor (List ℕ)). borrowed.now) names (name ∷ [])
      ∙ ap (λ (n : List ℕ). seen_names names ++ n ∷ []) named

  pub names_more : seen_names names ≡ before ++ map name_of (range_with_len 0 net) → seen_names more ≡ before ++ map name_of (range_with_len 0 (net + 1))
  names_more so_far =
      seen_more ∙ ap (λ (ns : List (List ℕ)). ns ++ name_of net ∷ []) so_far ∙ append_assoc before (map name_of (range_with_len 0 net)) (name_of net ∷ [])
      ∙ ap (λ (ns : List (List ℕ)). before ++ ns) (sym (map-range_with_len_more name_of 0 net net (omega arith)))

  -- that passes
  pub chosen_more : (p : List ℕ → Bool) → p (name_of net) ≡ true → seen_names names ≡ before ++ filter p (map name_of (range_with_len 0 net)) →
      seen_names more ≡ before ++ filter p (map name_of (range_with_len 0 (net + 1)))
  chosen_more p passes so_far =
      seen_more ∙ ap (λ (ns : List (List ℕ)). ns ++ name_of net ∷ []) so_far
      ∙ append_assoc before (filter p (map name_of (range_with_len 0 net))) (name_of net ∷ [])
      ∙ ap (λ (ns : List (List ℕ)). before ++ ns)
      (ap (λ b. filter p (map name_of (range_with_len 0 net)) ++ cond b (name_of net ∷ []) []) (sym passes)
      ∙ sym (filter_of_map_range_with_len_more p name_of 0 net net (omega arith)))

-- one that doesn't
pub chosen_same : (name_of : ℕ → List ℕ) (net : ℕ) (before names : List (List ℕ)) (p : List ℕ → Bool) → p (name_of net) ≡ false →
    names ≡ before ++ filter p (map name_of (range_with_len 0 net)) → names ≡ before ++ filter p (map name_of (range_with_len 0 (net + 1)))
chosen_same name_of net before names p fails so_far =
    so_far
    ∙ ap (λ (ns : List (List ℕ)). before ++ ns)
    (sym (append-nil (filter p (map name_of (range_with_len 0 net))))
    ∙ ap (λ b. filter p (map name_of (range_with_len 0 net)) ++ cond b (name_of net ∷ []) []) (sym fails)
    ∙ sym (filter_of_map_range_with_len_more p name_of 0 net net (omega arith)))
