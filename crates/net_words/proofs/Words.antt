-- The nets of words, one word after the other.
use Rattle.std.proofs.Common.{◌≡◌, refl, sym, ap, ◌∙◌, ℕ, ◌+◌, ◌<◌, ◌≤◌, List, [], ◌∷◌, ◌++◌, append_assoc, append-nil, cond, drop, filter, flat_map, get_or, length, option_and_then, option_map, Option, None, Some, arith, All, Bool, true, false}
use denote.Ref.{Bor}
use Rattle.std.specs.List.{range_with_len}
use Rattle.std.specs.Option.{option_map_or}
use Rattle.std.proofs.lemmas.List.{map-id}
use Rattle.std.proofs.lemmas.List.FromFn.{length-map-range_with_len, length-range_with_len, get_or-range_with_len, map-range_with_len_more}
use Rattle.std.proofs.lemmas.List.Elements.{All-filter, filter-append}
use Rattle.netlist.specs.Names.{seen_names}
use Rattle.netlist.specs.Netlist.{NetlistView, name_at, net_named}
use Rattle.net_words.specs.Meant.{RangeView, all_found, bit_name, bit_names, nets_meant, nets_of_range, range_of, steps_of}
use Rattle.net_words.specs.Listed.{nets_listed, nets_of_words}
use Rattle.net_words.specs.Pattern.{has_pattern}
use Rattle.net_words.proofs.AllFound.{next}

module _ (netlist : NetlistView) where
  -- these nets, and after them those of words
  abbrev pub with_rest : List ℕ → List (List ℕ) → Option (List ℕ)
  with_rest nets words = option_map (λ more. nets ++ more) (nets_of_words netlist words)

  regrouped : (nets more : List ℕ) (rest : Option (List (List ℕ))) →
      option_map (λ others. (nets ++ more) ++ others) (option_map (flat_map (λ nets. nets)) rest)
      ≡ option_map (λ others. nets ++ others) (option_map (flat_map (λ nets. nets)) (option_map (λ lists. more ∷ lists) rest))
  regrouped nets more None = refl
  regrouped nets more (Some lists) = ap (λ all. Some all) (append_assoc nets more (flat_map (λ nets. nets) lists))

  with_rest-more : (nets longer more : List ℕ) (word : List ℕ) (words : List (List ℕ)) → nets_listed netlist word ≡ Some more → longer ≡ nets ++ more →
      with_rest longer words ≡ with_rest nets (word ∷ words)
  unfolding nets_of_words
  with_rest-more nets longer more word words is same = rw (same, is) (regrouped nets more (all_found (nets_listed netlist) words))

  with_rest-none : (nets : List ℕ) (word : List ℕ) (words : List (List ℕ)) → nets_listed netlist word ≡ None → with_rest nets (word ∷ words) ≡ None
  unfolding nets_of_words
  with_rest-none nets word words none = rw none refl

  pub with_rest-end : (nets : List ℕ) → with_rest nets [] ≡ Some nets
  unfolding nets_of_words
  with_rest-end nets = ap (λ all. Some all) (append-nil nets)

  pub with_rest-begin : (words : List (List ℕ)) → with_rest [] words ≡ nets_of_words netlist words
  with_rest-begin words = go (nets_of_words netlist words)
    where
      go : (nets : Option (List ℕ)) → option_map (λ more. [] ++ more) nets ≡ nets
      go None = refl
      go (Some nets) = refl

  -- the same at a place among words that code borrows
  module _ (words : List (Bor (List ℕ))) (place : ℕ) (d : Bor (List ℕ)) (inside : place < length words) (nets : List ℕ) where
    abbrev from_on : ℕ → List (List ℕ)
    from_on at = drop at (seen_names words)

    here : from_on place ≡ (get_or words place d).now ∷ from_on (place + 1)
    here = next (λ (name : Bor (List ℕ)). name.now) words place d inside

    pub one_word : (longer more : List ℕ) → nets_listed netlist (get_or words place d).now ≡ Some more → longer ≡ nets ++ more →
        with_rest longer (from_on (place + 1)) ≡ with_rest nets (from_on place)
    one_word longer more is same = with_rest-more nets longer more _ (from_on (place + 1)) is same ∙ ap (with_rest nets) (sym here)

    pub no_word : nets_listed netlist (get_or words place d).now ≡ None → with_rest nets (from_on place) ≡ None
    no_word none = ap (with_rest nets) here ∙ with_rest-none nets _ (from_on (place + 1)) none

-- ---- nets that pass, one after the other

module _ (p : ℕ → Bool) (n : ℕ) (list : List ℕ) where
  range-more : range_with_len 0 (n + 1) ≡ range_with_len 0 n ++ n ∷ []
  range-more = sym (map-id (range_with_len 0 (n + 1))) ∙ map-range_with_len_more (λ k. k) 0 n n (omega arith) ∙ ap (λ l. l ++ n ∷ []) (map-id (range_with_len 0 n))

  more : filter p (range_with_len 0 (n + 1)) ≡ filter p (range_with_len 0 n) ++ cond (p n) (n ∷ []) []
  more = ap (filter p) range-more ∙ filter-append p (range_with_len 0 n) (n ∷ [])

  pub like_more : p n ≡ true → list ≡ filter p (range_with_len 0 n) → list ++ n ∷ [] ≡ filter p (range_with_len 0 (n + 1))
  like_more passes so_far = ap (λ l. l ++ n ∷ []) so_far ∙ sym (more ∙ ap (λ test. filter p (range_with_len 0 n) ++ cond test (n ∷ []) []) passes)

  pub like_same : p n ≡ false → list ≡ filter p (range_with_len 0 n) → list ≡ filter p (range_with_len 0 (n + 1))
  like_same fails so_far =
      so_far ∙ sym (more ∙ ap (λ test. filter p (range_with_len 0 n) ++ cond test (n ∷ []) []) fails ∙ append-nil (filter p (range_with_len 0 n)))

module _ (netlist : NetlistView) where
  -- those whose names have a pattern are nets
  pub exist-like : (pattern : List ℕ) (n : ℕ) → n ≤ length netlist.nets →
      All (λ net. net < length netlist.nets) (filter (λ net. has_pattern pattern (name_at netlist net)) (range_with_len 0 n))
  exist-like pattern n few =
      All-filter (λ net. has_pattern pattern (name_at netlist net)) (λ net. net < length netlist.nets) (range_with_len 0 n) below
    where
      below : All (λ net. net < length netlist.nets) (range_with_len 0 n)
      below k d inside =
          let less : k < n = omega (arith, length-range_with_len 0 n) in
          omega (arith, few, get_or-range_with_len 0 n k d less)

  -- ---- a word that means nets means at least one

  some-found : (names : List (List ℕ)) (nets : List ℕ) → 0 < length names → all_found (net_named netlist) names ≡ Some nets → 0 < length nets
  some-found [] nets some are = absurd (omega (arith, some))
  some-found (name ∷ names) nets some are = go (net_named netlist name) (all_found (net_named netlist) names) are
    where
      go : (found : Option ℕ) (rest : Option (List ℕ)) → option_and_then (λ net. option_map (λ more. net ∷ more) rest) found ≡ Some nets → 0 < length nets
      go None rest e = absurd (cc)
      go (Some net) None e = absurd (cc)
      go (Some net) (Some more) e = let same : net ∷ more ≡ nets = cc in rw (← same) (omega arith)

  some-range : (range : RangeView) (nets : List ℕ) → nets_of_range netlist range ≡ Some nets → 0 < length nets
  some-range range nets are =
      some-found (bit_names range) nets (omega (arith, length-map-range_with_len (bit_name range) 0 (steps_of range + 1))) are

  pub some-meant : (word : List ℕ) (nets : List ℕ) → nets_meant netlist word ≡ Some nets → 0 < length nets
  unfolding nets_meant
  some-meant word nets are = go (net_named netlist word) (range_of word) are
    where
      go : (found : Option ℕ) (range : Option RangeView) →
          option_map_or (λ net. Some (net ∷ [])) found (option_and_then (nets_of_range netlist) range) ≡ Some nets → 0 < length nets
      go (Some net) range e = let same : net ∷ [] ≡ nets = cc in rw (← same) (omega arith)
      go None (Some range) e = some-range range nets e
      go None None e = absurd (cc)
