-- The nets that a word means are nets of the netlist.
use Rattle.std.proofs.Common.{◌≡◌, refl, sym, ap, subst, ◌∙◌, ◌<◌, ℕ, Bool, true, false, cond, List, [], ◌∷◌, flat_map, length, bytes_eq, codes, option_and_then, option_map, Option, None, Some, Result, Ok, Err, Vec, All, IfOk, IfSome, arith}
use Rattle.std.specs.declared.alloc.Global.{Global}
use Rattle.std.specs.declared.alloc.AllocError.{AllocError}
use Rattle.std.specs.Option.{option_map_or, option_or}
use Rattle.std.proofs.lemmas.List.Elements.{All-append, All-cons, All-head, All-nil, All-tail}
use Rattle.netlist.specs.Netlist.{IsNetlist, NetlistView, net_named}
use Rattle.netlist.proofs.CallerLemmas.{net_at-named}
use Rattle.net_words.specs.Listed.{if_any, nets_like, nets_listed, nets_of_words, other_nets}
use Rattle.net_words.specs.Meant.{RangeView, all_found, bit_names, nets_meant, nets_of_range, range_of}
use Rattle.net_words.proofs.AllFound.{All-all_found}
use Rattle.net_words.proofs.Words.{exist-like}

module _ (netlist : NetlistView) where
  abbrev IsNet : ℕ → Type 0
  IsNet net = net < length netlist.nets

  IsNet-found : (word : List ℕ) (net : ℕ) → net_named netlist word ≡ Some net → IsNet net
  IsNet-found word net is = (net_at-named netlist word net is).0

  IsNet-range : (range : RangeView) (nets : List ℕ) → nets_of_range netlist range ≡ Some nets → All IsNet nets
  IsNet-range range nets are = All-all_found (net_named netlist) IsNet IsNet-found (bit_names range) nets are

  pub IsNet-meant : (word : List ℕ) (nets : List ℕ) → nets_meant netlist word ≡ Some nets → All IsNet nets
  unfolding nets_meant
  IsNet-meant word nets are = go (net_named netlist word) refl (range_of word) are
    where
      go : (found : Option ℕ) → net_named netlist word ≡ found → (range : Option RangeView) →
          option_map_or (λ net. Some (net ∷ [])) found (option_and_then (nets_of_range netlist) range) ≡ Some nets → All IsNet nets
      go (Some net) is range e =
          let same : net ∷ [] ≡ nets = cc in rw (← same) (All-cons IsNet net [] (IsNet-found word net is) (All-nil IsNet))
      go None is (Some range) e = IsNet-range range nets e
      go None is None e = absurd (cc)

  -- so are those that are found of a range, if memory doesn't run out
  pub IsNet-found_range : (range : RangeView) (found : Result (Option (Vec ℕ Global)) AllocError) →
      IfOk found (λ nets. option_map (λ (nets : Vec ℕ Global). nets.items) nets ≡ nets_of_range netlist range) →
      IfOk found (λ nets. IfSome nets (λ (nets : Vec ℕ Global). All IsNet nets.items))
  IsNet-found_range range (Err fault) are = tt
  IsNet-found_range range (Ok None) are = tt
  IsNet-found_range range (Ok (Some nets)) are = IsNet-range range nets.items (sym are)

-- ---- words of lists

module _ (netlist : NetlistView) (formed : IsNetlist netlist) where
  abbrev AreNets : List ℕ → Type 0
  AreNets nets = All (λ net. net < length netlist.nets) nets

  AreNets-other : (word : List ℕ) → AreNets (other_nets netlist word)
  AreNets-other word = go (bytes_eq word (codes "outputs"))
    where
      go : (outputs : Bool) → AreNets (cond outputs netlist.outputs (nets_like netlist word))
      go true = formed.outputs
      go false = exist-like netlist word (length netlist.nets) (omega arith)

  AreNets-if_any : (nets found : List ℕ) → AreNets nets → if_any nets ≡ Some found → AreNets found
  AreNets-if_any [] found all is = absurd (cc)
  AreNets-if_any (net ∷ nets) found all is = let same : net ∷ nets ≡ found = cc in subst AreNets same all

  AreNets-listed : (word nets : List ℕ) → nets_listed netlist word ≡ Some nets → AreNets nets
  unfolding nets_listed
  AreNets-listed word nets are = go (nets_meant netlist word) refl are
    where
      go : (meant : Option (List ℕ)) → nets_meant netlist word ≡ meant → option_or meant (if_any (other_nets netlist word)) ≡ Some nets → AreNets nets
      go (Some found) is e = let same : found ≡ nets = cc in IsNet-meant netlist word nets (is ∙ ap (λ nets. Some nets) same)
      go None is e = AreNets-if_any (other_nets netlist word) nets (AreNets-other word) e

  AreNets-flat : (lists : List (List ℕ)) → All AreNets lists → AreNets (flat_map (λ nets. nets) lists)
  AreNets-flat [] all = All-nil (λ net. net < length netlist.nets)
  AreNets-flat (nets ∷ lists) all =
      All-append (λ net. net < length netlist.nets) nets (flat_map (λ nets. nets) lists) (All-head AreNets nets lists all) (AreNets-flat lists (All-tail AreNets nets lists all))

  -- the nets that the words of a list mean are nets of the netlist
  pub IsNet-words : (words : List (List ℕ)) (nets : List ℕ) → nets_of_words netlist words ≡ Some nets → AreNets nets
  unfolding nets_of_words
  IsNet-words words nets are = go (all_found (nets_listed netlist) words) refl are
    where
      go : (lists : Option (List (List ℕ))) → all_found (nets_listed netlist) words ≡ lists → option_map (flat_map (λ nets. nets)) lists ≡ Some nets → AreNets nets
      go None is e = absurd (cc)
      go (Some lists) is e =
          let same : flat_map (λ nets. nets) lists ≡ nets = cc in
          subst AreNets same (AreNets-flat lists (All-all_found (nets_listed netlist) AreNets AreNets-listed words lists is))
