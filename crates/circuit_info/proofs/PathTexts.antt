-- The ends of paths, and that one text at most has the lines of the longest ones.
use Rattle.std.proofs.Common.{◌≡◌, ℕ, ◌<◌, true, IsTrue, List, [], ◌∷◌, ◌++◌, length, get_or, map, filter, All, Contains, sym, ap, ◌∙◌, subst, arith}
use Rattle.std.specs.List.{range_with_len}
use Rattle.std.proofs.lemmas.List.{length-map}
use Rattle.std.proofs.lemmas.List.Elements.{All-contains, All-filter, All-push, Contains-get_or, filter_passes}
use Rattle.std.proofs.lemmas.List.FromFn.{get_or-range_with_len, length-range_with_len}
use Rattle.netlist.specs.Netlist.{NetlistView}
use Rattle.design.specs.Design.{DesignView, IsDesign}
use Rattle.circuit_info.specs.declared.path_lines.End.{End}
use Rattle.circuit_info.specs.declared.path_lines.End.TheVariants.{Flop, Output}
use Rattle.circuit_info.specs.Counts.{IsFirstGreatest}
use Rattle.circuit_info.specs.PathText.{ends, is_flop_at, path_line, ticks_to, EndsAt, IsLongestPath, IsEndLine, no_end, latest_end, IsPathText, in_loop, by_ends}
use Rattle.circuit_info.proofs.Levelling.{no_loop}
use Rattle.circuit_info.proofs.OneText.{one_first_greatest}
use Rattle.circuit_info.proofs.PathLengths.{flop_pins, wires_fit_pins}
use Rattle.circuit_info.proofs.PathNets.{one_latest_source, one_longest_path, path_below, source_below}

-- ---- ends

All-range : (n : ℕ) → All (λ net. net < n) (range_with_len 0 n)
All-range n k d inside =
    let below : k < n = omega (arith, inside, length-range_with_len 0 n) in
    omega (arith, below, get_or-range_with_len 0 n k d below)

pub end_flop : (netlist : NetlistView) (net : ℕ) → Contains (ends netlist Flop) net → IsTrue (is_flop_at netlist net)
end_flop netlist net on =
    let all = range_with_len 0 (length netlist.nets) in
    All-contains (λ n. is_flop_at netlist n ≡ true) (filter (is_flop_at netlist) all) net (filter_passes (is_flop_at netlist) all) on

module _ (design : DesignView) (formed : IsDesign design) where
  pub ends_below : (end : End) → All (λ net. net < length design.netlist.nets) (ends design.netlist end)
  ends_below Flop = All-filter (is_flop_at design.netlist) (λ net. net < length design.netlist.nets) (range_with_len 0 (length design.netlist.nets))
      (All-range (length design.netlist.nets))
  ends_below Output = formed.netlist.outputs

  pub end_below : (end : End) (net : ℕ) → Contains (ends design.netlist end) net → net < length design.netlist.nets
  end_below end net on = All-contains (λ n. n < length design.netlist.nets) (ends design.netlist end) net (ends_below end) on

  -- all nets of the path to an end are nets
  pub path_to_end_below : (end : End) (net : ℕ) (path : List ℕ) → Contains (ends design.netlist end) net → EndsAt design end net path →
      All (λ net. net < length design.netlist.nets) path
  path_to_end_below Output net path on is = path_below design formed net path is (end_below Output net on)
  path_to_end_below Flop net path on (source, latest, (before, is, so)) =
      let below = end_below Flop net on in
      let inside = source_below design formed net source (flop_pins design formed net below (end_flop design.netlist net on)) (wires_fit_pins design formed net below) latest in
      subst (All (λ net. net < length design.netlist.nets)) (sym so)
      (All-push (λ net. net < length design.netlist.nets) before net (path_below design formed source before is inside) below)

-- the end at the place of its ticks
pub end_at : (design : DesignView) (end : End) (nets all : List ℕ) (place net : ℕ) → nets ≡ ends design.netlist end →
    all ≡ map (ticks_to design end) nets → place < length all → net ≡ get_or nets place net → Contains (ends design.netlist end) net
end_at design end nets all place net nets_so all_so inside at =
    let within : place < length nets = omega (arith, inside, ap (λ (those : List ℕ). length those) all_so, length-map nets (ticks_to design end)) in
    subst (λ (those : List ℕ). Contains those net) nets_so (subst (Contains nets) (sym at) (Contains-get_or nets place net within))

-- ---- lines

-- the line of the latest end, by other names of what it is made of
pub IsEndLine-latest : (design : DesignView) (end : End) (nets all : List ℕ) (place : ℕ) (path line : List ℕ) → nets ≡ ends design.netlist end →
    all ≡ map (ticks_to design end) nets → IsFirstGreatest all place → EndsAt design end (get_or nets place 0) path →
    line ≡ path_line design.netlist end (get_or all place 0) path → IsEndLine design end line
IsEndLine-latest design end nets all place path line nets_so all_so first at says =
    let same : all ≡ map (ticks_to design end) (ends design.netlist end) = all_so ∙ ap (map (ticks_to design end)) nets_so in
    latest_end place path (subst (λ numbers. IsFirstGreatest numbers place) same first)
    (subst (λ (nets : List ℕ). EndsAt design end (get_or nets place 0) path) nets_so at)
    (says ∙ ap (λ (numbers : List ℕ). path_line design.netlist end (get_or numbers place 0) path) same)

module _ (design : DesignView) where
  one_path : (end : End) (net : ℕ) (a b : List ℕ) → EndsAt design end net a → EndsAt design end net b → a ≡ b
  one_path Flop net a b (source, latest, (before, is, so)) (other, also, (others, are, too)) =
      let same = one_latest_source design net other source also latest in
      so ∙ ap (λ path. path ++ net ∷ []) (one_longest_path design source before others is (subst (λ s. IsLongestPath design s others) same are)) ∙ sym too
  one_path Output net a b is also = one_longest_path design net a b is also

  some_end : (end : End) (place : ℕ) → ends design.netlist end ≡ [] → IsFirstGreatest (map (ticks_to design end) (ends design.netlist end)) place → ⊥
  some_end end place none is = omega (arith, is.within, length-map (ends design.netlist end) (ticks_to design end), ap (λ (nets : List ℕ). length nets) none)

  pub one_end_line : (end : End) (a b : List ℕ) → IsEndLine design end a → IsEndLine design end b → a ≡ b
  one_end_line end a b (no_end none is) (no_end _ also) = is ∙ sym also
  one_end_line end a b (no_end none is) (latest_end place path latest at says) = absurd (some_end end place none latest)
  one_end_line end a b (latest_end place path latest at says) (no_end none is) = absurd (some_end end place none latest)
  one_end_line end a b (latest_end place path latest at says) (latest_end other others also there too) =
      let same : other ≡ place = one_first_greatest _ other place also latest in
      let line : ℕ → List ℕ → List ℕ =
      λ k path. path_line design.netlist end (get_or (map (ticks_to design end) (ends design.netlist end)) k 0) path in
      says ∙ ap (line place) (one_path end _ path others at (subst (λ k. EndsAt design end (get_or (ends design.netlist end) k 0) others) same there))
      ∙ ap (λ k. line k others) (sym same) ∙ sym too

  pub one_path_text : (a b : List ℕ) → IsPathText design a → IsPathText design b → a ≡ b
  one_path_text a b (in_loop loop is) (in_loop _ also) = is ∙ sym also
  one_path_text a b (in_loop loop is) (by_ends flops outputs flat first second says) =
      absurd (no_loop design.netlist flat.levels loop.0 flat.levelling loop.1)
  one_path_text a b (by_ends flops outputs flat first second says) (in_loop loop is) =
      absurd (no_loop design.netlist flat.levels loop.0 flat.levelling loop.1)
  one_path_text a b (by_ends flops outputs flat first second says) (by_ends others more also third fourth too) =
      says ∙ ap (λ line. line ++ outputs) (one_end_line Flop flops others first third)
      ∙ ap (λ line. others ++ line) (one_end_line Output outputs more second fourth) ∙ sym too
