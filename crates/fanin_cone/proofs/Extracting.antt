-- The nets of some cones, picked from a netlist.
use Rattle.std.proofs.Common.{◌≡◌, ℕ, ◌<◌, List, length, map, get_or, sym, ap, ◌∙◌, subst, arith, All, Contains}
use Rattle.std.proofs.lemmas.List.{length-map}
use Rattle.std.proofs.lemmas.List.Elements.{All-weaker, All-contains, All-contains_itself, Contains-get_or}
use Rattle.netlist.specs.Netlist.{NetlistView, IsNetlist, net_at, name_at}
use Rattle.netlist.proofs.CallerLemmas.{no_net}
use Rattle.fanin_cone.specs.Cone.{start, pin, IsConeOf}
use Rattle.fanin_cone.proofs.KnownNames.{HaveNumbers, numbers_below, names_of_numbers}
use Rattle.fanin_cone.proofs.Listed.{Contains-map}
use Rattle.fanin_cone.proofs.NetNames.{pins_below}

-- the cone of the nets of these names, also where a list is written in another way
pub IsConeOf-names : (netlist : NetlistView) (names : List (List ℕ)) (numbers starts nets keep : List ℕ) → HaveNumbers netlist names numbers →
    starts ≡ numbers → keep ≡ nets → IsConeOf netlist (map (name_at netlist) starts) nets → IsConeOf netlist names keep
IsConeOf-names netlist names numbers starts nets keep known same_starts same_keep cone =
    subst (IsConeOf netlist names) (sym same_keep)
    (subst (λ names. IsConeOf netlist names nets) (ap (map (name_at netlist)) same_starts ∙ names_of_numbers netlist names numbers known) cone)

module _ (netlist : NetlistView) (names : List (List ℕ)) (numbers keep : List ℕ) (known : HaveNumbers netlist names numbers)
    (cone : IsConeOf netlist names keep) where
  -- the nets of the names are kept
  pub numbers_kept : All (Contains keep) numbers
  numbers_kept =
      All-weaker (Contains numbers) (Contains keep) (λ n at.
      (cone.nets n).1 (
        All-contains (λ n. n < length netlist.nets) numbers n (numbers_below netlist names numbers known) at,
        start (name_at netlist n) (subst (λ names. Contains names (name_at netlist n)) (names_of_numbers netlist names numbers known) (Contains-map (name_at netlist) numbers n at)),
      ))
      numbers (All-contains_itself numbers)

  pub some_kept : 0 < length names → 0 < length keep
  some_kept some =
      let more : 0 < length numbers = omega (arith, ap length (names_of_numbers netlist names numbers known), length-map numbers (name_at netlist)) in
      let at : Contains keep (get_or numbers 0 0) = numbers_kept 0 0 more in
      omega (arith, at.1)

module _ (netlist : NetlistView) (names : List (List ℕ)) (keep : List ℕ) (cone : IsConeOf netlist names keep) where
  pub kept_below : All (λ n. n < length netlist.nets) keep
  kept_below =
      All-weaker (Contains keep) (λ n. n < length netlist.nets) (λ n at. ((cone.nets n).0 at).0) keep (All-contains_itself keep)

  -- so are the nets at the pins of a net that is kept
  pub pins_kept : IsNetlist netlist → All (λ n. All (Contains keep) (net_at netlist n).pins) keep
  pins_kept ok =
      All-weaker (Contains keep) (λ n. All (Contains keep) (net_at netlist n).pins)
      (λ n at.
      let is = (cone.nets n).0 at in
      let pins = (net_at netlist n).pins in
      All-weaker (Contains pins) (Contains keep)
      (λ p there.
      (cone.nets p).1 (
        All-contains (λ p. p < length netlist.nets) pins p (pins_below netlist ok n is.0) there,
        pin (net_at netlist n) (name_at netlist p) (Contains-get_or netlist.nets n no_net is.0) is.1 (Contains-map (name_at netlist) pins p there),
      ))
      pins (All-contains_itself pins))
      keep (All-contains_itself keep)
