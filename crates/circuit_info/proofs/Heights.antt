-- Levels, where each net has one.
use Rattle.std.proofs.Common.{◌≡◌, ℕ, zero, suc, ◌+◌, ◌<◌, ◌≤◌, false, if◌then◌else◌, List, [], ◌∷◌, ◌++◌, length, get_or, map, refl, sym, ap, ◌∙◌, subst, arith, Contains, ⊎_elim}
use Rattle.std.proofs.lemmas.Bool.{cases_lt}
use Rattle.std.proofs.lemmas.List.{get_or-map, get_or_append_left, get_or_default, get_or_past, get_or_push, length-map, length_push}
use Rattle.std.proofs.lemmas.List.Elements.{Contains-get_or}
use Rattle.netlist.specs.Netlist.{NetlistView}
use Rattle.netlist.proofs.CallerLemmas.{no_net}
use Rattle.netlist.specs.Part.{is_gate}
use Rattle.circuit_info.specs.Levels.{greatest, is_gate_at, pins_at, level_at, IsLevelling}
use Rattle.circuit_info.specs.Loops.{HasLevel, at_source, above_pins}
use Rattle.circuit_info.proofs.Tops.{map_alike}

-- the numbers below a bound
abbrev places : ℕ → List ℕ
places zero = []
places (suc n) = places n ++ n ∷ []

length-places : (n : ℕ) → length (places n) ≡ n
length-places zero = refl
length-places (suc n) = omega (arith, length_push (places n) n, length-places n)

get_or-places : (n k : ℕ) → k < n → get_or (places n) k 0 ≡ k
get_or-places zero k below = absurd (omega (arith, below))
get_or-places (suc n) k below = ⊎_elim
    (λ less. get_or_append_left (places n) (n ∷ []) 0 k (omega (arith, less, length-places n)) ∙ get_or-places n k less)
    (λ past.
    let last : n ≡ k = omega (arith, past, below) in
    get_or_push (places n) n 0 k (length-places n ∙ last) ∙ last)
    (cases_lt k n)

module _ (netlist : NetlistView) where
  -- the level of a net, as far as it shows so many gates deep
  abbrev level_within : ℕ → ℕ → ℕ
  level_within zero net = 0
  level_within (suc depth) net = if is_gate_at netlist net then greatest (map (level_within depth) (pins_at netlist net)) + 1 else 0

  -- from this depth on it stays
  abbrev Settles : ℕ → ℕ → Type 0
  Settles net bound = (depth : ℕ) → bound ≤ depth → level_within (suc depth) net ≡ level_within depth net

  settles_both : (first : ℕ) (nets : List ℕ) (net a b : ℕ) → Settles first a → ((net : ℕ) → Contains nets net → Settles net b) →
      Contains (first ∷ nets) net → Settles net (a + b)
  settles_both first nets net a b here rest (zero, within, at) depth above =
      subst (λ net. level_within (suc depth) net ≡ level_within depth net) at (here depth (omega (arith, above)))
  settles_both first nets net a b here rest (suc k, within, at) depth above = rest net (k, omega (arith, within), at) depth (omega (arith, above))

  -- a depth from which on those of all of some nets stay
  settle_all : (nets : List ℕ) → ((net : ℕ) → Contains nets net → (bound : ℕ) × Settles net bound) →
      (bound : ℕ) × ((net : ℕ) → Contains nets net → Settles net bound)
  settle_all [] each = (0, λ net (on : Contains [] net). absurd (omega (arith, on.1)))
  settle_all (first ∷ nets) each =
      let here = each first (0, omega arith, refl) in
      let rest = settle_all nets (λ net on. each net (suc on.0, omega (arith, on.1), on.2)) in
      (here.0 + rest.0, λ net on. settles_both first nets net here.0 rest.0 here.1 rest.1 on)

  source_zero : (net depth : ℕ) → is_gate_at netlist net ≡ false → level_within depth net ≡ 0
  source_zero net zero is = refl
  source_zero net (suc depth) is = ap (λ gate. if gate then greatest (map (level_within depth) (pins_at netlist net)) + 1 else 0) is

  pins_settle : (net bound : ℕ) → ((pin : ℕ) → Contains (pins_at netlist net) pin → Settles pin bound) → Settles net (suc bound)
  pins_settle net bound all zero above = absurd (omega (arith, above))
  pins_settle net bound all (suc depth) above =
      ap (λ numbers. if is_gate_at netlist net then greatest numbers + 1 else 0)
      (map_alike (level_within (suc depth)) (level_within depth) (pins_at netlist net)
      (λ k within. all _ (Contains-get_or (pins_at netlist net) k 0 within) depth (omega (arith, above))))

  settles : (net : ℕ) → HasLevel netlist net → (bound : ℕ) × Settles net bound
  settles _ (at_source net is) = (0, λ depth above. source_zero net (suc depth) is ∙ sym (source_zero net depth is))
  settles _ (above_pins net is pins) =
      let all = settle_all (pins_at netlist net) (λ pin at. settles pin (pins pin at)) in
      (suc all.0, pins_settle net all.0 all.1)

  module _ (has : (net : ℕ) → HasLevel netlist net) where
    abbrev nets : List ℕ
    nets = places (length netlist.nets)

    deep : (bound : ℕ) × ((net : ℕ) → Contains nets net → Settles net bound)
    deep = settle_all nets (λ net on. settles net (has net))

    abbrev levels : List ℕ
    levels = map (level_within deep.0) nets

    level_is : (net : ℕ) → level_at levels net ≡ level_within deep.0 net
    level_is net = ⊎_elim
        (λ less.
        get_or-map (level_within deep.0) nets net 0 0 (omega (arith, less, length-places (length netlist.nets)))
        ∙ ap (level_within deep.0) (get_or-places (length netlist.nets) net less))
        (λ past.
        get_or_past levels net 0 (omega (arith, past, length-map nets (level_within deep.0), length-places (length netlist.nets)))
        ∙ sym (source_zero net deep.0 (ap (λ net. is_gate net.part) (get_or_past netlist.nets net no_net past))))
        (cases_lt net (length netlist.nets))

    at_place : (net : ℕ) → net < length netlist.nets → Contains nets net
    at_place net below =
        let within : net < length nets = omega (arith, below, length-places (length netlist.nets)) in
        (net, within, get_or_default nets net net 0 within ∙ get_or-places (length netlist.nets) net below)

    pub levels_where_each_has_one : (levels : List ℕ) × IsLevelling netlist levels
    levels_where_each_has_one = (
      levels,
      record {
        size = length-map nets (level_within deep.0) ∙ length-places (length netlist.nets);
        each = λ net below.
            level_is net
            ∙ sym (deep.1 net (at_place net below) deep.0 (omega arith))
            ∙ ap (λ numbers. if is_gate_at netlist net then greatest numbers + 1 else 0)
            (map_alike (level_within deep.0) (level_at levels) (pins_at netlist net) (λ k within. sym (level_is _)));
      },
    )
