-- The nets of the longest paths.
use Rattle.std.proofs.Common.{◌≡◌, ℕ, zero, suc, ◌+◌, ◌*◌, ◌<◌, ◌≤◌, false, true≢false, IsTrue, List, [], ◌∷◌, ◌++◌, length, get_or, reverse, All, ◌⊎◌, inl, inr, ⊎_elim, refl, sym, ap, ◌∙◌, subst, arith}
use Rattle.std.proofs.lemmas.Bool.{cases_lt}
use Rattle.std.proofs.lemmas.List.{append_assoc, get_or_past, reverse-append}
use Rattle.std.proofs.lemmas.List.Elements.{All-push}
use Rattle.netlist.specs.Netlist.{most_nets}
use Rattle.netlist.proofs.CallerLemmas.{pins_within}
use Rattle.design.specs.Design.{DesignView, IsDesign}
use Rattle.circuit_info.specs.Counts.{IsFirstGreatest}
use Rattle.circuit_info.specs.Levels.{is_gate_at, level_at, pins_at, IsLevelling}
use Rattle.circuit_info.specs.Paths.{delay_at, wires_at, last_seen, longest_to, AreLongest, IsPath, from_source, over_gate}
use Rattle.circuit_info.specs.PathText.{seen, IsLatestSource, IsLongestPath, begins, passes}
use Rattle.circuit_info.proofs.Longest.{longest_few, longest_gate, longest_source}
use Rattle.circuit_info.proofs.OneText.{one_first_greatest}
use Rattle.circuit_info.proofs.PathLengths.{delay_some, gate_pins, last_least, last_one, wires_each}

-- ---- what each pin sees

-- the tick at which a pin sees what its source shows at a listed tick
abbrev pub sees : List ℕ → List ℕ → List ℕ → ℕ → ℕ
sees ticks pins wires place = get_or ticks (get_or pins place 0) 0 + get_or wires place 0

pub length-seen : (f : ℕ → ℕ) (pins wires : List ℕ) → length wires ≡ length pins → length (seen f pins wires) ≡ length pins
length-seen f [] wires fit = refl
length-seen f (pin ∷ pins) [] fit = absurd (omega (arith, fit))
length-seen f (pin ∷ pins) (wire ∷ wires) fit = omega (arith, length-seen f pins wires (omega (arith, fit)))

pub get_or-seen : (f : ℕ → ℕ) (pins wires : List ℕ) (k : ℕ) → k < length pins → length wires ≡ length pins →
    get_or (seen f pins wires) k 0 ≡ f (get_or pins k 0) + get_or wires k 0
get_or-seen f [] wires k within fit = absurd (omega (arith, within))
get_or-seen f (pin ∷ pins) [] k within fit = absurd (omega (arith, fit))
get_or-seen f (pin ∷ pins) (wire ∷ wires) zero within fit = refl
get_or-seen f (pin ∷ pins) (wire ∷ wires) (suc k) within fit = get_or-seen f pins wires k (omega (arith, within)) (omega (arith, fit))

-- the ticks of nets are alike at these pins
pub seen_alike : (f g : ℕ → ℕ) (pins wires : List ℕ) → ((k : ℕ) → k < length pins → f (get_or pins k 0) ≡ g (get_or pins k 0)) →
    seen f pins wires ≡ seen g pins wires
seen_alike f g [] wires alike = refl
seen_alike f g (pin ∷ pins) [] alike = refl
seen_alike f g (pin ∷ pins) (wire ∷ wires) alike =
    ap (λ tick. (tick + wire) ∷ seen f pins wires) (alike 0 (omega arith))
    ∙ ap (λ rest. (g pin + wire) ∷ rest) (seen_alike f g pins wires (λ k within. alike (suc k) (omega (arith, within))))

-- the first of the latest pins sees its source last
latest_seen : (f : ℕ → ℕ) (pins wires : List ℕ) (place : ℕ) → 0 < length pins → length wires ≡ length pins → IsFirstGreatest (seen f pins wires) place →
    last_seen f pins wires ≡ f (get_or pins place 0) + get_or wires place 0
latest_seen f pins wires place some fit is =
    let one = last_one f pins wires some fit in
    let within : place < length pins = omega (arith, is.within, length-seen f pins wires fit) in
    omega (
      arith,
      one.2,
      get_or-seen f pins wires one.0 one.1 fit,
      get_or-seen f pins wires place within fit,
      is.greatest one.0 (omega (arith, one.1, length-seen f pins wires fit)),
      last_least f pins wires place within (omega (arith, within, fit)),
    )

-- which of them that is, by their comparisons
pub latest_is : (ticks pins wires : List ℕ) (place : ℕ) → length wires ≡ length pins → place < length pins →
    ((other : ℕ) → other < length pins → sees ticks pins wires other ≤ sees ticks pins wires place) →
    ((earlier : ℕ) → earlier < place → sees ticks pins wires earlier < sees ticks pins wires place) →
    IsFirstGreatest (seen (λ net. get_or ticks net 0) pins wires) place
latest_is ticks pins wires place fit within most before =
    let size = length-seen (λ net. get_or ticks net 0) pins wires fit in
    let here = get_or-seen (λ net. get_or ticks net 0) pins wires place within fit in
    record {
      within = omega (arith, within, size);
      greatest = λ other below.
          let inside : other < length pins = omega (arith, below, size) in
          omega (arith, most other inside, here, get_or-seen (λ net. get_or ticks net 0) pins wires other inside fit);
      first = λ earlier less.
          let inside : earlier < length pins = omega (arith, less, within) in
          omega (arith, before earlier less, here, get_or-seen (λ net. get_or ticks net 0) pins wires earlier inside fit);
    }

-- ---- one path

-- where a longest path comes from
abbrev Comes : DesignView → ℕ → List ℕ → Type 0
Comes design net path = ((is_gate_at design.netlist net ≡ false) × (path ≡ net ∷ []))
    ⊎ (IsTrue (is_gate_at design.netlist net) × ((source : ℕ) × IsLatestSource design net source
    × ((before : List ℕ) × IsLongestPath design source before × (path ≡ before ++ net ∷ []))))

comes : (design : DesignView) (net : ℕ) (path : List ℕ) → IsLongestPath design net path → Comes design net path
comes design _ _ (begins net is) = inl (is, refl)
comes design _ _ (passes net source path is latest before) = inr (is, (source, latest, (path, before, refl)))

pub one_latest_source : (design : DesignView) (net a b : ℕ) → IsLatestSource design net a → IsLatestSource design net b → a ≡ b
one_latest_source design net a b (place, is, at) (other, also, there) =
    at ∙ ap (λ k. get_or (pins_at design.netlist net) k 0) (one_first_greatest _ place other is also) ∙ sym there

pub one_longest_path : (design : DesignView) (net : ℕ) (a b : List ℕ) → IsLongestPath design net a → IsLongestPath design net b → a ≡ b
one_longest_path design _ _ b (begins net is) other = go (comes design net b other)
  where
    go : Comes design net b → net ∷ [] ≡ b
    go (inl at) = sym at.1
    go (inr at) = absurd (true≢false (sym at.0 ∙ is))
one_longest_path design _ _ b (passes net source path is latest before) other =
    go (comes design net b other) (λ a rest. one_longest_path design source path a before rest)
  where
    go : Comes design net b → ((a : List ℕ) → IsLongestPath design source a → path ≡ a) → path ++ net ∷ [] ≡ b
    go (inl at) rest = absurd (true≢false (sym is ∙ at.0))
    go (inr (gate, (from, found, (nets, there, so)))) rest =
        let same = one_latest_source design net from source found latest in
        ap (λ p. p ++ net ∷ []) (rest nets (subst (λ s. IsLongestPath design s nets) same there)) ∙ sym so

-- the nets of a way back, turned around
pub turned : (path items : List ℕ) (net : ℕ) → (path ++ net ∷ []) ++ reverse items ≡ path ++ reverse (items ++ net ∷ [])
turned path items net = append_assoc path (net ∷ []) (reverse items) ∙ ap (λ rest. path ++ rest) (sym (reverse-append items (net ∷ [])))

-- ---- it is a path

module _ (design : DesignView) (formed : IsDesign design) where
  -- by a list of all ticks
  module _ (ticks : List ℕ) (are : AreLongest design ticks) where
    pub few_listed : (net : ℕ) → get_or ticks net 0 ≤ 2_000_000 * (most_nets + 1)
    few_listed net = ⊎_elim
        (λ less. omega (arith, are.each net less, longest_few design formed net))
        (λ past. omega (arith, get_or_past ticks net 0 (omega (arith, past, are.size))))
        (cases_lt net (length design.netlist.nets))

    pub latest_source_is : (net : ℕ) (pins wires : List ℕ) → pins ≡ pins_at design.netlist net → wires ≡ wires_at design net → (place : ℕ) →
        IsFirstGreatest (seen (λ n. get_or ticks n 0) pins wires) place → IsLatestSource design net (get_or pins place 0)
    latest_source_is net pins wires pins_so wires_so place is =
        let same : seen (λ n. get_or ticks n 0) pins wires ≡ seen (longest_to design) (pins_at design.netlist net) (wires_at design net) =
        seen_alike (λ n. get_or ticks n 0) (longest_to design) pins wires
        (λ k within. are.each (get_or pins k 0) (pins_within design.netlist formed.netlist net pins pins_so k 0 within))
        ∙ (λ i. seen (longest_to design) (pins_so i) (wires_so i)) in
        (place, subst (λ numbers. IsFirstGreatest numbers place) same is, ap (λ (pins : List ℕ). get_or pins place 0) pins_so)

  pub source_below : (net source : ℕ) → 0 < length (pins_at design.netlist net) → length (wires_at design net) ≡ length (pins_at design.netlist net) →
      IsLatestSource design net source → source < length design.netlist.nets
  source_below net source some fit (place, is, at) =
      let within : place < length (pins_at design.netlist net) = omega (arith, is.within, length-seen (longest_to design) (pins_at design.netlist net) (wires_at design net) fit) in
      let below = pins_within design.netlist formed.netlist net (pins_at design.netlist net) refl place 0 within in
      omega (arith, below, at)

  -- all of its nets are nets
  pub path_below : (net : ℕ) (path : List ℕ) → IsLongestPath design net path → net < length design.netlist.nets →
      All (λ net. net < length design.netlist.nets) path
  path_below _ _ (begins net is) below = All-push (λ n. n < length design.netlist.nets) [] net (λ k d within. absurd (omega (arith, within))) below
  path_below _ _ (passes net source path is latest before) below =
      All-push (λ n. n < length design.netlist.nets) path net (path_below source path before (source_below net source (gate_pins design formed net is) (wires_each design formed net is) latest)) below

  module _ (levels : List ℕ) (ok : IsLevelling design.netlist levels) (few : (net : ℕ) → level_at levels net ≤ length design.netlist.nets) where
    -- what comes before a gate shows earlier
    pub source_earlier : (net source : ℕ) → IsTrue (is_gate_at design.netlist net) → IsLatestSource design net source → longest_to design source < longest_to design net
    source_earlier net source is (place, latest, at) =
        let fit = wires_each design formed net is in
        let last = latest_seen (longest_to design) (pins_at design.netlist net) (wires_at design net) place (gate_pins design formed net is) fit latest in
        omega (arith, last, ap (longest_to design) at, longest_gate design formed levels ok few net is, delay_some design formed net is)

    pub longest_is_path : (net : ℕ) (path : List ℕ) → IsLongestPath design net path → IsPath design net path (longest_to design net)
    longest_is_path _ _ (begins net is) = subst (IsPath design net (net ∷ [])) (sym (longest_source design formed net is)) (from_source net is)
    longest_is_path _ _ (passes net source path is (place, latest, at) before) =
        let fit = wires_each design formed net is in
        let some = gate_pins design formed net is in
        let within : place < length (pins_at design.netlist net) = omega (arith, latest.within, length-seen (longest_to design) (pins_at design.netlist net) (wires_at design net) fit) in
        let last = latest_seen (longest_to design) (pins_at design.netlist net) (wires_at design net) place some fit latest in
        let there = get_or (pins_at design.netlist net) place 0 in
        let rest : IsPath design there path (longest_to design there) = subst (λ s. IsPath design s path (longest_to design s)) at (longest_is_path source path before) in
        subst (IsPath design net (path ++ net ∷ [])) (sym (longest_gate design formed levels ok few net is ∙ ap (λ last. last + delay_at design net) last))
        (over_gate net place (longest_to design there) path is within rest)
