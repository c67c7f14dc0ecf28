-- The longest paths, where gates form no loop.
use Rattle.std.proofs.Common.{◌≡◌, ℕ, zero, suc, ◌+◌, ◌*◌, ◌<◌, ◌≤◌, max, Bool, true, false, cond, if◌then◌else◌, IsTrue, List, [], ◌∷◌, length, get_or, set, take, map, Option, None, Some, option_map, slice_get, All, Contains, inl, inr, ⊎_elim, refl, sym, ap, ◌∙◌, arith, add-one, length-set}
use Rattle.std.specs.List.{range_with_len}
use Rattle.std.specs.Option.{option_map_or}
use Rattle.std.proofs.lemmas.Bool.{cases_eq, cases_lt}
use Rattle.std.proofs.lemmas.List.{get_or-set_same, get_or-set_other, get_or-map, get_or-take, get_or_default, get_or_past, length-take-le}
use Rattle.std.proofs.lemmas.List.Elements.{Contains-get_or}
use Rattle.std.proofs.lemmas.List.FromFn.{get_or-map-range_with_len, length-map-range_with_len}
use Rattle.std.proofs.lemmas.Option.{get_or_from_slice_get, slice_get-get_or, slice_get_within}
use Rattle.netlist.specs.declared.part.Part.{Part}
use Rattle.netlist.specs.declared.part.Part.TheVariants.{Input, Gate, Flop}
use Rattle.netlist.specs.Netlist.{NetView, most_nets, net_at}
use Rattle.netlist.specs.Repeats.{times}
use Rattle.netlist.specs.Flow.{is_gate_in, FlowsTo, straight, through, FollowsFlow}
use Rattle.netlist.proofs.CallerLemmas.{contains_from_times, gate_within, no_net, pins_within, the_count}
use Rattle.timing_text.specs.Ranges.{HasDelay}
use Rattle.design.specs.Circuit.{Net, IsTimed}
use Rattle.design.specs.Design.{DesignView, IsDesign, untimed}
use Rattle.design.proofs.CallerLemmas.{All-slice_get, length-circuit, net_with}
use Rattle.circuit_info.specs.Levels.{is_gate_at, level_at, pins_at, IsLevelling}
use Rattle.circuit_info.specs.Paths.{delay_at, wires_at, last_seen, longest_within, longest_to, AreLongest}
use Rattle.circuit_info.proofs.Levelling.{above, above_pin, gate_level}
use Rattle.circuit_info.proofs.OnePass.{order_gate}

-- ---- what pins see last

-- the ticks of nets are alike at these pins
pub last_alike : (f g : ℕ → ℕ) (pins wires : List ℕ) → ((k : ℕ) → k < length pins → f (get_or pins k 0) ≡ g (get_or pins k 0)) →
    last_seen f pins wires ≡ last_seen g pins wires
last_alike f g [] wires alike = refl
last_alike f g (pin ∷ pins) [] alike = refl
last_alike f g (pin ∷ pins) (wire ∷ wires) alike =
    let rest = last_alike f g pins wires (λ k within. alike (suc k) (omega (arith, within))) in
    ap (λ tick. max (tick + wire) (last_seen f pins wires)) (alike 0 (omega arith)) ∙ ap (max (g pin + wire)) rest

pub last_most : (f : ℕ → ℕ) (pins wires : List ℕ) (most : ℕ) → ((pin : ℕ) → f pin ≤ most) → All (λ wire. wire ≤ 1_000_000) wires →
    last_seen f pins wires ≤ most + 1_000_000
last_most f [] wires most few short = omega arith
last_most f (pin ∷ pins) [] most few short = omega arith
last_most f (pin ∷ pins) (wire ∷ wires) most few short =
    let here : wire ≤ 1_000_000 = short 0 0 (omega arith) in
    omega (arith, few pin, here, last_most f pins wires most few (λ k d within. short (suc k) d (omega (arith, within))))

-- one pin more
last_suc : (f : ℕ → ℕ) (pins wires : List ℕ) (i : ℕ) → i < length pins → i < length wires →
    last_seen f (take (suc i) pins) (take (suc i) wires) ≡ max (last_seen f (take i pins) (take i wires)) (f (get_or pins i 0) + get_or wires i 0)
last_suc f [] wires i within also = absurd (omega (arith, within))
last_suc f (pin ∷ pins) [] i within also = absurd (omega (arith, also))
last_suc f (pin ∷ pins) (wire ∷ wires) zero within also = omega arith
last_suc f (pin ∷ pins) (wire ∷ wires) (suc i) within also =
    omega (arith, last_suc f pins wires i (omega (arith, within)) (omega (arith, also)))

pub last_more : (f : ℕ → ℕ) (pins wires : List ℕ) (i : ℕ) → i < length pins → i < length wires →
    last_seen f (take (i + 1) pins) (take (i + 1) wires) ≡ max (last_seen f (take i pins) (take i wires)) (f (get_or pins i 0) + get_or wires i 0)
last_more f pins wires i within also = rw add-one (last_suc f pins wires i within also)

-- ---- delays and wires are in their ranges

most_of : (part : Part) (delay : ℕ) → HasDelay part delay → delay ≤ 1_000_000
most_of Input delay is = omega (arith, is)
most_of (Gate kind) delay (some, most) = most
most_of Flop delay (some, most) = most

module _ (design : DesignView) (formed : IsDesign design) where
  pub delay_small : (net : ℕ) → delay_at design net ≤ 1_000_000
  delay_small net = go (slice_get design.circuit net) refl
    where
      go : (found : Option Net) → slice_get design.circuit net ≡ found → option_map_or (λ (n : Net). n.timing.delay) found 0 ≤ 1_000_000
      go None at = omega arith
      go (Some n) at = most_of n.part n.timing.delay (All-slice_get IsTimed design.circuit net n formed.timed at).timing.delay

  pub wires_short : (net : ℕ) → All (λ wire. wire ≤ 1_000_000) (wires_at design net)
  wires_short net = go (slice_get design.circuit net) refl
    where
      go : (found : Option Net) → slice_get design.circuit net ≡ found → All (λ wire. wire ≤ 1_000_000) (option_map_or (λ (n : Net). n.wires) found [])
      go None at = λ k d within. absurd (omega (arith, within))
      go (Some n) at = (All-slice_get IsTimed design.circuit net n formed.timed at).wires.most

  -- the net with a number, in the circuit and in the netlist
  pub net_is : (net : ℕ) (n : Net) → slice_get design.circuit net ≡ Some n → net_at design.netlist net ≡ untimed n
  net_is net n at =
      ap (λ nets. get_or nets net no_net) (sym formed.same_nets)
      ∙ get_or-map untimed design.circuit net n no_net (slice_get_within design.circuit net n at)
      ∙ ap untimed (get_or_from_slice_get design.circuit net n n at)

  pub delay_is : (net delay : ℕ) → option_map (λ (n : Net). n.timing.delay) (slice_get design.circuit net) ≡ Some delay → delay ≡ delay_at design net
  delay_is net delay told =
      let found = net_with (λ (n : Net). n.timing.delay) (slice_get design.circuit net) delay told in
      sym (ap (λ (place : Option Net). option_map_or (λ (n : Net). n.timing.delay) place 0) found.1 ∙ found.2)

  pub wires_are : (net : ℕ) (wires : List ℕ) → option_map (λ (n : Net). n.wires) (slice_get design.circuit net) ≡ Some wires → wires ≡ wires_at design net
  wires_are net wires told =
      let found = net_with (λ (n : Net). n.wires) (slice_get design.circuit net) wires told in
      sym (ap (λ (place : Option Net). option_map_or (λ (n : Net). n.wires) place []) found.1 ∙ found.2)

  pub wires_fit : (net : ℕ) (wires : List ℕ) → option_map (λ (n : Net). n.wires) (slice_get design.circuit net) ≡ Some wires →
      length wires ≡ length (pins_at design.netlist net)
  wires_fit net wires told =
      let found = net_with (λ (n : Net). n.wires) (slice_get design.circuit net) wires told in
      let timed = All-slice_get IsTimed design.circuit net found.0 formed.timed found.1 in
      ap (λ (those : List ℕ). length those) (sym found.2) ∙ timed.wires.each ∙ ap (λ (n : NetView). length n.pins) (sym (net_is net found.0 found.1))

  pub longest_small : (gates net : ℕ) → longest_within design gates net ≤ 2_000_000 * (gates + 1)
  longest_small zero net = omega (arith, delay_small net)
  longest_small (suc gates) net = go (is_gate_at design.netlist net)
      (last_most (longest_within design gates) (pins_at design.netlist net) (wires_at design net) (2_000_000 * (gates + 1))
      (λ pin. longest_small gates pin) (wires_short net))
    where
      go : (gate : Bool) →
          last_seen (longest_within design gates) (pins_at design.netlist net) (wires_at design net) ≤ 2_000_000 * (gates + 1) + 1_000_000 →
          (if gate then last_seen (longest_within design gates) (pins_at design.netlist net) (wires_at design net) else 0) + delay_at design net
          ≤ 2_000_000 * (suc gates + 1)
      go true most = omega (arith, most, delay_small net)
      go false most = omega (arith, most, delay_small net)

  pub longest_few : (net : ℕ) → longest_to design net ≤ 2_000_000 * (most_nets + 1)
  longest_few net = omega (arith, longest_small (length design.netlist.nets) net, formed.netlist.net_limit)

  -- ---- sources, and gates by levels

  source_is : (gates net : ℕ) → is_gate_at design.netlist net ≡ false → longest_within design gates net ≡ delay_at design net
  source_is zero net is = refl
  source_is (suc gates) net is =
      let here = ap (λ gate. (if gate then last_seen (longest_within design gates) (pins_at design.netlist net) (wires_at design net) else 0) + delay_at design net) is in
      omega (arith, here)

  pub longest_source : (net : ℕ) → is_gate_at design.netlist net ≡ false → longest_to design net ≡ delay_at design net
  longest_source net is = source_is (length design.netlist.nets) net is

  module _ (levels : List ℕ) (ok : IsLevelling design.netlist levels) where
    -- from its level on, the longest path to a net stays
    settles : (gates more net : ℕ) → level_at levels net ≤ gates → gates ≤ more → longest_within design more net ≡ longest_within design gates net
    settles zero more net low above = go (is_gate_at design.netlist net) refl
      where
        go : (gate : Bool) → is_gate_at design.netlist net ≡ gate → longest_within design more net ≡ delay_at design net
        go true is = absurd (omega (arith, gate_level design.netlist levels ok net is, low))
        go false is = source_is more net is
    settles (suc gates) zero net low above = absurd (omega (arith, above))
    settles (suc gates) (suc more) net low above = go (is_gate_at design.netlist net) refl (λ pin lower. settles gates more pin lower (omega (arith, above)))
      where
        go : (gate : Bool) → is_gate_at design.netlist net ≡ gate →
            ((pin : ℕ) → level_at levels pin ≤ gates → longest_within design more pin ≡ longest_within design gates pin) →
            (if is_gate_at design.netlist net then last_seen (longest_within design more) (pins_at design.netlist net) (wires_at design net) else 0) + delay_at design net
            ≡ (if is_gate_at design.netlist net then last_seen (longest_within design gates) (pins_at design.netlist net) (wires_at design net) else 0) + delay_at design net
        go true is lower = ap (λ last. (if is_gate_at design.netlist net then last else 0) + delay_at design net)
            (last_alike (longest_within design more) (longest_within design gates) (pins_at design.netlist net) (wires_at design net)
            (λ k within. lower (get_or (pins_at design.netlist net) k 0) (omega (arith, low, above_pin design.netlist levels ok net is k within))))
        go false is lower = rw is refl

    module _ (few : (net : ℕ) → level_at levels net ≤ length design.netlist.nets) where
      pub longest_gate : (net : ℕ) → IsTrue (is_gate_at design.netlist net) →
          longest_to design net ≡ last_seen (longest_to design) (pins_at design.netlist net) (wires_at design net) + delay_at design net
      longest_gate net is =
          sym (settles (length design.netlist.nets) (suc (length design.netlist.nets)) net (few net) (omega arith))
          ∙ ap (λ gate. (if gate then last_seen (longest_to design) (pins_at design.netlist net) (wires_at design net) else 0) + delay_at design net) is

    -- values flow to higher levels
    flow_rises : (from to : ℕ) → FlowsTo design.netlist.nets from to → level_at levels from < level_at levels to
    flow_rises from _ (straight to feeds) = above design.netlist levels ok to from feeds.by_gate feeds.at_pin
    flow_rises from _ (through middle to flow feeds) =
        omega (arith, flow_rises from middle flow, above design.netlist levels ok to middle feeds.by_gate feeds.at_pin)

-- ---- the pass over gates

-- the ticks after a pass over the gates before a place
pub record IsPassedOver (design : DesignView) (order : List ℕ) (place : ℕ) (ticks : List ℕ) : Type 0 where
  pub size : length ticks ≡ length design.netlist.nets
  pub sources : (net : ℕ) → net < length design.netlist.nets → is_gate_at design.netlist net ≡ false → get_or ticks net 0 ≡ longest_to design net
  pub done : (k : ℕ) → k < place → k < length order → get_or ticks (get_or order k 0) 0 ≡ longest_to design (get_or order k 0)
  pub few : (net : ℕ) → get_or ticks net 0 ≤ 2_000_000 * (most_nets + 1)

module _ (design : DesignView) (formed : IsDesign design) (order : List ℕ) where
  -- before the pass
  pub IsPassedOver-none : IsPassedOver design order 0 (map (delay_at design) (range_with_len 0 (length design.circuit)))
  IsPassedOver-none =
      let ticks : List ℕ = map (delay_at design) (range_with_len 0 (length design.circuit)) in
      let size : length ticks ≡ length design.circuit = length-map-range_with_len (delay_at design) 0 (length design.circuit) in
      record {
        size = size ∙ length-circuit design formed;
        sources = λ net below is.
            get_or-map-range_with_len (delay_at design) 0 (length design.circuit) net net 0 (omega (arith, below, length-circuit design formed)) (omega arith)
            ∙ sym (longest_source design formed net is);
        done = λ k before within. absurd (omega (arith, before));
        few = λ net. ⊎_elim
            (λ less.
            omega (arith, delay_small design formed net, get_or-map-range_with_len (delay_at design) 0 (length design.circuit) net net 0 less (omega arith)))
            (λ past. omega (arith, get_or_past ticks net 0 (omega (arith, past, size))))
            (cases_lt net (length design.circuit));
      }

  module _ (each : (net : ℕ) → times net order ≡ cond (is_gate_in design.netlist.nets net) 1 0) (ticks : List ℕ) (place : ℕ) where
    -- one gate more
    module _ (within : place < length order) (passed : IsPassedOver design order place ticks) (follows : FollowsFlow design.netlist.nets order)
        (levels : List ℕ) (ok : IsLevelling design.netlist levels) (few : (net : ℕ) → level_at levels net ≤ length design.netlist.nets) where
      abbrev gate : ℕ
      gate = get_or order place 0

      is_gate : IsTrue (is_gate_at design.netlist gate)
      is_gate = order_gate design.netlist order each place within

      inside : gate < length ticks
      inside = omega (arith, gate_within design.netlist.nets gate is_gate, passed.size)

      pin_is : (pin : ℕ) → Contains (pins_at design.netlist gate) pin → pin < length design.netlist.nets →
          (driven : Bool) → is_gate_at design.netlist pin ≡ driven → get_or ticks pin 0 ≡ longest_to design pin
      pin_is pin on below true is = ⊎_elim
          (λ earlier.
          let before : earlier.0 < place = omega (arith, earlier.1, length-take-le place order) in
          let same : get_or order earlier.0 0 ≡ pin =
          get_or_default order earlier.0 0 pin (omega (arith, before, within)) ∙ sym (get_or-take place order earlier.0 pin before) ∙ earlier.2 in
          ap (λ net. get_or ticks net 0) (sym same) ∙ passed.done earlier.0 before (omega (arith, before, within)) ∙ ap (longest_to design) same)
          (λ flow. absurd (omega (arith, flow_rises design formed levels ok gate pin flow, above design.netlist levels ok gate pin is_gate on)))
          (follows place gate pin (slice_get-get_or order place 0 within) is (record { by_gate = is_gate; at_pin = on }))
      pin_is pin on below false is = passed.sources pin below is

      pin_passed : (k : ℕ) → k < length (pins_at design.netlist gate) →
          get_or ticks (get_or (pins_at design.netlist gate) k 0) 0 ≡ longest_to design (get_or (pins_at design.netlist gate) k 0)
      pin_passed k at = pin_is (get_or (pins_at design.netlist gate) k 0) (Contains-get_or (pins_at design.netlist gate) k 0 at)
          (pins_within design.netlist formed.netlist gate (pins_at design.netlist gate) refl k 0 at) (is_gate_at design.netlist (get_or (pins_at design.netlist gate) k 0)) refl

      module _ (value : ℕ)
          (computed : value ≡ last_seen (λ net. get_or ticks net 0) (pins_at design.netlist gate) (wires_at design gate) + delay_at design gate) where
        value_is : value ≡ longest_to design gate
        value_is =
            computed
            ∙ ap (λ last. last + delay_at design gate) (last_alike (λ net. get_or ticks net 0) (longest_to design) (pins_at design.netlist gate) (wires_at design gate) pin_passed)
            ∙ sym (longest_gate design formed levels ok few gate is_gate)

        abbrev after : List ℕ
        after = set ticks gate value

        now : get_or after gate 0 ≡ longest_to design gate
        now = get_or-set_same ticks gate value 0 inside ∙ value_is

        still : (net : ℕ) → get_or ticks net 0 ≡ longest_to design net → get_or after net 0 ≡ longest_to design net
        still net was = elim (cases_eq net gate) [
          | inl same ↦ ap (λ n. get_or after n 0) same ∙ now ∙ ap (longest_to design) (sym same)
          | inr apart ↦ get_or-set_other ticks gate net value 0 apart ∙ was
        ]

        pub IsPassedOver-more : IsPassedOver design order (place + 1) (set ticks gate value)
        IsPassedOver-more = record {
          size = length-set ticks gate value ∙ passed.size;
          sources = λ net below is. still net (passed.sources net below is);
          done = λ k before in_order. elim (cases_eq k place) [
            | inl same ↦ ap (λ k. get_or after (get_or order k 0) 0) same ∙ now ∙ ap (λ k. longest_to design (get_or order k 0)) (sym same)
            | inr apart ↦ still (get_or order k 0) (passed.done k (omega (arith, before, apart)) in_order)
          ];
          few = λ net. elim (cases_eq net gate) [
            | inl same ↦ let is = ap (λ n. get_or after n 0) same ∙ now in omega (arith, is, longest_few design formed gate)
            | inr apart ↦ let is = get_or-set_other ticks gate net value 0 apart in omega (arith, is, passed.few net)
          ];
        }

    -- after the pass
    pub AreLongest-passed : length order ≤ place → IsPassedOver design order place ticks → AreLongest design ticks
    AreLongest-passed all passed = record {
      size = passed.size;
      each = λ net below. go net below (is_gate_at design.netlist net) refl;
    }
      where
        go : (net : ℕ) → net < length design.netlist.nets → (gate : Bool) → is_gate_at design.netlist net ≡ gate → get_or ticks net 0 ≡ longest_to design net
        go net below true is =
            let at = contains_from_times net order (omega (arith, each net, ap the_count is)) in
            let same : get_or order at.0 0 ≡ net = get_or_default order at.0 0 net at.1 ∙ at.2 in
            ap (λ n. get_or ticks n 0) (sym same) ∙ passed.done at.0 (omega (arith, at.1, all)) at.1 ∙ ap (longest_to design) same
        go net below false is = passed.sources net below is
