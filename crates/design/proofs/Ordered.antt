-- Inputs, gates and flip-flops in one list.
use Rattle.std.proofs.Common.{◌≡◌, ◌≢◌, ℕ, ◌+◌, ◌==◌, ◌<◌, ◌≤◌, Bool, true, false, cond, List, [], ◌++◌, length, get_or, map, refl, sym, ap, ◌∙◌, arith, All, AllPairs, Contains, ⊎_elim, length-append}
use Rattle.std.specs.List.{range_with_len}
use Rattle.std.proofs.lemmas.Bool.{eqb-true, cases_lt}
use Rattle.std.proofs.lemmas.Bool.Decides.{nat_tests}
use Rattle.std.proofs.lemmas.List.{get_or_append_left, get_or-append_right}
use Rattle.std.proofs.lemmas.List.Elements.{All-append, All-weaker, All-contains_itself, filter_passes}
use Rattle.netlist.specs.Flow.{is_gate_in}
use Rattle.netlist.specs.Repeats.{times}
use Rattle.netlist.proofs.CallerLemmas.{contains_from_times, follows_between, once_from_times, some_time, test_fails, the_count, times-append}
use Rattle.design.specs.Circuit.{Circuit}
use Rattle.design.specs.Design.{untimed}
use Rattle.design.specs.Flow.{rank_at, nets_of_rank, FollowsFlow}
use Rattle.design.proofs.Passing.{times_past, times_within}
use Rattle.design.proofs.Ranks.{rank_within, rank_past}
use Rattle.design.proofs.Untimed.{gate_rank}

-- ---- lists of a rank

AllPairs-behind : (f : ℕ → ℕ) (m : ℕ) (xs ys : List ℕ) → AllPairs (λ (earlier later : ℕ). f earlier ≤ f later) xs →
    All (λ x. f x ≤ m) xs → All (λ y. f y ≡ m) ys → AllPairs (λ (earlier later : ℕ). f earlier ≤ f later) (xs ++ ys)
AllPairs-behind f m xs ys first low high i j d before within = ⊎_elim
    (λ early. rw (get_or_append_left xs ys d j early, get_or_append_left xs ys d i (omega (arith, before, early))) (first i j d before early))
    (λ late.
    let top : f (get_or (xs ++ ys) j d) ≡ m = rw (get_or-append_right xs ys (length xs) j d refl late) (high _ d (omega (arith, late, within, length-append xs ys))) in
    let most = All-append (λ x. f x ≤ m) xs ys low (All-weaker (λ y. f y ≡ m) (λ y. f y ≤ m) (λ y e. omega (arith, e)) ys high) i d (omega (arith, before, within)) in
    omega (arith, top, most))
    (cases_lt j (length xs))

all_of_rank : (circuit : Circuit) (r : ℕ) → All (λ net. rank_at circuit net ≡ r) (nets_of_rank circuit r)
all_of_rank circuit r =
    All-weaker (λ net. (rank_at circuit net == r) ≡ true) (λ net. rank_at circuit net ≡ r) (λ net. eqb-true (rank_at circuit net) r)
    (nets_of_rank circuit r) (filter_passes (λ net. rank_at circuit net == r) (range_with_len 0 (length circuit)))

times_of_rank : (circuit : Circuit) (r net : ℕ) → r < 3 → times net (nets_of_rank circuit r) ≡ cond (rank_at circuit net == r) 1 0
times_of_rank circuit r net low = ⊎_elim
    (λ below. times_within (λ net. rank_at circuit net == r) net (length circuit) below)
    (λ past. times_past (λ net. rank_at circuit net == r) net (length circuit) past
    ∙ sym (ap the_count (test_fails (rank_at circuit net) r (λ same. omega (arith, same, low, rank_past circuit net past)))))
    (cases_lt net (length circuit))

passes : (test : Bool) → 0 < cond test 1 0 → test ≡ true
passes true some = refl
passes false some = absurd (omega (arith, some))

-- one of three tests at most passes
abbrev tests : ℕ → ℕ
tests r = cond (r == 0) 1 0 + cond (r == 1) 1 0 + cond (r == 2) 1 0

one_test : (r : ℕ) → tests r ≤ 1
one_test r = grind (arith, nat_tests)

some_test : (r : ℕ) → r < 3 → 0 < tests r
some_test r low = grind (arith, nat_tests)

no_test : (r : ℕ) → 3 ≤ r → tests r ≡ 0
no_test r high = grind (arith, nat_tests)

-- ---- the whole order

module _ (circuit : Circuit) (gates : List ℕ) (each : (net : ℕ) → times net gates ≡ cond (is_gate_in (map untimed circuit) net) 1 0) where
  abbrev pub order : List ℕ
  order = nets_of_rank circuit 0 ++ gates ++ nets_of_rank circuit 2

  gate_times : (net : ℕ) → times net gates ≡ cond (rank_at circuit net == 1) 1 0
  gate_times net = each net ∙ ap the_count (gate_rank circuit net)

  times_in_all : (net : ℕ) → times net order ≡ tests (rank_at circuit net)
  times_in_all net =
      let inputs = times_of_rank circuit 0 net (omega arith) in
      let flops = times_of_rank circuit 2 net (omega arith) in
      omega (arith, times-append net (nets_of_rank circuit 0 ++ gates) (nets_of_rank circuit 2), times-append net (nets_of_rank circuit 0) gates, inputs, gate_times net, flops)

  pub order_once : AllPairs (λ (earlier later : ℕ). earlier ≢ later) order
  order_once = once_from_times order (λ net. omega (arith, times_in_all net, one_test (rank_at circuit net)))

  pub order_all : (net : ℕ) → net < length circuit → Contains order net
  order_all net below = contains_from_times net order (omega (arith, times_in_all net, some_test (rank_at circuit net) (rank_within circuit net below)))

  pub order_within : All (λ net. net < length circuit) order
  order_within = All-weaker (Contains order) (λ net. net < length circuit) (λ net at. ⊎_elim
      (λ below. below)
      (λ past. absurd (omega (arith, some_time net order at, times_in_all net, no_test (rank_at circuit net) (omega (arith, rank_past circuit net past)))))
      (cases_lt net (length circuit))) order (All-contains_itself order)

  all_gates : All (λ net. rank_at circuit net ≡ 1) gates
  all_gates = All-weaker (Contains gates) (λ net. rank_at circuit net ≡ 1) (λ net at.
      eqb-true (rank_at circuit net) 1 (passes (rank_at circuit net == 1) (omega (arith, some_time net gates at, gate_times net)))) gates (All-contains_itself gates)

  pub order_parts : AllPairs (λ (earlier later : ℕ). rank_at circuit earlier ≤ rank_at circuit later) order
  order_parts =
      let inputs = all_of_rank circuit 0 in
      AllPairs-behind (rank_at circuit) 2 (nets_of_rank circuit 0 ++ gates) (nets_of_rank circuit 2)
      (AllPairs-behind (rank_at circuit) 1 (nets_of_rank circuit 0) gates
      (AllPairs-behind (rank_at circuit) 0 [] (nets_of_rank circuit 0) (λ i j d before within. absurd (omega (arith, within))) (λ k d within. absurd (omega (arith, within))) inputs)
      (All-weaker (λ net. rank_at circuit net ≡ 0) (λ net. rank_at circuit net ≤ 1) (λ net e. omega (arith, e)) (nets_of_rank circuit 0) inputs)
      all_gates)
      (All-append (λ net. rank_at circuit net ≤ 2) (nets_of_rank circuit 0) gates
      (All-weaker (λ net. rank_at circuit net ≡ 0) (λ net. rank_at circuit net ≤ 2) (λ net e. omega (arith, e)) (nets_of_rank circuit 0) inputs)
      (All-weaker (λ net. rank_at circuit net ≡ 1) (λ net. rank_at circuit net ≤ 2) (λ net e. omega (arith, e)) gates all_gates))
      (all_of_rank circuit 2)

  no_gates : (r : ℕ) → r ≢ 1 → All (λ net. is_gate_in (map untimed circuit) net ≡ false) (nets_of_rank circuit r)
  no_gates r other =
      All-weaker (λ net. rank_at circuit net ≡ r) (λ net. is_gate_in (map untimed circuit) net ≡ false)
      (λ net is. gate_rank circuit net ∙ test_fails (rank_at circuit net) 1 (λ one. other (sym is ∙ one)))
      (nets_of_rank circuit r) (all_of_rank circuit r)

  pub order_follows : FollowsFlow circuit gates → FollowsFlow circuit order
  order_follows follows =
      follows_between (map untimed circuit) (nets_of_rank circuit 0) gates (nets_of_rank circuit 2)
      (no_gates 0 (λ same. omega (arith, same))) (no_gates 2 (λ same. omega (arith, same))) follows
