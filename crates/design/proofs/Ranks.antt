-- The ranks of a circuit's nets.
use Rattle.std.proofs.Common.{◌≡◌, ◌≢◌, ℕ, ◌<◌, ◌≤◌, ◌==◌, length, get_or, Option, option_map, Some, None, slice_get, false, true≢false, refl, ap, ◌∙◌, arith, ◌⊎◌, inl, inr}
use Rattle.std.specs.Option.{option_map_or}
use Rattle.std.proofs.lemmas.Option.{slice_get_cases}
use Rattle.netlist.specs.declared.part.Part.{Part}
use Rattle.netlist.specs.declared.part.Part.TheVariants.{Input, Gate, Flop}
use Rattle.netlist.specs.Part.{is_gate}
use Rattle.design.specs.Circuit.{Net, Circuit}
use Rattle.design.specs.Flow.{rank, rank_at}
use Rattle.design.proofs.WellFormed.{net_with}

three_ranks : (part : Part) → rank part < 3
three_ranks Input = omega arith
three_ranks (Gate kind) = omega arith
three_ranks Flop = omega arith

abbrev rank_of : Option Net → ℕ
rank_of found = option_map_or (λ (n : Net). rank n.part) found 3

-- a net has one of the three ranks, and what is past the last net has none of them
pub rank_within : (circuit : Circuit) (net : ℕ) → net < length circuit → rank_at circuit net < 3
rank_within circuit net below = go (slice_get_cases circuit net).1
  where
    go : ((n : Net) × (net < length circuit) × (slice_get circuit net ≡ Some n) × (get_or circuit net n ≡ n))
        ⊎ ((length circuit ≤ net) × (slice_get circuit net ≡ None)) → rank_at circuit net < 3
    go (inl (n, within, at, is)) = let same = ap rank_of at in omega (arith, same, three_ranks n.part)
    go (inr (past, none)) = absurd (omega arith)

pub rank_past : (circuit : Circuit) (net : ℕ) → length circuit ≤ net → rank_at circuit net ≡ 3
rank_past circuit net past = go (slice_get_cases circuit net).1
  where
    go : ((n : Net) × (net < length circuit) × (slice_get circuit net ≡ Some n) × (get_or circuit net n ≡ n))
        ⊎ ((length circuit ≤ net) × (slice_get circuit net ≡ None)) → rank_at circuit net ≡ 3
    go (inl (n, within, at, is)) = absurd (omega arith)
    go (inr (past, none)) = ap rank_of none

pub rank_there : (circuit : Circuit) (number : ℕ) (net : Net) → slice_get circuit number ≡ Some net → rank_at circuit number ≡ rank net.part
rank_there circuit number net at = ap rank_of at

pub rank_is : (circuit : Circuit) (net : ℕ) (part : Part) → option_map (λ (n : Net). n.part) (slice_get circuit net) ≡ Some part →
    rank_at circuit net ≡ rank part
rank_is circuit net part part_is =
    let found = net_with (λ (n : Net). n.part) (slice_get circuit net) part part_is in
    rank_there circuit net found.0 found.1 ∙ ap rank found.2

pub gate_by_rank : (part : Part) → is_gate part ≡ (rank part == 1)
gate_by_rank Input = refl
gate_by_rank (Gate kind) = refl
gate_by_rank Flop = refl

-- inputs and flip-flops share their ranks with no other part
pub apart_ranks : (part other : Part) → is_gate other ≡ false → part ≢ other → rank part ≢ rank other
apart_ranks Input Input is apart same = apart refl
apart_ranks Flop Flop is apart same = apart refl
apart_ranks part (Gate kind) is apart same = absurd (true≢false is)
apart_ranks Input Flop is apart same = absurd (omega (arith, same))
apart_ranks Flop Input is apart same = absurd (omega (arith, same))
apart_ranks (Gate kind) Input is apart same = absurd (omega (arith, same))
apart_ranks (Gate kind) Flop is apart same = absurd (omega (arith, same))
