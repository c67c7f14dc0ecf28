-- Numbers of ticks that are reported one behind the other.
use Rattle.std.proofs.Common.{◌≡◌, ℕ, ◌+◌, ◌<◌, ◌≤◌, List, [], ◌∷◌, ◌++◌, Result, Ok, Err, refl, sym, ap, subst, ◌∙◌, arith}
use Rattle.std.specs.List.{range_with_len}
use Rattle.std.proofs.lemmas.List.{map-id}
use Rattle.std.proofs.lemmas.List.Elements.{All-push}
use Rattle.std.proofs.lemmas.List.FromFn.{map-range_with_len_more}
use Rattle.std.proofs.lemmas.List.Quantifiers.{all_pairs_push}
use Rattle.prepared_runs.specs.Reported.{BeginsWith, CountsTo, IsProgress, IsProgressFrom, IsTickByTick, Reported, RisesBelow, RisesTo}

RisesBelow-wider : (bound wider : ℕ) (ticks : List ℕ) → bound ≤ wider → RisesBelow bound ticks → RisesBelow wider ticks
RisesBelow-wider bound wider ticks less rises = record {
  rises = rises.rises;
  below = λ i d inside. let here = rises.below i d inside in omega (arith, here, less);
}

RisesBelow-nothing : (bound : ℕ) → RisesBelow bound []
RisesBelow-nothing bound = record { rises = λ i j d less inside. absurd (omega (arith, inside)); below = λ i d inside. absurd (omega (arith, inside)) }

RisesBelow-next : (known bound : ℕ) (ticks : List ℕ) → known < bound → RisesBelow known ticks → RisesBelow bound (ticks ++ known ∷ [])
RisesBelow-next known bound ticks less rises = record {
  rises = all_pairs_push (λ earlier later. earlier < later) ticks known rises.rises (λ k d inside. rises.below k d inside);
  below = All-push (λ number. number < bound) ticks known (RisesBelow-wider known bound ticks (omega (arith, less)) rises).below less;
}

-- numbers so far: they rise below the next one, and together with it they begin with the first one
pub record RisesFrom (first next : ℕ) (ticks : List ℕ) : Type 0 where
  pub rises : RisesBelow next ticks
  pub begins : BeginsWith first (ticks ++ next ∷ [])

begins_so_far : (first next : ℕ) (ticks : List ℕ) → BeginsWith first (ticks ++ next ∷ []) → BeginsWith first ticks
begins_so_far first next [] begins = tt
begins_so_far first next (number ∷ ticks) begins = begins

begins_still : (first next later : ℕ) (ticks : List ℕ) → BeginsWith first (ticks ++ next ∷ []) → BeginsWith first ((ticks ++ next ∷ []) ++ later ∷ [])
begins_still first next later [] begins = begins
begins_still first next later (number ∷ ticks) begins = begins

pub rises_nothing : (first : ℕ) → RisesFrom first first []
rises_nothing first = record { rises = RisesBelow-nothing first; begins = refl }

-- one more number, which is greater than those before it
pub rises_next : (first known bound : ℕ) (ticks : List ℕ) → known < bound → RisesFrom first known ticks → RisesFrom first bound (ticks ++ known ∷ [])
rises_next first known bound ticks less so_far =
    record { rises = RisesBelow-next known bound ticks less so_far.rises; begins = begins_still first known bound ticks so_far.begins }

-- the last one
pub rises_last : (first last known : ℕ) (ticks : List ℕ) → known ≡ last → RisesFrom first known ticks →
    RisesTo last (ticks ++ known ∷ []) × BeginsWith first (ticks ++ known ∷ [])
rises_last first last known ticks all so_far =
    ((ticks, subst (λ bound. RisesBelow bound ticks) all so_far.rises, ap (λ number. ticks ++ number ∷ []) all), so_far.begins)

-- a run that stopped
pub rises_stopped : (first next bound : ℕ) (ticks : List ℕ) → next ≤ bound → RisesFrom first next ticks → RisesBelow bound ticks × BeginsWith first ticks
rises_stopped first next bound ticks less so_far = (RisesBelow-wider next bound ticks less so_far.rises, begins_so_far first next ticks so_far.begins)

module _ {S : Type 0} (reports : S → List ℕ → S → Type 0) (joined : (old mid new : S) (first second : List ℕ) →
    reports old first mid → reports mid second new → reports old (first ++ second) new) where
  -- one more number
  pub Reported-more : (P Q : List ℕ → Type 0) (number : ℕ) (old mid new : S) → ((ticks : List ℕ) → P ticks → Q (ticks ++ number ∷ [])) →
      Reported reports P old mid → reports mid (number ∷ []) new → Reported reports Q old new
  Reported-more P Q number old mid new more (ticks, reported, holds) next =
      (ticks ++ number ∷ [], joined old mid new ticks (number ∷ []) reported next, more ticks holds)

  -- the next tick of a run tick by tick
  pub reports-next : (count : ℕ) (old mid new : S) → reports old (range_with_len 0 count) mid → reports mid (count ∷ []) new →
      reports old (range_with_len 0 (count + 1)) new
  reports-next count old mid new reported next =
      let more : range_with_len 0 (count + 1) ≡ range_with_len 0 count ++ count ∷ [] =
      sym (map-id (range_with_len 0 (count + 1))) ∙ map-range_with_len_more (λ number. number) 0 count count (omega arith)
      ∙ ap (λ numbers. numbers ++ count ∷ []) (map-id (range_with_len 0 count)) in
      subst (λ ticks. reports old ticks new) (sym more) (joined old mid new (range_with_len 0 count) (count ∷ []) reported next)

module _ {S : Type 0} (reports : S → List ℕ → S → Type 0) where
  -- what follows of numbers
  pub Reported-weaker : (P Q : List ℕ → Type 0) (old new : S) → ((ticks : List ℕ) → P ticks → Q ticks) → Reported reports P old new → Reported reports Q old new
  Reported-weaker P Q old new weaker (ticks, reported, holds) = (ticks, reported, weaker ticks holds)

  -- where nothing is reported, a run stopped
  pub progress_from-nothing : {A F : Type 0} (first : ℕ) (result : Result A F) (fault : F) (horizon : ℕ) (state : S) → result ≡ Err fault →
      reports state [] state → Reported reports (IsProgressFrom first result horizon) state state
  progress_from-nothing first result fault horizon state is nothing = rw is ([], nothing, (RisesBelow-nothing (horizon + 2), tt))

  pub progress-nothing : {A F : Type 0} (result : Result A F) (fault : F) (horizon : ℕ) (state : S) → result ≡ Err fault → reports state [] state →
      Reported reports (IsProgress result horizon) state state
  progress-nothing result fault horizon state is nothing = rw is ([], nothing, RisesBelow-nothing (horizon + 2))

  -- however that ends which follows, all was reported
  pub progress-behind : {A F : Type 0} (result : Result A F) (horizon : ℕ) (old new : S) → Reported reports (RisesTo (horizon + 1)) old new →
      Reported reports (IsProgress result horizon) old new
  progress-behind (Ok value) horizon old new reported = reported
  progress-behind (Err fault) horizon old new (ticks, reported, (earlier, rises, is)) =
      (ticks, reported, subst (RisesBelow (horizon + 2)) (sym is) (RisesBelow-next (horizon + 1) (horizon + 2) earlier (omega arith) rises))

  -- a run tick by tick that stopped
  pub tick_by_tick-stopped : {A F : Type 0} (result : Result A F) (fault : F) (horizon count : ℕ) (old new : S) → result ≡ Err fault → count ≤ horizon + 2 →
      reports old (range_with_len 0 count) new → Reported reports (IsTickByTick result horizon) old new
  tick_by_tick-stopped result fault horizon count old new is less reported = rw is (range_with_len 0 count, reported, (count, less, refl))

  -- however that ends which follows, all ticks were reported
  pub tick_by_tick-behind : {A F : Type 0} (result : Result A F) (horizon : ℕ) (old new : S) → Reported reports (CountsTo (horizon + 1)) old new →
      Reported reports (IsTickByTick result horizon) old new
  tick_by_tick-behind (Ok value) horizon old new reported = reported
  tick_by_tick-behind (Err fault) horizon old new (ticks, reported, all) = (ticks, reported, (horizon + 2, omega arith, all ∙ ap (range_with_len 0) (omega arith)))

  -- where nothing is reported, a run tick by tick stopped
  pub tick_by_tick-nothing : {A F : Type 0} (result : Result A F) (fault : F) (horizon : ℕ) (state : S) → result ≡ Err fault → reports state [] state →
      Reported reports (IsTickByTick result horizon) state state
  tick_by_tick-nothing result fault horizon state is nothing = tick_by_tick-stopped result fault horizon 0 state state is (omega arith) nothing
