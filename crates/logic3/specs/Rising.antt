-- Lists that rise strictly.
use Rattle.std.specs.Prelude.{ℕ, ◌<◌, List, AllPairs}
use Rattle.logic3.specs.declared.change.Change.{Change}

-- by a number of each element
abbrev pub RisesBy : {A : Type 0} → (A → ℕ) → List A → Type 0
RisesBy key xs = AllPairs (λ earlier later. key earlier < key later) xs

-- numbers
abbrev pub Rises : List ℕ → Type 0
Rises numbers = RisesBy (λ number. number) numbers

-- changes by their ticks
abbrev pub TicksRise : List Change → Type 0
TicksRise changes = RisesBy (λ (change : Change). change.tick) changes
