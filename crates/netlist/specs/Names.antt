-- Names by number.
use Rattle.std.specs.Prelude.{◌≢◌, ℕ, ◌≤◌, ◌^◌, List, length, map, AllPairs}
use denote.Ref.{Bor}

-- distinct names, few enough for numbers of 32 bits
pub record IsNames (names : List (List ℕ)) : Type 0 where
  pub distinct : AllPairs (λ (earlier later : List ℕ). earlier ≢ later) names
  pub few : length names ≤ 2 ^ 32

-- names that code borrows
abbrev pub seen_names : List (Bor (List ℕ)) → List (List ℕ)
seen_names names = map (λ name. name.now) names
