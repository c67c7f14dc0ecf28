-- Numbers that rise are settled by which of them there are.
use Rattle.std.proofs.Common.{◌≡◌, ℕ, zero, suc, ◌<◌, ◌≤◌, List, [], ◌∷◌, get_or, Contains, refl, arith}
use Rattle.logic3.specs.Rising.{Rises}
use Rattle.netlist.proofs.CallerLemmas.{AllPairs-tail}

Rises-tail : (m : ℕ) (numbers : List ℕ) → Rises (m ∷ numbers) → Rises numbers
Rises-tail = AllPairs-tail (λ (earlier later : ℕ). earlier < later)

-- a member after the head is in the tail
Contains-tail : (n m : ℕ) (numbers : List ℕ) → Contains (m ∷ numbers) n → m < n → Contains numbers n
Contains-tail n m numbers (zero, inside, is) above = absurd (omega (arith, is))
Contains-tail n m numbers (suc k, inside, is) above = (k, omega (arith, inside), is)

-- each member of the tail comes after the head
head-lt : (n m : ℕ) (numbers : List ℕ) → Rises (m ∷ numbers) → Contains numbers n → m < n
head-lt n m numbers rising (k, inside, is) =
    let below : m < get_or numbers k n = rising 0 (suc k) n (omega arith) (omega (arith, inside)) in
    omega (arith, is)

-- no member comes before the head
head-le : (n m : ℕ) (numbers : List ℕ) → Rises (m ∷ numbers) → Contains (m ∷ numbers) n → m ≤ n
head-le n m numbers rising (zero, inside, is) = omega (arith, is)
head-le n m numbers rising (suc k, inside, is) = omega (arith, head-lt n m numbers rising (k, omega (arith, inside), is))

Contains-head : (n : ℕ) (numbers : List ℕ) → Contains (n ∷ numbers) n
Contains-head n numbers = (0, omega arith, refl)

Contains-later : (n m : ℕ) (numbers : List ℕ) → Contains numbers n → Contains (m ∷ numbers) n
Contains-later n m numbers (k, inside, is) = (suc k, omega (arith, inside), is)

-- lists that rise and have the same members are equal
pub same_from_members : (a b : List ℕ) → Rises a → Rises b → ((n : ℕ) → Contains a n → Contains b n) → ((n : ℕ) → Contains b n → Contains a n) → a ≡ b
same_from_members [] [] rising other_rising into back = refl
same_from_members [] (m ∷ b) rising other_rising into back = let at = back m (Contains-head m b) in absurd (omega (arith, at.1))
same_from_members (n ∷ a) [] rising other_rising into back = let at = into n (Contains-head n a) in absurd (omega (arith, at.1))
same_from_members (n ∷ a) (m ∷ b) rising other_rising into back =
    let low : m ≤ n = head-le n m b other_rising (into n (Contains-head n a)) in
    let high : n ≤ m = head-le m n a rising (back m (Contains-head m b)) in
    let head : n ≡ m = omega arith in
    let tail : a ≡ b =
    same_from_members a b (Rises-tail n a rising) (Rises-tail m b other_rising)
    (λ k in_a. let after : n < k = head-lt k n a rising in_a in
    Contains-tail k m b (into k (Contains-later k n a in_a)) (omega arith))
    (λ k in_b. let after : m < k = head-lt k m b other_rising in_b in
    Contains-tail k n a (back k (Contains-later k m b in_b)) (omega arith)) in
    cc
