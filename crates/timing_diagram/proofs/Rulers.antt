-- The ticks above the columns are round, drawn, and in their columns.
use Rattle.std.proofs.Common.{◌≡◌, ◌∙◌, refl, sym, ap, arith, ℕ, suc, ◌+◌, ◌-◌, ◌*◌, ◌/◌, ◌%◌, ◌<◌, ◌≤◌, ◌⊎◌, inl, inr, nat_lt, add-one, Bool, true, false, cond}
use Rattle.std.proofs.Math.Nat.{add-mul-mod_self_right, div-eq_of_lt, div-mul-le_self, lt-div-mul-add, mod-eq_of_lt, mod-lt, mod_self, mul-le-mul_right, mul-mod_left, suc-mul}
use Rattle.std.proofs.lemmas.Bool.{cases_lt, le-ltb, lt-ltb, ltb-false}
use Rattle.std.proofs.lemmas.Nat.{div-add-mod'}
use Rattle.timing_diagram.specs.Columns.{Ticks, first_tick}
use Rattle.timing_diagram.specs.Ruler.{ahead, first_label, label_column, label_count, label_tick, ten_steps}

-- ---- the way to a multiple of a number

-- from a multiple it is nothing, and from other numbers it is what the remainder lacks
way_none : (n r : ℕ) → r ≡ 0 → (n - r) % n ≡ 0
way_none n r none = let all : n - r ≡ n = omega (arith, none) in ap (λ m. m % n) all ∙ mod_self n

way_some : (n r : ℕ) → 0 < r → r < n → (n - r) % n ≡ n - r
way_some n r some below = mod-eq_of_lt (omega (arith, some, below))

-- it leads to a multiple, and not past another one
to_multiple : (n from tick : ℕ) → 0 < n → from ≤ tick → tick % n ≡ 0 →
    (m : ℕ) × (from + (n - from % n) % n ≡ m * n) × (from + (n - from % n) % n ≤ tick)
to_multiple n from tick some later round = go (cases_lt 0 (from % n))
  where
    q : ℕ
    q = from / n

    u : ℕ
    u = tick / n

    parts : q * n + from % n ≡ from
    parts = div-add-mod' from n

    whole : u * n ≡ tick
    whole = omega (arith, div-add-mod' tick n, round)

    go : (0 < from % n) ⊎ (from % n ≤ 0) → (m : ℕ) × (from + (n - from % n) % n ≡ m * n) × (from + (n - from % n) % n ≤ tick)
    go (inr none) =
        let way = way_none n (from % n) (omega (arith, none)) in
        (q, omega (arith, way, parts, none), omega (arith, way, later))
    go (inl some_left) =
        let below = mod-lt from some in
        let way = way_some n (from % n) some_left below in
        let next = suc-mul q n in
        let far : q < u = past (cases_lt q u) in
        let reached = mul-le-mul_right {m = suc q} {n = u} n far in
        (suc q, omega (arith, way, next, parts, below), omega (arith, way, next, parts, below, reached, whole))
      where
        past : (q < u) ⊎ (u ≤ q) → q < u
        past (inl far) = far
        past (inr near) = let back = mul-le-mul_right {m = u} {n = q} n near in absurd (omega (arith, back, whole, parts, some_left, later))

-- ---- the first one

-- it is the first tick, or as far after it as a multiple is
first_at : (from to way : ℕ) → (way ≡ 0) ⊎ (to - from < way) → cond (nat_lt (to - from) way) from (from + way) ≡ from
first_at from to way (inl none) =
    let near : nat_lt (to - from) way ≡ false = le-ltb (to - from) way (omega (arith, none)) in
    let here : from + way ≡ from = omega (arith, none) in
    ap (λ b. cond b from (from + way)) near ∙ here
first_at from to way (inr far) = ap (λ b. cond b from (from + way)) (lt-ltb (to - from) way far)

first_reached : (from to way : ℕ) → way ≤ to - from → cond (nat_lt (to - from) way) from (from + way) ≡ from + way
first_reached from to way near = ap (λ b. cond b from (from + way)) (le-ltb (to - from) way near)

-- no multiple is drawn, or only 0, if the last tick is below ten steps
pub first_label-far : (ticks : Ticks) → ticks.from ≤ ticks.to → ticks.to < ten_steps ticks → first_label ticks ≡ ticks.from
first_label-far ticks forward far = first_at ticks.from ticks.to (ahead ticks) (go (cases_lt 0 ticks.from))
  where
    n : ℕ
    n = ten_steps ticks

    left : ticks.from % n ≡ ticks.from
    left = mod-eq_of_lt (omega (arith, forward, far))

    go : (0 < ticks.from) ⊎ (ticks.from ≤ 0) → (ahead ticks ≡ 0) ⊎ (ticks.to - ticks.from < ahead ticks)
    go (inr none) = inl (way_none n (ticks.from % n) (omega (arith, left, none)))
    go (inl some) =
        let way = way_some n (ticks.from % n) (omega (arith, left, some)) (omega (arith, left, forward, far)) in
        inr (omega (arith, way, left, forward, far, some))

pub first_label-drawn : (ticks : Ticks) → ticks.from ≤ ticks.to → (ticks.from ≤ first_label ticks) × (first_label ticks ≤ ticks.to)
first_label-drawn ticks forward = go (nat_lt (ticks.to - ticks.from) (ahead ticks)) (ltb-false (ticks.to - ticks.from) (ahead ticks))
  where
    go : (far : Bool) → (far ≡ false → ahead ticks ≤ ticks.to - ticks.from) →
        (ticks.from ≤ cond far ticks.from (ticks.from + ahead ticks)) × (cond far ticks.from (ticks.from + ahead ticks) ≤ ticks.to)
    go true near = (omega arith, forward)
    go false near = let in_time = near refl in (omega arith, omega (arith, in_time, forward))

-- ---- all of them

pub label_count-far : (ticks : Ticks) → ticks.from ≤ ticks.to → ticks.to < ten_steps ticks → 1 ≡ label_count ticks
label_count-far ticks forward far =
    let none : (ticks.to - first_label ticks) / ten_steps ticks ≡ 0 = div-eq_of_lt (omega (arith, far)) in
    ap (λ n. n + 1) (sym none)

pub label-drawn : (ticks : Ticks) (place : ℕ) → 1 ≤ ticks.step → ticks.from ≤ ticks.to → place < label_count ticks →
    (ticks.from ≤ label_tick ticks place) × (label_tick ticks place ≤ ticks.to)
label-drawn ticks place some forward inside =
    let first = first_label-drawn ticks forward in
    let places : place ≤ (ticks.to - first_label ticks) / ten_steps ticks = omega (arith, inside) in
    let steps = mul-le-mul_right {m = place} {n = (ticks.to - first_label ticks) / ten_steps ticks} (ten_steps ticks) places in
    let room = div-mul-le_self (ticks.to - first_label ticks) (ten_steps ticks) in
    (omega (arith, first.0), omega (arith, first.0, first.1, steps, room))

pub label-inside : (ticks : Ticks) (place : ℕ) → 1 ≤ ticks.step → ticks.from ≤ label_tick ticks place →
    (first_tick ticks (label_column ticks place) ≤ label_tick ticks place)
    × (label_tick ticks place < first_tick ticks (label_column ticks place + 1))
label-inside ticks place some after =
    let column = label_column ticks place in
    let low = div-mul-le_self (label_tick ticks place - ticks.from) ticks.step in
    let high = lt-div-mul-add {a = label_tick ticks place - ticks.from} {b = ticks.step} some in
    let next : (column + 1) * ticks.step ≡ column * ticks.step + ticks.step = rw add-one (suc-mul column ticks.step) in
    (omega (arith, low, after), omega (arith, high, next, after))

pub label-round : (ticks : Ticks) (tick place : ℕ) → 1 ≤ ticks.step → ticks.from ≤ tick → tick ≤ ticks.to →
    tick % ten_steps ticks ≡ 0 → label_tick ticks place % ten_steps ticks ≡ 0
label-round ticks tick place some from to round =
    let n = ten_steps ticks in
    let at = to_multiple n ticks.from tick (omega (arith, some)) from round in
    let first : first_label ticks ≡ at.0 * n = first_reached ticks.from ticks.to (ahead ticks) (omega (arith, at.2, to)) ∙ at.1 in
    add-mul-mod_self_right (first_label ticks) place n ∙ ap (λ m. m % n) first ∙ mul-mod_left at.0 n
