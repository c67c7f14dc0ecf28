-- Texts of numbers in a row, end to end.
use Rattle.std.proofs.Common.{◌≡◌, ℕ, zero, suc, ◌+◌, ◌-◌, ◌<◌, ◌≤◌, List, [], ◌++◌, flat_map, refl, ap, sym, ◌∙◌, arith, append_assoc, append-nil}
use Rattle.std.specs.List.{range_with_len}

-- the texts of the numbers from one up to but not including another
abbrev pub between : (ℕ → List ℕ) → ℕ → ℕ → List ℕ
between text from to = flat_map text (range_with_len from (to - from))

pub between-none : (text : ℕ → List ℕ) (from : ℕ) → between text from from ≡ []
between-none text from = let none : from - from ≡ 0 = omega arith in rw none refl

-- the first text
pub between-first : (text : ℕ → List ℕ) (from to : ℕ) → from < to → between text from to ≡ text from ++ between text (from + 1) to
between-first text from to h = let one : to - from ≡ suc (to - (from + 1)) = omega arith in rw one refl

quiet : (text : ℕ → List ℕ) (from to gap : ℕ) → from + gap ≤ to → ((k : ℕ) → from ≤ k → k < from + gap → text k ≡ []) →
    between text from to ≡ between text (from + gap) to
quiet text from to zero h none = let same : from + zero ≡ from = omega arith in ap (λ k. between text k to) (sym same)
quiet text from to (suc gap) h none =
    let here : text from ≡ [] = none from (omega arith) (omega arith) in
    let along : from + 1 + gap ≡ from + suc gap = omega arith in
    between-first text from to (omega arith)
    ∙ ap (λ xs. xs ++ between text (from + 1) to) here
    ∙ quiet text (from + 1) to gap (omega arith) (λ k a b. none k (omega arith) (omega arith))
    ∙ ap (λ k. between text k to) along

-- where the first texts are empty the others are the whole
pub between-quiet : (text : ℕ → List ℕ) (from mid to : ℕ) → from ≤ mid → mid ≤ to → ((k : ℕ) → from ≤ k → k < mid → text k ≡ []) →
    between text from to ≡ between text mid to
between-quiet text from mid to a b none =
    let at : from + (mid - from) ≡ mid = omega arith in
    quiet text from to (mid - from) (omega arith) (λ k c d. none k c (omega arith)) ∙ ap (λ k. between text k to) at

split : (text : ℕ → List ℕ) (from to gap : ℕ) → from + gap ≤ to →
    between text from to ≡ between text from (from + gap) ++ between text (from + gap) to
split text from to zero h =
    let same : from + zero ≡ from = omega arith in
    rw same (sym (ap (λ xs. xs ++ between text from to) (between-none text from)))
split text from to (suc gap) h =
    let along : from + 1 + gap ≡ from + suc gap = omega arith in
    between-first text from to (omega arith)
    ∙ ap (λ xs. text from ++ xs) (split text (from + 1) to gap (omega arith))
    ∙ sym (append_assoc (text from) (between text (from + 1) (from + 1 + gap)) (between text (from + 1 + gap) to))
    ∙ ap (λ xs. xs ++ between text (from + 1 + gap) to) (sym (between-first text from (from + 1 + gap) (omega arith)))
    ∙ ap (λ k. between text from k ++ between text k to) along

-- two spans in a row
pub between-split : (text : ℕ → List ℕ) (from mid to : ℕ) → from ≤ mid → mid ≤ to →
    between text from to ≡ between text from mid ++ between text mid to
between-split text from mid to a b =
    let at : from + (mid - from) ≡ mid = omega arith in
    split text from to (mid - from) (omega arith) ∙ ap (λ k. between text from k ++ between text k to) at

-- one more text
pub between-last : (text : ℕ → List ℕ) (from to : ℕ) → from ≤ to → between text from (to + 1) ≡ between text from to ++ text to
between-last text from to h =
    between-split text from to (to + 1) h (omega arith)
    ∙ ap (λ xs. between text from to ++ xs)
    (between-first text to (to + 1) (omega arith) ∙ ap (λ xs. text to ++ xs) (between-none text (to + 1)) ∙ append-nil (text to))

pub same_from : (f g : ℕ → List ℕ) (from count : ℕ) → ((k : ℕ) → from ≤ k → k < from + count → f k ≡ g k) →
    flat_map f (range_with_len from count) ≡ flat_map g (range_with_len from count)
same_from f g from zero same = refl
same_from f g from (suc count) same =
    let here = same from (omega arith) (omega arith) in
    let rest = same_from f g (from + 1) count (λ k a b. same k (omega arith) (omega arith)) in cc

-- texts that are the same
pub between-same : (f g : ℕ → List ℕ) (from to : ℕ) → ((k : ℕ) → from ≤ k → k < to → f k ≡ g k) → between f from to ≡ between g from to
between-same f g from to same = same_from f g from (to - from) (λ k a b. same k a (omega arith))
