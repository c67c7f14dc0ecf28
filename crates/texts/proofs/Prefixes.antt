-- Prefixes of texts that are written.
use Rattle.std.proofs.Common.{◌≡◌, ℕ, suc, ◌+◌, Result, Ok, Err, OnOk, OnErr, min, List, [], ◌∷◌, ◌++◌, Option, length, take, decimal, refl, ap, sym, subst, append_assoc, ◌∙◌, arith}
use Rattle.std.proofs.lemmas.List.{take_at, take_min, take-append-le, take_all}
use Rattle.std.specs.Io.KnownBytes.{Appends}
use Rattle.std.proofs.KnownBytes.{Appends-trans}
use Rattle.texts.specs.Written.{AppendsPrefix, numbered}

-- a first part of a first part
pub AppendsPrefix-longer : (old new : Option (List ℕ)) (xs rest : List ℕ) → AppendsPrefix old new xs → AppendsPrefix old new (xs ++ rest)
AppendsPrefix-longer old new xs rest (n, appends) =
    let m = min n (length xs) in
    let same : take m (xs ++ rest) ≡ take n xs = take-append-le m xs rest (omega arith) ∙ take_min n xs in
    (m, subst (Appends old new) (sym same) appends)

take-behind : (xs ys : List ℕ) (n : ℕ) → take (length xs + n) (xs ++ ys) ≡ xs ++ take n ys
take-behind [] ys n = ap (λ k. take k ys) (omega arith)
take-behind (x ∷ xs) ys n =
    let along : suc (length xs) + n ≡ suc (length xs + n) = omega arith in
    ap (λ k. take k (x ∷ (xs ++ ys))) along ∙ ap (λ zs. x ∷ zs) (take-behind xs ys n)

-- a piece, and then a first part of the next one
pub AppendsPrefix-after : (old mid new : Option (List ℕ)) (xs ys : List ℕ) → Appends old mid xs → AppendsPrefix mid new ys →
    AppendsPrefix old new (xs ++ ys)
AppendsPrefix-after old mid new xs ys first (n, then') =
    (length xs + n, subst (Appends old new) (sym (take-behind xs ys n)) (Appends-trans old mid new xs (take n ys) first then'))

-- a piece is a first part
pub AppendsPrefix-piece : (old new : Option (List ℕ)) (xs rest : List ℕ) → Appends old new xs → AppendsPrefix old new (xs ++ rest)
AppendsPrefix-piece old new xs rest first = (length xs, subst (Appends old new) (sym (take_at xs rest (length xs) refl)) first)

-- the whole of a text is a first part of it
pub AppendsPrefix-whole : (old new : Option (List ℕ)) (text : List ℕ) → Appends old new text → AppendsPrefix old new text
AppendsPrefix-whole old new text done = (length text, subst (Appends old new) (sym (take_all (length text) text (omega arith))) done)

-- what a write left is a first part, whatever its answer
pub AppendsPrefix-either : {A E : Type 0} (result : Result A E) (old new : Option (List ℕ)) (text : List ℕ) → OnOk result (Appends old new text) →
    OnErr result (AppendsPrefix old new text) → AppendsPrefix old new text
AppendsPrefix-either (Ok value) old new text done part = AppendsPrefix-whole old new text done
AppendsPrefix-either (Err fault) old new text done part = part

-- behind a text, another one and a number
module _ (old mid new : Option (List ℕ)) (text words : List ℕ) (number : ℕ) (before : Appends old mid text) where
  pub Appends-numbered : Appends mid new (numbered words number) → Appends old new (text ++ words ++ decimal number)
  Appends-numbered next =
      subst (Appends old new) (sym (append_assoc text words (decimal number))) (Appends-trans old mid new text (numbered words number) before next)

  pub AppendsPrefix-numbered : AppendsPrefix mid new (numbered words number) → AppendsPrefix old new (text ++ words ++ decimal number)
  AppendsPrefix-numbered part =
      subst (AppendsPrefix old new) (sym (append_assoc text words (decimal number))) (AppendsPrefix-after old mid new text (numbered words number) before part)
