-- Text that goes out piece by piece.
use Rattle.std.proofs.Common.{ℕ, List, ◌++◌, Option, ap, subst, sym, ◌∙◌, append_assoc}
use Rattle.std.specs.Io.KnownBytes.{Appends}
use Rattle.std.proofs.KnownBytes.{Appends-trans}
use Rattle.texts.specs.Written.{AppendsPrefix, GoesOut}
use Rattle.texts.proofs.Prefixes.{AppendsPrefix-after, AppendsPrefix-longer, AppendsPrefix-piece}

-- some of what waits goes out, before what is behind it
pub GoesOut-then : (old mid new : Option (List ℕ)) (text piece left rest : List ℕ) → GoesOut old mid text (piece ++ rest) →
    GoesOut mid new piece left → GoesOut old new text (left ++ rest)
GoesOut-then old mid new text piece left rest first second = record {
  went = first.went ++ second.went;
  sent = Appends-trans old mid new first.went second.went first.sent second.sent;
  whole = append_assoc first.went second.went (left ++ rest)
      ∙ ap (λ xs. first.went ++ xs) (sym (append_assoc second.went left rest))
      ∙ ap (λ xs. first.went ++ (xs ++ rest)) second.whole
      ∙ first.whole;
}

-- no more of it goes out
pub GoesOut-stopped : (old new : Option (List ℕ)) (text waiting : List ℕ) → GoesOut old new text waiting → AppendsPrefix old new text
GoesOut-stopped old new text waiting first =
    subst (AppendsPrefix old new) first.whole (AppendsPrefix-piece old new first.went waiting first.sent)

-- a fault at some of what waits
pub GoesOut-fault : (old mid new : Option (List ℕ)) (text piece rest : List ℕ) → GoesOut old mid text (piece ++ rest) →
    AppendsPrefix mid new piece → AppendsPrefix old new text
GoesOut-fault old mid new text piece rest first fault =
    subst (AppendsPrefix old new) first.whole
    (AppendsPrefix-after old mid new first.went (piece ++ rest) first.sent (AppendsPrefix-longer mid new piece rest fault))

-- all that waits goes out
pub GoesOut-sent : (old mid new : Option (List ℕ)) (text waiting : List ℕ) → GoesOut old mid text waiting → Appends mid new waiting →
    Appends old new text
GoesOut-sent old mid new text waiting first second =
    subst (Appends old new) first.whole (Appends-trans old mid new first.went waiting first.sent second)

-- a fault at all that waits
pub GoesOut-broken : (old mid new : Option (List ℕ)) (text waiting : List ℕ) → GoesOut old mid text waiting →
    AppendsPrefix mid new waiting → AppendsPrefix old new text
GoesOut-broken old mid new text waiting first fault =
    subst (AppendsPrefix old new) first.whole (AppendsPrefix-after old mid new first.went waiting first.sent fault)

-- more text behind what waits
pub GoesOut-behind : (old new : Option (List ℕ)) (text waiting more : List ℕ) → GoesOut old new text waiting →
    GoesOut old new (text ++ more) (waiting ++ more)
GoesOut-behind old new text waiting more first = record {
  went = first.went;
  sent = first.sent;
  whole = sym (append_assoc first.went waiting more) ∙ ap (λ xs. xs ++ more) first.whole;
}

-- some of all that waits goes out
pub GoesOut-next : (old mid new : Option (List ℕ)) (text waiting left : List ℕ) → GoesOut old mid text waiting →
    GoesOut mid new waiting left → GoesOut old new text left
GoesOut-next old mid new text waiting left first second = record {
  went = first.went ++ second.went;
  sent = Appends-trans old mid new first.went second.went first.sent second.sent;
  whole = append_assoc first.went second.went left ∙ ap (λ xs. first.went ++ xs) second.whole ∙ first.whole;
}
