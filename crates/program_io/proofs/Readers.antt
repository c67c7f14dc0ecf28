-- What a reader gave, where its bytes are known.
use Rattle.std.proofs.Common.{◌≡◌, ◌≤◌, ◌++◌, ◌∙◌, ℕ, List, Option, Some, None, IfSome, length, take, sym, ap, append-nil, length-append, arith}
use Rattle.std.proofs.lemmas.List.{take_all, take-append-le}
use Rattle.std.proofs.KnownBytes.{Consumes-trans}
use Rattle.std.specs.Io.KnownBytes.{Consumes, IsAtEnd, Keeps}
use Rattle.program_io.specs.declared.input.ReadFault.{ReadFault}
use Rattle.program_io.specs.declared.input.ReadFault.TheVariants.{Read, Memory}
use Rattle.program_io.specs.Reading.{ReadingEndsBy, StopsBy}

-- n bytes that a reader gave are its first n
pub Consumes-first : (a b : Option (List ℕ)) (bs : List ℕ) (n : ℕ) → Consumes a b bs → length bs ≡ n → IfSome a (λ xs. bs ≡ take n xs)
Consumes-first None b bs n p e = tt
Consumes-first (Some x) None bs n p e = absurd p
Consumes-first (Some x) (Some y) bs n p e =
    sym (ap (take n) p ∙ take-append-le n bs y (omega arith) ∙ take_all n bs (omega arith))

-- bytes after which a reader is at its end are its first n, for each n that is not below their number
pub Consumes-ended : (a b : Option (List ℕ)) (bs : List ℕ) (n : ℕ) → Consumes a b bs → IsAtEnd b → length bs ≤ n → IfSome a (λ xs. bs ≡ take n xs)
Consumes-ended None b bs n p q h = tt
Consumes-ended (Some x) None bs n p q h = absurd p
Consumes-ended (Some x) (Some y) bs n p q h = sym (ap (take n) (p ∙ ap (λ l. bs ++ l) q ∙ append-nil bs) ∙ take_all n bs h)

-- what a reader gave is that after a failed call
Consumes-kept : (a b c : Option (List ℕ)) (bs : List ℕ) → Consumes a b bs → Keeps b c → Consumes a c bs
Consumes-kept None b c bs p kept = tt
Consumes-kept (Some x) None c bs p kept = absurd p
Consumes-kept (Some x) (Some y) None bs p kept = absurd kept
Consumes-kept (Some x) (Some y) (Some z) bs p kept = p ∙ ap (λ l. bs ++ l) (sym kept)

-- how reading ends after some bytes
pub ReadingEndsBy-after : (a b c : Option (List ℕ)) (bs : List ℕ) (fault : ReadFault) → Consumes a b bs → StopsBy b c fault → ReadingEndsBy a c fault
ReadingEndsBy-after a b c bs Read p kept = (bs, Consumes-kept a b c bs p kept)
ReadingEndsBy-after a b c bs Memory p (cs, more, q) = (bs ++ cs, omega (arith, more, length-append bs cs), Consumes-trans a b c bs cs p q)
