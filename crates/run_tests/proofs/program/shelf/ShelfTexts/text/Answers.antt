use Rattle.std.proofs.Common.{◌≡◌, ℕ, List, take, Option, Some, IfSome, ap, subst}
use Rattle.run_tests.proofs.program.shelf.ShelfTexts.text.Goals as goal

-- the whole text has the first bytes of the text
whole-known : (known : Option (List ℕ)) (text items : List ℕ) → Some text ≡ known → items ≡ text →
    IfSome known (λ all. take 16_777_217 items ≡ take 16_777_217 all)
whole-known known text items is same =
    subst (λ (k : Option (List ℕ)). IfSome k (λ all. take 16_777_217 items ≡ take 16_777_217 all)) is (ap (λ bytes. take 16_777_217 bytes) same)

pub returns-in_ok-from_slice-in-Some-clause-bytes : goal.returns-in_ok-from_slice-in-Some-clause-bytes
returns-in_ok-from_slice-in-Some-clause-bytes c = whole-known _ c.in-Some.text.now _ c.in-Some.ensures c.in_ok-from_slice-in-Some.ensures.items
