use Rattle.std.proofs.Common.{◌≡◌, ℕ, List, ◌++◌, ◌∙◌, if◌then◌else◌, Result, Ok, Err, OnOk, ap, append_assoc, codes}
use Rattle.std.specs.Result.{is_ok}
use Rattle.std.proofs.lemmas.Result.{on_ok_weaker}
use Rattle.texts.specs.Written.{numbered}
use Rattle.nullsim.proofs.deck_fault.push_deck_line.Goals as goal

when-ok : {A E : Type 0} (result : Result A E) (new longer same : List ℕ) → new ≡ (if is_ok result then longer else same) →
    OnOk result (new ≡ longer)
when-ok (Ok value) new longer same is = is
when-ok (Err fault) new longer same is = tt

pub returns : goal.returns
returns c =
    let told = numbered (codes " is line ") c.args.line in
    let rest = codes " of the deck\n" in
    on_ok_weaker c.extend_from_slice.result
    (λ same. same ∙ ap (λ text. text ++ rest) c.in_ok-push_numbered.ensures ∙ append_assoc c.args.text.now.items told rest)
    (when-ok c.extend_from_slice.result _ _ _ c.extend_from_slice.ensures.items)
