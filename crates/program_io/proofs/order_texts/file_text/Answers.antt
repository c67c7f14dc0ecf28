use Rattle.std.proofs.Common.{◌≡◌, ◌+◌, ℕ, List, take, Option, Some, None, IfSome, Bor, sym, ap, subst, ◌∙◌, arith}
use Rattle.std.proofs.lemmas.List.{take-take}
use Rattle.texts.specs.Text.{longest_text}
use Rattle.program_io.specs.Options.{IsRead, KnownTexts, text_named}
use Rattle.program_io.proofs.order_texts.file_text.Goals as goal

-- so many bytes of what was handed out are so many of the text
IsRead-cut : (known : Option (List ℕ)) (text read : List ℕ) → IfSome known (λ all. take (longest_text + 1) text ≡ take (longest_text + 1) all) →
    read ≡ take (longest_text + 1) text → IsRead known read
IsRead-cut None text read same is =
    is ∙ sym (ap (λ bytes. take (longest_text + 1) bytes) is ∙ take-take (longest_text + 1) (longest_text + 1) text (omega arith))
IsRead-cut (Some all) text read same is = is ∙ same

IsRead-named : (known : KnownTexts) (name : Option (Bor (List ℕ))) (file : Bor (List ℕ)) (text read : List ℕ) → name ≡ Some file →
    IfSome (known file.now) (λ all. take (longest_text + 1) text ≡ take (longest_text + 1) all) → read ≡ take (longest_text + 1) text →
    IsRead (text_named known name) read
IsRead-named known name file text read is same cut =
    subst (λ (n : Option (Bor (List ℕ))). IsRead (text_named known n) read) (sym is) (IsRead-cut (known file.now) text read same cut)

pub returns-in-Ok-clause-ok : goal.returns-in-Ok-clause-ok
returns-in-Ok-clause-ok g c =
    IsRead-named (g.T.Texts.known c.args.texts.now) c.args.name c.in-Some.name c.in-Ok.text.items _ c.in-Some.is c.in-Ok.ensures.bytes c.truncate.ensures.items
