use Rattle.std.proofs.Common.{◌≡◌, true, false, refl, ap, sym, ◌∙◌}
use Rattle.std.specs.List.{list_any}
use Rattle.logic3.specs.declared.value.Value.TheVariants.{Zero, One, Unknown}
use Rattle.logic3.specs.Value.{is_same}
use Rattle.logic3.specs.declared.summary.Summary.{Summary}
use Rattle.logic3.proofs.Summaries.{not_all, all_zero}
use Rattle.logic3.proofs.summary.Summary.disjunction.Goals as goal

pub returns-then-self-2 : goal.returns-then-self-2
returns-then-self-2 c = λ pins is.
    let none : list_any (is_same One) pins ≡ false = sym (ap (λ (s : Summary). s.some_one) is) ∙ c.if-self.false in
    let some : list_any (is_same Unknown) pins ≡ true = sym (ap (λ (s : Summary). s.some_unknown) is) ∙ c.if-self-2.true in
    rw (none, not_all Zero refl pins some) refl

pub returns-else-self-2 : goal.returns-else-self-2
returns-else-self-2 c = λ pins is.
    let none : list_any (is_same One) pins ≡ false = sym (ap (λ (s : Summary). s.some_one) is) ∙ c.if-self.false in
    let known : list_any (is_same Unknown) pins ≡ false = sym (ap (λ (s : Summary). s.some_unknown) is) ∙ c.if-self-2.false in
    rw (none, all_zero pins none known) refl
