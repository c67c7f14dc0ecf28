-- Texts that are written one behind the other.
use Rattle.std.proofs.Common.{◌≡◌, ℕ, zero, suc, ◌+◌, ◌<◌, List, [], ◌∷◌, ◌++◌, Bor, Option, Some, length, take, drop, slice_get, slice_index_or, ap, sym, subst, ◌∙◌, take-append-drop, arith}
use Rattle.std.specs.List.{concat}
use Rattle.std.specs.Io.KnownBytes.{Appends}
use Rattle.std.proofs.KnownBytes.{Appends-trans}
use Rattle.std.proofs.lemmas.List.{append-nil, take_more}
use Rattle.std.proofs.lemmas.List.Folds.{concat-append}
use Rattle.std.proofs.lemmas.Option.{slice_get_within, get_or_from_slice_get}
use Rattle.netlist.specs.Names.{seen_names}
use Rattle.texts.specs.Written.{AppendsPrefix}
use Rattle.texts.proofs.CallerLemmas.{AppendsPrefix-after, AppendsPrefix-longer}

-- the text at a place
pub text_at : (pieces : List (Bor (List ℕ))) (at : ℕ) (other : Bor (List ℕ)) (text : List ℕ) → at < length pieces →
    text ≡ (slice_index_or pieces at other).now → slice_get (seen_names pieces) at ≡ Some text
text_at [] at other text h is = absurd (omega arith)
text_at (piece ∷ pieces) zero other text h is = ap Some (sym is)
text_at (piece ∷ pieces) (suc at) other text h is = text_at pieces at other text (omega arith) is

module _ (texts : List (List ℕ)) (at : ℕ) (text : List ℕ) (is : slice_get texts at ≡ Some text) where
  concat-next : concat (take (at + 1) texts) ≡ concat (take at texts) ++ text
  concat-next =
      ap concat (take_more texts at text (slice_get_within texts at text is) ∙ ap (λ t. take at texts ++ t ∷ []) (get_or_from_slice_get texts at text text is))
      ∙ concat-append (take at texts) (text ∷ []) ∙ ap (λ t. concat (take at texts) ++ t) (append-nil text)

  -- the next text
  pub Appends-next_text : (old mid new : Option (List ℕ)) → Appends old mid (concat (take at texts)) → Appends mid new text →
      Appends old new (concat (take (at + 1) texts))
  Appends-next_text old mid new first second =
      subst (Appends old new) (sym concat-next) (Appends-trans old mid new (concat (take at texts)) text first second)

  -- a fault at the next text
  pub AppendsPrefix-next_text : (old mid new : Option (List ℕ)) → Appends old mid (concat (take at texts)) → AppendsPrefix mid new text →
      AppendsPrefix old new (concat texts)
  AppendsPrefix-next_text old mid new first fault =
      let whole : concat texts ≡ concat (take (at + 1) texts) ++ concat (drop (at + 1) texts) =
      ap concat (sym (take-append-drop (at + 1) texts)) ∙ concat-append (take (at + 1) texts) (drop (at + 1) texts) in
      subst (AppendsPrefix old new) (sym whole) (AppendsPrefix-longer old new (concat (take (at + 1) texts)) (concat (drop (at + 1) texts))
      (subst (AppendsPrefix old new) (sym concat-next) (AppendsPrefix-after old mid new (concat (take at texts)) text first fault)))
