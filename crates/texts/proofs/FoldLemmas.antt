-- Texts that mean something line after line.
use Rattle.std.proofs.Common.{◌≡◌, ℕ, ◌+◌, ◌≤◌, Bool, true, false, cond, nat_lt, List, [], ◌∷◌, ◌++◌, length, All, Result, Ok, Err, refl, ap, ◌∙◌, subst, arith}
use Rattle.std.proofs.lemmas.Bool.{le-ltb}
use Rattle.std.proofs.lemmas.List.{length_push}
use Rattle.std.proofs.lemmas.List.Elements.{All-head, All-tail, All-push}
use Rattle.texts.specs.Text.{◌>>=◌, longest_text, unless_too_long}
use Rattle.texts.specs.Fold.{fold_lines, one_a_line}

-- where two steps give a value, the first did, and the second of it
pub bind-Ok : {A B E : Type 0} (first : Result A E) (second : A → Result B E) (value : B) → (first >>= second) ≡ Ok value →
    (middle : A) × (first ≡ Ok middle) × (second middle ≡ Ok value)
bind-Ok (Ok middle) second value same = (middle, refl, same)
bind-Ok (Err fault) second value same = (cc)

-- ---- the length of a text

-- a text that isn't too long has its meaning
pub unless_too_long-short : {A E : Type 0} (fault : E) (meaning : List ℕ → Result A E) (text : List ℕ) → length text ≤ longest_text →
    unless_too_long fault meaning text ≡ meaning text
unless_too_long-short fault meaning text short = ap (λ long. cond long (Err fault) (meaning text)) (le-ltb longest_text (length text) short)

-- and only such a text has one
pub unless_too_long-Ok : {A E : Type 0} (fault : E) (meaning : List ℕ → Result A E) (text : List ℕ) (value : A) →
    unless_too_long fault meaning text ≡ Ok value → meaning text ≡ Ok value
unless_too_long-Ok fault meaning text value = go (nat_lt longest_text (length text))
  where
    go : (long : Bool) → cond long (Err fault) (meaning text) ≡ Ok value → meaning text ≡ Ok value
    go true same = (cc)
    go false same = same

-- ---- line after line

module _ {A E : Type 0} (after : A → ℕ × List ℕ → Result A E) where
  -- the next line makes something of what the earlier ones made, and so do the lines left of that
  pub fold_lines-next : (made : A) {left rest : List (ℕ × List ℕ)} {line : ℕ × List ℕ} (result : Result A E) → left ≡ line ∷ rest →
      after made line ≡ result → fold_lines after made left ≡ result >>= λ more. fold_lines after more rest
  fold_lines-next made {rest = rest} result turn gives =
      ap (fold_lines after made) turn ∙ ap (λ result. result >>= λ more. fold_lines after more rest) gives

  -- what each line keeps true of what is made and of the lines left is true in the end
  pub fold_lines-keeps : (P : A → List (ℕ × List ℕ) → Type 0) →
      ((made more : A) (line : ℕ × List ℕ) (rest : List (ℕ × List ℕ)) → P made (line ∷ rest) → after made line ≡ Ok more → P more rest) →
      (lines : List (ℕ × List ℕ)) (made all : A) → P made lines → fold_lines after made lines ≡ Ok all → P all []
  fold_lines-keeps P keeps [] made all holds same =
      let last : made ≡ all = (cc) in subst (λ made. P made []) last holds
  fold_lines-keeps P keeps (line ∷ lines) made all holds same =
      let step = bind-Ok (after made line) (λ more. fold_lines after more lines) all same in
      fold_lines-keeps P keeps lines step.0 all (keeps made step.0 line lines holds step.1) step.2

-- ---- one thing a line

module _ {A E : Type 0} (meaning : ℕ × List ℕ → Result A E) where
  -- what a line gives stands behind the others
  one_a_line-Ok : (given more : List A) (line : ℕ × List ℕ) → one_a_line meaning given line ≡ Ok more →
      (thing : A) × (meaning line ≡ Ok thing) × (given ++ thing ∷ [] ≡ more)
  one_a_line-Ok given more line same =
      let step = bind-Ok (meaning line) (λ thing. Ok (given ++ thing ∷ [])) more same in
      let last : given ++ step.0 ∷ [] ≡ more = let here = step.2 in (cc) in
      (step.0, step.1, last)

  -- there are as many things as lines
  pub length-one_a_line : (lines : List (ℕ × List ℕ)) (all : List A) → fold_lines (one_a_line meaning) [] lines ≡ Ok all → length all ≡ length lines
  length-one_a_line lines all same =
      let count = fold_lines-keeps (one_a_line meaning) (λ given left. length given + length left ≡ length lines)
      (λ given more line rest holds step.
      let now = one_a_line-Ok given more line step in
      omega (arith, holds, length_push given now.0, ap length now.2))
      lines [] all (omega arith) same in
      omega (arith, count)

  -- what holds of the thing of each line holds of all things
  pub All-one_a_line : (Q : ℕ × List ℕ → Type 0) (P : A → Type 0) →
      ((line : ℕ × List ℕ) (thing : A) → Q line → meaning line ≡ Ok thing → P thing) →
      (lines : List (ℕ × List ℕ)) (all : List A) → All Q lines → fold_lines (one_a_line meaning) [] lines ≡ Ok all → All P all
  All-one_a_line Q P holds lines all each same =
      (fold_lines-keeps (one_a_line meaning) (λ given left. All P given × All Q left)
      (λ given more line rest kept step.
      let now = one_a_line-Ok given more line step in
      (subst (All P) now.2 (All-push P given now.0 kept.0 (holds line now.0 (All-head Q line rest kept.1) now.1)), All-tail Q line rest kept.1))
      lines [] all (λ k d within. absurd (omega arith), each) same).0
