-- Names as XML needs them, and JSON in a page.
use Rattle.std.proofs.Common.{◌≡◌, ◌∙◌, refl, ap, ℕ, ◌==◌, Bool, true, false, cond, List, [], ◌∷◌, ◌||◌, codes}
use Rattle.std.specs.List.{list_any}
use Rattle.std.proofs.lemmas.List.Folds.{list_any-append}
use Rattle.timing_diagram.specs.Picture.{escaped_byte, escaped}
use Rattle.timing_diagram.specs.WavesPage.{unopened_byte, unopened}

byte_opens : (byte : ℕ) → list_any (λ b. b == 60) (escaped_byte byte) ≡ false
byte_opens byte = go (byte == 38) (byte == 60) refl (byte == 62)
  where
    go : (a b : Bool) → (byte == 60) ≡ b → (c : Bool) →
        list_any (λ x. x == 60) (cond a (codes "&amp;") (cond b (codes "&lt;") (cond c (codes "&gt;") (byte ∷ [])))) ≡ false
    go true b e c = refl
    go false true e c = refl
    go false false e true = refl
    go false false e false = rw e refl

byte_closes : (byte : ℕ) → list_any (λ b. b == 62) (escaped_byte byte) ≡ false
byte_closes byte = go (byte == 38) (byte == 60) (byte == 62) refl
  where
    go : (a b c : Bool) → (byte == 62) ≡ c →
        list_any (λ x. x == 62) (cond a (codes "&amp;") (cond b (codes "&lt;") (cond c (codes "&gt;") (byte ∷ [])))) ≡ false
    go true b c e = refl
    go false true c e = refl
    go false false true e = refl
    go false false false e = rw e refl

none : (p : ℕ → Bool) → ((byte : ℕ) → list_any p (escaped_byte byte) ≡ false) → (name : List ℕ) → list_any p (escaped name) ≡ false
none p each [] = refl
none p each (byte ∷ name) =
    list_any-append p (escaped_byte byte) (escaped name)
    ∙ ap (λ b. b || list_any p (escaped name)) (each byte) ∙ none p each name

pub opens_nothing : (name : List ℕ) → list_any (λ byte. byte == 60) (escaped name) ≡ false
opens_nothing = none (λ byte. byte == 60) byte_opens

pub closes_nothing : (name : List ℕ) → list_any (λ byte. byte == 62) (escaped name) ≡ false
closes_nothing = none (λ byte. byte == 62) byte_closes

-- ---- the data of a page

byte_unopened : (byte : ℕ) → list_any (λ b. b == 60) (unopened_byte byte) ≡ false
byte_unopened byte = go (byte == 60) refl
  where
    go : (a : Bool) → (byte == 60) ≡ a → list_any (λ x. x == 60) (cond a (92 ∷ codes "u003c") (byte ∷ [])) ≡ false
    go true e = refl
    go false e = rw e refl

pub page_opens_nothing : (text : List ℕ) → list_any (λ byte. byte == 60) (unopened text) ≡ false
page_opens_nothing [] = refl
page_opens_nothing (byte ∷ text) =
    list_any-append (λ b. b == 60) (unopened_byte byte) (unopened text)
    ∙ ap (λ b. b || list_any (λ b. b == 60) (unopened text)) (byte_unopened byte) ∙ page_opens_nothing text

neither : (a b : Bool) → (a || b) ≡ false → (a ≡ false) × (b ≡ false)
neither true b e = absurd (cc)
neither false b e = (refl, e)

pub page_keeps : (text : List ℕ) → list_any (λ byte. byte == 60) text ≡ false → unopened text ≡ text
page_keeps [] none = refl
page_keeps (byte ∷ text) none =
    let parts = neither (byte == 60) (list_any (λ b. b == 60) text) none in
    rw parts.0 (ap (λ rest. byte ∷ rest) (page_keeps text parts.1))
