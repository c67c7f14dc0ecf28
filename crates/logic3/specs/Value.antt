-- The three values.
use Rattle.std.specs.Prelude.{◌≡◌, ℕ, Bool, true, false, List, codes, refl}
use Rattle.std.specs.Cmp.{IsEquivalence}
use Rattle.std.proofs.Common.{sym, true≢false}
use Rattle.logic3.specs.declared.value.Value.{Value}
use Rattle.logic3.specs.declared.value.Value.TheVariants.{Zero, One, Unknown}

abbrev pub is_same : Value → Value → Bool
is_same Zero Zero = true
is_same One One = true
is_same Unknown Unknown = true
is_same _ _ = false

-- NOT: 0 and 1 exchanged, X kept
abbrev pub opposite : Value → Value
opposite Zero = One
opposite One = Zero
opposite Unknown = Unknown

-- how a value is written in dumps, stimuli and messages
abbrev pub value_text : Value → List ℕ
value_text Zero = codes "0"
value_text One = codes "1"
value_text Unknown = codes "x"

-- being the same is an equivalence
pub is_same_equiv : IsEquivalence is_same
is_same_equiv = record { refl = reflexive; symm = symmetric; congr = congruent }
  where
    reflexive : (v : Value) → is_same v v ≡ true
    reflexive Zero = refl
    reflexive One = refl
    reflexive Unknown = refl

    symmetric : (v w : Value) → is_same v w ≡ is_same w v
    symmetric Zero Zero = refl
    symmetric One One = refl
    symmetric Unknown Unknown = refl
    symmetric _ _ = refl

    congruent : (u v w : Value) → is_same u v ≡ true → is_same u w ≡ is_same v w
    congruent Zero Zero w e = refl
    congruent One One w e = refl
    congruent Unknown Unknown w e = refl
    congruent _ _ w e = absurd (true≢false (sym e))
