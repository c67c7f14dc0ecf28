-- What a summary of a gate's pins tells.
use Rattle.std.proofs.Common.{◌≡◌, Bool, true, false, List, [], ◌∷◌, refl}
use Rattle.std.specs.List.{list_any, list_all}
use Rattle.logic3.specs.declared.value.Value.{Value}
use Rattle.logic3.specs.declared.value.Value.TheVariants.{Zero, One, Unknown}
use Rattle.logic3.specs.Value.{is_same}
use Rattle.logic3.proofs.GateLemmas.{no_unknown}

-- where some pin is X, not all are 0 or all 1
pub not_all : (v : Value) → is_same v Unknown ≡ false → (pins : List Value) → list_any (is_same Unknown) pins ≡ true →
    list_all (is_same v) pins ≡ false
not_all v known pins some = go (list_all (is_same v) pins) refl
  where
    go : (all : Bool) → list_all (is_same v) pins ≡ all → all ≡ false
    go true e = let none = no_unknown v known pins e in cc
    go false e = refl

-- where no pin is 0 or X, all are 1
pub all_one : (pins : List Value) → list_any (is_same Zero) pins ≡ false → list_any (is_same Unknown) pins ≡ false →
    list_all (is_same One) pins ≡ true
all_one [] a b = refl
all_one (One ∷ pins) a b = all_one pins a b
all_one (Zero ∷ pins) a b = cc
all_one (Unknown ∷ pins) a b = cc

-- where no pin is 1 or X, all are 0
pub all_zero : (pins : List Value) → list_any (is_same One) pins ≡ false → list_any (is_same Unknown) pins ≡ false →
    list_all (is_same Zero) pins ≡ true
all_zero [] a b = refl
all_zero (Zero ∷ pins) a b = all_zero pins a b
all_zero (One ∷ pins) a b = cc
all_zero (Unknown ∷ pins) a b = cc
