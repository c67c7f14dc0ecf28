-- Since when signals swing.
use Rattle.std.proofs.Common.{◌≡◌, ℕ, zero, suc, ◌-◌, ◌<◌, ◌≤◌, ◌&&◌, nat_le, nat_lt, Bool, true, false, cond, Option, None, Some, refl, ap, ◌∙◌, arith, ◌⊎◌, inl, inr}
use Rattle.std.proofs.lemmas.Bool.{cases_lt}
use Rattle.logic3.specs.declared.value.Value.{Value}
use Rattle.logic3.specs.Value.{is_same}
use Rattle.causes.specs.declared.cause.Reason.{Reason}
use Rattle.causes.specs.declared.cause.Reason.TheVariants.{Pin, Swings}
use Rattle.causes.specs.Swings.{repeats, swing_start, unless_swing}

-- one tick back where the signal repeats
pub start_back : (signal : ℕ → Value) (period tick : ℕ) → 0 < tick → repeats signal period tick ≡ true →
    swing_start signal period (tick - 1) ≡ swing_start signal period tick
start_back signal period zero some again = absurd (omega arith)
start_back signal period (suc tick) some again =
    let back : suc tick - 1 ≡ tick = omega arith in
    rw (back, again) refl

-- where it doesn't, or at tick 0, the swing starts
pub start_here : (signal : ℕ → Value) (period tick : ℕ) → repeats signal period tick ≡ false → swing_start signal period tick ≡ tick
start_here signal period zero not = refl
start_here signal period (suc tick) not = rw not refl

pub start_at_zero : (signal : ℕ → Value) (period tick : ℕ) → tick ≤ 0 → swing_start signal period tick ≡ tick
start_at_zero signal period zero none = refl
start_at_zero signal period (suc tick) none = absurd (omega arith)

-- after the start it repeats
pub swing-holds : (signal : ℕ → Value) (period tick at : ℕ) → swing_start signal period tick < at → at ≤ tick → repeats signal period at ≡ true
swing-holds signal period zero at past to = absurd (omega (arith, past, to))
swing-holds signal period (suc tick) at past to =
    go (repeats signal period (suc tick)) refl past (λ past to. swing-holds signal period tick at past to) (cases_lt tick at)
  where
    go : (again : Bool) → repeats signal period (suc tick) ≡ again → cond again (swing_start signal period tick) (suc tick) < at →
        (swing_start signal period tick < at → at ≤ tick → repeats signal period at ≡ true) → (tick < at) ⊎ (at ≤ tick) →
        repeats signal period at ≡ true
    go true is past rest (inl last) = ap (repeats signal period) (let e : at ≡ suc tick = omega (arith, last, to) in e) ∙ is
    go true is past rest (inr within) = rest past within
    go false is past rest where_at = absurd (omega (arith, past, to))

-- and at the start it doesn't
pub swing-begins : (signal : ℕ → Value) (period tick : ℕ) → 0 < swing_start signal period tick →
    repeats signal period (swing_start signal period tick) ≡ false
swing-begins signal period zero some = absurd (omega (arith, some))
swing-begins signal period (suc tick) some =
    go (repeats signal period (suc tick)) refl some (λ some. swing-begins signal period tick some)
  where
    go : (again : Bool) → repeats signal period (suc tick) ≡ again → 0 < cond again (swing_start signal period tick) (suc tick) →
        (0 < swing_start signal period tick → repeats signal period (swing_start signal period tick) ≡ false) →
        repeats signal period (cond again (swing_start signal period tick) (suc tick)) ≡ false
    go true is some rest = rest some
    go false is some rest = is

module _ (f g : ℕ → Value) where
  same_repeats : (period tick : ℕ) → ((at : ℕ) → at ≤ tick → f at ≡ g at) → repeats f period tick ≡ repeats g period tick
  same_repeats period tick same = λ i. nat_le period tick && is_same (same tick (omega arith) i) (same (tick - period) (omega arith) i)

  same_start : (period tick : ℕ) → ((at : ℕ) → at ≤ tick → f at ≡ g at) → swing_start f period tick ≡ swing_start g period tick
  same_start period zero same = refl
  same_start period (suc tick) same =
      λ i. cond (same_repeats period (suc tick) same i) (same_start period tick (λ at le. same at (omega arith)) i) (suc tick)

  -- signals that are the same up to the later tick give the same reason
  pub same_unless_swing : (from : ℕ) (again : Option ℕ) (reason : Reason) → ((later at : ℕ) → again ≡ Some later → at ≤ later → f at ≡ g at) →
      unless_swing f from again reason ≡ unless_swing g from again reason
  same_unless_swing from None (Pin place) same = refl
  same_unless_swing from (Some later) (Pin place) same =
      ap (λ start. cond (nat_lt start from) (Swings start (later - from)) (Pin place))
      (same_start (later - from) later (λ at le. same later at refl le))
  same_unless_swing from again _ same = refl
