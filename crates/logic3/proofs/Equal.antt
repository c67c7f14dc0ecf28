-- The tests of sameness say what is the same.
use Rattle.std.proofs.Common.{◌≡◌, true, refl, ap}
use Rattle.std.specs.Bool.{Decides}
use Rattle.std.specs.Cmp.Lexicographic.{pointwise}
use Rattle.std.proofs.lemmas.Bool.Decides.{Decides-and, Decides-eqb}
use Rattle.std.proofs.lemmas.Slice.Eq.{slice_eq-Decides}
use Rattle.logic3.specs.declared.value.Value.{Value}
use Rattle.logic3.specs.declared.value.Value.TheVariants.{Zero, One, Unknown}
use Rattle.logic3.specs.declared.change.Change.{Change}
use Rattle.logic3.specs.Value.{is_same, is_same_equiv}
use Rattle.logic3.specs.Wave.{Wave, is_same_change, is_same_wave}

pub is_same-true : (v w : Value) → is_same v w ≡ true → v ≡ w
is_same-true Zero Zero e = refl
is_same-true One One e = refl
is_same-true Unknown Unknown e = refl
is_same-true _ _ e = cc

is_same-Decides : (v w : Value) → Decides (is_same v w) (v ≡ w)
is_same-Decides v w = (is_same-true v w, λ e. rw e (is_same_equiv.refl w))

pub is_same_change-Decides : (first second : Change) → Decides (is_same_change first second) (first ≡ second)
is_same_change-Decides first second =
    let both = Decides-and _ _ (Decides-eqb first.tick second.tick) (is_same-Decides first.value second.value) in
    (λ e. let fields = both.0 e in λ i. record { tick = fields.0 i; value = fields.1 i }, λ e. both.1 (ap (λ (c : Change). c.tick) e, ap (λ (c : Change). c.value) e))

pub is_same_wave-Decides : (first second : Wave) → Decides (is_same_wave first second) (first ≡ second)
is_same_wave-Decides first second =
    let both = Decides-and _ _ (is_same-Decides first.before second.before)
    (slice_eq-Decides is_same_change-Decides first.changes second.changes (pointwise is_same_change first.changes second.changes) refl) in
    (λ e. let fields = both.0 e in λ i. record { before = fields.0 i; changes = fields.1 i }, λ e. both.1 (ap (λ (w : Wave). w.before) e, ap (λ (w : Wave). w.changes) e))
