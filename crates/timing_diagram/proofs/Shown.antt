-- Columns read back.
use Rattle.std.proofs.Common.{◌≡◌, ◌∙◌, refl, sym, ap, arith, ℕ, zero, suc, ◌+◌, ◌-◌, ◌<◌, ◌≤◌, Bool, true, false, cond, map, None, Some, slice_get}
use Rattle.std.proofs.lemmas.Bool.{false≢true}
use Rattle.std.specs.List.{range_with_len}
use Rattle.std.specs.Option.{option_and_then}
use Rattle.logic3.specs.declared.value.Value.{Value}
use Rattle.logic3.specs.declared.value.Value.TheVariants.{Zero, One, Unknown}
use Rattle.logic3.specs.Value.{is_same, is_same_equiv}
use Rattle.logic3.proofs.CallerLemmas.{is_same-true}
use Rattle.timing_diagram.specs.declared.mark.Mark.TheVariants.{Changing}
use Rattle.timing_diagram.specs.Columns.{Ticks, column_count, last_tick, shown_tick}
use Rattle.timing_diagram.specs.Marks.{is_steady, has_edge, level_mark, mark_at, shows_value}
use Rattle.timing_diagram.specs.Drawing.{mark_byte}
use Rattle.timing_diagram.specs.Read.{column_value, drawn_value, value_of_character}
use Rattle.timing_diagram.proofs.Steady.{changes_there}

at_range : (f : ℕ → ℕ) (from count k : ℕ) → k < count → slice_get (map f (range_with_len from count)) k ≡ Some (f (from + k))
at_range f from zero k inside = absurd (omega arith)
at_range f from (suc count) zero inside = let here : from ≡ from + zero = omega arith in ap (λ n. Some (f n)) here
at_range f from (suc count) (suc k) inside =
    let along : from + 1 + k ≡ from + suc k = omega arith in
    at_range f (from + 1) count k (omega arith) ∙ ap (λ n. Some (f n)) along

mark_back : (steady edge : Bool) (value : Value) →
    value_of_character (mark_byte (cond steady (level_mark edge value) Changing)) ≡ cond steady (Some value) None
mark_back false edge value = refl
mark_back true true Zero = refl
mark_back true false Zero = refl
mark_back true true One = refl
mark_back true false One = refl
mark_back true true Unknown = refl
mark_back true false Unknown = refl

pub column_back : (signal : ℕ → Value) (ticks : Ticks) (column : ℕ) → column < column_count ticks →
    drawn_value signal ticks column ≡ column_value signal ticks column
column_back signal ticks column inside =
    let here : 0 + column ≡ column = omega arith in
    ap (option_and_then value_of_character)
    (at_range (λ k. mark_byte (mark_at signal ticks k)) 0 (column_count ticks) column inside ∙ ap (λ k. Some (mark_byte (mark_at signal ticks k))) here)
    ∙ mark_back (shows_value signal ticks column) (has_edge signal ticks column) (signal (shown_tick ticks column))

-- a column that shows its end shows the value there
pub end_back : (signal : ℕ → Value) (ticks : Ticks) (column : ℕ) → column < column_count ticks → ticks.at_end ≡ true →
    drawn_value signal ticks column ≡ Some (signal (last_tick ticks column))
end_back signal ticks column inside ends = column_back signal ticks column inside ∙ rw ends refl

-- one tick of a steady signal
same_there : (signal : ℕ → Value) (first last at : ℕ) → is_steady signal first last ≡ true → first ≤ at → at < last → signal (at + 1) ≡ signal at
same_there signal first last at steady a b = go (is_same (signal (at + 1)) (signal at)) refl
  where
    go : (same : Bool) → is_same (signal (at + 1)) (signal at) ≡ same → signal (at + 1) ≡ signal at
    go true e = is_same-true _ _ e
    go false e =
        let before : at + 1 - 1 ≡ at = omega arith in
        absurd (false≢true
        (sym (changes_there signal first last (at + 1) (signal (at + 1)) (omega arith) (omega arith) refl
        (λ is. false≢true (sym e ∙ ap (λ v. is_same (signal (at + 1)) v) (ap signal (sym before) ∙ is) ∙ is_same_equiv.refl (signal (at + 1)))))
        ∙ steady))

stays : (signal : ℕ → Value) (first last more : ℕ) → is_steady signal first last ≡ true → first + more ≤ last → signal (first + more) ≡ signal first
stays signal first last zero steady b = let here : first + zero ≡ first = omega arith in ap signal here
stays signal first last (suc more) steady b =
    let along : first + suc more ≡ first + more + 1 = omega arith in
    ap signal along ∙ same_there signal first last (first + more) steady (omega arith) (omega arith)
    ∙ stays signal first last more steady (omega arith)

pub steady_stays : (signal : ℕ → Value) (first last tick : ℕ) → is_steady signal first last ≡ true → first ≤ tick → tick ≤ last → signal tick ≡ signal first
steady_stays signal first last tick steady a b =
    let at : tick ≡ first + (tick - first) = omega arith in
    ap signal at ∙ stays signal first last (tick - first) steady (omega arith)
