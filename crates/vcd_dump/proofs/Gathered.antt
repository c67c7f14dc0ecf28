-- The lines of a span, gathered net after net.
use Rattle.std.proofs.Common.{◌≡◌, ℕ, suc, ◌+◌, ◌<◌, ◌≤◌, ◌==◌, Bool, true, false, cond, List, [], ◌∷◌, ◌++◌, length, map, flat_map, All, refl, ap, sym, ◌∙◌, arith, append_assoc, append-nil, length-append}
use Rattle.std.specs.List.{AllByRecursion, enumerate_from}
use Rattle.std.proofs.lemmas.Bool.Decides.{nat_tests}
use Rattle.std.proofs.lemmas.List.Elements.{filter-append, recursion_from_All}
use Rattle.logic3.specs.declared.value.Value.TheVariants.{Unknown}
use Rattle.logic3.specs.declared.change.Change.{Change}
use Rattle.logic3.specs.Rising.{TicksRise}
use Rattle.vcd_dump.specs.Lines.{LineView}
use Rattle.vcd_dump.specs.Spans.{line_of, is_at_zero, lines_of, span_lines, at_tick, IsPart}
use Rattle.vcd_dump.proofs.Ordered.{OfSpan}

-- ---- what holds of each tick

pub AllByRecursion-append : {X : Type 0} (P : X → Type 0) (xs ys : List X) → AllByRecursion P xs → AllByRecursion P ys → AllByRecursion P (xs ++ ys)
AllByRecursion-append P [] ys a b = b
AllByRecursion-append P (x ∷ xs) ys a b = (a.0, AllByRecursion-append P xs ys a.1 b)

-- of the changes of a net
abbrev pub EachTick : (ℕ → Type 0) → List Change → Type 0
EachTick P part = AllByRecursion (λ (change : Change). P change.tick) part

-- of lines
abbrev pub EachLine : (ℕ → Type 0) → List LineView → Type 0
EachLine P lines = AllByRecursion (λ (line : LineView). P line.tick) lines

EachLine-map : (P : ℕ → Type 0) (place : ℕ) (part : List Change) → EachTick P part → EachLine P (map (line_of place) part)
EachLine-map P place [] each = tt
EachLine-map P place (change ∷ part) each = (each.0, EachLine-map P place part each.1)

EachLine-lines_of : (P : ℕ → Type 0) (from place : ℕ) (part : List Change) → (from ≡ 0 → P 0) → EachTick P part →
    EachLine P (lines_of from (place, part))
EachLine-lines_of P from place part start each = go (from == 0) refl (is_at_zero part)
  where
    go : (b : Bool) → (from == 0) ≡ b → (c : Bool) →
        EachLine P (map (line_of place) (cond b (cond c part (record { tick = 0; value = Unknown } ∷ part)) part))
    go true e true = EachLine-map P place part each
    go true e false = let none : from ≡ 0 = grind (arith, nat_tests) in (start none, EachLine-map P place part each)
    go false e c = EachLine-map P place part each

EachLine-from : (P : ℕ → Type 0) (from place : ℕ) (parts : List (List Change)) → (from ≡ 0 → P 0) → AllByRecursion (EachTick P) parts →
    EachLine P (flat_map (lines_of from) (enumerate_from place parts))
EachLine-from P from place [] start each = tt
EachLine-from P from place (part ∷ parts) start each =
    AllByRecursion-append (λ (line : LineView). P line.tick) (lines_of from (place, part)) (flat_map (lines_of from) (enumerate_from (place + 1) parts))
    (EachLine-lines_of P from place part start each.0) (EachLine-from P from (place + 1) parts start each.1)

-- what holds of the ticks of changes holds of those of their lines, where it holds of tick 0
pub EachLine-span_lines : (P : ℕ → Type 0) (from : ℕ) (parts : List (List Change)) → (from ≡ 0 → P 0) → AllByRecursion (EachTick P) parts →
    EachLine P (span_lines from parts)
EachLine-span_lines P from parts start each = EachLine-from P from 0 parts start each

-- ---- and the other way round

pub AllByRecursion-both : {X : Type 0} (P : X → Type 0) (xs ys : List X) → AllByRecursion P (xs ++ ys) → AllByRecursion P xs × AllByRecursion P ys
AllByRecursion-both P [] ys all = (tt, all)
AllByRecursion-both P (x ∷ xs) ys all = let rest = AllByRecursion-both P xs ys all.1 in ((all.0, rest.0), rest.1)

EachTick-map : (P : ℕ → Type 0) (place : ℕ) (part : List Change) → EachLine P (map (line_of place) part) → EachTick P part
EachTick-map P place [] each = tt
EachTick-map P place (change ∷ part) each = (each.0, EachTick-map P place part each.1)

EachTick-lines_of : (P : ℕ → Type 0) (from place : ℕ) (part : List Change) → EachLine P (lines_of from (place, part)) → EachTick P part
EachTick-lines_of P from place part each = go (from == 0) (is_at_zero part) each
  where
    go : (b c : Bool) → EachLine P (map (line_of place) (cond b (cond c part (record { tick = 0; value = Unknown } ∷ part)) part)) → EachTick P part
    go true true h = EachTick-map P place part h
    go true false h = EachTick-map P place part h.1
    go false c h = EachTick-map P place part h

EachTick-from : (P : ℕ → Type 0) (from place : ℕ) (parts : List (List Change)) →
    EachLine P (flat_map (lines_of from) (enumerate_from place parts)) → AllByRecursion (EachTick P) parts
EachTick-from P from place [] each = tt
EachTick-from P from place (part ∷ parts) each =
    let both = AllByRecursion-both (λ (line : LineView). P line.tick) (lines_of from (place, part))
    (flat_map (lines_of from) (enumerate_from (place + 1) parts)) each in
    (EachTick-lines_of P from place part both.0, EachTick-from P from (place + 1) parts both.1)

pub EachTick-span_lines : (P : ℕ → Type 0) (from : ℕ) (parts : List (List Change)) → EachLine P (span_lines from parts) →
    AllByRecursion (EachTick P) parts
EachTick-span_lines P from parts each = EachTick-from P from 0 parts each

-- ---- their places

-- lines at places below a number
abbrev pub EachPlace : ℕ → List LineView → Type 0
EachPlace nets lines = AllByRecursion (λ (line : LineView). line.place < nets) lines

EachPlace-map : (nets place : ℕ) (part : List Change) → place < nets → EachPlace nets (map (line_of place) part)
EachPlace-map nets place [] h = tt
EachPlace-map nets place (change ∷ part) h = (h, EachPlace-map nets place part h)

-- those of a net
pub EachPlace-lines_of : (nets from place : ℕ) (part : List Change) → place < nets → EachPlace nets (lines_of from (place, part))
EachPlace-lines_of nets from place part h = go (from == 0) (is_at_zero part)
  where
    go : (b c : Bool) → EachPlace nets (map (line_of place) (cond b (cond c part (record { tick = 0; value = Unknown } ∷ part)) part))
    go true true = EachPlace-map nets place part h
    go true false = (h, EachPlace-map nets place part h)
    go false c = EachPlace-map nets place part h

EachPlace-from : (nets from place : ℕ) (parts : List (List Change)) → place + length parts ≤ nets →
    EachPlace nets (flat_map (lines_of from) (enumerate_from place parts))
EachPlace-from nets from place [] h = tt
EachPlace-from nets from place (part ∷ parts) h =
    AllByRecursion-append (λ (line : LineView). line.place < nets) (lines_of from (place, part))
    (flat_map (lines_of from) (enumerate_from (place + 1) parts))
    (EachPlace-lines_of nets from place part (omega arith)) (EachPlace-from nets from (place + 1) parts (omega arith))

-- those of a span
pub EachPlace-span_lines : (nets from : ℕ) (parts : List (List Change)) → length parts ≤ nets → EachPlace nets (span_lines from parts)
EachPlace-span_lines nets from parts h = EachPlace-from nets from 0 parts (omega arith)

-- ---- the lines of tick 0

none_at_zero : (place : ℕ) (part : List Change) → EachTick (λ tick. 0 < tick) part → at_tick (map (line_of place) part) 0 ≡ []
none_at_zero place [] late = refl
none_at_zero place (change ∷ part) late =
    let first : 0 < change.tick = late.0 in
    let other : (change.tick == 0) ≡ false = grind (arith, nat_tests) in
    rw other (none_at_zero place part late.1)

-- changes that rise are later than the first
rest_later : (change : Change) (part : List Change) → TicksRise (change ∷ part) → EachTick (λ tick. change.tick < tick) part
rest_later change part rise =
    recursion_from_All (λ (later : Change). change.tick < later.tick) part (λ k d a. rise 0 (suc k) d (omega arith) (omega arith))

all_later : (low from : ℕ) (part : List Change) → low ≤ from → EachTick (λ tick. from < tick) part → EachTick (λ tick. low < tick) part
all_later low from [] h each = tt
all_later low from (change ∷ part) h each = (omega (arith, each.0), all_later low from part h each.1)

-- each net has one
one_at_zero : (place : ℕ) (part : List Change) → TicksRise part → length (at_tick (lines_of 0 (place, part)) 0) ≡ 1
one_at_zero place [] rise = refl
one_at_zero place (change ∷ part) rise = go (change.tick == 0) refl
  where
    rest : EachTick (λ tick. 0 < tick) part
    rest = all_later 0 change.tick part (omega arith) (rest_later change part rise)

    go : (b : Bool) → (change.tick == 0) ≡ b →
        length (at_tick (map (line_of place) (cond b (change ∷ part) (record { tick = 0; value = Unknown } ∷ change ∷ part))) 0) ≡ 1
    go true e = rw e (ap (λ lines. suc (length lines)) (none_at_zero place part rest))
    go false e =
        let late : 0 < change.tick = grind (arith, nat_tests) in
        ap (λ lines. suc (length lines)) (none_at_zero place (change ∷ part) (late, rest))

each_at_zero : (place : ℕ) (parts : List (List Change)) → AllByRecursion TicksRise parts →
    length (at_tick (flat_map (lines_of 0) (enumerate_from place parts)) 0) ≡ length parts
each_at_zero place [] rise = refl
each_at_zero place (part ∷ parts) rise =
    let test : LineView → Bool = λ (line : LineView). line.tick == 0 in
    let others = flat_map (lines_of 0) (enumerate_from (place + 1) parts) in
    let one = one_at_zero place part rise.0 in
    let rest = each_at_zero (place + 1) parts rise.1 in
    ap length (filter-append test (lines_of 0 (place, part)) others)
    ∙ length-append (at_tick (lines_of 0 (place, part)) 0) (at_tick others 0)
    ∙ omega arith

-- ---- parts of a span

pub AllByRecursion-map : {X : Type 0} (P Q : X → Type 0) (xs : List X) → ((x : X) → P x → Q x) → AllByRecursion P xs → AllByRecursion Q xs
AllByRecursion-map P Q [] f all = tt
AllByRecursion-map P Q (x ∷ xs) f all = (f x all.0, AllByRecursion-map P Q xs f all.1)

-- their lines are those of the span
pub OfSpan-parts : (nets from to : ℕ) (parts : List (List Change)) → from < to → length parts ≡ nets → All (IsPart from to) parts →
    OfSpan nets from to (span_lines from parts)
OfSpan-parts nets from to parts ahead many proper =
    let each = recursion_from_All (IsPart from to) parts proper in
    record {
      low = EachLine-span_lines (λ tick. from ≤ tick) from parts (λ e. omega arith)
          (AllByRecursion-map (IsPart from to) (EachTick (λ tick. from ≤ tick)) parts
          (λ part is. recursion_from_All (λ (change : Change). from ≤ change.tick) part is.low) each);
      high = EachLine-span_lines (λ tick. tick < to) from parts (λ e. omega arith)
          (AllByRecursion-map (IsPart from to) (EachTick (λ tick. tick < to)) parts
          (λ part is. recursion_from_All (λ (change : Change). change.tick < to) part is.high) each);
      count = λ e. rw e (each_at_zero 0 parts (AllByRecursion-map (IsPart from to) TicksRise parts (λ part is. is.rises) each) ∙ many);
    }

-- ---- one part more

lines_more : (from place : ℕ) (parts : List (List Change)) (part : List Change) →
    flat_map (lines_of from) (enumerate_from place (parts ++ part ∷ []))
    ≡ flat_map (lines_of from) (enumerate_from place parts) ++ lines_of from (place + length parts, part)
lines_more from place [] part =
    let here : place ≡ place + 0 = omega arith in
    append-nil (lines_of from (place, part)) ∙ ap (λ p. lines_of from (p, part)) here
lines_more from place (first ∷ parts) part =
    let along : place + 1 + length parts ≡ place + suc (length parts) = omega arith in
    ap (λ ls. lines_of from (place, first) ++ ls) (lines_more from (place + 1) parts part)
    ∙ sym (append_assoc (lines_of from (place, first)) (flat_map (lines_of from) (enumerate_from (place + 1) parts))
    (lines_of from (place + 1 + length parts, part)))
    ∙ ap (λ p. (lines_of from (place, first) ++ flat_map (lines_of from) (enumerate_from (place + 1) parts)) ++ lines_of from (p, part)) along

-- its lines stand behind those of the others
pub span_lines-more : (from : ℕ) (parts : List (List Change)) (part : List Change) →
    span_lines from (parts ++ part ∷ []) ≡ span_lines from parts ++ lines_of from (length parts, part)
span_lines-more from parts part =
    let here : 0 + length parts ≡ length parts = omega arith in
    lines_more from 0 parts part ∙ ap (λ p. span_lines from parts ++ lines_of from (p, part)) here
