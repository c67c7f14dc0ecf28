use Rattle.std.proofs.Common.{◌≡◌, ℕ, ◌+◌, ◌<◌, ◌≤◌, All, List, [], ◌∷◌, ◌++◌, Vec, ◌∙◌, ap, sym, subst, suc, length, get_or, drop, drop-cons, add-one, flat_map, append_assoc, arith}
use Rattle.std.specs.List.{enumerate_from}
use Rattle.std.proofs.lemmas.List.{get_or-map, length-map}
use Rattle.std.proofs.lemmas.List.Elements.{All-get_or}
use Rattle.logic3.specs.declared.change.Change.{Change}
use Rattle.timing_text.specs.Ranges.{most_ticks}
use Rattle.vcd_dump.specs.Lines.{LineView}
use Rattle.vcd_dump.specs.Spans.{lines_of, changes_in}
use Rattle.vcd_dump.proofs.gathering.gather_parts.Goals as goal

module _ {A : Type 0} where
  -- the lines of the nets from a place on
  abbrev rest : ℕ → ℕ → List (Vec Change A) → List LineView
  rest from place parts = flat_map (lines_of from) (enumerate_from place (changes_in (drop place parts)))

  -- one more net
  next_net : (from place : ℕ) (parts : List (Vec Change A)) (done more : List LineView) (part : Vec Change A) (changes : List Change) →
      place < length parts → part ≡ get_or parts place part → changes ≡ part.items →
      more ≡ done ++ lines_of from (place, changes) →
      more ++ rest from (place + 1) parts ≡ done ++ rest from place parts
  next_net from place parts done more part changes within is same gathered =
      let read : drop place parts ≡ part ∷ drop (place + 1) parts =
      rw add-one (drop-cons parts place part within ∙ ap (λ w. w ∷ drop (suc place) parts) (sym is)) in
      ap (λ xs. xs ++ rest from (place + 1) parts) (gathered ∙ ap (λ cs. done ++ lines_of from (place, cs)) same)
      ∙ append_assoc done (lines_of from (place, part.items)) (rest from (place + 1) parts)
      ∙ ap (λ ws. done ++ flat_map (lines_of from) (enumerate_from place (changes_in ws))) (sym read)

  -- what holds of the changes of each net holds of those of the next
  of_next : (P : List Change → Type 0) (place : ℕ) (parts : List (Vec Change A)) (part : Vec Change A) (changes : List Change) →
      place < length parts → part ≡ get_or parts place part → changes ≡ part.items → All P (changes_in parts) → P changes
  of_next P place parts part changes within is same each =
      subst P (get_or-map (λ (p : Vec Change A). p.items) parts place part [] within ∙ ap (λ (p : Vec Change A). p.items) (sym is) ∙ sym same)
      (All-get_or P (changes_in parts) place [] (omega (arith, length-map parts (λ (p : Vec Change A). p.items))) each)

pub gather-requires-clause-ticks : goal.gather-requires-clause-ticks
gather-requires-clause-ticks c =
    of_next (λ part. All (λ (change : Change). change.tick ≤ most_ticks) part) c.loop-place.place c.args.parts.now _ _ (omega arith) c.index-parts-place.is
    c.as_slice.ensures.value c.requires.ticks

pub loop-place-preserved : goal.loop-place-preserved
loop-place-preserved c =
    let within : c.loop-place.place < length c.args.parts.now = omega arith in
    next_net c.args.from c.loop-place.place c.args.parts.now _ _ _ _ within c.index-parts-place.is c.as_slice.ensures.value c.in_ok-gather.ensures
    ∙ c.loop-place.invariant
