-- One pass over the waveforms that a net reads.
use Rattle.std.proofs.Common.{◌≡◌, ℕ, zero, suc, ◌+◌, ◌<◌, ◌≤◌, List, [], ◌∷◌, ◌++◌, length, map, take, get_or, slice_set, refl, ap, sym, ◌∙◌, arith}
use Rattle.std.proofs.lemmas.List.{length-set, take_more, take_all}
use Rattle.logic3.specs.declared.value.Value.{Value}
use Rattle.logic3.specs.declared.value.Value.TheVariants.{Unknown}
use Rattle.logic3.specs.Wave.{Wave, value_at}
use Rattle.design.specs.Equations.{values_at}

-- what waveforms show at a tick
abbrev pub seen_at : ℕ → List Wave → List Value
seen_at tick read = values_at tick (map value_at read)

length-seen : (tick : ℕ) (read : List Wave) → length (seen_at tick read) ≡ length read
length-seen tick [] = refl
length-seen tick (first ∷ read) = ap suc (length-seen tick read)

-- what one of them shows
seen_there : (read : List Wave) (place tick : ℕ) (wave : Wave) → place < length read → wave ≡ get_or read place wave →
    get_or (seen_at tick read) place Unknown ≡ value_at wave tick
seen_there [] place tick wave inside is = absurd (omega arith)
seen_there (first ∷ read) zero tick wave inside is = ap (λ (w : Wave). value_at w tick) (sym is)
seen_there (first ∷ read) (suc place) tick wave inside is = seen_there read place tick wave (omega arith) is

-- one that shows the same may stand in its place
seen_after : (read : List Wave) (place tick : ℕ) (old new : Wave) → old ≡ get_or read place old → value_at new tick ≡ value_at old tick →
    seen_at tick (slice_set read place new) ≡ seen_at tick read
seen_after [] place tick old new is same = refl
seen_after (first ∷ read) zero tick old new is same =
    ap (λ v. v ∷ seen_at tick read) (same ∙ ap (λ (w : Wave). value_at w tick) is)
seen_after (first ∷ read) (suc place) tick old new is same =
    ap (λ vs. value_at first tick ∷ vs) (seen_after read place tick old new is same)

-- how far a pass has come: what is left, and up to where the values so far stay
pub record ReadSoFar (start : List Wave) (tick limit place : ℕ) (read : List Wave) (next : ℕ) : Type 0 where
  pub left : (t : ℕ) → tick ≤ t → seen_at t read ≡ seen_at t start
  pub count : length read ≡ length start
  pub later : tick < next
  pub within : next ≤ limit
  pub steady : (t : ℕ) → tick ≤ t → t < next → take place (seen_at t start) ≡ take place (seen_at tick start)

module _ (start : List Wave) (tick limit place : ℕ) (read : List Wave) (next : ℕ)
    (so_far : ReadSoFar start tick limit place read next) where
  -- with one waveform more
  module _ (old : Wave) (inside : place < length read) (is : old ≡ get_or read place old) where
    one_more : (t : ℕ) → tick ≤ t → take (place + 1) (seen_at t start) ≡ take place (seen_at t start) ++ value_at old t ∷ []
    one_more t h =
        let count = so_far.count in
        take_more (seen_at t start) place Unknown (omega (arith, count, inside, length-seen t start))
        ∙ ap (λ v. take place (seen_at t start) ++ v ∷ [])
        (ap (λ vs. get_or vs place Unknown) (sym (so_far.left t h)) ∙ seen_there read place t old inside is)

    -- its value comes behind those so far
    pub value_more : (value : Value) → value ≡ value_at old tick →
        take place (seen_at tick start) ++ value ∷ [] ≡ take (place + 1) (seen_at tick start)
    value_more value value_is = ap (λ v. take place (seen_at tick start) ++ v ∷ []) value_is ∙ sym (one_more tick (omega arith))

  module _ (old new : Wave) (more : ℕ) (inside : place < length read) (is : old ≡ get_or read place old)
      (same : (t : ℕ) → tick ≤ t → value_at new t ≡ value_at old t)
      (stays : (t : ℕ) → t < more → value_at new t ≡ new.before) (after : tick < more) (below : more ≤ next) where
    pub read_more : ReadSoFar start tick limit (place + 1) (slice_set read place new) more
    read_more =
        let within = so_far.within in
        record {
          left = λ t h. seen_after read place t old new is (same t h) ∙ so_far.left t h;
          count = length-set read place new ∙ so_far.count;
          later = after;
          within = omega (arith, below, within);
          steady = λ t a b.
              let stay : value_at old t ≡ value_at old tick =
              sym (same t a) ∙ stays t b ∙ sym (stays tick after) ∙ same tick (omega arith) in
              one_more old inside is t a
              ∙ ap (λ vs. vs ++ value_at old t ∷ []) (so_far.steady t a (omega (arith, b, below)))
              ∙ ap (λ v. take place (seen_at tick start) ++ v ∷ []) stay
              ∙ sym (one_more old inside is tick (omega arith));
        }

  -- with all of them
  module _ (done : length read ≤ place) where
    pub all_seen : (t : ℕ) → take place (seen_at t start) ≡ seen_at t start
    all_seen t = let count = so_far.count in take_all place (seen_at t start) (omega (arith, done, count, length-seen t start))

-- what shows the same from a tick on, and stays then, stayed before
pub one_steady : (old new : Wave) (tick more : ℕ) → ((t : ℕ) → tick ≤ t → value_at new t ≡ value_at old t) →
    ((t : ℕ) → t < more → value_at new t ≡ new.before) → tick < more →
    (t : ℕ) → tick ≤ t → t < more → value_at old t ≡ value_at old tick
one_steady old new tick more same stays after t a b =
    sym (same t a) ∙ stays t b ∙ sym (stays tick after) ∙ same tick (omega arith)

-- ---- two waveforms, each of which is replaced by one that shows the same from a tick on

pub two_first : (read : List Wave) (first second then : Wave) → length read ≡ 2 →
    then ≡ get_or (slice_set (slice_set read 0 first) 1 second) 0 then → then ≡ first
two_first [] first second then two is = absurd (omega arith)
two_first (one ∷ []) first second then two is = absurd (omega arith)
two_first (one ∷ other ∷ read) first second then two is = is

pub two_second : (read : List Wave) (first second then : Wave) → length read ≡ 2 →
    then ≡ get_or (slice_set (slice_set read 0 first) 1 second) 1 then → then ≡ second
two_second [] first second then two is = absurd (omega arith)
two_second (one ∷ []) first second then two is = absurd (omega arith)
two_second (one ∷ other ∷ read) first second then two is = is

pub two_left : (read : List Wave) (tick : ℕ) (none new_first other_none new_second : Wave) → length read ≡ 2 →
    value_at new_first tick ≡ value_at (get_or read 0 none) tick →
    value_at new_second tick ≡ value_at (get_or (slice_set read 0 new_first) 1 other_none) tick →
    seen_at tick (slice_set (slice_set read 0 new_first) 1 new_second) ≡ seen_at tick read
two_left [] tick none new_first other_none new_second two a b = absurd (omega arith)
two_left (one ∷ []) tick none new_first other_none new_second two a b = absurd (omega arith)
two_left (one ∷ other ∷ more ∷ read) tick none new_first other_none new_second two a b = absurd (omega arith)
two_left (one ∷ other ∷ []) tick none new_first other_none new_second two a b = λ i. a i ∷ b i ∷ []

pub two_steady : (read : List Wave) (tick late : ℕ) (none new_first other_none : Wave) → length read ≡ 2 →
    value_at (get_or read 0 none) late ≡ value_at (get_or read 0 none) tick →
    value_at (get_or (slice_set read 0 new_first) 1 other_none) late ≡ value_at (get_or (slice_set read 0 new_first) 1 other_none) tick →
    seen_at late read ≡ seen_at tick read
two_steady [] tick late none new_first other_none two a b = absurd (omega arith)
two_steady (one ∷ []) tick late none new_first other_none two a b = absurd (omega arith)
two_steady (one ∷ other ∷ more ∷ read) tick late none new_first other_none two a b = absurd (omega arith)
two_steady (one ∷ other ∷ []) tick late none new_first other_none two a b = λ i. a i ∷ b i ∷ []
