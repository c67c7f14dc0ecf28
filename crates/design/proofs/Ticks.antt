-- The waveforms of all nets, tick by tick and net by net.
use Rattle.std.proofs.Common.{◌≡◌, ℕ, ◌+◌, ◌-◌, ◌<◌, ◌≤◌, cond, List, [], ◌∷◌, ◌++◌, length, map, take, drop, get_or, set, refl, ap, sym, ◌∙◌, arith, slice_get, add-one, ◌⊎◌, inl, inr}
use Rattle.std.specs.List.{range_with_len}
use Rattle.std.specs.Option.{option_map_or}
use Rattle.std.proofs.lemmas.Bool.{cases_lt}
use Rattle.std.proofs.lemmas.List.FromFn.{map-range_with_len_more, length-map-range_with_len, get_or-map-range_with_len}
use Rattle.std.proofs.lemmas.Option.{slice_get_read, slice_get_past, slice_get-get_or}
use Rattle.std.proofs.lemmas.List.{length-append, length-take, length-take-le, length-drop, take_more, drop_more, take_all, drop_all, append-nil, append_assoc, set_at, get_or_append_left, get_or-append_right, get_or-take, get_or-drop}
use Rattle.logic3.specs.declared.value.Value.{Value}
use Rattle.logic3.specs.declared.value.Value.TheVariants.{Unknown}
use Rattle.logic3.specs.Value.{is_same}
use Rattle.logic3.specs.Wave.{Wave, value_at, last_value, joined, wave_of}
use Rattle.logic3.proofs.CallerLemmas.{value_at-wave_of, wave_of-more}
use Rattle.design.specs.Circuit.{Circuit, IsCircuit}
use Rattle.design.specs.Equations.{equation_at, value_within, value_of, waves_of, signals_in}
use Rattle.design.proofs.Solution.{value_from_earlier}

-- what the waveform of a net shows
pub signals_in_at : (waves : List Wave) (net tick : ℕ) (wave : Wave) → net < length waves → wave ≡ get_or waves net wave →
    signals_in waves net tick ≡ value_at wave tick
signals_in_at waves net tick wave below is =
    ap (λ place. option_map_or (λ (w : Wave). value_at w tick) place Unknown) (slice_get_read waves (length waves) net wave refl below is)

pub length-waves_of : (circuit : Circuit) (to : ℕ) → length (waves_of circuit to) ≡ length circuit
unfolding waves_of
length-waves_of circuit to = length-map-range_with_len (λ net. wave_of (value_of circuit net) 0 to) 0 (length circuit)

-- the waveform of a net among those of all
pub get_or-waves_of : (circuit : Circuit) (to net : ℕ) (d : Wave) → net < length circuit →
    get_or (waves_of circuit to) net d ≡ wave_of (value_of circuit net) 0 to
unfolding waves_of
get_or-waves_of circuit to net d below =
    get_or-map-range_with_len (λ net. wave_of (value_of circuit net) 0 to) 0 (length circuit) net net d below (omega arith)

-- a number that names no net shows X
pub value_of-past : (circuit : Circuit) (net tick : ℕ) → length circuit ≤ net → value_of circuit net tick ≡ Unknown
unfolding value_of
value_of-past circuit net tick past = rw add-one (ap (λ place. equation_at place (value_within circuit tick) tick) (slice_get_past circuit net past))

-- ---- within a tick: the waveforms of some nets are a tick ahead of the others

-- one more net is carried on
pub set-ahead : {A : Type 0} (ahead behind : List A) (net : ℕ) (x d : A) → length ahead ≡ length behind → net < length ahead →
    get_or ahead net d ≡ x →
    set (take net ahead ++ drop net behind) net x ≡ take (net + 1) ahead ++ drop (net + 1) behind
set-ahead ahead behind net x d same below is =
    let more : take (net + 1) ahead ≡ take net ahead ++ x ∷ [] = take_more ahead net d below ∙ ap (λ y. take net ahead ++ y ∷ []) is in
    rw (drop_more behind net d (omega arith), more, append_assoc)
    (set_at (take net ahead) (get_or behind net d) (drop (net + 1) behind) x net (length-take-le net ahead (omega arith)))

length-ahead : {A : Type 0} (ahead behind : List A) (net : ℕ) → length ahead ≡ length behind →
    length (take net ahead ++ drop net behind) ≡ length behind
length-ahead ahead behind net same = omega (arith, length-append (take net ahead) (drop net behind), length-take net ahead, length-drop net behind)

-- the place of a net holds its waveform of one of the two ticks
get_or-ahead : {A : Type 0} (ahead behind : List A) (net place : ℕ) (d : A) →
    length ahead ≡ length behind → place < length behind →
    (get_or (take net ahead ++ drop net behind) place d ≡ get_or ahead place d)
    ⊎ (get_or (take net ahead ++ drop net behind) place d ≡ get_or behind place d)
get_or-ahead ahead behind net place d same below = go (cases_lt place net)
  where
    go : (place < net) ⊎ (net ≤ place) →
        (get_or (take net ahead ++ drop net behind) place d ≡ get_or ahead place d)
        ⊎ (get_or (take net ahead ++ drop net behind) place d ≡ get_or behind place d)
    go (inl less) = inl (get_or_append_left (take net ahead) (drop net behind) d place (omega (arith, length-take net ahead)) ∙ get_or-take net ahead place d less)
    go (inr more) =
        let at : net + (place - net) ≡ place = omega arith in
        inr (get_or-append_right (take net ahead) (drop net behind) net place d (length-take-le net ahead (omega arith)) more
        ∙ get_or-drop net behind (place - net) d ∙ ap (λ k. get_or behind k d) at)

-- waveforms of which the first few are a tick ahead
abbrev pub ahead_at : Circuit → ℕ → ℕ → List Wave
ahead_at circuit tick net = take net (waves_of circuit (tick + 1)) ++ drop net (waves_of circuit tick)

same_length : (circuit : Circuit) (tick : ℕ) → length (waves_of circuit (tick + 1)) ≡ length (waves_of circuit tick)
same_length circuit tick = length-waves_of circuit (tick + 1) ∙ sym (length-waves_of circuit tick)

pub length-ahead_at : (circuit : Circuit) (tick net : ℕ) → length (ahead_at circuit tick net) ≡ length circuit
length-ahead_at circuit tick net =
    length-ahead (waves_of circuit (tick + 1)) (waves_of circuit tick) net (same_length circuit tick) ∙ length-waves_of circuit tick

-- the waveforms of all nets show at an earlier tick what the nets show
pub signals_in-ahead_at : (circuit : Circuit) (tick net pin at : ℕ) → at < tick →
    signals_in (ahead_at circuit tick net) pin at ≡ value_of circuit pin at
signals_in-ahead_at circuit tick net pin at early = go (cases_lt pin (length circuit))
  where
    d : Wave
    d = wave_of (value_of circuit pin) 0 tick

    shown : (to : ℕ) → at < to → pin < length circuit → get_or (ahead_at circuit tick net) pin d ≡ get_or (waves_of circuit to) pin d →
        value_at (get_or (ahead_at circuit tick net) pin d) at ≡ value_of circuit pin at
    shown to late below is = rw (is, get_or-waves_of circuit to pin d below) (value_at-wave_of (value_of circuit pin) 0 to at (omega arith) late)

    either : pin < length circuit → (get_or (ahead_at circuit tick net) pin d ≡ get_or (waves_of circuit (tick + 1)) pin d)
        ⊎ (get_or (ahead_at circuit tick net) pin d ≡ get_or (waves_of circuit tick) pin d) →
        value_at (get_or (ahead_at circuit tick net) pin d) at ≡ value_of circuit pin at
    either below (inl is) = shown (tick + 1) (omega arith) below is
    either below (inr is) = shown tick early below is

    go : (pin < length circuit) ⊎ (length circuit ≤ pin) → signals_in (ahead_at circuit tick net) pin at ≡ value_of circuit pin at
    go (inl below) =
        ap (λ place. option_map_or (λ (w : Wave). value_at w at) place Unknown)
        (slice_get-get_or (ahead_at circuit tick net) pin d (omega (arith, length-ahead_at circuit tick net)))
        ∙ either below (get_or-ahead (waves_of circuit (tick + 1)) (waves_of circuit tick) net pin d (same_length circuit tick) (omega (arith, length-waves_of circuit tick)))
    go (inr past) =
        ap (λ place. option_map_or (λ (w : Wave). value_at w at) place Unknown)
        (slice_get_past (ahead_at circuit tick net) pin (omega (arith, length-ahead_at circuit tick net)))
        ∙ sym (value_of-past circuit pin at past)

-- so the equation gives from them what the net shows
pub equation-ahead_at : (circuit : Circuit) → IsCircuit circuit → (tick net : ℕ) →
    equation_at (slice_get circuit net) (signals_in (ahead_at circuit tick net)) tick ≡ value_of circuit net tick
equation-ahead_at circuit ok tick net =
    value_from_earlier circuit ok (signals_in (ahead_at circuit tick net)) net tick (λ pin at early. signals_in-ahead_at circuit tick net pin at early)

-- the net that is next has its waveform up to this tick
pub get_or-ahead_at : (circuit : Circuit) (tick net : ℕ) (d : Wave) → net < length circuit →
    get_or (ahead_at circuit tick net) net d ≡ wave_of (value_of circuit net) 0 tick
get_or-ahead_at circuit tick net d below =
    let inside : net ≤ length (waves_of circuit (tick + 1)) = omega (arith, length-waves_of circuit (tick + 1)) in
    let at : net + (net - net) ≡ net = omega arith in
    get_or-append_right (take net (waves_of circuit (tick + 1))) (drop net (waves_of circuit tick)) net net d (length-take-le net _ inside) (omega arith)
    ∙ get_or-drop net (waves_of circuit tick) (net - net) d
    ∙ rw at (get_or-waves_of circuit tick net d below)

-- carried on with its value, it has its waveform up to the next
pub carried : (circuit : Circuit) (tick net : ℕ) (wave : Wave) (value : Value) →
    wave ≡ wave_of (value_of circuit net) 0 tick → value ≡ value_of circuit net tick →
    joined wave (cond (is_same value (last_value wave)) [] (record { tick = tick; value = value } ∷ [])) ≡ wave_of (value_of circuit net) 0 (tick + 1)
carried circuit tick net wave value here is = rw (here, is) (wave_of-more (value_of circuit net) 0 tick (omega arith))

-- and once it is carried on, one more net is ahead
pub set-ahead_at : (circuit : Circuit) (tick net : ℕ) → net < length circuit →
    set (ahead_at circuit tick net) net (wave_of (value_of circuit net) 0 (tick + 1)) ≡ ahead_at circuit tick (net + 1)
set-ahead_at circuit tick net below =
    let d = wave_of (value_of circuit net) 0 tick in
    set-ahead (waves_of circuit (tick + 1)) (waves_of circuit tick) net _ d (same_length circuit tick)
    (omega (arith, length-waves_of circuit (tick + 1))) (get_or-waves_of circuit (tick + 1) net d below)

-- in the end all nets are
pub ahead_at-all : (circuit : Circuit) (tick net : ℕ) → length circuit ≤ net → ahead_at circuit tick net ≡ waves_of circuit (tick + 1)
ahead_at-all circuit tick net all =
    rw (
      take_all net (waves_of circuit (tick + 1)) (omega (arith, length-waves_of circuit (tick + 1))),
      drop_all net (waves_of circuit tick) (omega (arith, length-waves_of circuit tick)),
      append-nil,
    ) refl

-- one more net that shows nothing yet
pub unknown-more : (circuit : Circuit) (net : ℕ) →
    map (λ number. wave_of (value_of circuit number) 0 0) (range_with_len 0 net) ++ record { before = Unknown; changes = [] } ∷ []
    ≡ map (λ number. wave_of (value_of circuit number) 0 0) (range_with_len 0 (net + 1))
unknown-more circuit net = sym (map-range_with_len_more (λ number. wave_of (value_of circuit number) 0 0) 0 net net (omega arith))
