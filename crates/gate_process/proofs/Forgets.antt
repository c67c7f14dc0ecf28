-- What a waveform shows from a tick on stays when its changes before that tick are dropped.
use Rattle.std.proofs.Common.{◌≡◌, ℕ, zero, suc, ◌+◌, ◌<◌, ◌≤◌, List, [], ◌∷◌, length, take, drop, refl, sym, ◌∙◌, arith, ltb-true, ltb-false}
use Rattle.std.proofs.lemmas.Bool.{le-leb}
use Rattle.std.proofs.lemmas.List.Elements.{All-drop}
use Rattle.logic3.specs.declared.value.Value.{Value}
use Rattle.logic3.specs.declared.value.Value.TheVariants.{Unknown}
use Rattle.logic3.specs.declared.change.Change.{Change}
use Rattle.logic3.specs.Wave.{value_after, value_at, value_before, value_in_the_end, changes_between, Alternates}
use Rattle.logic3.proofs.CallerLemmas.{IsCut, cut_tail, value_after-ahead, changes_between-value_after, changes_between-same, IsWave-wave_of, All-wave_of}
use Rattle.gate_process.specs.Knowledge.{Knowledge, IsKnowledge, forgetting}

value_after-dropped : (before : Value) (changes : List Change) (tick count at : ℕ) → count ≤ length changes → IsCut tick changes count → tick ≤ at + 1 →
    value_after before changes at ≡ value_after (value_in_the_end before (take count changes)) (drop count changes) at
value_after-dropped before [] tick count at inside cut late = let none : count ≡ 0 = omega arith in rw none refl
value_after-dropped before (first ∷ changes) tick zero at inside cut late = refl
value_after-dropped before (first ∷ changes) tick (suc count) at inside cut late =
    let early : first.tick < tick = ltb-true _ _ (cut.0 0 first (omega arith) (omega arith)) in
    rw (le-leb first.tick at (omega arith))
    (value_after-dropped first.value changes tick count at (omega arith) (cut_tail tick first changes count cut) late)

Alternates-dropped : (before : Value) (low : ℕ) (changes : List Change) (tick count : ℕ) → Alternates before low changes →
    count ≤ length changes → IsCut tick changes count → Alternates (value_in_the_end before (take count changes)) tick (drop count changes)
Alternates-dropped before low [] tick count rise inside cut = let none : count ≡ 0 = omega arith in rw none tt
Alternates-dropped before low (first ∷ changes) tick zero rise inside cut =
    let late : tick ≤ first.tick = ltb-false _ _ (cut.1 0 first (omega arith) (omega arith)) in (late, rise.1, rise.2)
Alternates-dropped before low (first ∷ changes) tick (suc count) rise inside cut =
    Alternates-dropped first.value (first.tick + 1) changes tick count rise.2 (omega arith) (cut_tail tick first changes count cut)

-- nothing is before tick 0
no_drop : (before : Value) (changes : List Change) (tick count : ℕ) → tick ≡ 0 → count ≤ length changes → IsCut tick changes count →
    value_in_the_end before (take count changes) ≡ before
no_drop before [] tick count start inside cut = let none : count ≡ 0 = omega arith in rw none refl
no_drop before (first ∷ changes) tick zero start inside cut = refl
no_drop before (first ∷ changes) tick (suc count) start inside cut =
    let early : first.tick < tick = ltb-true _ _ (cut.0 0 first (omega arith) (omega arith)) in absurd (omega arith)

-- dropping the changes before a tick, so that the last of them gives the value before, is to forget the ticks before it
pub forgets : (known : Knowledge) (tick count : ℕ) → IsKnowledge known → count ≤ length known.wave.changes → IsCut tick known.wave.changes count →
    (tick ≡ 0 → known.wave.before ≡ Unknown) →
    record {
      wave = record {
        before = value_in_the_end known.wave.before (take count known.wave.changes);
        changes = drop count known.wave.changes;
      };
      frontier = known.frontier;
    } ≡ forgetting tick known
forgets known tick count ok inside cut start =
    let changes : changes_between (value_at known.wave) tick known.frontier ≡ rest =
    changes_between-same (value_at known.wave) (value_after last rest) tick known.frontier (was ∙ sym now)
    (λ at a b. value_after-dropped known.wave.before known.wave.changes tick count at inside cut (omega arith))
    ∙ changes_between-value_after last rest tick known.frontier rise
    (All-drop (λ (change : Change). change.tick < known.frontier) count known.wave.changes ok.past) now in
    λ i. record {
      wave = record { before = sym was i; changes = sym changes i };
      frontier = known.frontier;
    }
  where
    last : Value
    last = value_in_the_end known.wave.before (take count known.wave.changes)

    rest : List Change
    rest = drop count known.wave.changes

    rise : Alternates last tick rest
    rise = Alternates-dropped known.wave.before 0 known.wave.changes tick count ok.wave inside cut

    shown : (signal : ℕ → Value) → ((at : ℕ) → tick ≡ suc at → signal at ≡ last) → (at : ℕ) → tick ≡ at → value_before signal at ≡ last
    shown signal same zero here = sym (no_drop known.wave.before known.wave.changes tick count here inside cut ∙ start here)
    shown signal same (suc at) here = same at here

    now : value_before (value_after last rest) tick ≡ last
    now = shown (value_after last rest) (λ at here. value_after-ahead last last rest tick at rise (omega arith)) tick refl

    was : value_before (value_at known.wave) tick ≡ last
    was = shown (value_at known.wave) (λ at here.
        value_after-dropped known.wave.before known.wave.changes tick count at inside cut (omega arith)
        ∙ value_after-ahead last last rest tick at rise (omega arith)) tick refl

-- where there are none, nothing is forgotten
pub forgets_none : (known : Knowledge) (tick : ℕ) → IsKnowledge known → length known.wave.changes ≡ 0 → (tick ≡ 0 → known.wave.before ≡ Unknown) →
    known ≡ forgetting tick known
forgets_none known tick ok none start =
    forgets known tick 0 ok (omega arith) ((λ k d low high. absurd (omega arith)), (λ k d low high. absurd (omega (arith, none, high)))) start

pub forgotten_is_known : (tick : ℕ) (known : Knowledge) → IsKnowledge (forgetting tick known)
forgotten_is_known tick known = record {
  wave = IsWave-wave_of (value_at known.wave) tick known.frontier;
  past = All-wave_of (value_at known.wave) tick known.frontier;
}
