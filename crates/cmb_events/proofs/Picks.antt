-- The events that a seed picks, word after word.
use Rattle.std.proofs.Common.{◌≡◌, ℕ, suc, ◌+◌, ◌-◌, ◌<◌, ◌≤◌, map, List, [], ◌∷◌, ◌++◌, Ok, sym, ap, ◌∙◌, arith}
use Rattle.std.proofs.lemmas.Bool.Decides.{nat_tests}
use Rattle.std.proofs.lemmas.List.{append_assoc, append-nil}
use Rattle.rand_core.specs.Steps.{first_words}
use Rattle.rand_pcg.specs.Lcg.{Lcg}
use Rattle.rand_pcg.specs.Pcg.{pcg32}
use Rattle.design.specs.Circuit.{Circuit}
use Rattle.cmb_events.specs.declared.event.Event.{Event}
use Rattle.cmb_events.specs.Schedule.{most_events, pick_of, picks_of, words_from}

-- these events, and then those that the next words of a generator pick
abbrev pub picks_then : Circuit → List Event → ℕ → Lcg → List Event
picks_then circuit events left generator = events ++ map (pick_of circuit) (first_words pcg32 left generator)

-- the event of the next word goes behind the others
pub picks_then-more : (circuit : Circuit) (events : List Event) (done picks word : ℕ) (generator after : Lcg) → done < picks →
    (word, after) ≡ pcg32 generator →
    picks_then circuit (events ++ pick_of circuit word ∷ []) (picks - (done + 1)) after ≡ picks_then circuit events (picks - done) generator
unfolding first_words
picks_then-more circuit events done picks word generator after more next =
    let left : picks - done ≡ suc (picks - (done + 1)) = omega arith in
    append_assoc events (pick_of circuit word ∷ []) (map (pick_of circuit) (first_words pcg32 (picks - (done + 1)) after))
    ∙ ap (λ (now : ℕ × Lcg). events ++ pick_of circuit now.0 ∷ map (pick_of circuit) (first_words pcg32 (picks - (done + 1)) now.1)) next
    ∙ ap (λ left. picks_then circuit events left generator) (sym left)

-- behind the last word stands no more
pub picks_then-last : (circuit : Circuit) (events : List Event) (done picks : ℕ) (generator : Lcg) → picks ≤ done →
    picks_then circuit events (picks - done) generator ≡ events
unfolding first_words
picks_then-last circuit events done picks generator all =
    let none : picks - done ≡ 0 = omega arith in
    ap (λ left. picks_then circuit events left generator) none ∙ append-nil events

-- so many picks as are allowed
pub picks_of-words : (circuit : Circuit) (seed picks : ℕ) → picks ≤ most_events →
    picks_of circuit seed picks ≡ Ok (map (pick_of circuit) (words_from seed picks))
picks_of-words circuit seed picks few = grind (arith, nat_tests)
