-- The stimuli of a name, and one more of them.
use Rattle.std.proofs.Common.{◌≡◌, ◌≢◌, ℕ, ◌<◌, ◌≤◌, Bool, true, false, cond, leb, List, [], ◌∷◌, ◌++◌, length, map, filter, get_or, ◌⊎◌, inl, inr, refl, sym, ap, subst, true≢false, ◌∙◌, arith}
use Rattle.std.specs.Str.{bytes_eq}
use Rattle.std.proofs.lemmas.Bool.{cases_lt}
use Rattle.std.proofs.lemmas.Bool.Decides.{nat_tests}
use Rattle.std.proofs.lemmas.List.{append-nil, map-append}
use Rattle.std.proofs.lemmas.List.Elements.{filter-append}
use Rattle.std.proofs.lemmas.List.Folds.{list_any_at}
use Rattle.std.proofs.lemmas.List.Quantifiers.{all_pairs_push}
use Rattle.std.proofs.lemmas.Slice.Eq.{bytes_eq-Decides}
use Rattle.logic3.specs.declared.change.Change.{Change}
use Rattle.logic3.specs.Rising.{TicksRise}
use Rattle.timing_text.specs.Stimuli.{NamedChange, stimuli_named}
use Rattle.netlist.proofs.CallerLemmas.{bytes_eq-same, bytes_eq-other}
use Rattle.timing_text.proofs.Rising.{is_reached}

-- a further stimulus goes behind those of its own net, and changes no other
pub stimuli_named-more : (stimuli : List NamedChange) (s : NamedChange) (name : List ℕ) →
    stimuli_named (stimuli ++ s ∷ []) name ≡ stimuli_named stimuli name ++ stimuli_named (s ∷ []) name
stimuli_named-more stimuli s name =
    ap (map (λ (s : NamedChange). s.change)) (filter-append (λ (s : NamedChange). bytes_eq s.name name) stimuli (s ∷ []))
    ∙ map-append (λ (s : NamedChange). s.change) (filter (λ (s : NamedChange). bytes_eq s.name name) stimuli) (filter (λ (s : NamedChange). bytes_eq s.name name) (s ∷ []))

pub stimuli_named-own : (stimuli : List NamedChange) (s : NamedChange) →
    stimuli_named (stimuli ++ s ∷ []) s.name ≡ stimuli_named stimuli s.name ++ s.change ∷ []
stimuli_named-own stimuli s =
    stimuli_named-more stimuli s s.name
    ∙ ap (λ same. stimuli_named stimuli s.name ++ map (λ (s : NamedChange). s.change) (cond same (s ∷ []) [])) (bytes_eq-same s.name)

pub stimuli_named-others : (stimuli : List NamedChange) (s : NamedChange) (name : List ℕ) → name ≢ s.name →
    stimuli_named (stimuli ++ s ∷ []) name ≡ stimuli_named stimuli name
stimuli_named-others stimuli s name apart =
    stimuli_named-more stimuli s name
    ∙ ap (λ same. stimuli_named stimuli name ++ map (λ (s : NamedChange). s.change) (cond same (s ∷ []) [])) (bytes_eq-other s.name name (λ same. apart (sym same)))
    ∙ append-nil (stimuli_named stimuli name)

-- so ticks go on rising
pub TicksRise-more : (stimuli : List NamedChange) (s : NamedChange) → ((name : List ℕ) → TicksRise (stimuli_named stimuli name)) →
    is_reached s.change.tick (stimuli_named stimuli s.name) ≡ false → (name : List ℕ) → TicksRise (stimuli_named (stimuli ++ s ∷ []) name)
TicksRise-more stimuli s rise unreached name = go (bytes_eq s.name name) refl
  where
    own : List Change
    own = stimuli_named stimuli s.name

    above : (place : ℕ) (d : Change) → place < length own → ((get_or own place d).tick < s.change.tick) ⊎ (s.change.tick ≤ (get_or own place d).tick) →
        (get_or own place d).tick < s.change.tick
    above place d within (inl later) = later
    above place d within (inr reached) =
        let found = list_any_at (λ (change : Change). leb s.change.tick change.tick) own place d within (grind (arith, nat_tests)) in
        absurd (true≢false (sym found ∙ unreached))

    go : (same : Bool) → bytes_eq s.name name ≡ same → TicksRise (stimuli_named (stimuli ++ s ∷ []) name)
    go true same =
        let P : List ℕ → Type 0 = λ name. TicksRise (stimuli_named (stimuli ++ s ∷ []) name) in
        let Q : List Change → Type 0 = λ changes. TicksRise changes in
        let R : Change → Change → Type 0 = λ earlier later. earlier.tick < later.tick in
        subst P ((bytes_eq-Decides s.name name).0 same)
        (subst Q (sym (stimuli_named-own stimuli s))
        (all_pairs_push R own s.change (rise s.name) (λ place d within. above place d within (cases_lt (get_or own place d).tick s.change.tick))))
    go false same =
        let Q : List Change → Type 0 = λ changes. TicksRise changes in
        subst Q (sym (stimuli_named-others stimuli s name (λ e. true≢false (sym ((bytes_eq-Decides s.name name).1 (sym e)) ∙ same)))) (rise name)
