-- The pins that nets feed.
use Rattle.std.proofs.Common.{◌≡◌, ℕ, ◌<◌, List, [], slice_index_or, ap, ◌∙◌}
use Rattle.design.specs.Pins.{pins_fed, all_fed}
use Rattle.design.proofs.CallerLemmas.{all_fed-at}

-- the pins of a net, among those of all
pub pins_at : (fed : List (List ℕ)) (nets net : ℕ) (sources : List ℕ) → fed ≡ all_fed nets sources → net < nets →
    slice_index_or fed net [] ≡ pins_fed net sources
pins_at fed nets net sources e below = ap (λ all. slice_index_or all net []) e ∙ all_fed-at nets sources net below
