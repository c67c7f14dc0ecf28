-- The largest number of messages that wait at a pin that a net feeds.
use Rattle.std.proofs.Common.{◌≡◌, ℕ, suc, ◌==◌, Bool, true, false, cond, max, List, [], ◌∷◌, map, length, slice_index_or, refl, ap, ◌∙◌, arith}
use Rattle.design.specs.Pins.{pins_fed}
use Rattle.cmb_channels.specs.declared.message.Message.{Message}
use Rattle.cmb_channels.specs.Lists.{most_waiting}

-- the largest number at one of these pins
abbrev pub most_at : List (List Message) → List ℕ → ℕ
most_at lists [] = 0
most_at lists (pin ∷ pins) = max (length (slice_index_or lists pin [])) (most_at lists pins)

most_later : (list : List Message) (lists : List (List Message)) (pins : List ℕ) → most_at (list ∷ lists) (map suc pins) ≡ most_at lists pins
most_later list lists [] = refl
most_later list lists (pin ∷ pins) = ap (max (length (slice_index_or lists pin []))) (most_later list lists pins)

pub most_fed : (net : ℕ) (sources : List ℕ) (lists : List (List Message)) → length lists ≡ length sources →
    most_at lists (pins_fed net sources) ≡ most_waiting net sources lists
most_fed net [] lists e = refl
most_fed net (source ∷ sources) [] e = absurd (omega (arith, e))
most_fed net (source ∷ sources) (list ∷ lists) e = go (source == net) (most_later list lists (pins_fed net sources) ∙ most_fed net sources lists (omega (arith, e)))
  where
    go : (same : Bool) → most_at (list ∷ lists) (map suc (pins_fed net sources)) ≡ most_waiting net sources lists →
        most_at (list ∷ lists) (cond {A = List ℕ} same (0 ∷ map suc (pins_fed net sources)) (map suc (pins_fed net sources)))
        ≡ cond same (max (length list) (most_waiting net sources lists)) (most_waiting net sources lists)
    go true later = ap (max (length list)) later
    go false later = later
