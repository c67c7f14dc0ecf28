-- What pins show, and since when, place by place.
use Rattle.std.proofs.Common.{◌≡◌, ℕ, zero, suc, ◌<◌, List, [], ◌∷◌, length, get_or, refl, ap, arith}
use Rattle.logic3.specs.declared.value.Value.{Value}
use Rattle.causes.specs.Deciding.{pin_since, pins_since}

pub length-since : (signals : ℕ → ℕ → Value) (tick : ℕ) (pins wires : List ℕ) → length wires ≡ length pins →
    length (pins_since signals tick pins wires) ≡ length pins
length-since signals tick [] wires long = refl
length-since signals tick (pin ∷ pins) [] long = absurd (omega arith)
length-since signals tick (pin ∷ pins) (wire ∷ wires) long = ap suc (length-since signals tick pins wires (omega arith))

pub since_at_place : (signals : ℕ → ℕ → Value) (tick : ℕ) (pins wires : List ℕ) (place : ℕ) (d : ℕ) → length wires ≡ length pins →
    place < length pins →
    get_or (pins_since signals tick pins wires) place d ≡ pin_since (get_or wires place 0) (signals (get_or pins place 0)) tick
since_at_place signals tick [] wires place d long within = absurd (omega arith)
since_at_place signals tick (pin ∷ pins) [] place d long within = absurd (omega arith)
since_at_place signals tick (pin ∷ pins) (wire ∷ wires) zero d long within = refl
since_at_place signals tick (pin ∷ pins) (wire ∷ wires) (suc place) d long within =
    since_at_place signals tick pins wires place d (omega arith) (omega arith)
