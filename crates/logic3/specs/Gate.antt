-- The gate table.
use Rattle.std.specs.Prelude.{◌≡◌, ◌≢◌, ℕ, ◌<◌, ◌%◌, ◌==◌, ◌⊎◌, if◌then◌else◌, List, [], ◌∷◌, count_by}
use Rattle.std.specs.List.{list_any, list_all}
use Rattle.logic3.specs.declared.value.Value.{Value}
use Rattle.logic3.specs.declared.value.Value.TheVariants.{Zero, One, Unknown}
use Rattle.logic3.specs.Value.{is_same, opposite}
use Rattle.logic3.specs.declared.gates.GateKind.{GateKind}
use Rattle.logic3.specs.declared.gates.GateKind.TheVariants.{And, Nand, Or, Nor, Xor, Xnor, Not, Buf}

-- AND: 0 if some pin is 0, 1 if all pins are 1, else X
abbrev pub conjunction : List Value → Value
conjunction pins = if list_any (is_same Zero) pins then Zero else if list_all (is_same One) pins then One else Unknown

-- OR: 1 if some pin is 1, 0 if all pins are 0, else X
abbrev pub disjunction : List Value → Value
disjunction pins = if list_any (is_same One) pins then One else if list_all (is_same Zero) pins then Zero else Unknown

-- XOR: X if some pin is X, else 1 if the number of 1s is odd, else 0
abbrev pub parity : List Value → Value
parity pins =
    if list_any (is_same Unknown) pins then Unknown else if count_by (is_same One) pins % 2 == 1 then One else Zero

-- BUF: the pin
abbrev pub only_pin : List Value → Value
only_pin [] = Unknown
only_pin (pin ∷ pins) = pin

-- what a gate shows for these values of its pins
abbrev pub value_of_gate : GateKind → List Value → Value
value_of_gate And pins = conjunction pins
value_of_gate Nand pins = opposite (conjunction pins)
value_of_gate Or pins = disjunction pins
value_of_gate Nor pins = opposite (disjunction pins)
value_of_gate Xor pins = parity pins
value_of_gate Xnor pins = opposite (parity pins)
value_of_gate Not pins = opposite (only_pin pins)
value_of_gate Buf pins = only_pin pins

-- a gate has at least one pin, and NOT and BUF have exactly one
abbrev pub HasArity : GateKind → ℕ → Type 0
HasArity Not pins = pins ≡ 1
HasArity Buf pins = pins ≡ 1
HasArity _ pins = 0 < pins

-- if a gate gives 0 or 1 for some values of its pins, it gives the same for others
abbrev pub AnswerStays : GateKind → List Value → List Value → Type 0
AnswerStays kind pins others = value_of_gate kind pins ≢ Unknown → value_of_gate kind others ≡ value_of_gate kind pins

-- the same pins, except that some X pins have received a value
abbrev pub Refines : List Value → List Value → Type 0
Refines [] [] = Unit {0}
Refines (pin ∷ pins) (refined ∷ others) = ((pin ≡ Unknown) ⊎ (pin ≡ refined)) × Refines pins others
Refines _ _ = ⊥
