-- Parts by their numbers.
use Rattle.std.proofs.Common.{◌≡◌, ◌≢◌, ℕ, ◌==◌, if◌then◌else◌, refl, sym, ap, ◌∙◌}
use Rattle.logic3.specs.declared.gates.GateKind.TheVariants.{And, Nand, Or, Nor, Xor, Xnor, Not, Buf}
use Rattle.netlist.specs.declared.part.Part.{Part}
use Rattle.netlist.specs.declared.part.Part.TheVariants.{Input, Gate, Flop}
use Rattle.circuit_info.specs.Counts.{part_code}

part_of : ℕ → Part
part_of code =
    if code == 0 then Input
    else if code == 1 then Gate And
    else if code == 2 then Gate Nand
    else if code == 3 then Gate Or
    else if code == 4 then Gate Nor
    else if code == 5 then Gate Xor
    else if code == 6 then Gate Xnor
    else if code == 7 then Gate Not
    else if code == 8 then Gate Buf
    else Flop

its_part : (part : Part) → part_of (part_code part) ≡ part
unfolding part_of
its_part Input = refl
its_part (Gate And) = refl
its_part (Gate Nand) = refl
its_part (Gate Or) = refl
its_part (Gate Nor) = refl
its_part (Gate Xor) = refl
its_part (Gate Xnor) = refl
its_part (Gate Not) = refl
its_part (Gate Buf) = refl
its_part Flop = refl

-- no two parts have one number
pub apart_codes : (part other : Part) → part ≢ other → part_code part ≢ part_code other
apart_codes part other apart same = apart (sym (its_part part) ∙ ap part_of same ∙ its_part other)
