-- What the dump of an inverter shows, by computation.
use Rattle.std.proofs.Common.{◌≡◌, ℕ, List, [], ◌∷◌, None, Some, refl, codes, map}
use Rattle.std.specs.List.{range_with_len}
use Rattle.logic3.specs.declared.value.Value.TheVariants.{Zero, One, Unknown}
use Rattle.vcd_dump.specs.Shown.{shown_value}

-- its input is 0, and 1 from tick 3 on; its output is the opposite one tick later, and X at tick 0
inverter_text : List ℕ
inverter_text = codes "$version nullsim 1 $end\n$timescale 1 ns $end\n$scope module top $end\n$var wire 1 ! a $end\n$var wire 1 \" y $end\n$upscope $end\n$enddefinitions $end\n#0\n$dumpvars\n0!\nx\"\n$end\n#1\n1\"\n#3\n1!\n#4\n0\"\n#5\n"

shows_input : map (shown_value inverter_text (codes "a")) (range_with_len 0 6)
    ≡ Some Zero ∷ Some Zero ∷ Some Zero ∷ Some One ∷ Some One ∷ Some One ∷ []
unfolding inverter_text
shows_input = refl

shows_output : map (shown_value inverter_text (codes "y")) (range_with_len 0 6)
    ≡ Some Unknown ∷ Some One ∷ Some One ∷ Some One ∷ Some Zero ∷ Some Zero ∷ []
unfolding inverter_text
shows_output = refl

shows_no_other : map (shown_value inverter_text (codes "b")) (range_with_len 0 6)
    ≡ None ∷ None ∷ None ∷ None ∷ None ∷ None ∷ []
unfolding inverter_text
shows_no_other = refl
