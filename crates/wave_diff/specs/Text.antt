-- The lines of a comparison.
use Rattle.std.specs.Prelude.{ℕ, List, ◌++◌, codes, decimal, true, false}
use Rattle.logic3.specs.Value.{value_text}
use Rattle.wave_diff.specs.declared.difference.Difference.{Difference}
use Rattle.wave_diff.specs.declared.comparison.Side.TheVariants.{First, Second}
use Rattle.wave_diff.specs.declared.comparison.Comparison.{Comparison}
use Rattle.wave_diff.specs.declared.comparison.Comparison.TheVariants.{Same, Differs, OnlyIn}

-- the tick, and what the first and the second run show there
abbrev pub difference_text : Difference → List ℕ
difference_text found =
    codes " differs " ++ decimal found.tick ++ codes " " ++ value_text found.first ++ codes " " ++ value_text found.second

-- the text after a name
abbrev pub comparison_text : Comparison → List ℕ
comparison_text (Same true) = codes " same"
comparison_text (Same false) = codes " same, cones differ"
comparison_text (Differs found) = difference_text found
comparison_text (OnlyIn First) = codes " only in first"
comparison_text (OnlyIn Second) = codes " only in second"

-- the line of a name
abbrev pub comparison_line : List ℕ → Comparison → List ℕ
comparison_line name comparison = name ++ comparison_text comparison ++ codes "\n"
