-- How a name compares in two runs.
use Rattle.std.specs.Prelude.{Bool, true, false}
use Rattle.wave_diff.specs.declared.comparison.Comparison.{Comparison}
use Rattle.wave_diff.specs.declared.comparison.Comparison.TheVariants.{Same, Differs, OnlyIn}

-- it shows the same, whether the cones agree or not
abbrev pub is_same : Comparison → Bool
is_same (Same agree) = true
is_same (Differs found) = false
is_same (OnlyIn side) = false
