-- What a gate's value depends on.
use Rattle.std.specs.Prelude.{◌%◌, ◌==◌, List, count_by}
use Rattle.std.specs.List.{list_any}
use Rattle.logic3.specs.declared.value.Value.{Value}
use Rattle.logic3.specs.declared.value.Value.TheVariants.{Zero, One, Unknown}
use Rattle.logic3.specs.Value.{is_same}
use Rattle.logic3.specs.declared.summary.Summary.{Summary}

-- whether some pin is 0, 1 or X, and whether an odd number of them is 1
abbrev pub summary_of : List Value → Summary
summary_of pins = record {
  some_zero = list_any (is_same Zero) pins;
  some_one = list_any (is_same One) pins;
  some_unknown = list_any (is_same Unknown) pins;
  odd_ones = count_by (is_same One) pins % 2 == 1;
}
