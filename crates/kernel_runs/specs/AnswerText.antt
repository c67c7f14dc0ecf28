-- The lines of the answers to `check` and `twin`.
use Rattle.std.specs.Prelude.{ℕ, true, false, Bool, List, ◌++◌, flat_map, codes, decimal}
use Rattle.logic3.specs.declared.change.Change.{Change}
use Rattle.logic3.specs.Value.{value_text}
use Rattle.texts.specs.Written.{line}
use Rattle.kernel_runs.specs.declared.check_run.CheckAnswer.{CheckAnswer}
use Rattle.kernel_runs.specs.declared.twin_run.TwinAnswer.{TwinAnswer}

-- a line `nets N`
abbrev pub number_line : List ℕ → ℕ → List ℕ
number_line what number = line (what ++ codes " " ++ decimal number)

-- the lines of a comparison of the engines
abbrev pub check_text : CheckAnswer → List ℕ
check_text answer =
    number_line (codes "nets") answer.nets ++ number_line (codes "pins") answer.pins ++ number_line (codes "same") answer.same

abbrev pub agree_word : Bool → List ℕ
agree_word true = codes "yes"
agree_word false = codes "no"

-- a line `SIDE T V`
abbrev pub side_line : List ℕ → Change → List ℕ
side_line side change = line (side ++ codes " " ++ decimal change.tick ++ codes " " ++ value_text change.value)

-- the lines of a comparison of two runs; before its first change a net shows x
abbrev pub twin_text : TwinAnswer → List ℕ
twin_text answer =
    line (codes "agree " ++ agree_word answer.agree)
    ++ flat_map (side_line (codes "first")) answer.first.changes
    ++ flat_map (side_line (codes "second")) answer.second.changes
