-- The text of a value change dump.
use Rattle.std.specs.Prelude.{ℕ, ◌-◌, ◌==◌, ◌&&◌, not, nat_lt, if◌then◌else◌, List, [], ◌∷◌, ◌++◌, map, flat_map, codes, decimal}
use Rattle.std.specs.List.{enumerate_from, range_with_len}
use Rattle.logic3.specs.declared.value.Value.{Value}
use Rattle.logic3.specs.Value.{is_same, value_text}
use Rattle.texts.specs.Text.{is_empty}
use Rattle.texts.specs.Written.{line}
use Rattle.vcd_dump.specs.declared.unit.TimeUnit.{TimeUnit}
use Rattle.vcd_dump.specs.declared.unit.TimeUnit.TheVariants.{S, Ms, Us, Ns, Ps, Fs}
use Rattle.vcd_dump.specs.Codes.{code_at}

-- a shown net: its identifier code, its name, and what it shows at each tick
pub record Variable : Type 0 where
  pub code : List ℕ
  pub name : List ℕ
  pub signal : ℕ → Value

-- the keywords of a dump
abbrev pub dump_keywords : List (List ℕ)
dump_keywords =
    codes "$version" ∷ codes "$timescale" ∷ codes "$scope" ∷ codes "$var" ∷ codes "$upscope"
    ∷ codes "$enddefinitions" ∷ codes "$dumpvars" ∷ codes "$end" ∷ []

-- what is to be shown: a name with what it shows at each tick
abbrev pub Trace : Type 0
Trace = List ℕ × (ℕ → Value)

-- the shown net at a place, with the code of that place
abbrev pub variable_at : ℕ × Trace → Variable
variable_at (place, (name, signal)) = record { code = code_at place; name = name; signal = signal }

-- the shown nets with their codes, in order
abbrev pub variables_of : List Trace → List Variable
variables_of shown = map variable_at (enumerate_from 0 shown)

abbrev pub unit_text : TimeUnit → List ℕ
unit_text S = codes "s"
unit_text Ms = codes "ms"
unit_text Us = codes "us"
unit_text Ns = codes "ns"
unit_text Ps = codes "ps"
unit_text Fs = codes "fs"

-- the declaration of a code with its name
abbrev pub declaration_text : List ℕ → List ℕ → List ℕ
declaration_text code name = line (codes "$var wire 1 " ++ code ++ codes " " ++ name ++ codes " $end")

abbrev pub declaration : Variable → List ℕ
declaration v = declaration_text v.code v.name

abbrev pub heading : TimeUnit → List ℕ
heading unit =
    line (codes "$version nullsim 1 $end")
    ++ line (codes "$timescale 1 " ++ unit_text unit ++ codes " $end")
    ++ line (codes "$scope module top $end")

-- the declarations: everything before the first time
abbrev pub declarations : TimeUnit → List Variable → List ℕ
declarations unit variables =
    heading unit ++ flat_map declaration variables ++ line (codes "$upscope $end") ++ line (codes "$enddefinitions $end")

-- a scalar change: the value and the code
abbrev pub change_text : Value → List ℕ → List ℕ
change_text value code = line (value_text value ++ code)

abbrev pub change_line : ℕ → Variable → List ℕ
change_line tick v = change_text (v.signal tick) v.code

abbrev pub time_line : ℕ → List ℕ
time_line tick = line (codes "#" ++ decimal tick)

-- the line of a time that is later than the time before
abbrev pub time_line_after : ℕ → ℕ → List ℕ
time_line_after before tick = if nat_lt before tick then time_line tick else []

-- the values at tick 0
abbrev pub first_values : List Variable → List ℕ
first_values variables =
    time_line 0 ++ line (codes "$dumpvars") ++ flat_map (change_line 0) variables ++ line (codes "$end")

-- the changes at a later tick
abbrev pub changes_at : List Variable → ℕ → List ℕ
changes_at variables tick =
    flat_map (λ (v : Variable). if is_same (v.signal (tick - 1)) (v.signal tick) then [] else change_line tick v) variables

-- the lines of a tick from 1 on: its time and its changes, if there are any or it is the last tick
abbrev pub lines_at : List Variable → ℕ → ℕ → List ℕ
lines_at variables horizon tick =
    if is_empty (changes_at variables tick) && not (tick == horizon) then []
    else time_line tick ++ changes_at variables tick

-- the dump of variables up to a horizon
abbrev pub dump_of : TimeUnit → ℕ → List Variable → List ℕ
dump_of unit horizon variables =
    declarations unit variables ++ first_values variables
    ++ flat_map (lines_at variables horizon) (range_with_len 1 horizon)

-- the dump up to a horizon of what is to be shown
abbrev pub dump_text : TimeUnit → ℕ → List Trace → List ℕ
dump_text unit horizon shown = dump_of unit horizon (variables_of shown)
