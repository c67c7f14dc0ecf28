-- The tokens of the text of a dump.
use Rattle.std.proofs.Common.{◌≡◌, ℕ, zero, suc, ◌+◌, ◌-◌, ◌<◌, ◌≤◌, ◌^◌, ◌==◌, ◌&&◌, not, Bool, true, false, cond, List, [], ◌∷◌, ◌++◌, map, refl, ap, ◌∙◌, arith, codes, append_assoc, if◌then◌else◌}
use Rattle.std.specs.List.{flat_map, range_with_len, AllByRecursion}
use Rattle.logic3.specs.declared.value.Value.{Value}
use Rattle.logic3.specs.declared.value.Value.TheVariants.{Zero, One, Unknown}
use Rattle.logic3.specs.Value.{is_same, value_text}
use Rattle.texts.specs.Text.{is_empty}
use Rattle.vcd_dump.specs.declared.unit.TimeUnit.{TimeUnit}
use Rattle.vcd_dump.specs.Dump.{Variable, unit_text, declaration, declarations, change_line, time_line, first_values, changes_at, lines_at, dump_of}
use Rattle.vcd_dump.specs.Shown.{dump_tokens}
use Rattle.vcd_dump.proofs.Lists.{AllByRecursion-weaker}
use Rattle.vcd_dump.proofs.Tokens.{IsWordByte, IsToken, IsToken-from_bytes, word_then, Gives, Gives-none, Gives-line, ◌&◌, Gives-flat_map, Gives-whole}
use Rattle.vcd_dump.proofs.Times.{time_token, IsToken-time_token}
use Rattle.vcd_dump.proofs.Body.{change_token, changed_token, tokens_at, section_tokens}
use Rattle.vcd_dump.proofs.Declared.{IsOther-unit, IsShown, header_tokens, declaration_tokens, all_tokens}

-- ---- the declarations

-- the tokens of the line of the unit
timescale_tokens : (unit : TimeUnit) →
    dump_tokens (codes "$timescale 1 " ++ unit_text unit ++ codes " $end")
    ≡ codes "$timescale" ∷ codes "1" ∷ unit_text unit ∷ codes "$end" ∷ []
timescale_tokens unit =
    ap dump_tokens (append_assoc (codes "$timescale 1 ") (unit_text unit) (codes " $end"))
    ∙ ap (λ tokens. codes "$timescale" ∷ codes "1" ∷ tokens)
    (word_then (unit_text unit) 32 (codes "$end") (IsOther-unit unit).token refl)

-- the parts of a declaration, one behind the other
regroup_declaration : (a b c d e f rest : List ℕ) →
    (a ++ b ++ c ++ d ++ e ++ f) ++ rest ≡ a ++ (b ++ (c ++ (d ++ (e ++ (f ++ rest)))))
regroup_declaration a b c d e f rest = simp append_assoc

-- a declaration gives its tokens
Gives-declaration : (v : Variable) → IsToken v.code → IsToken v.name → Gives (declaration v) (declaration_tokens v)
Gives-declaration v code name = record {
  before = λ rest.
      ap dump_tokens (regroup_declaration (codes "$var wire 1 ") v.code (codes " ") v.name (codes " $end") (codes "\n") rest)
      ∙ ap (λ tokens. codes "$var" ∷ codes "wire" ∷ codes "1" ∷ tokens)
      (word_then v.code 32 (v.name ++ (codes " $end" ++ (codes "\n" ++ rest))) code refl
      ∙ ap (λ tokens. v.code ∷ tokens) (word_then v.name 32 (codes "$end" ++ (codes "\n" ++ rest)) name refl));
}

-- so does all that stands before the first time
Gives-declarations : (unit : TimeUnit) (variables : List Variable) → AllByRecursion IsShown variables →
    Gives (declarations unit variables)
    (header_tokens unit ++ flat_map declaration_tokens variables
    ++ (codes "$upscope" ∷ codes "$end" ∷ []) ++ (codes "$enddefinitions" ∷ codes "$end" ∷ []))
Gives-declarations unit variables shown =
    Gives-line (codes "$version nullsim 1 $end") refl
    & Gives-line (codes "$timescale 1 " ++ unit_text unit ++ codes " $end") (timescale_tokens unit)
    & Gives-line (codes "$scope module top $end") refl
    & Gives-flat_map declaration declaration_tokens variables
    (AllByRecursion-weaker variables (λ v s. Gives-declaration v s.code.token s.name.token) shown)
    & Gives-line (codes "$upscope $end") refl & Gives-line (codes "$enddefinitions $end") refl

-- ---- the values at tick 0

-- a change is one token
IsToken-change : (value : Value) (code : List ℕ) → AllByRecursion IsWordByte code → IsToken (value_text value ++ code)
IsToken-change Zero code bytes = IsToken-from_bytes 48 code (refl, bytes)
IsToken-change One code bytes = IsToken-from_bytes 49 code (refl, bytes)
IsToken-change Unknown code bytes = IsToken-from_bytes 120 code (refl, bytes)

-- the line of a change gives its token
Gives-change : (tick : ℕ) (v : Variable) → IsShown v → Gives (change_line tick v) (change_token tick v ∷ [])
Gives-change tick v shown = Gives-line (change_token tick v) (IsToken-change (v.signal tick) v.code shown.bytes)

-- the lines of the values give theirs
Gives-values : (variables : List Variable) → AllByRecursion IsShown variables →
    Gives (flat_map (change_line 0) variables) (map (change_token 0) variables)
Gives-values [] shown = Gives-none
Gives-values (v ∷ variables) shown = Gives-change 0 v shown.0 & Gives-values variables shown.1

-- all that stands at tick 0 gives its tokens
Gives-first_values : (variables : List Variable) → AllByRecursion IsShown variables →
    Gives (first_values variables)
    ((time_token 0 ∷ codes "$dumpvars" ∷ []) ++ map (change_token 0) variables ++ (codes "$end" ∷ []))
Gives-first_values variables shown =
    Gives-line (time_token 0) (IsToken-time_token 0 (omega arith)) & Gives-line (codes "$dumpvars") refl
    & Gives-values variables shown & Gives-line (codes "$end") refl

-- ---- the later ticks

-- the changes of a tick give their tokens
Gives-changes : (variables : List Variable) (tick : ℕ) → AllByRecursion IsShown variables →
    Gives (changes_at variables tick) (tokens_at variables tick)
Gives-changes variables tick shown =
    Gives-flat_map (λ (v : Variable). if is_same (v.signal (tick - 1)) (v.signal tick) then [] else change_line tick v)
    (changed_token tick) variables
    (AllByRecursion-weaker variables (λ v s. go v s (is_same (v.signal (tick - 1)) (v.signal tick))) shown)
  where
    go : (v : Variable) → IsShown v → (same : Bool) →
        Gives (cond same [] (change_line tick v)) (cond same [] (change_token tick v ∷ []))
    go v s true = Gives-none
    go v s false = Gives-change tick v s

-- so do the lines of a tick
Gives-lines : (variables : List Variable) (horizon tick : ℕ) → AllByRecursion IsShown variables → tick < 2 ^ 64 →
    Gives (lines_at variables horizon tick) (section_tokens variables horizon tick)
Gives-lines variables horizon tick shown room = go (is_empty (changes_at variables tick) && not (tick == horizon))
  where
    go : (none : Bool) →
        Gives (cond none [] (time_line tick ++ changes_at variables tick))
        (cond none [] (time_token tick ∷ tokens_at variables tick))
    go true = Gives-none
    go false = Gives-line (time_token tick) (IsToken-time_token tick room) & Gives-changes variables tick shown

-- and those of each of the ticks from one on
lines_give : (variables : List Variable) (horizon at ticks : ℕ) → AllByRecursion IsShown variables → at + ticks ≤ 2 ^ 64 →
    AllByRecursion (λ tick. Gives (lines_at variables horizon tick) (section_tokens variables horizon tick))
    (range_with_len at ticks)
lines_give variables horizon at zero shown room = tt
lines_give variables horizon at (suc ticks) shown room =
    (Gives-lines variables horizon at shown (omega arith), lines_give variables horizon (at + 1) ticks shown (omega arith))

-- ---- the whole text

-- the parts of a dump, one behind the other
regroup_dump : (a b c d e f g h : List (List ℕ)) →
    (a ++ b ++ c ++ d) ++ (e ++ f ++ g) ++ h ≡ a ++ (b ++ ((c ++ d) ++ (e ++ (f ++ (g ++ h)))))
regroup_dump a b c d e f g h = simp append_assoc

-- the tokens of a dump
pub dump_tokens-text : (unit : TimeUnit) (horizon : ℕ) (variables : List Variable) →
    AllByRecursion IsShown variables → horizon < 2 ^ 64 → dump_tokens (dump_of unit horizon variables) ≡ all_tokens unit horizon variables
dump_tokens-text unit horizon variables shown room =
    Gives-whole (Gives-declarations unit variables shown & Gives-first_values variables shown
    & Gives-flat_map (lines_at variables horizon) (section_tokens variables horizon) (range_with_len 1 horizon)
    (lines_give variables horizon 1 horizon shown (omega arith)))
    ∙ regroup_dump (header_tokens unit) (flat_map declaration_tokens variables)
    (codes "$upscope" ∷ codes "$end" ∷ []) (codes "$enddefinitions" ∷ codes "$end" ∷ [])
    (time_token 0 ∷ codes "$dumpvars" ∷ []) (map (change_token 0) variables) (codes "$end" ∷ [])
    (flat_map (section_tokens variables horizon) (range_with_len 1 horizon))
