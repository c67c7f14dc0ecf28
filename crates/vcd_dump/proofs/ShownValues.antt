-- A dump shows the signal of each name.
use Rattle.std.proofs.Common.{◌≡◌, ◌≢◌, ℕ, suc, ◌+◌, ◌<◌, ◌≤◌, ◌^◌, IsTrue, List, [], ◌∷◌, ◌++◌, length, map, take, drop, Some, ap, subst, sym, ◌∙◌, arith, length-append, codes}
use Rattle.std.specs.Prelude.{All, AllPairs, slice_get}
use Rattle.std.specs.Option.{option_and_then}
use Rattle.std.specs.List.{enumerate_from, AllByRecursion}
use Rattle.std.proofs.Math.Seq.{get_or-append_seam}
use Rattle.std.proofs.lemmas.Bool.Decides.{nat_tests}
use Rattle.std.proofs.lemmas.List.Elements.{recursion_from_All}
use Rattle.logic3.specs.declared.value.Value.{Value}
use Rattle.netlist.specs.Name.{IsName, is_name_byte}
use Rattle.netlist.proofs.CallerLemmas.{bytes_eq-other}
use Rattle.vcd_dump.specs.declared.unit.TimeUnit.{TimeUnit}
use Rattle.vcd_dump.specs.Codes.{code_at}
use Rattle.vcd_dump.specs.Dump.{Trace, Variable, variable_at, dump_of, dump_text}
use Rattle.vcd_dump.specs.Shown.{code_of_name, body_of, value_in_body, shown_value}
use Rattle.vcd_dump.proofs.Lists.{AllByRecursion-weaker, slice_get-between}
use Rattle.vcd_dump.proofs.Tokens.{IsWordByte, IsToken-from_bytes}
use Rattle.vcd_dump.proofs.CodeLemmas.{code_at-same, length-code_at, code_within-word_bytes, IsToken-code_at}
use Rattle.vcd_dump.proofs.Body.{OtherCodes, value_in_body-tokens}
use Rattle.vcd_dump.proofs.Declared.{IsOther, IsShown, OtherNames, all_tokens, body_of-tokens, code_of_name-tokens}
use Rattle.vcd_dump.proofs.Text.{dump_tokens-text}

-- ---- names and codes are words and no keywords

-- a byte of a name is a byte of a word
IsWordByte-name_byte : (byte : ℕ) → IsTrue (is_name_byte byte) → IsWordByte byte
IsWordByte-name_byte byte h = grind (arith, nat_tests)

-- a name is neither of the keywords by which a dump is read
IsOther-name : (name : List ℕ) → IsName name → IsOther name
IsOther-name [] proper = absurd (omega (arith, proper.some))
IsOther-name (byte ∷ name) proper = record {
  token = IsToken-from_bytes byte name
      (AllByRecursion-weaker (byte ∷ name) IsWordByte-name_byte
      (recursion_from_All (λ b. IsTrue (is_name_byte b)) (byte ∷ name) proper.bytes));
  no_var = bytes_eq-other (byte ∷ name) (codes "$var")
      (λ same. let dollar : byte ≡ 36 = cc in proper.no_dollar dollar);
  no_end = bytes_eq-other (codes "$enddefinitions") (byte ∷ name)
      (λ same. let dollar : byte ≡ 36 = cc in proper.no_dollar dollar);
}

-- nor is the code of a place below 100,000
IsOther-code : (place : ℕ) → place < 100_000 → IsOther (code_at place)
IsOther-code place early =
    let short = length-code_at place early in
    record {
      token = IsToken-code_at place;
      no_var = bytes_eq-other (code_at place) (codes "$var")
          (λ same. let long : length (code_at place) ≡ 4 = ap length same in omega arith);
      no_end = bytes_eq-other (codes "$enddefinitions") (code_at place)
          (λ same. let long : 15 ≡ length (code_at place) = ap length same in omega arith);
    }

-- ---- the variables of a dump

-- the variables from a place on
abbrev variables_from : ℕ → List Trace → List Variable
variables_from place entries = map variable_at (enumerate_from place entries)

-- the variables of two lists are those of the first and, from where it ends, of the second
variables_from-append : (from place : ℕ) (us vs : List Trace) → from + length us ≡ place →
    variables_from from (us ++ vs) ≡ variables_from from us ++ variables_from place vs
variables_from-append from place [] vs e = ap (λ n. variables_from n vs) (omega arith)
variables_from-append from place (u ∷ us) vs e =
    ap (λ variables. variable_at (from, u) ∷ variables) (variables_from-append (from + 1) place us vs (omega arith))

-- the variables of proper names at places below 100,000 can be read back
IsShown-variables : (from : ℕ) (entries : List Trace) → from + length entries ≤ 100_000 →
    AllByRecursion (λ (entry : Trace). IsName entry.0) entries → AllByRecursion IsShown (variables_from from entries)
IsShown-variables from [] room names = tt
IsShown-variables from ((name, signal) ∷ entries) room names = (
  record {
    bytes = code_within-word_bytes (from + 1) from;
    code = IsOther-code from (omega arith);
    name = IsOther-name name names.0;
  },
  IsShown-variables (from + 1) entries (omega arith) names.1,
)

-- the variables at other places have other codes
OtherCodes-variables : (place from : ℕ) (entries : List Trace) →
    ((n : ℕ) → from ≤ n → n < from + length entries → n ≢ place) →
    OtherCodes (code_at place) (variables_from from entries)
OtherCodes-variables place from [] apart = tt
OtherCodes-variables place from (entry ∷ entries) apart = (
  bytes_eq-other (code_at from) (code_at place)
      (λ same. apart from (omega arith) (omega arith) (code_at-same from place same)),
  OtherCodes-variables place (from + 1) entries (λ n low high. apart n (omega arith) (omega arith)),
)

-- the entries before one have other names
OtherNames-variables : (from : ℕ) (us : List Trace) (v : Trace) (ws : List Trace) →
    AllPairs (λ (earlier later : Trace). earlier.0 ≢ later.0) (us ++ v ∷ ws) → OtherNames v.0 (variables_from from us)
OtherNames-variables from [] v ws apart = tt
OtherNames-variables from (u ∷ us) v ws apart = (
  bytes_eq-other u.0 v.0
      (λ same. apart 0 (suc (length us)) v (omega arith) (omega (arith, length-append us (v ∷ ws)))
      (same ∙ ap (λ (entry : Trace). entry.0) (sym (get_or-append_seam us v ws v)))),
  OtherNames-variables (from + 1) us v ws (λ i j d below within. apart (suc i) (suc j) d (omega arith) (omega arith)),
)

-- ---- the law

-- the text shows the signal of one of its variables, whose code no other has and whose name none before it has
shown_value-dump_of : (unit : TimeUnit) (horizon tick : ℕ) (us : List Variable) (v : Variable) (ws : List Variable) →
    AllByRecursion IsShown (us ++ v ∷ ws) → OtherNames v.name us → OtherCodes v.code us → OtherCodes v.code ws →
    tick ≤ horizon → horizon < 2 ^ 64 → shown_value (dump_of unit horizon (us ++ v ∷ ws)) v.name tick ≡ Some (v.signal tick)
shown_value-dump_of unit horizon tick us v ws shown names before after due room =
    let tokens = all_tokens unit horizon (us ++ v ∷ ws) in
    ap (λ read. option_and_then (λ code. value_in_body code tick (body_of read)) (code_of_name v.name read))
    (dump_tokens-text unit horizon (us ++ v ∷ ws) shown room)
    ∙ ap (option_and_then (λ code. value_in_body code tick (body_of tokens)))
    (code_of_name-tokens unit horizon us v ws shown names)
    ∙ ap (value_in_body v.code tick) (body_of-tokens unit horizon (us ++ v ∷ ws) shown)
    ∙ value_in_body-tokens us v ws before after horizon tick room due

-- a dump shows the signal of an entry between others
shown_value-between : (unit : TimeUnit) (horizon tick : ℕ) (us : List Trace) (v : Trace) (ws : List Trace) →
    length (us ++ v ∷ ws) ≤ 100_000 → All (λ (entry : Trace). IsName entry.0) (us ++ v ∷ ws) →
    AllPairs (λ (earlier later : Trace). earlier.0 ≢ later.0) (us ++ v ∷ ws) → tick ≤ horizon → horizon < 2 ^ 64 →
    shown_value (dump_text unit horizon (us ++ v ∷ ws)) v.0 tick ≡ Some (v.1 tick)
shown_value-between unit horizon tick us v ws room names apart due small =
    let cut : variables_from 0 (us ++ v ∷ ws) ≡ variables_from 0 us ++ variables_from (length us) (v ∷ ws) =
    variables_from-append 0 (length us) us (v ∷ ws) (omega arith) in
    let all : AllByRecursion IsShown (variables_from 0 (us ++ v ∷ ws)) =
    IsShown-variables 0 (us ++ v ∷ ws) (omega arith)
    (recursion_from_All (λ (entry : Trace). IsName entry.0) (us ++ v ∷ ws) names) in
    ap (λ variables. shown_value (dump_of unit horizon variables) v.0 tick) cut
    ∙ shown_value-dump_of unit horizon tick (variables_from 0 us) (variable_at (length us, v))
    (variables_from (length us + 1) ws)
    (subst (AllByRecursion IsShown) cut all) (OtherNames-variables 0 us v ws apart)
    (OtherCodes-variables (length us) 0 us (λ n low high. omega arith))
    (OtherCodes-variables (length us) (length us + 1) ws (λ n low high. omega arith))
    due small

-- a dump shows for each name its signal
pub shown_value-dump_text : (unit : TimeUnit) (horizon : ℕ) (shown : List Trace) (place tick : ℕ)
    (name : List ℕ) (signal : ℕ → Value) →
    length shown ≤ 100_000 → All (λ (entry : Trace). IsName entry.0) shown →
    AllPairs (λ (earlier later : Trace). earlier.0 ≢ later.0) shown →
    slice_get shown place ≡ Some (name, signal) → tick ≤ horizon → horizon < 2 ^ 64 →
    shown_value (dump_text unit horizon shown) name tick ≡ Some (signal tick)
shown_value-dump_text unit horizon shown place tick name signal room names apart here due small =
    let v : Trace = (name, signal) in
    let cut = slice_get-between shown place v here in
    let P : List Trace → Type 0 = λ entries. length entries ≤ 100_000 → All (λ (entry : Trace). IsName entry.0) entries →
    AllPairs (λ (earlier later : Trace). earlier.0 ≢ later.0) entries →
    shown_value (dump_text unit horizon entries) name tick ≡ Some (signal tick) in
    subst P (sym cut)
    (λ r n a. shown_value-between unit horizon tick (take place shown) v (drop (suc place) shown) r n a due small)
    room names apart
