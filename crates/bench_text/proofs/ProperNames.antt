-- What a line says has proper names.
use Rattle.std.proofs.Common.{◌≡◌, ℕ, Bool, true, false, cond, List, [], ◌∷◌, length, get_or, codes, All, Option, Some, None, option_map, Result, Ok, Err, refl, subst}
use Rattle.std.specs.List.{list_any, AllByRecursion}
use Rattle.std.specs.Str.{str_eq_ignore_ascii_case}
use Rattle.std.specs.Option.{IfSome}
use Rattle.std.proofs.lemmas.Bool.{or_parts, ltb-false, eqb-false}
use Rattle.std.proofs.lemmas.List.Elements.{All-nil, All-cons, All-head, All-tail}
use Rattle.netlist.specs.declared.part.Part.{Part}
use Rattle.netlist.specs.declared.part.Part.TheVariants.{Input}
use Rattle.bench_text.specs.declared.fault.BenchFault.{BenchFault}
use Rattle.bench_text.specs.declared.fault.BenchFault.TheVariants.{BadByte, BadLine, NameTooLong, BadArity}
use Rattle.texts.specs.Text.{is_plain, code_of}
use Rattle.netlist.specs.Part.{takes_pins}
use Rattle.bench_text.specs.Line.{Token, word, left, right, comma, equals, Form, port, assignment, Statement, defines, names_output, tokens_of, more_names, names_of, form_of, part_of, is_dollar_name, is_long_name, with_names, definition_of, statement_of_form, statement_of, IsStatement}
use Rattle.netlist.specs.Name.{IsName}
use Rattle.bench_text.proofs.Words.{IsWord, IsToken, tokens_proper, no_comment}

-- ---- the names of a form

more_names-proper : (tokens : List Token) → AllByRecursion IsToken tokens → IfSome (more_names tokens) (λ names. AllByRecursion IsWord names)
more_names-proper (right ∷ []) h = tt
more_names-proper (comma ∷ word name ∷ tokens) h = go (more_names tokens) (more_names-proper tokens h.1.1)
  where
    go : (names : Option (List (List ℕ))) → IfSome names (λ names. AllByRecursion IsWord names) →
        IfSome (option_map (λ names. name ∷ names) names) (λ names. AllByRecursion IsWord names)
    go None rest = tt
    go (Some names) rest = (h.1.0, rest)
more_names-proper _ h = tt

names_of-proper : (tokens : List Token) → AllByRecursion IsToken tokens → IfSome (names_of tokens) (λ names. AllByRecursion IsWord names)
names_of-proper (right ∷ []) h = tt
names_of-proper (word name ∷ tokens) h = go (more_names tokens) (more_names-proper tokens h.1)
  where
    go : (names : Option (List (List ℕ))) → IfSome names (λ names. AllByRecursion IsWord names) →
        IfSome (option_map (λ names. name ∷ names) names) (λ names. AllByRecursion IsWord names)
    go None rest = tt
    go (Some names) rest = (h.0, rest)
names_of-proper _ h = tt

-- the words of a form that are to be names
abbrev names_in : Form → List (List ℕ)
names_in (port keyword name) = name ∷ []
names_in (assignment name keyword pins) = name ∷ pins

form_of-proper : (tokens : List Token) → AllByRecursion IsToken tokens → IfSome (form_of tokens) (λ form. AllByRecursion IsWord (names_in form))
form_of-proper (word keyword ∷ left ∷ word name ∷ right ∷ []) h = (h.1.1.0, tt)
form_of-proper (word name ∷ equals ∷ word keyword ∷ left ∷ tokens) h = go (names_of tokens) (names_of-proper tokens h.1.1.1.1)
  where
    go : (pins : Option (List (List ℕ))) → IfSome pins (λ pins. AllByRecursion IsWord pins) →
        IfSome (option_map (assignment name keyword) pins) (λ form. AllByRecursion IsWord (names_in form))
    go None rest = tt
    go (Some pins) rest = (h.0, rest)
form_of-proper _ h = tt

-- ---- the names of what a line says

IsName-word : (name : List ℕ) → IsWord name → is_dollar_name name ≡ false → is_long_name name ≡ false → IsName name
IsName-word name is_word dollar long = record {
  some = is_word.some;
  short = ltb-false 255 (length name) long;
  bytes = is_word.bytes;
  no_dollar = eqb-false (get_or name 0 0) 36 dollar;
}

IsName-words : (names : List (List ℕ)) → AllByRecursion IsWord names → list_any is_dollar_name names ≡ false → list_any is_long_name names ≡ false → All IsName names
IsName-words [] words dollar long = All-nil IsName
IsName-words (name ∷ names) words dollar long =
    let d = or_parts (is_dollar_name name) (list_any is_dollar_name names) dollar in
    let l = or_parts (is_long_name name) (list_any is_long_name names) long in
    All-cons IsName name names (IsName-word name words.0 d.0 l.0) (IsName-words names words.1 d.1 l.1)

-- names behind which something stands
record MayBeWritten {A : Type 0} (names : List (List ℕ)) (rest : Result A BenchFault) (said : A) : Type 0 where
  dollar : list_any is_dollar_name names ≡ false
  long : list_any is_long_name names ≡ false
  says : rest ≡ Ok said

with_names-Ok : {A : Type 0} (line : ℕ) (names : List (List ℕ)) (rest : Result A BenchFault) (said : A) →
    with_names line names rest ≡ Ok said → MayBeWritten names rest said
with_names-Ok {A} line names rest said e = go (list_any is_dollar_name names) (list_any is_long_name names) refl refl e
  where
    go : (dollar long : Bool) → list_any is_dollar_name names ≡ dollar → list_any is_long_name names ≡ long →
        cond dollar (Err (BadLine line)) (cond long (Err (NameTooLong line)) rest) ≡ Ok said → MayBeWritten names rest said
    go true long d l e = cc
    go false true d l e = cc
    go false false d l e = record { dollar = d; long = l; says = e }

IsStatement-port : (line : ℕ) (keyword name : List ℕ) (said : Statement) → IsWord name →
    statement_of_form line (Some (port keyword name)) ≡ Ok said → IsStatement said
IsStatement-port line keyword name said is_word e =
    go (str_eq_ignore_ascii_case (codes "INPUT") keyword) (str_eq_ignore_ascii_case (codes "OUTPUT") keyword) e
  where
    named : (rest : Result Statement BenchFault) → with_names line (name ∷ []) rest ≡ Ok said → All IsName (name ∷ []) × (rest ≡ Ok said)
    named rest e = let may = with_names-Ok line (name ∷ []) rest said e in (IsName-words (name ∷ []) (is_word, tt) may.dollar may.long, may.says)

    go : (input output : Bool) →
        cond input (with_names line (name ∷ []) (Ok (defines name Input [])))
        (cond output (with_names line (name ∷ []) (Ok (names_output name))) (Err (BadLine line))) ≡ Ok said →
        IsStatement said
    go true output e =
        let may = named (Ok (defines name Input [])) e in
        let same : defines name Input [] ≡ said = cc in
        subst IsStatement same (All-head IsName name [] may.0, All-nil IsName, refl)
    go false true e =
        let may = named (Ok (names_output name)) e in
        let same : names_output name ≡ said = cc in
        subst IsStatement same (All-head IsName name [] may.0)
    go false false e = cc

IsStatement-assignment : (line : ℕ) (name keyword : List ℕ) (pins : List (List ℕ)) (said : Statement) → AllByRecursion IsWord (name ∷ pins) →
    statement_of_form line (Some (assignment name keyword pins)) ≡ Ok said → IsStatement said
IsStatement-assignment line name keyword pins said words e =
    let may = with_names-Ok line (name ∷ pins) (definition_of line name pins (part_of keyword)) said e in
    go (part_of keyword) may.says (IsName-words (name ∷ pins) words may.dollar may.long)
  where
    go : (part : Option Part) → definition_of line name pins part ≡ Ok said → All IsName (name ∷ pins) → IsStatement said
    go None e names = cc
    go (Some part) e names = takes (takes_pins part (length pins)) refl e
      where
        takes : (fits : Bool) → takes_pins part (length pins) ≡ fits →
            cond fits (Ok (defines name part pins)) (Err (BadArity line)) ≡ Ok said → IsStatement said
        takes true fits e =
            let same : defines name part pins ≡ said = cc in
            subst IsStatement same (All-head IsName name pins names, All-tail IsName name pins names, fits)
        takes false fits e = cc

-- what a line says has proper names, and a part that may have its pins
pub IsStatement-statement_of : (line : ℕ) (text : List ℕ) (said : Statement) → statement_of line (code_of text) ≡ Ok said → IsStatement said
IsStatement-statement_of line text said e = go (is_plain (code_of text)) refl e
  where
    form_says : (form : Option Form) → IfSome form (λ form. AllByRecursion IsWord (names_in form)) →
        statement_of_form line form ≡ Ok said → IsStatement said
    form_says None words e = cc
    form_says (Some (port keyword name)) words e = IsStatement-port line keyword name said words.0 e
    form_says (Some (assignment name keyword pins)) words e = IsStatement-assignment line name keyword pins said words e

    go : (plain : Bool) → is_plain (code_of text) ≡ plain →
        cond plain (statement_of_form line (form_of (tokens_of (code_of text)))) (Err (BadByte line)) ≡ Ok said → IsStatement said
    go true plain e =
        form_says (form_of (tokens_of (code_of text))) (form_of-proper (tokens_of (code_of text)) (tokens_proper (code_of text) plain (no_comment text))) e
    go false plain e = cc
