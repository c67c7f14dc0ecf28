-- The tokens of a canonical line.
use Rattle.std.proofs.Common.{◌≡◌, ℕ, not, true, false, IsTrue, List, [], ◌∷◌, ◌++◌, map, codes, All, Some, option_map, append_assoc, refl, sym, ap, ◌∙◌, arith}
use Rattle.std.specs.List.{slice_split, filter, flat_map}
use Rattle.std.proofs.lemmas.Bool.Decides.{nat_tests}
use Rattle.std.proofs.lemmas.Grind.{flat_map-append}
use Rattle.std.proofs.lemmas.List.Elements.{All-head, All-tail, All-weaker}
use Rattle.std.proofs.lemmas.List.Splits.{slice_split_at}
use Rattle.texts.specs.Text.{is_white, is_empty}
use Rattle.bench_text.specs.Line.{Token, left, comma, equals, word, spaced, token_of, tokens_of, more_names, names_of, form_of, port, assignment}
use Rattle.netlist.specs.Name.{is_name_byte}
use Rattle.bench_text.specs.Canonical.{port_line, assignment_line, listed}
use Rattle.bench_text.proofs.Scan.{token_of-word}
use Rattle.bench_text.proofs.Words.{IsWord, is_mark-name_byte}

abbrev IsNameByte : ℕ → Type 0
IsNameByte byte = IsTrue (is_name_byte byte)

-- no byte of a name is a mark, or white
spaced-name : (name : List ℕ) → All IsNameByte name → flat_map spaced name ≡ name
spaced-name [] bytes = refl
spaced-name (byte ∷ name) bytes =
    rw (is_mark-name_byte byte (All-head IsNameByte byte name bytes))
    (ap (λ rest. byte ∷ rest) (spaced-name name (All-tail IsNameByte byte name bytes)))

pub is_white-name_byte : (byte : ℕ) → is_name_byte byte ≡ true → is_white byte ≡ false
is_white-name_byte byte named = grind (arith, nat_tests)

-- a name comes first, and then white space or a mark
tokens_of-name : (name rest more : List ℕ) → IsWord name → flat_map spaced rest ≡ 32 ∷ more →
    tokens_of (name ++ rest) ≡ word name ∷ tokens_of rest
tokens_of-name [] rest more w ends = let some = w.some in absurd (omega arith)
tokens_of-name (byte ∷ name) rest more w ends =
    let all = byte ∷ name in
    let words : List (List ℕ) → List Token = λ (pieces : List (List ℕ)). map token_of (filter (λ piece. not (is_empty piece)) pieces) in
    let cut : slice_split is_white (flat_map spaced (all ++ rest)) ≡ all ∷ slice_split is_white more =
    ap (slice_split is_white) (flat_map-append spaced all rest ∙ ap (λ first. first ++ flat_map spaced rest) (spaced-name all w.bytes) ∙ ap (λ after. all ++ after) ends)
    ∙ slice_split_at is_white all 32 more (All-weaker IsNameByte (λ byte. is_white byte ≡ false) is_white-name_byte all w.bytes) refl in
    ap words cut
    ∙ ap (λ token. token ∷ words (slice_split is_white more)) (token_of-word byte name (is_mark-name_byte byte (All-head IsNameByte byte name w.bytes)))
    ∙ ap (λ after. word all ∷ words (slice_split is_white after)) (sym ends)

-- ---- a list of names

abbrev pub after_comma : List (List ℕ) → List ℕ
after_comma names = flat_map (λ name. codes ", " ++ name) names

-- what follows a name of a list
record Follows (names : List (List ℕ)) : Type 0 where
  more : List ℕ
  is : flat_map spaced (after_comma names ++ codes ")") ≡ 32 ∷ more

follows : (names : List (List ℕ)) → Follows names
follows [] = record { more = 41 ∷ 32 ∷ []; is = refl }
follows (name ∷ names) = record { more = 44 ∷ 32 ∷ 32 ∷ flat_map spaced ((name ++ after_comma names) ++ codes ")"); is = refl }

tokens_of-first : (name : List ℕ) (names : List (List ℕ)) → IsWord name →
    tokens_of ((name ++ after_comma names) ++ codes ")") ≡ word name ∷ tokens_of (after_comma names ++ codes ")")
tokens_of-first name names w =
    ap tokens_of (append_assoc name (after_comma names) (codes ")"))
    ∙ tokens_of-name name (after_comma names ++ codes ")") (follows names).more w (follows names).is

more_names-listed : (names : List (List ℕ)) → All IsWord names → more_names (tokens_of (after_comma names ++ codes ")")) ≡ Some names
more_names-listed [] words = refl
more_names-listed (name ∷ names) words =
    ap (λ tokens. more_names (comma ∷ tokens)) (tokens_of-first name names (All-head IsWord name names words))
    ∙ ap (option_map (λ names. name ∷ names)) (more_names-listed names (All-tail IsWord name names words))

names_of-listed : (names : List (List ℕ)) → All IsWord names → names_of (tokens_of (listed names ++ codes ")")) ≡ Some names
names_of-listed [] words = refl
names_of-listed (name ∷ names) words =
    ap names_of (tokens_of-first name names (All-head IsWord name names words))
    ∙ ap (option_map (λ names. name ∷ names)) (more_names-listed names (All-tail IsWord name names words))

-- ---- the form of a line

pub port_line-grouped : (keyword name : List ℕ) → port_line keyword name ≡ keyword ++ (codes "(" ++ (name ++ codes ")"))
port_line-grouped keyword name =
    append_assoc (keyword ++ codes "(") name (codes ")") ∙ append_assoc keyword (codes "(") (name ++ codes ")")

regroup : (a b c d e f : List ℕ) → ((((a ++ b) ++ c) ++ d) ++ e) ++ f ≡ a ++ (b ++ (c ++ (d ++ (e ++ f))))
regroup a b c d e f = simp append_assoc

pub assignment_line-grouped : (name keyword : List ℕ) (pins : List (List ℕ)) →
    assignment_line name keyword pins ≡ name ++ (codes " = " ++ (keyword ++ (codes "(" ++ (listed pins ++ codes ")"))))
assignment_line-grouped name keyword pins = regroup name (codes " = ") keyword (codes "(") (listed pins) (codes ")")

pub form_of-port_line : (keyword name : List ℕ) → IsWord keyword → IsWord name →
    form_of (tokens_of (port_line keyword name)) ≡ Some (port keyword name)
form_of-port_line keyword name k w =
    ap (λ line. form_of (tokens_of line)) (port_line-grouped keyword name)
    ∙ ap form_of
    (tokens_of-name keyword (codes "(" ++ (name ++ codes ")")) (40 ∷ 32 ∷ flat_map spaced (name ++ codes ")")) k refl
    ∙ ap (λ tokens. word keyword ∷ left ∷ tokens) (tokens_of-name name (codes ")") (41 ∷ 32 ∷ []) w refl))

pub form_of-assignment_line : (name keyword : List ℕ) (pins : List (List ℕ)) → IsWord name → IsWord keyword → All IsWord pins →
    form_of (tokens_of (assignment_line name keyword pins)) ≡ Some (assignment name keyword pins)
form_of-assignment_line name keyword pins w k words =
    let list = listed pins ++ codes ")" in
    let call = keyword ++ (codes "(" ++ list) in
    ap (λ line. form_of (tokens_of line)) (assignment_line-grouped name keyword pins)
    ∙ ap form_of
    (tokens_of-name name (codes " = " ++ call) (32 ∷ 61 ∷ 32 ∷ 32 ∷ flat_map spaced call) w refl
    ∙ ap (λ tokens. word name ∷ equals ∷ tokens) (tokens_of-name keyword (codes "(" ++ list) (40 ∷ 32 ∷ flat_map spaced list) k refl))
    ∙ ap (option_map (assignment name keyword)) (names_of-listed pins words)
