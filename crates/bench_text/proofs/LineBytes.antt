-- The bytes of a canonical line.
use Rattle.std.proofs.Common.{◌≡◌, ℕ, ◌<◌, ◌==◌, ◌||◌, not, Bool, true, false, IsTrue, List, [], ◌∷◌, ◌++◌, length, codes, All, refl, sym, ap, ◌∙◌, arith}
use Rattle.std.specs.List.{list_any, list_all, AllPass}
use Rattle.std.specs.Char.{is_ascii_graphic}
use Rattle.std.proofs.lemmas.Bool.Decides.{nat_tests}
use Rattle.std.proofs.lemmas.List.Elements.{All-nil, All-head, All-tail, All-append, All-weaker}
use Rattle.std.proofs.lemmas.List.Sums.{AllPass-from_list_all, list_all-from_AllPass}
use Rattle.logic3.specs.declared.gates.GateKind.TheVariants.{And, Nand, Or, Nor, Xor, Xnor, Not, Buf}
use Rattle.netlist.specs.declared.part.Part.{Part}
use Rattle.netlist.specs.declared.part.Part.TheVariants.{Input, Gate, Flop}
use Rattle.texts.specs.Text.{is_white, is_plain, is_empty, words_of}
use Rattle.bench_text.specs.Line.{is_mark}
use Rattle.netlist.specs.Name.{is_name_byte, IsName}
use Rattle.bench_text.specs.Canonical.{keyword_of, port_line, assignment_line, listed}
use Rattle.texts.proofs.CallerLemmas.{list_any-has_words}
use Rattle.bench_text.proofs.LineTokens.{after_comma, is_white-name_byte}
use Rattle.bench_text.proofs.Words.{IsWord}

-- a byte of a canonical line
abbrev pub is_line_byte : ℕ → Bool
is_line_byte byte = is_name_byte byte || is_mark byte || byte == 32

-- bytes that a canonical line may have
abbrev pub IsLine : List ℕ → Type 0
IsLine line = AllPass is_line_byte line

is_plain-line_byte : (byte : ℕ) → is_line_byte byte ≡ true → (is_white byte || is_ascii_graphic byte) ≡ true
is_plain-line_byte byte h = grind (arith, nat_tests)

is_line_byte-name_byte : (byte : ℕ) → is_name_byte byte ≡ true → is_line_byte byte ≡ true
is_line_byte-name_byte byte h = rw h refl

pub is_plain-line : (line : List ℕ) → IsLine line → is_plain line ≡ true
is_plain-line line bytes =
    list_all-from_AllPass (λ byte. is_white byte || is_ascii_graphic byte) line
    (All-weaker (λ byte. is_line_byte byte ≡ true) (λ byte. (is_white byte || is_ascii_graphic byte) ≡ true) is_plain-line_byte line bytes)

IsLine-append : (first second : List ℕ) → IsLine first → IsLine second → IsLine (first ++ second)
IsLine-append first second = All-append (λ byte. is_line_byte byte ≡ true) first second

IsLine-name : (name : List ℕ) → IsWord name → IsLine name
IsLine-name name w =
    All-weaker (λ byte. is_name_byte byte ≡ true) (λ byte. is_line_byte byte ≡ true) is_line_byte-name_byte name w.bytes

IsLine-marks : (text : List ℕ) → list_all is_line_byte text ≡ true → IsLine text
IsLine-marks text = AllPass-from_list_all is_line_byte text

pub IsLine-port_line : (keyword name : List ℕ) → IsWord keyword → IsWord name → IsLine (port_line keyword name)
IsLine-port_line keyword name k w =
    IsLine-append ((keyword ++ codes "(") ++ name) (codes ")")
    (IsLine-append (keyword ++ codes "(") name
    (IsLine-append keyword (codes "(") (IsLine-name keyword k) (IsLine-marks (codes "(") refl)) (IsLine-name name w))
    (IsLine-marks (codes ")") refl)

IsLine-more : (names : List (List ℕ)) → All IsWord names → IsLine (after_comma names)
IsLine-more [] words = All-nil (λ byte. is_line_byte byte ≡ true)
IsLine-more (name ∷ names) words =
    IsLine-append (codes ", " ++ name) (after_comma names)
    (IsLine-append (codes ", ") name (IsLine-marks (codes ", ") refl) (IsLine-name name (All-head IsWord name names words)))
    (IsLine-more names (All-tail IsWord name names words))

IsLine-listed : (names : List (List ℕ)) → All IsWord names → IsLine (listed names)
IsLine-listed [] words = All-nil (λ byte. is_line_byte byte ≡ true)
IsLine-listed (name ∷ names) words =
    IsLine-append name (after_comma names) (IsLine-name name (All-head IsWord name names words))
    (IsLine-more names (All-tail IsWord name names words))

pub IsLine-assignment_line : (name keyword : List ℕ) (pins : List (List ℕ)) → IsWord name → IsWord keyword → All IsWord pins →
    IsLine (assignment_line name keyword pins)
IsLine-assignment_line name keyword pins w k words =
    IsLine-append ((((name ++ codes " = ") ++ keyword) ++ codes "(") ++ listed pins) (codes ")")
    (IsLine-append (((name ++ codes " = ") ++ keyword) ++ codes "(") (listed pins)
    (IsLine-append ((name ++ codes " = ") ++ keyword) (codes "(")
    (IsLine-append (name ++ codes " = ") keyword
    (IsLine-append name (codes " = ") (IsLine-name name w) (IsLine-marks (codes " = ") refl)) (IsLine-name keyword k))
    (IsLine-marks (codes "(") refl))
    (IsLine-listed pins words))
    (IsLine-marks (codes ")") refl)

-- ---- names and keywords

pub IsWord-name : (name : List ℕ) → IsName name → IsWord name
IsWord-name name named = record { some = named.some; bytes = named.bytes }

pub IsWord-keyword : (word : List ℕ) → 0 < length word → list_all is_name_byte word ≡ true → IsWord word
IsWord-keyword word some bytes = record { some = some; bytes = AllPass-from_list_all is_name_byte word bytes }

pub IsWord-keyword_of : (part : Part) → IsWord (keyword_of part)
IsWord-keyword_of Input = IsWord-keyword (codes "INPUT") (omega arith) refl
IsWord-keyword_of (Gate And) = IsWord-keyword (codes "AND") (omega arith) refl
IsWord-keyword_of (Gate Nand) = IsWord-keyword (codes "NAND") (omega arith) refl
IsWord-keyword_of (Gate Or) = IsWord-keyword (codes "OR") (omega arith) refl
IsWord-keyword_of (Gate Nor) = IsWord-keyword (codes "NOR") (omega arith) refl
IsWord-keyword_of (Gate Xor) = IsWord-keyword (codes "XOR") (omega arith) refl
IsWord-keyword_of (Gate Xnor) = IsWord-keyword (codes "XNOR") (omega arith) refl
IsWord-keyword_of (Gate Not) = IsWord-keyword (codes "NOT") (omega arith) refl
IsWord-keyword_of (Gate Buf) = IsWord-keyword (codes "BUF") (omega arith) refl
IsWord-keyword_of Flop = IsWord-keyword (codes "DFF") (omega arith) refl

-- ---- a line has words

pub has_words-name : (name rest : List ℕ) → IsWord name → is_empty (words_of (name ++ rest)) ≡ false
has_words-name [] rest w = let some = w.some in absurd (omega arith)
has_words-name (byte ∷ name) rest w =
    negated (is_empty (words_of (byte ∷ (name ++ rest))))
    (sym (list_any-has_words (byte ∷ (name ++ rest)))
    ∙ ap (λ white. not white || list_any (λ byte. not (is_white byte)) (name ++ rest))
    (is_white-name_byte byte (All-head (λ byte. IsTrue (is_name_byte byte)) byte name w.bytes)))
  where
    negated : (b : Bool) → not b ≡ true → b ≡ false
    negated true e = sym e
    negated false e = refl
