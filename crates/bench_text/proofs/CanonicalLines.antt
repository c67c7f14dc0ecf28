-- What the lines of a canonical text say.
use Rattle.std.proofs.Common.{◌≡◌, ℕ, ◌+◌, ◌==◌, not, Bool, true, false, cond, List, [], ◌∷◌, ◌++◌, map, codes, All, Ok, append_assoc, refl, sym, ap, ◌∙◌, arith}
use Rattle.std.specs.List.{filter, enumerate_from}
use Rattle.std.proofs.lemmas.Bool.Decides.{nat_tests}
use Rattle.std.proofs.lemmas.List.{append-nil}
use Rattle.std.proofs.lemmas.List.Elements.{All-head, All-tail, All-weaker}
use Rattle.std.proofs.lemmas.List.Splits.{slice_split_at}
use Rattle.texts.specs.Text.{◌>>=◌, lines_of, code_of, code_lines_from, words_of, is_empty}
use Rattle.texts.specs.Fold.{fold_lines, one_a_line}
use Rattle.texts.proofs.CallerLemmas.{code_of-no_hash}
use Rattle.bench_text.specs.Line.{Statement, IsStatement}
use Rattle.bench_text.specs.NetlistOf.{numbered_statement}
use Rattle.bench_text.specs.Canonical.{canonical_line, canonical_lines}
use Rattle.bench_text.proofs.LineBytes.{is_line_byte}
use Rattle.bench_text.proofs.LineSaid.{IsCodeLine, IsCodeLine-canonical_line, statement_of-canonical_line}

no_line_feed : (byte : ℕ) → is_line_byte byte ≡ true → (byte == 10) ≡ false
no_line_feed byte h = grind (arith, nat_tests)

no_hash : (byte : ℕ) → is_line_byte byte ≡ true → (byte == 35) ≡ false
no_hash byte h = grind (arith, nat_tests)

-- it is the first line of the code
code_lines_from-line : (number : ℕ) (line rest : List ℕ) → IsCodeLine line →
    code_lines_from number ((line ++ codes "\n") ++ rest) ≡ (number, line) ∷ code_lines_from (number + 1) rest
code_lines_from-line number line rest code =
    let has_words : ℕ × List ℕ → Bool = λ (entry : ℕ × List ℕ). not (is_empty (words_of entry.1)) in
    let numbered : List (List ℕ) → List (ℕ × List ℕ) = λ (lines : List (List ℕ)). filter has_words (enumerate_from number (map code_of lines)) in
    let cut : lines_of ((line ++ codes "\n") ++ rest) ≡ line ∷ lines_of rest =
    ap lines_of (append_assoc line (codes "\n") rest)
    ∙ slice_split_at (λ byte. byte == 10) line 10 rest
    (All-weaker (λ byte. is_line_byte byte ≡ true) (λ byte. (byte == 10) ≡ false) no_line_feed line code.bytes) refl in
    ap numbered cut
    ∙ ap (λ first. filter has_words ((number, first) ∷ enumerate_from (number + 1) (map code_of (lines_of rest)))) (code_of-no_hash line
    (All-weaker (λ byte. is_line_byte byte ≡ true) (λ byte. (byte == 35) ≡ false) no_hash line code.bytes))
    ∙ ap (λ none. cond (not none) ((number, line) ∷ code_lines_from (number + 1) rest) (code_lines_from (number + 1) rest)) code.has_words

-- each line says its statement
said_from : (given : List (ℕ × Statement)) (number : ℕ) (statements : List Statement) → All IsStatement statements →
    fold_lines (one_a_line numbered_statement) given (code_lines_from number (canonical_lines statements)) ≡ Ok (given ++ enumerate_from number statements)
said_from given number [] proper = ap Ok (sym (append-nil given))
said_from given number (said ∷ statements) proper =
    let this = All-head IsStatement said statements proper in
    let rest = canonical_lines statements in
    ap (fold_lines (one_a_line numbered_statement) given) (code_lines_from-line number (canonical_line said) rest (IsCodeLine-canonical_line said this))
    ∙ ap (λ first. first >>= (λ now. Ok (number, now)) >>= (λ thing. Ok (given ++ thing ∷ []))
    >>= λ more. fold_lines (one_a_line numbered_statement) more (code_lines_from (number + 1) rest)) (statement_of-canonical_line number said this)
    ∙ said_from (given ++ (number, said) ∷ []) (number + 1) statements (All-tail IsStatement said statements proper)
    ∙ ap Ok (append_assoc given ((number, said) ∷ []) (enumerate_from (number + 1) statements))

pub said-canonical_lines : (number : ℕ) (statements : List Statement) → All IsStatement statements →
    fold_lines (one_a_line numbered_statement) [] (code_lines_from number (canonical_lines statements)) ≡ Ok (enumerate_from number statements)
said-canonical_lines number statements proper = said_from [] number statements proper
