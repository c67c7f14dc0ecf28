-- What the lines of a text say.
use Rattle.std.proofs.Common.{◌≡◌, [], ℕ, ◌+◌, ◌≤◌, List, ◌∷◌, map, length, not, ◌==◌, All, Result, Ok, Err, refl, sym, ap, ◌∙◌, arith}
use Rattle.std.specs.List.{enumerate_from}
use Rattle.std.proofs.lemmas.List.{length-map}
use Rattle.std.proofs.lemmas.List.Elements.{All-nil, All-cons, All-filter}
use Rattle.std.proofs.lemmas.List.FromFn.{length-enumerate_from}
use Rattle.std.proofs.lemmas.List.Splits.{length-slice_split}
use Rattle.std.proofs.lemmas.List.Sums.{length-filter, count_by-le-length}
use Rattle.bench_text.specs.declared.fault.BenchFault.{BenchFault}
use Rattle.texts.specs.Text.{◌>>=◌, code_of, code_lines, lines_of, words_of, is_empty}
use Rattle.bench_text.specs.Line.{Statement, statement_of, IsStatement}
use Rattle.bench_text.specs.NetlistOf.{numbered_statement, statements_of}
use Rattle.texts.proofs.CallerLemmas.{All-one_a_line, length-one_a_line}
use Rattle.bench_text.proofs.ProperNames.{IsStatement-statement_of}

-- a line of a text without its comment
abbrev IsCode : ℕ × List ℕ → Type 0
IsCode line = (whole : List ℕ) × (line.1 ≡ code_of whole)

IsCode-enumerate_from : (number : ℕ) (lines : List (List ℕ)) → All IsCode (enumerate_from number (map code_of lines))
IsCode-enumerate_from number [] = All-nil IsCode
IsCode-enumerate_from number (line ∷ lines) =
    All-cons IsCode (number, code_of line) (enumerate_from (number + 1) (map code_of lines)) (line, refl) (IsCode-enumerate_from (number + 1) lines)

IsStatement-said : (line : ℕ × List ℕ) (said : ℕ × Statement) → IsCode line →
    numbered_statement line ≡ Ok said → IsStatement said.1
IsStatement-said line said code e =
    go (statement_of line.0 line.1) (λ now h. IsStatement-statement_of line.0 code.0 now (ap (statement_of line.0) (sym code.1) ∙ h)) e
  where
    go : (r : Result Statement BenchFault) → ((now : Statement) → r ≡ Ok now → IsStatement now) →
        (r >>= λ now. Ok (line.0, now)) ≡ Ok said → IsStatement said.1
    go (Ok now) proper h = let same : now ≡ said.1 = cc in rw (← same) (proper now refl)
    go (Err fault) proper h = cc

-- the lines of a text
IsCode-code_lines : (text : List ℕ) → All IsCode (code_lines text)
IsCode-code_lines text =
    All-filter (λ (line : ℕ × List ℕ). not (is_empty (words_of line.1))) IsCode (enumerate_from 1 (map code_of (lines_of text)))
    (IsCode-enumerate_from 1 (lines_of text))

pub IsStatement-statements_of : (text : List ℕ) (said : List (ℕ × Statement)) → statements_of text ≡ Ok said →
    All (λ (line : ℕ × Statement). IsStatement line.1) said
IsStatement-statements_of text said e =
    All-one_a_line numbered_statement IsCode (λ (line : ℕ × Statement). IsStatement line.1) IsStatement-said (code_lines text) said (IsCode-code_lines text) e

pub length-statements_of : (text : List ℕ) (said : List (ℕ × Statement)) → statements_of text ≡ Ok said → length said ≤ length text + 1
length-statements_of text said e =
    let lines = lines_of text in
    let all = enumerate_from 1 (map code_of lines) in
    let has_words = λ (line : ℕ × List ℕ). not (is_empty (words_of line.1)) in
    omega (
      arith,
      length-one_a_line numbered_statement (code_lines text) said e,
      length-filter has_words all,
      count_by-le-length has_words all,
      length-enumerate_from 1 (map code_of lines),
      length-map lines code_of,
      length-slice_split (λ byte. byte == 10) text,
      count_by-le-length (λ byte. byte == 10) text,
    )
