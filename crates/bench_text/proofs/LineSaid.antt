-- What a canonical line says.
use Rattle.std.proofs.Common.{◌≡◌, ℕ, false, cond, IsTrue, List, [], ◌∷◌, ◌++◌, length, codes, All, Some, Result, Ok, Err, refl, ap, ◌∙◌, arith}
use Rattle.std.proofs.lemmas.Bool.{le-ltb, ne_eqb}
use Rattle.std.proofs.lemmas.Bool.Decides.{nat_tests}
use Rattle.std.proofs.lemmas.List.Elements.{All-nil, All-cons, All-weaker}
use Rattle.std.proofs.lemmas.List.Folds.{list_any_none}
use Rattle.logic3.specs.declared.gates.GateKind.{GateKind}
use Rattle.logic3.specs.declared.gates.GateKind.TheVariants.{And, Nand, Or, Nor, Xor, Xnor, Not, Buf}
use Rattle.netlist.specs.declared.part.Part.{Part}
use Rattle.netlist.specs.declared.part.Part.TheVariants.{Input, Gate, Flop}
use Rattle.bench_text.specs.declared.fault.BenchFault.{BenchFault}
use Rattle.bench_text.specs.declared.fault.BenchFault.TheVariants.{BadByte}
use Rattle.texts.specs.Text.{is_empty, words_of}
use Rattle.netlist.specs.Part.{takes_pins}
use Rattle.bench_text.specs.Line.{Form, port, assignment, Statement, defines, names_output, tokens_of, form_of, part_of, is_dollar_name, is_long_name, with_names, definition_of, statement_of_form, statement_of, IsStatement}
use Rattle.netlist.specs.Name.{IsName}
use Rattle.bench_text.specs.Canonical.{keyword_of, port_line, assignment_line, listed, canonical_line}
use Rattle.bench_text.proofs.LineBytes.{IsLine, is_plain-line, IsLine-port_line, IsLine-assignment_line, IsWord-name, IsWord-keyword, IsWord-keyword_of, has_words-name}
use Rattle.bench_text.proofs.LineTokens.{port_line-grouped, assignment_line-grouped, form_of-port_line, form_of-assignment_line}
use Rattle.bench_text.proofs.Words.{IsWord}

-- the keyword means the part
part_of-gate : (kind : GateKind) → part_of (keyword_of (Gate kind)) ≡ Some (Gate kind)
part_of-gate And = refl
part_of-gate Nand = refl
part_of-gate Or = refl
part_of-gate Nor = refl
part_of-gate Xor = refl
part_of-gate Xnor = refl
part_of-gate Not = refl
part_of-gate Buf = refl

-- names may be written
with_names-proper : {A : Type 0} (line : ℕ) (names : List (List ℕ)) (rest : Result A BenchFault) → All IsName names →
    with_names line names rest ≡ rest
with_names-proper line names rest proper =
    rw (
      list_any_none is_dollar_name names (All-weaker IsName (λ name. is_dollar_name name ≡ false) (λ name named. ne_eqb _ 36 named.no_dollar) names proper),
      list_any_none is_long_name names (All-weaker IsName (λ name. is_long_name name ≡ false) (λ name named. le-ltb 255 (length name) named.short) names proper),
    )
    refl

-- ---- what a line says

statement_of-line : (line : ℕ) (code : List ℕ) (form : Form) → IsLine code → form_of (tokens_of code) ≡ Some form →
    statement_of line code ≡ statement_of_form line (Some form)
statement_of-line line code form bytes e =
    ap (λ plain. cond plain (statement_of_form line (form_of (tokens_of code))) (Err (BadByte line))) (is_plain-line code bytes)
    ∙ ap (statement_of_form line) e

statement_of-port_line : (line : ℕ) (keyword name : List ℕ) → IsWord keyword → IsName name →
    statement_of line (port_line keyword name) ≡ statement_of_form line (Some (port keyword name))
statement_of-port_line line keyword name k named =
    let w = IsWord-name name named in
    statement_of-line line (port_line keyword name) (port keyword name) (IsLine-port_line keyword name k w) (form_of-port_line keyword name k w)

words-names : (names : List (List ℕ)) → All IsName names → All IsWord names
words-names = All-weaker IsName IsWord IsWord-name

-- a gate or a flip-flop
statement_of-assignment_line : (line : ℕ) (name : List ℕ) (part : Part) (pins : List (List ℕ)) → part_of (keyword_of part) ≡ Some part →
    IsStatement (defines name part pins) → statement_of line (assignment_line name (keyword_of part) pins) ≡ Ok (defines name part pins)
statement_of-assignment_line line name part pins known proper =
    let w = IsWord-name name proper.0 in
    let k = IsWord-keyword_of part in
    let words = words-names pins proper.1 in
    statement_of-line line (assignment_line name (keyword_of part) pins) (assignment name (keyword_of part) pins)
    (IsLine-assignment_line name (keyword_of part) pins w k words) (form_of-assignment_line name (keyword_of part) pins w k words)
    ∙ with_names-proper line (name ∷ pins) (definition_of line name pins (part_of (keyword_of part))) (All-cons IsName name pins proper.0 proper.1)
    ∙ ap (definition_of line name pins) known
    ∙ rw proper.2 refl

-- an input has no pins
no_pins : (pins : List (List ℕ)) → IsTrue (takes_pins Input (length pins)) → [] ≡ pins
no_pins [] none = refl
no_pins (pin ∷ pins) none = absurd (grind (arith, nat_tests))

IsWord-output : IsWord (codes "OUTPUT")
IsWord-output = IsWord-keyword (codes "OUTPUT") (omega arith) refl

only : (name : List ℕ) → IsName name → All IsName (name ∷ [])
only name named = All-cons IsName name [] named (All-nil IsName)

-- the canonical line says it
pub statement_of-canonical_line : (line : ℕ) (said : Statement) → IsStatement said → statement_of line (canonical_line said) ≡ Ok said
statement_of-canonical_line line (defines name Input pins) proper =
    statement_of-port_line line (keyword_of Input) name (IsWord-keyword_of Input) proper.0
    ∙ with_names-proper line (name ∷ []) (Ok (defines name Input [])) (only name proper.0)
    ∙ ap (λ pins. Ok (defines name Input pins)) (no_pins pins proper.2)
statement_of-canonical_line line (defines name (Gate kind) pins) proper =
    statement_of-assignment_line line name (Gate kind) pins (part_of-gate kind) proper
statement_of-canonical_line line (defines name Flop pins) proper = statement_of-assignment_line line name Flop pins refl proper
statement_of-canonical_line line (names_output name) proper =
    statement_of-port_line line (codes "OUTPUT") name IsWord-output proper
    ∙ with_names-proper line (name ∷ []) (Ok (names_output name)) (only name proper)

-- ---- the line of a statement

-- what is known of a canonical line's bytes
pub record IsCodeLine (line : List ℕ) : Type 0 where
  pub bytes : IsLine line
  pub has_words : is_empty (words_of line) ≡ false

IsCodeLine-port_line : (keyword name : List ℕ) → IsWord keyword → IsName name → IsCodeLine (port_line keyword name)
IsCodeLine-port_line keyword name k named = record {
  bytes = IsLine-port_line keyword name k (IsWord-name name named);
  has_words =
      ap (λ line. is_empty (words_of line)) (port_line-grouped keyword name)
      ∙ has_words-name keyword (codes "(" ++ (name ++ codes ")")) k;
}

IsCodeLine-assignment_line : (name : List ℕ) (part : Part) (pins : List (List ℕ)) → IsStatement (defines name part pins) →
    IsCodeLine (assignment_line name (keyword_of part) pins)
IsCodeLine-assignment_line name part pins proper = record {
  bytes = IsLine-assignment_line name (keyword_of part) pins (IsWord-name name proper.0) (IsWord-keyword_of part) (words-names pins proper.1);
  has_words =
      ap (λ line. is_empty (words_of line)) (assignment_line-grouped name (keyword_of part) pins)
      ∙ has_words-name name (codes " = " ++ (keyword_of part ++ (codes "(" ++ (listed pins ++ codes ")")))) (IsWord-name name proper.0);
}

pub IsCodeLine-canonical_line : (said : Statement) → IsStatement said → IsCodeLine (canonical_line said)
IsCodeLine-canonical_line (defines name Input pins) proper = IsCodeLine-port_line (keyword_of Input) name (IsWord-keyword_of Input) proper.0
IsCodeLine-canonical_line (defines name (Gate kind) pins) proper = IsCodeLine-assignment_line name (Gate kind) pins proper
IsCodeLine-canonical_line (defines name Flop pins) proper = IsCodeLine-assignment_line name Flop pins proper
IsCodeLine-canonical_line (names_output name) proper = IsCodeLine-port_line (codes "OUTPUT") name IsWord-output proper
