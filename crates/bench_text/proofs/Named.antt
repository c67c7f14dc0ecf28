-- The names of definitions, one after another.
use Rattle.std.proofs.Common.{◌≡◌, [], ℕ, ◌+◌, Bool, true, false, cond, List, ◌∷◌, ◌++◌, take, drop, length, get_or, position, bytes_eq, ◌<◌, Some, option_map, Result, Ok, Err, append_assoc, refl, sym, ap, ◌∙◌}
use Rattle.smallvec.specs.SmallVec.{SmallVec}
use Rattle.std.specs.List.{find, enumerate_from, filter_map}
use Rattle.std.specs.Option.{is_some}
use Rattle.std.proofs.lemmas.List.{at_drop_more, take_at, length_push, map_push, append-nil}
use denote.Ref.{Bor}
use Rattle.bench_text.specs.declared.fault.BenchFault.{BenchFault}
use Rattle.bench_text.specs.declared.fault.BenchFault.TheVariants.{DefinedTwice}
use Rattle.netlist.specs.declared.part.Part.{Part}
use Rattle.bench_text.specs.declared.statement.Statement as code
use Rattle.bench_text.specs.declared.statement.Statement.TheVariants.{Defines, NamesOutput}
use Rattle.bench_text.specs.NetlistOf.{Definition, definition_in, is_among, defined_names, repeated_fault, unless}
use Rattle.bench_text.specs.Stages.{seen_lines}
use Rattle.netlist.proofs.CallerLemmas.{is_some-position}

-- these names, followed by those of more definitions, unless one is defined already
abbrev pub named_from : List (List ℕ) → List Definition → Result (List (List ℕ)) BenchFault
named_from names [] = Ok names
named_from names (d ∷ definitions) =
    cond (is_among names d.name) (Err (DefinedTwice d.line)) (named_from (names ++ d.name ∷ []) definitions)

-- the fault of the definitions from a place on, among all
abbrev fault_from : List Definition → ℕ → List Definition → Result (List (List ℕ)) BenchFault
fault_from all place definitions =
    unless
    (option_map (λ (entry : ℕ × Definition). DefinedTwice entry.1.line)
    (find (λ (entry : ℕ × Definition). is_among (defined_names (take entry.0 all)) entry.1.name) (enumerate_from place definitions)))
    (defined_names all)

-- the names so far are those of the definitions before
fault_from-all : (all before definitions : List Definition) → all ≡ before ++ definitions →
    named_from (defined_names before) definitions ≡ fault_from all (length before) definitions
fault_from-all all before [] e = ap (λ all. Ok (defined_names all)) (sym (e ∙ append-nil before))
fault_from-all all before (d ∷ definitions) e =
    let earlier : take (length before) all ≡ before = ap (take (length before)) e ∙ take_at before (d ∷ definitions) (length before) refl in
    let rest = fault_from-all all (before ++ d ∷ []) definitions (e ∙ sym (append_assoc before (d ∷ []) definitions)) in
    rw earlier (go (is_among (defined_names before) d.name) (rw (map_push, length_push) at rest))
  where
    go : (b : Bool) → named_from (defined_names before ++ d.name ∷ []) definitions ≡ fault_from all (length before + 1) definitions →
        cond b (Err (DefinedTwice d.line)) (named_from (defined_names before ++ d.name ∷ []) definitions)
        ≡ unless
        (option_map (λ (entry : ℕ × Definition). DefinedTwice entry.1.line)
        (cond b (Some (length before, d))
        (find (λ (entry : ℕ × Definition). is_among (defined_names (take entry.0 all)) entry.1.name) (enumerate_from (length before + 1) definitions))))
        (defined_names all)
    go true rest = refl
    go false rest = rest

-- and so of all
pub named_from-all : (definitions : List Definition) →
    named_from [] definitions ≡ unless (repeated_fault definitions) (defined_names definitions)
named_from-all definitions = fault_from-all definitions [] definitions refl

-- the next line of the code, which says this, and the names of the lines before it
module _ (names : List (List ℕ)) (lines : List (ℕ × code.Statement)) (i : ℕ) (item : ℕ × code.Statement)
    (inside : i < length lines) (is : item ≡ get_or lines i item) where
  abbrev left : List (ℕ × code.Statement) → Result (List (List ℕ)) BenchFault
  left rest = named_from names (filter_map definition_in (seen_lines rest))

  next : (said : code.Statement) → item.1 ≡ said → left (drop i lines) ≡ left ((item.0, said) ∷ drop (i + 1) lines)
  next said says =
      at_drop_more left lines i item inside ∙ ap (λ line. left (line ∷ drop (i + 1) lines)) (sym is)
      ∙ ap (λ said. left ((item.0, said) ∷ drop (i + 1) lines)) says

  -- a name that is defined already
  pub named_from-fault : (name : Bor (List ℕ)) (part : Part) (pins : SmallVec (Bor (List ℕ))) → item.1 ≡ Defines name part pins →
      is_some (position (bytes_eq name.now) names) ≡ true → left (drop i lines) ≡ Err (DefinedTwice item.0)
  named_from-fault name part pins says found =
      next _ says ∙ rw (sym (is_some-position (bytes_eq name.now) names) ∙ found) refl

  -- a new name
  pub named_from-name : (name : Bor (List ℕ)) (part : Part) (pins : SmallVec (Bor (List ℕ))) → item.1 ≡ Defines name part pins →
      is_some (position (bytes_eq name.now) names) ≡ false →
      named_from (names ++ name.now ∷ []) (filter_map definition_in (seen_lines (drop (i + 1) lines))) ≡ left (drop i lines)
  named_from-name name part pins says found =
      sym (next _ says ∙ rw (sym (is_some-position (bytes_eq name.now) names) ∙ found) refl)

  -- an output
  pub named_from-output : (name : Bor (List ℕ)) → item.1 ≡ NamesOutput name → left (drop (i + 1) lines) ≡ left (drop i lines)
  named_from-output name says = sym (next _ says)
