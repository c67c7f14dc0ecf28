-- The netlist of a text is well-formed.
use Rattle.std.proofs.Common.{◌≡◌, [], ℕ, ◌+◌, ◌<◌, ◌≤◌, ◌^◌, Bool, true, false, cond, List, ◌∷◌, ◌++◌, length, Option, Some, None, Result, Ok, Err, position, bytes_eq, refl, ◌∙◌, subst, arith}
use Rattle.std.specs.List.{filter_map, flat_map, sum_by}
use Rattle.std.proofs.lemmas.Bool.Decides.{nat_tests}
use Rattle.std.proofs.lemmas.List.{length_push}
use Rattle.bench_text.specs.declared.fault.BenchFault.{BenchFault}
use Rattle.bench_text.specs.declared.fault.BenchFault.TheVariants.{TooLong, DefinedTwice, TooMany}
use Rattle.texts.specs.Text.{◌>>=◌}
use Rattle.bench_text.specs.Line.{Statement}
use Rattle.netlist.specs.Names.{IsNames}
use Rattle.netlist.specs.Netlist.{NetlistView, IsNetlist}
use Rattle.bench_text.specs.NetlistOf.{Definition, definition_in, uses_in, output_in, defined_names, is_among, repeated_fault, is_over_limit, size_fault, fault_of, unless, netlist_with, netlist_of, netlist_of_statements, statements_of}
use Rattle.netlist.proofs.CallerLemmas.{is_some-position, IsNames-push, none_from_is_some}
use Rattle.texts.proofs.CallerLemmas.{bind-Ok, unless_too_long-Ok}
use Rattle.bench_text.proofs.LinesLeft.{IsStatement-statements_of}
use Rattle.bench_text.proofs.Named.{named_from, named_from-all}
use Rattle.bench_text.proofs.WellFormed.{IsNetlist-with, both_None}

-- names, followed by those of definitions that repeat none, are distinct
IsNames-named_from : (names all : List (List ℕ)) (definitions : List Definition) → IsNames names → length names + length definitions ≤ 2 ^ 32 →
    named_from names definitions ≡ Ok all → IsNames all
IsNames-named_from names all [] known few e = let same : names ≡ all = cc in subst IsNames same known
IsNames-named_from names all (d ∷ definitions) known few e =
    go (is_among names d.name) refl e (λ more. IsNames-named_from (names ++ d.name ∷ []) all definitions more (omega (arith, length_push names d.name)))
  where
    go : (among : Bool) → is_among names d.name ≡ among →
        cond among (Err (DefinedTwice d.line)) (named_from (names ++ d.name ∷ []) definitions) ≡ Ok all →
        (IsNames (names ++ d.name ∷ []) → named_from (names ++ d.name ∷ []) definitions ≡ Ok all → IsNames all) → IsNames all
    go true is e rest = cc
    go false is e rest =
        let new = none_from_is_some (position (bytes_eq d.name) names) (is_some-position (bytes_eq d.name) names ∙ is) in
        rest (IsNames-push names d.name known new (omega arith)) e

-- so are those of definitions without a repeat
IsNames-defined : (definitions : List Definition) → length definitions ≤ 100_000 → repeated_fault definitions ≡ None → IsNames (defined_names definitions)
IsNames-defined definitions few none =
    IsNames-named_from [] (defined_names definitions) definitions (record { distinct = λ i j d before inside. absurd (omega arith); few = omega arith })
    (omega arith) (named_from-all definitions ∙ rw none refl)

-- what the limits say
record IsWithin (definitions : List Definition) : Type 0 where
  some : 0 < length definitions
  few_nets : length definitions ≤ 100_000
  few_pins : sum_by (λ (d : Definition). length d.pins) definitions ≤ 1_000_000

IsWithin-size_fault : (definitions : List Definition) → size_fault definitions ≡ None → IsWithin definitions
IsWithin-size_fault [] none = cc
IsWithin-size_fault (d ∷ definitions) none =
    go (is_over_limit (length (d ∷ definitions)) (sum_by (λ (d : Definition). length d.pins) (d ∷ definitions))) refl none
  where
    go : (over : Bool) → is_over_limit (length (d ∷ definitions)) (sum_by (λ (d : Definition). length d.pins) (d ∷ definitions)) ≡ over →
        cond over (Some TooMany) None ≡ None → IsWithin (d ∷ definitions)
    go true is e = cc
    go false is e = record { some = omega arith; few_nets = grind (arith, nat_tests); few_pins = grind (arith, nat_tests) }

IsNetlist-statements : (text : List ℕ) (statements : List (ℕ × Statement)) (netlist : NetlistView) → statements_of text ≡ Ok statements →
    netlist_of_statements statements ≡ Ok netlist → IsNetlist netlist
IsNetlist-statements text statements netlist said e = go (fault_of definitions (flat_map uses_in statements)) refl e
  where
    definitions : List Definition
    definitions = filter_map definition_in statements

    same : (made : NetlistView) → ◌≡◌ {A = Result NetlistView BenchFault} (Ok made) (Ok netlist) → made ≡ netlist
    same made e = cc

    go : (fault : Option BenchFault) → fault_of definitions (flat_map uses_in statements) ≡ fault →
        unless fault (netlist_with definitions (filter_map output_in statements)) ≡ Ok netlist → IsNetlist netlist
    go (Some fault) is e = cc
    go None is e =
        let first = both_None _ _ is in
        let others = both_None _ _ first.1 in
        let within = IsWithin-size_fault definitions others.1 in
        subst IsNetlist (same (netlist_with definitions (filter_map output_in statements)) e)
        (IsNetlist-with statements (IsStatement-statements_of text statements said) (IsNames-defined definitions within.few_nets first.0) others.0
        within.some within.few_nets within.few_pins)

-- what a text is read as is well-formed
pub IsNetlist-netlist_of : (text : List ℕ) (netlist : NetlistView) → netlist_of text ≡ Ok netlist → IsNetlist netlist
IsNetlist-netlist_of text netlist e =
    let said = bind-Ok (statements_of text) netlist_of_statements netlist
    (unless_too_long-Ok TooLong (λ text. statements_of text >>= netlist_of_statements) text netlist e) in
    IsNetlist-statements text said.0 netlist said.1 said.2
