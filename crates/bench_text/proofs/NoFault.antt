-- Definitions without a fault.
use Rattle.std.proofs.Common.{◌≡◌, ◌≢◌, [], ℕ, ◌<◌, ◌≤◌, false, cond, List, ◌∷◌, ◌++◌, length, get_or, AllPairs, None, Err, Ok, bytes_eq, append_assoc, length-append, refl, sym, subst, ap, ◌∙◌, arith}
use Rattle.std.specs.List.{sum_by}
use Rattle.std.proofs.Math.Seq.{get_or-append_seam}
use Rattle.std.proofs.lemmas.Bool.Decides.{nat_tests}
use Rattle.std.proofs.lemmas.List.{append-nil, get_or_append_left}
use Rattle.std.proofs.lemmas.List.Folds.{list_any_none}
use Rattle.bench_text.specs.declared.fault.BenchFault.TheVariants.{DefinedTwice}
use Rattle.bench_text.specs.NetlistOf.{Definition, defined_names, is_among, repeated_fault, is_over_limit, size_fault}
use Rattle.netlist.proofs.CallerLemmas.{bytes_eq-other}
use Rattle.bench_text.proofs.Named.{named_from, named_from-all}
use Rattle.bench_text.proofs.Whole.{is_empty-some}
use Rattle.bench_text.proofs.Wired.{unless-Ok}

-- ---- definitions

abbrev AreDistinct : List (List ℕ) → Type 0
AreDistinct names = AllPairs (λ (earlier later : List ℕ). earlier ≢ later) names

is_among-before : (before rest : List (List ℕ)) (name : List ℕ) → AreDistinct (before ++ name ∷ rest) → is_among before name ≡ false
is_among-before before rest name pairs =
    list_any_none (bytes_eq name) before
    (λ k d inside. bytes_eq-other name (get_or before k d)
    (λ same. pairs k (length before) d inside (omega (arith, length-append before (name ∷ rest)))
    (get_or_append_left before (name ∷ rest) d k inside ∙ sym same ∙ sym (get_or-append_seam before name rest d))))

named_from-distinct : (before : List (List ℕ)) (definitions : List Definition) → AreDistinct (before ++ defined_names definitions) →
    named_from before definitions ≡ Ok (before ++ defined_names definitions)
named_from-distinct before [] pairs = ap Ok (sym (append-nil before))
named_from-distinct before (d ∷ definitions) pairs =
    let regroup = append_assoc before (d.name ∷ []) (defined_names definitions) in
    ap (λ among. cond among (Err (DefinedTwice d.line)) (named_from (before ++ d.name ∷ []) definitions))
    (is_among-before before (defined_names definitions) d.name pairs)
    ∙ named_from-distinct (before ++ d.name ∷ []) definitions (subst AreDistinct (sym regroup) pairs)
    ∙ ap Ok regroup

-- no name is defined twice
pub repeated_fault-distinct : (definitions : List Definition) → AreDistinct (defined_names definitions) → repeated_fault definitions ≡ None
repeated_fault-distinct definitions pairs =
    (unless-Ok (repeated_fault definitions) (defined_names definitions) (defined_names definitions)
    (sym (named_from-distinct [] definitions pairs) ∙ named_from-all definitions)).0

is_over_limit-within : (nets pins : ℕ) → nets ≤ 100_000 → pins ≤ 1_000_000 → is_over_limit nets pins ≡ false
is_over_limit-within nets pins few_nets few_pins = grind (arith, nat_tests)

-- there are some, and not too many
pub size_fault-within : (definitions : List Definition) → 0 < length definitions → length definitions ≤ 100_000 →
    sum_by (λ (d : Definition). length d.pins) definitions ≤ 1_000_000 → size_fault definitions ≡ None
size_fault-within definitions some few_nets few_pins =
    rw (is_empty-some definitions some, is_over_limit-within (length definitions) (sum_by (λ (d : Definition). length d.pins) definitions) few_nets few_pins) refl
