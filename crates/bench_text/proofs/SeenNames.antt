-- The names of a line, as the code looks through them.
use Rattle.std.proofs.Common.{◌≡◌, ℕ, Bool, true, false, cond, ◌||◌, List, [], ◌∷◌, Result, Ok, Err, Bor, refl, ap}
use Rattle.std.specs.List.{list_any}
use Rattle.bench_text.specs.declared.fault.BenchFault.{BenchFault}
use Rattle.bench_text.specs.declared.fault.BenchFault.TheVariants.{BadLine, NameTooLong}
use Rattle.bench_text.specs.Line.{is_dollar_name, is_long_name, with_names}
use Rattle.netlist.specs.Names.{seen_names}

-- a test of some name is a test of some borrowed one
pub list_any_seen : (test : List ℕ → Bool) (names : List (Bor (List ℕ))) → list_any test (seen_names names) ≡ list_any (λ name. test name.now) names
list_any_seen test [] = refl
list_any_seen test (name ∷ names) = ap (λ rest. test name.now || rest) (list_any_seen test names)

-- where names may be written, what stands behind them decides
pub with_names-ok : {A : Type 0} (line : ℕ) (names : List (List ℕ)) (rest : Result A BenchFault) →
    with_names {A = Unit {0}} line names (Ok tt) ≡ Ok tt → with_names line names rest ≡ rest
with_names-ok line names rest may = go (list_any is_dollar_name names) (list_any is_long_name names) may
  where
    go : (dollar long : Bool) → cond {A = Result (Unit {0}) BenchFault} dollar (Err (BadLine line)) (cond long (Err (NameTooLong line)) (Ok tt)) ≡ Ok tt →
        cond dollar (Err (BadLine line)) (cond long (Err (NameTooLong line)) rest) ≡ rest
    go true long may = cc
    go false true may = cc
    go false false may = refl
