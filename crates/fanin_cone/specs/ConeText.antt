-- The nets in the fan-in cones of some names, as a text of their own.
use Rattle.std.specs.Prelude.{◌≡◌, ℕ, List, [], Option, Some, None, Result, Ok, Err}
use Rattle.std.specs.Result.{result_map_both}
use Rattle.bench_text.specs.declared.fault.BenchFault.{BenchFault}
use Rattle.bench_text.specs.declared.fault.BenchFault.TheVariants as bench
use Rattle.bench_text.specs.Canonical.{canonical, within_limit}
use Rattle.netlist.specs.Netlist.{NetlistView}
use Rattle.bench_text.specs.NetlistOf.{netlist_of}
use Rattle.fanin_cone.specs.Extract.{IsExtract, first_unknown}
use Rattle.fanin_cone.specs.declared.fault.ConeFault.{ConeFault}
use Rattle.fanin_cone.specs.declared.fault.ConeFault.TheVariants as cone
use Rattle.fanin_cone.specs.declared.fault.ConeTextFault.{ConeTextFault}
use Rattle.fanin_cone.specs.declared.fault.ConeTextFault.TheVariants.{Bench, UnknownNet, Memory}

-- ---- out of memory in any layer is the text's own fault

abbrev pub text_fault_of_bench : BenchFault → ConeTextFault
text_fault_of_bench bench.Memory = Memory
text_fault_of_bench fault = Bench fault

abbrev pub text_fault_of_cone : ConeFault → ConeTextFault
text_fault_of_cone (cone.UnknownNet at) = UnknownNet
text_fault_of_cone cone.Memory = Memory

-- ---- the text

-- the answer is the canonical text of an extract
pub record IsExtractText (netlist : NetlistView) (names : List (List ℕ)) (answer : Result (List ℕ) ConeTextFault) : Type 0 where
  pub extract : NetlistView
  pub extracted : IsExtract netlist names extract
  pub text : answer ≡ result_map_both (λ text. text) text_fault_of_bench (within_limit (canonical extract))

-- the answer to names: if there are none, there is no net to write; a name that no net has is refused; otherwise it is
-- the text of the extract
abbrev pub IsConeOfNetlist : NetlistView → List (List ℕ) → Result (List ℕ) ConeTextFault → Type 0
IsConeOfNetlist netlist [] answer = answer ≡ Err (Bench bench.NoNets)
IsConeOfNetlist netlist names answer = by_unknown (first_unknown netlist names)
  where
    by_unknown : Option ℕ → Type 0
    by_unknown (Some at) = answer ≡ Err UnknownNet
    by_unknown None = IsExtractText netlist names answer

-- the answer to a netlist's text and names: the faults of the netlist come first
abbrev pub IsConeAnswer : List ℕ → List (List ℕ) → Result (List ℕ) ConeTextFault → Type 0
IsConeAnswer bench names answer = of_netlist (netlist_of bench)
  where
    of_netlist : Result NetlistView BenchFault → Type 0
    of_netlist (Ok netlist) = IsConeOfNetlist netlist names answer
    of_netlist (Err fault) = answer ≡ Err (text_fault_of_bench fault)
