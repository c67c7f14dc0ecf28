-- The answer to a netlist's text and names, from what the steps on the way to it say.
use Rattle.std.proofs.Common.{◌≡◌, ◌≢◌, ◌↔◌, ℕ, ◌<◌, ◌==◌, false, List, [], ◌∷◌, length, Option, Some, None, Result, Ok, Err, Bor, refl, ap, arith}
use Rattle.std.specs.Result.{result_map_both}
use Rattle.std.proofs.lemmas.Bool.{false≢true}
use Rattle.bench_text.specs.declared.fault.BenchFault.{BenchFault}
use Rattle.bench_text.specs.Canonical.{canonical, within_limit}
use Rattle.netlist.specs.Netlist.{NetlistView}
use Rattle.netlist.specs.Names.{seen_names}
use Rattle.fanin_cone.specs.declared.fault.ConeFault.{ConeFault}
use Rattle.fanin_cone.specs.declared.fault.ConeFault.TheVariants as cone
use Rattle.fanin_cone.specs.Extract.{IsExtract, first_unknown}
use Rattle.fanin_cone.specs.declared.fault.ConeTextFault.{ConeTextFault}
use Rattle.fanin_cone.specs.declared.fault.ConeTextFault.TheVariants.{UnknownNet}
use Rattle.fanin_cone.specs.ConeText.{IsConeOfNetlist, IsExtractText, text_fault_of_bench, text_fault_of_cone}

-- ---- the answer to a netlist and names

-- no net has the name at this place
IsConeOfNetlist-unknown : (netlist : NetlistView) (names : List (List ℕ)) (answer : Result (List ℕ) ConeTextFault) (at : ℕ) →
    0 < length names → first_unknown netlist names ≡ Some at → answer ≡ Err UnknownNet → IsConeOfNetlist netlist names answer
IsConeOfNetlist-unknown netlist [] answer at some unknown is = absurd (omega arith)
IsConeOfNetlist-unknown netlist (name ∷ names) answer at some unknown is = rw unknown is

-- each name is that of a net
IsConeOfNetlist-known : (netlist : NetlistView) (names : List (List ℕ)) (answer : Result (List ℕ) ConeTextFault) →
    0 < length names → first_unknown netlist names ≡ None → IsExtractText netlist names answer → IsConeOfNetlist netlist names answer
IsConeOfNetlist-known netlist [] answer some known is = absurd (omega arith)
IsConeOfNetlist-known netlist (name ∷ names) answer some known is = rw known is

none-from_no_some : (found : Option ℕ) → ((at : ℕ) → found ≢ Some at) → found ≡ None
none-from_no_some None never = refl
none-from_no_some (Some at) never = absurd (never at refl)

pub some-from_test : (names : List (Bor (List ℕ))) → false ≡ (length names == 0) → 0 < length (seen_names names)
some-from_test [] some = absurd (false≢true some)
some-from_test (name ∷ names) some = omega arith

-- what an extraction answers to names tells which of them no net has
abbrev TellsUnknown : NetlistView → List (List ℕ) → Result NetlistView ConeFault → Type 0
TellsUnknown netlist names result =
    result ≢ Err cone.Memory → (at : ℕ) → (result ≡ Err (cone.UnknownNet at)) ↔ (first_unknown netlist names ≡ Some at)

module _ (netlist : NetlistView) (names : List (List ℕ)) (some : 0 < length names) where
  -- the extraction is refused
  pub IsConeOfNetlist-refused : (fault : ConeFault) → TellsUnknown netlist names (Err fault) → fault ≢ cone.Memory →
      IsConeOfNetlist netlist names (Err (text_fault_of_cone fault))
  IsConeOfNetlist-refused (cone.UnknownNet at) tells other = IsConeOfNetlist-unknown netlist names _ at some ((tells (λ same. (cc)) at).0 refl) refl
  IsConeOfNetlist-refused cone.Memory tells other = absurd (other refl)

  -- the text of the extract is written, or is too long
  pub IsConeOfNetlist-extracted : (extract : NetlistView) → TellsUnknown netlist names (Ok extract) → IsExtract netlist names extract →
      (written : Result (List ℕ) BenchFault) → written ≡ within_limit (canonical extract) →
      IsConeOfNetlist netlist names (result_map_both (λ text. text) text_fault_of_bench written)
  IsConeOfNetlist-extracted extract tells extracted written is =
      let known : first_unknown netlist names ≡ None = none-from_no_some _ (λ at found. let same = (tells (λ same. (cc)) at).1 found in cc) in
      IsConeOfNetlist-known netlist names _ some known (record { extract = extract; extracted = extracted; text = ap (result_map_both (λ text. text) text_fault_of_bench) is })
