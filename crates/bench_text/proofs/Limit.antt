-- A text, unless it is too long.
use Rattle.std.proofs.Common.{◌≡◌, ℕ, ◌+◌, ◌≤◌, Bool, true, false, cond, ltb, List, [], ◌++◌, map, codes, length, length-append, Result, Ok, Err, refl, sym, ap, ◌∙◌, arith}
use Rattle.std.proofs.lemmas.Bool.Decides.{nat_tests}
use Rattle.std.proofs.lemmas.Grind.{flat_map-append}
use Rattle.bench_text.specs.declared.fault.BenchFault.{BenchFault}
use Rattle.bench_text.specs.declared.fault.BenchFault.TheVariants.{TooLong}
use Rattle.texts.specs.Text.{longest_text}
use Rattle.netlist.specs.Netlist.{NetlistView}
use Rattle.bench_text.specs.Canonical.{canonical_line, canonical_lines, net_statement, output_statement, canonical, within_limit}

longer : (text more all : ℕ) → ltb longest_text text ≡ true → all ≡ text + more → ltb longest_text all ≡ true
longer text more all over size = grind (arith, nat_tests)

-- a longer text is too long too
within_limit-more : (text more : List ℕ) (fault : BenchFault) → Err fault ≡ within_limit text → Err fault ≡ within_limit (text ++ more)
within_limit-more text more fault e = go (ltb longest_text (length text)) refl e
  where
    go : (long : Bool) → ltb longest_text (length text) ≡ long → Err fault ≡ cond long (Err TooLong) (Ok text) → Err fault ≡ within_limit (text ++ more)
    go true over e = e ∙ sym (rw (longer (length text) (length more) (length (text ++ more)) over (length-append text more)) refl)
    go false over e = cc

-- what is kept is the text, which isn't too long
pub within_limit-Ok : (text kept : List ℕ) → Ok kept ≡ within_limit text → (kept ≡ text) × (length text ≤ longest_text)
within_limit-Ok text kept e = go (ltb longest_text (length text)) refl e
  where
    go : (long : Bool) → ltb longest_text (length text) ≡ long → Ok kept ≡ cond long (Err TooLong) (Ok text) → (kept ≡ text) × (length text ≤ longest_text)
    go true over e = cc
    go false over e = (cc, grind (arith, nat_tests))

-- the lines of the nets, and then those of the outputs
module _ (netlist : NetlistView) (start : List ℕ) (none : start ≡ []) where
  abbrev nets : List ℕ
  nets = canonical_lines (map (net_statement netlist) netlist.nets)

  abbrev outputs : List ℕ
  outputs = canonical_lines (map (output_statement netlist) netlist.outputs)

  canonical-parts : nets ++ outputs ≡ canonical netlist
  unfolding canonical
  canonical-parts =
      sym (flat_map-append (λ said. canonical_line said ++ codes "\n") (map (net_statement netlist) netlist.nets) (map (output_statement netlist) netlist.outputs))

  from_start : start ++ nets ≡ nets
  from_start = ap (λ start. start ++ nets) none

  pub within_limit-nets : (fault : BenchFault) → Err fault ≡ within_limit (start ++ nets) → Err fault ≡ within_limit (canonical netlist)
  within_limit-nets fault e =
      within_limit-more nets outputs fault (e ∙ ap within_limit from_start) ∙ ap within_limit canonical-parts

  pub within_limit-whole : (text : List ℕ) (result : Result (List ℕ) BenchFault) → Ok text ≡ within_limit (start ++ nets) →
      result ≡ within_limit (text ++ outputs) → result ≡ within_limit (canonical netlist)
  within_limit-whole text result e h =
      h ∙ ap (λ text. within_limit (text ++ outputs)) ((within_limit-Ok (start ++ nets) text e).0 ∙ from_start) ∙ ap within_limit canonical-parts
