-- The canonical text of a netlist gives the netlist back.
use Rattle.std.proofs.Common.{◌≡◌, ◌≢◌, [], ℕ, suc, ◌+◌, ◌<◌, ◌≤◌, not, true, false, cond, List, ◌∷◌, ◌++◌, map, length, get_or, All, AllPairs, Some, None, option_map, Ok, bytes_eq, refl, sym, ap, ◌∙◌, arith}
use Rattle.std.specs.List.{filter_map, flat_map, enumerate_from, sum_by}
use Rattle.std.specs.Option.{option_or}
use Rattle.std.proofs.lemmas.List.{length-map, get_or-map}
use Rattle.std.proofs.lemmas.List.Elements.{All-head, All-tail, All-map, All-append, All-weaker}
use Rattle.std.proofs.lemmas.List.Folds.{list_any_at}
use Rattle.std.proofs.lemmas.List.Sums.{position_or_len_is, sum_by-cons}
use Rattle.bench_text.specs.declared.fault.BenchFault.TheVariants.{TooLong, Undefined}
use Rattle.texts.specs.Text.{◌>>=◌, longest_text}
use Rattle.bench_text.specs.Line.{Statement, IsStatement}
use Rattle.netlist.specs.Name.{IsName}
use Rattle.netlist.specs.Netlist.{NetView, NetlistView, IsNetlist, name_at}
use Rattle.netlist.specs.Repeats.{distinct}
use Rattle.bench_text.specs.NetlistOf.{Definition, definition_in, uses_in, output_in, defined_names, is_among, undefined_fault, size_fault, fault_of, unless, place_of, netlist_with, netlist_of_statements, statements_of, netlist_of}
use Rattle.bench_text.specs.Canonical.{net_statement, output_statement, canonical_statements, canonical}
use Rattle.netlist.proofs.CallerLemmas.{bytes_eq-other, bytes_eq-same, distinct-same}
use Rattle.bench_text.proofs.CanonicalLines.{said-canonical_lines}
use Rattle.texts.proofs.CallerLemmas.{unless_too_long-short}
use Rattle.bench_text.proofs.NoFault.{repeated_fault-distinct, size_fault-within}
use Rattle.bench_text.proofs.Wired.{undefined_fault-append}

AllPairs-map : {X Y : Type 0} (R : Y → Y → Type 0) (f : X → Y) (xs : List X) → AllPairs (λ a b. R (f a) (f b)) xs → AllPairs R (map f xs)
AllPairs-map R f [] pairs = λ i j d before inside. absurd (omega arith)
AllPairs-map R f (x ∷ xs) pairs = λ i j d before inside.
    let size = length-map (x ∷ xs) f in
    let first : i < length (x ∷ xs) = omega arith in
    let last : j < length (x ∷ xs) = omega arith in
    rw (get_or-map f (x ∷ xs) i x d first, get_or-map f (x ∷ xs) j x d last) (pairs i j x before last)

module _ (netlist : NetlistView) (good : IsNetlist netlist) where
  abbrev names : List (List ℕ)
  names = map (λ (net : NetView). net.name) netlist.nets

  abbrev Below : ℕ → Type 0
  Below number = number < length netlist.nets

  abbrev PinsBelow : NetView → Type 0
  PinsBelow net = All Below net.pins

  -- ---- names and numbers

  length-names : length names ≡ length netlist.nets
  length-names = length-map netlist.nets (λ (net : NetView). net.name)

  get_or-names : (number : ℕ) (d : List ℕ) → Below number → get_or names number d ≡ name_at netlist number
  get_or-names number d inside = get_or-map (λ (net : NetView). net.name) netlist.nets number _ d inside

  own_name : (number : ℕ) (d : List ℕ) → Below number → bytes_eq (name_at netlist number) (get_or names number d) ≡ true
  own_name number d inside = ap (bytes_eq (name_at netlist number)) (get_or-names number d inside) ∙ bytes_eq-same (name_at netlist number)

  earlier_name : (number earlier : ℕ) (d : List ℕ) → Below number → earlier < number → bytes_eq (name_at netlist number) (get_or names earlier d) ≡ false
  earlier_name number earlier d inside before =
      ap (bytes_eq (name_at netlist number)) (get_or-names earlier d (omega arith))
      ∙ bytes_eq-other (name_at netlist number) (name_at netlist earlier) (λ same. good.distinct earlier number _ before inside (sym same))

  place_of-name_at : (number : ℕ) → Below number → place_of names (name_at netlist number) ≡ number
  place_of-name_at number inside =
      position_or_len_is (bytes_eq (name_at netlist number)) names number [] (omega (arith, length-names))
      (λ earlier before. earlier_name number earlier [] inside before) (λ within. own_name number [] inside)

  is_among-name_at : (number : ℕ) → Below number → is_among names (name_at netlist number) ≡ true
  is_among-name_at number inside =
      list_any_at (bytes_eq (name_at netlist number)) names number [] (omega (arith, length-names)) (own_name number [] inside)

  places_back : (numbers : List ℕ) → All Below numbers → map (place_of names) (map (name_at netlist) numbers) ≡ numbers
  places_back [] below = refl
  places_back (number ∷ numbers) below =
      ap (λ place. place ∷ map (place_of names) (map (name_at netlist) numbers)) (place_of-name_at number (All-head Below number numbers below))
      ∙ ap (λ rest. number ∷ rest) (places_back numbers (All-tail Below number numbers below))

  -- ---- what the lines define and use

  -- the definitions on the lines from a number on
  abbrev definitions_from : ℕ → List NetView → List Definition
  definitions_from number [] = []
  definitions_from number (net ∷ nets) =
      record { line = number; name = net.name; part = net.part; pins = map (name_at netlist) net.pins } ∷ definitions_from (number + 1) nets

  -- the lines from a number on
  abbrev lines_from : ℕ → List NetView → List ℕ → List (ℕ × Statement)
  lines_from number nets outputs = enumerate_from number (map (net_statement netlist) nets ++ map (output_statement netlist) outputs)

  no_definitions : (number : ℕ) (outputs : List ℕ) → filter_map definition_in (lines_from number [] outputs) ≡ []
  no_definitions number [] = refl
  no_definitions number (output ∷ outputs) = no_definitions (number + 1) outputs

  definitions-is : (number : ℕ) (nets : List NetView) (outputs : List ℕ) →
      filter_map definition_in (lines_from number nets outputs) ≡ definitions_from number nets
  definitions-is number [] outputs = no_definitions number outputs
  definitions-is number (net ∷ nets) outputs =
      ap (λ rest. record { line = number; name = net.name; part = net.part; pins = map (name_at netlist) net.pins } ∷ rest)
      (definitions-is (number + 1) nets outputs)

  outputs-is : (number : ℕ) (nets : List NetView) (outputs : List ℕ) →
      filter_map output_in (lines_from number nets outputs) ≡ map (name_at netlist) outputs
  outputs-is number [] [] = refl
  outputs-is number [] (output ∷ outputs) = ap (λ rest. name_at netlist output ∷ rest) (outputs-is (number + 1) [] outputs)
  outputs-is number (net ∷ nets) outputs = outputs-is (number + 1) nets outputs

  use_known : (line number : ℕ) → Below number → undefined_fault names ((line, name_at netlist number) ∷ []) ≡ None
  use_known line number inside =
      ap (λ among. option_map (λ (used : ℕ × List ℕ). Undefined used.0) (cond (not among) (Some (line, name_at netlist number)) None))
      (is_among-name_at number inside)

  pins_known : (line : ℕ) (pins : List ℕ) → All Below pins → undefined_fault names (map (λ pin. (line, pin)) (map (name_at netlist) pins)) ≡ None
  pins_known line [] below = refl
  pins_known line (pin ∷ pins) below =
      let rest = map (λ pin. (line, pin)) (map (name_at netlist) pins) in
      undefined_fault-append names ((line, name_at netlist pin) ∷ []) rest
      ∙ ap (λ fault. option_or fault (undefined_fault names rest)) (use_known line pin (All-head Below pin pins below))
      ∙ pins_known line pins (All-tail Below pin pins below)

  uses_known : (number : ℕ) (nets : List NetView) (outputs : List ℕ) → All PinsBelow nets → All Below outputs →
      undefined_fault names (flat_map uses_in (lines_from number nets outputs)) ≡ None
  uses_known number [] [] pins below = refl
  uses_known number [] (output ∷ outputs) pins below =
      let rest = flat_map uses_in (lines_from (number + 1) [] outputs) in
      undefined_fault-append names ((number, name_at netlist output) ∷ []) rest
      ∙ ap (λ fault. option_or fault (undefined_fault names rest)) (use_known number output (All-head Below output outputs below))
      ∙ uses_known (number + 1) [] outputs pins (All-tail Below output outputs below)
  uses_known number (net ∷ nets) outputs pins below =
      let rest = flat_map uses_in (lines_from (number + 1) nets outputs) in
      let this = All-head PinsBelow net nets pins in
      undefined_fault-append names (map (λ pin. (number, pin)) (map (name_at netlist) net.pins)) rest
      ∙ ap (λ fault. option_or fault (undefined_fault names rest)) (pins_known number net.pins this)
      ∙ uses_known (number + 1) nets outputs (All-tail PinsBelow net nets pins) below

  -- ---- the definitions

  names-definitions_from : (number : ℕ) (nets : List NetView) → defined_names (definitions_from number nets) ≡ map (λ (net : NetView). net.name) nets
  names-definitions_from number [] = refl
  names-definitions_from number (net ∷ nets) = ap (λ rest. net.name ∷ rest) (names-definitions_from (number + 1) nets)

  length-definitions_from : (number : ℕ) (nets : List NetView) → length (definitions_from number nets) ≡ length nets
  length-definitions_from number [] = refl
  length-definitions_from number (net ∷ nets) = ap suc (length-definitions_from (number + 1) nets)

  pins-definitions_from : (number : ℕ) (nets : List NetView) →
      sum_by (λ (d : Definition). length d.pins) (definitions_from number nets) ≡ sum_by (λ (net : NetView). length net.pins) nets
  pins-definitions_from number [] = refl
  pins-definitions_from number (net ∷ nets) = omega (
    arith,
    sum_by-cons (λ (d : Definition). length d.pins)
        (record { line = number; name = net.name; part = net.part; pins = map (name_at netlist) net.pins })
        (definitions_from (number + 1) nets),
    sum_by-cons (λ (net : NetView). length net.pins) net nets,
    length-map net.pins (name_at netlist),
    pins-definitions_from (number + 1) nets,
  )

  nets_back : (number : ℕ) (nets : List NetView) → All PinsBelow nets →
      map (λ (d : Definition). record { name = d.name; part = d.part; pins = map (place_of names) d.pins }) (definitions_from number nets) ≡ nets
  nets_back number [] pins = refl
  nets_back number (net ∷ nets) pins =
      let back : Definition → NetView = λ (d : Definition). record { name = d.name; part = d.part; pins = map (place_of names) d.pins } in
      ap (λ pins. record { name = net.name; part = net.part; pins = pins } ∷ map back (definitions_from (number + 1) nets))
      (places_back net.pins (All-head PinsBelow net nets pins))
      ∙ ap (λ rest. net ∷ rest) (nets_back (number + 1) nets (All-tail PinsBelow net nets pins))

  -- ---- the whole

  abbrev lines : List (ℕ × Statement)
  lines = enumerate_from 1 (canonical_statements netlist)

  abbrev definitions : List Definition
  definitions = definitions_from 1 netlist.nets

  no_fault : fault_of definitions (flat_map uses_in lines) ≡ None
  no_fault =
      let uses = flat_map uses_in lines in
      let same = names-definitions_from 1 netlist.nets in
      let size = length-definitions_from 1 netlist.nets in
      let pins = pins-definitions_from 1 netlist.nets in
      let names_differ = AllPairs-map (λ (earlier later : List ℕ). earlier ≢ later) (λ (net : NetView). net.name) netlist.nets good.distinct in
      ap (λ fault. option_or fault (option_or (undefined_fault (defined_names definitions) uses) (size_fault definitions)))
      (repeated_fault-distinct definitions (rw same names_differ))
      ∙ ap (λ names. option_or (undefined_fault names uses) (size_fault definitions)) same
      ∙ ap (λ fault. option_or fault (size_fault definitions)) (uses_known 1 netlist.nets netlist.outputs good.pins good.outputs)
      ∙ size_fault-within definitions (omega (arith, good.some_net)) (omega (arith, good.net_limit)) (omega (arith, good.pin_limit))

  back : netlist_with definitions (map (name_at netlist) netlist.outputs) ≡ netlist
  back =
      let outputs = map (name_at netlist) netlist.outputs in
      let with : List (List ℕ) → NetlistView = λ (names : List (List ℕ)). record {
        nets = map (λ (d : Definition). record { name = d.name; part = d.part; pins = map (place_of names) d.pins }) definitions;
        outputs = distinct (map (place_of names) outputs);
      } in
      ap with (names-definitions_from 1 netlist.nets)
      ∙ ap (λ (nets : List NetView). record { nets = nets; outputs = distinct (map (place_of names) outputs) }) (nets_back 1 netlist.nets good.pins)
      ∙ ap (λ (outputs : List ℕ). record { nets = netlist.nets; outputs = outputs })
      (ap distinct (places_back netlist.outputs good.outputs) ∙ distinct-same netlist.outputs good.outputs_once)

  netlist_of_statements-back : netlist_of_statements lines ≡ Ok netlist
  netlist_of_statements-back =
      let uses = flat_map uses_in lines in
      let outputs = map (name_at netlist) netlist.outputs in
      ap (λ found. unless (fault_of found uses) (netlist_with found (filter_map output_in lines))) (definitions-is 1 netlist.nets netlist.outputs)
      ∙ ap (λ named. unless (fault_of definitions uses) (netlist_with definitions named)) (outputs-is 1 netlist.nets netlist.outputs)
      ∙ ap (λ fault. unless fault (netlist_with definitions outputs)) no_fault
      ∙ ap Ok back

  IsName-name_at : (number : ℕ) → Below number → IsName (name_at netlist number)
  IsName-name_at number inside = good.names number _ inside

  IsStatement-nets : All (λ (net : NetView). IsStatement (net_statement netlist net)) netlist.nets
  IsStatement-nets = λ k d inside. (
    good.names k d inside,
    All-map IsName (name_at netlist) (get_or netlist.nets k d).pins (All-weaker Below (λ pin. IsName (name_at netlist pin)) IsName-name_at (get_or netlist.nets k d).pins (good.pins k d inside)),
    rw length-map (good.arities k d inside),
  )

  proper : All IsStatement (canonical_statements netlist)
  proper =
      All-append IsStatement (map (net_statement netlist) netlist.nets) (map (output_statement netlist) netlist.outputs)
      (All-map IsStatement (net_statement netlist) netlist.nets IsStatement-nets)
      (All-map IsStatement (output_statement netlist) netlist.outputs
      (All-weaker Below (λ output. IsName (name_at netlist output)) IsName-name_at netlist.outputs good.outputs))

  pub netlist_of-canonical : length (canonical netlist) ≤ longest_text → netlist_of (canonical netlist) ≡ Ok netlist
  unfolding canonical
  netlist_of-canonical short =
      unless_too_long-short TooLong (λ text. statements_of text >>= netlist_of_statements) (canonical netlist) short
      ∙ ap (λ said. said >>= netlist_of_statements) (said-canonical_lines 1 (canonical_statements netlist) proper)
      ∙ netlist_of_statements-back
