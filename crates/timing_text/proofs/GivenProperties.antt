-- The properties given so far, by net number.
use Rattle.std.proofs.Common.{◌≡◌, ◌≢◌, ℕ, ◌<◌, ◌≤◌, true, false, Bool, cond, eqb, List, [], ◌∷◌, ◌++◌, length, length-set, map, get_or, set, Option, None, Some, Result, Ok, Err, ◌⊎◌, inl, inr, get_or-set_other, refl, sym, ap, ◌∙◌, subst, arith}
use Rattle.std.specs.List.{range_with_len}
use Rattle.std.specs.Option.{is_some}
use Rattle.std.specs.Str.{bytes_eq}
use Rattle.std.proofs.lemmas.Bool.{cases_eq}
use Rattle.std.proofs.lemmas.Bool.Decides.{nat_tests}
use Rattle.std.proofs.lemmas.Grind.{get_or-set_at}
use Rattle.std.proofs.lemmas.List.{ext_get_or, get_or-map, length-map, map-set}
use Rattle.std.proofs.lemmas.List.FromFn.{fill_by_all, get_or-map-range_with_len, length-map-range_with_len}
use Rattle.std.proofs.lemmas.List.Sums.{fold_push}
use Rattle.texts.specs.Text.{◌>>=◌, code_lines, longest_text}
use Rattle.texts.specs.Fold.{fold_lines}
use Rattle.netlist.specs.Netlist.{NetView, NetlistView, net_at}
use Rattle.timing_text.specs.declared.fault.DelayFault.{DelayFault}
use Rattle.timing_text.specs.declared.fault.DelayFault.TheVariants.{TooLong, Twice}
use Rattle.timing_text.specs.declared.given.NetGiven.{NetGiven}
use Rattle.timing_text.specs.declared.line.Properties.{Properties}
use Rattle.timing_text.specs.declared.line.Property.{Property}
use Rattle.timing_text.specs.declared.line.Property.TheVariants.{Delay, Clock, Initial, Wire}
use Rattle.timing_text.specs.declared.line.Version.{Version}
use Rattle.timing_text.specs.TimingLines.{HasPin, NetProperty, property_or_fault}
use Rattle.timing_text.specs.GivenSoFar.{given_to_net, given_to_nets, is_given, seen_given, with_given}
use Rattle.timing_text.specs.Timings.{has_kind, net_lines, no_properties, properties_after, properties_in, properties_named, properties_of, unless_twice, version_of, wire_named, with_property, with_wire}
use Rattle.texts.proofs.CallerLemmas.{fold_lines-next, unless_too_long-short}
use Rattle.netlist.proofs.CallerLemmas.{bytes_eq-same, bytes_eq-other, HasDistinctNames, names-differ, no_net}

-- ---- a further line

-- gives a net of its name its property, and no other
pub properties_named-more : (lines : List NetProperty) (line : NetProperty) (name : List ℕ) →
    properties_named (lines ++ line ∷ []) name
    ≡ cond (bytes_eq line.name name) (with_property (properties_named lines name) line.property) (properties_named lines name)
properties_named-more lines line name =
    fold_push (λ (given : Properties) (line : NetProperty). cond (bytes_eq line.name name) (with_property given line.property) given) no_properties lines line

-- and one of a wire, the pin at its place
pub wire_named-more : (lines : List NetProperty) (line : NetProperty) (name : List ℕ) (place : ℕ) →
    wire_named (lines ++ line ∷ []) name place
    ≡ cond (bytes_eq line.name name) (with_wire place (wire_named lines name place) line.property) (wire_named lines name place)
wire_named-more lines line name place =
    fold_push (λ (given : Option ℕ) (line : NetProperty). cond (bytes_eq line.name name) (with_wire place given line.property) given) None lines line

module _ (lines : List NetProperty) (line : NetProperty) where
  properties_named-own : properties_named (lines ++ line ∷ []) line.name ≡ with_property (properties_named lines line.name) line.property
  properties_named-own = rw (properties_named-more lines line line.name, bytes_eq-same line.name) refl

  wire_named-own : (place : ℕ) → wire_named (lines ++ line ∷ []) line.name place ≡ with_wire place (wire_named lines line.name place) line.property
  wire_named-own place = rw (wire_named-more lines line line.name place, bytes_eq-same line.name) refl

  module _ (name : List ℕ) (apart : name ≢ line.name) where
    properties_named-others : properties_named (lines ++ line ∷ []) name ≡ properties_named lines name
    properties_named-others = rw (properties_named-more lines line name, bytes_eq-other line.name name (λ same. apart (sym same))) refl

    wire_named-others : (place : ℕ) → wire_named (lines ++ line ∷ []) name place ≡ wire_named lines name place
    wire_named-others place = rw (wire_named-more lines line name place, bytes_eq-other line.name name (λ same. apart (sym same))) refl

-- ---- what a net holds

-- the element at a place of a list made from a function, changed, is that of a function changed at the place
set-map-range : {X : Type 0} (f : ℕ → X) (count place : ℕ) (x : X) → place < count →
    set (map f (range_with_len 0 count)) place x ≡ map (λ k. cond (eqb place k) x (f k)) (range_with_len 0 count)
set-map-range {X = X} f count place x within =
    fill_by_all (λ k. cond (eqb place k) x (f k)) (set (map f (range_with_len 0 count)) place x) count x
    (length-set (map f (range_with_len 0 count)) place x ∙ length-map-range_with_len f 0 count)
    (λ k below. at k below (cases_eq k place))
  where
    at : (k : ℕ) → k < count → (k ≡ place) ⊎ (k ≢ place) →
        get_or (set (map f (range_with_len 0 count)) place x) k x ≡ cond (eqb place k) x (f k)
    at k below (inl same) =
        let room : place < length (map f (range_with_len 0 count)) = omega (arith, length-map-range_with_len f 0 count) in
        let here : eqb place k ≡ true = grind (arith, nat_tests) in
        get_or-set_at (map f (range_with_len 0 count)) place k x x same room ∙ ap (λ test. cond test x (f k)) (sym here)
    at k below (inr apart) =
        let other : eqb place k ≡ false = grind (arith, nat_tests) in
        get_or-set_other (map f (range_with_len 0 count)) place k x x apart ∙ get_or-map-range_with_len f 0 count k k x below (omega arith)
        ∙ ap (λ test. cond test x (f k)) (sym other)

-- a net holds a property of a kind as the lines have it
is_given-held : (lines : List NetProperty) (net : NetView) (property : Property) → HasPin (length net.pins) property →
    is_given (given_to_net lines net) property ≡ has_kind lines net.name property
is_given-held lines net (Delay ticks) pin = refl
is_given-held lines net (Clock clock) pin = refl
is_given-held lines net (Initial value) pin = refl
is_given-held lines net (Wire wire) pin =
    ap is_some (get_or-map-range_with_len (wire_named lines net.name) 0 (length net.pins) wire.place wire.place None pin.0 (omega arith))

module _ (lines : List NetProperty) (net : NetView) (property : Property) where
  abbrev more : List NetProperty
  more = lines ++ record { name = net.name; property = property } ∷ []

  -- a further line gives a net a property
  given-more : with_property (properties_named lines net.name) property ≡ properties_named more net.name
  given-more = sym (properties_named-own lines (record { name = net.name; property = property }))

  -- or a wire delay to one of its pins
  wires-more : map (λ place. with_wire place (wire_named lines net.name place) property) (range_with_len 0 (length net.pins))
      ≡ map (wire_named more net.name) (range_with_len 0 (length net.pins))
  wires-more =
      λ i. map (λ place. sym (wire_named-own lines (record { name = net.name; property = property }) place) i) (range_with_len 0 (length net.pins))

-- and it holds the same of what is kept
with_given-held : (lines : List NetProperty) (net : NetView) (property : Property) → HasPin (length net.pins) property →
    with_given (given_to_net lines net) property ≡ given_to_net (lines ++ record { name = net.name; property = property } ∷ []) net
with_given-held lines net (Delay ticks) pin = λ i. (given-more lines net (Delay ticks) i, wires-more lines net (Delay ticks) i)
with_given-held lines net (Clock clock) pin = λ i. (given-more lines net (Clock clock) i, wires-more lines net (Clock clock) i)
with_given-held lines net (Initial value) pin = λ i. (given-more lines net (Initial value) i, wires-more lines net (Initial value) i)
with_given-held lines net (Wire wire) pin =
    let changed = set-map-range (wire_named lines net.name) (length net.pins) wire.place (Some wire.ticks) pin.0 ∙ wires-more lines net (Wire wire) in
    λ i. (given-more lines net (Wire wire) i, changed i)

-- a net of another name holds what it held
given_to_net-others : (lines : List NetProperty) (line : NetProperty) (net : NetView) → net.name ≢ line.name →
    given_to_net (lines ++ line ∷ []) net ≡ given_to_net lines net
given_to_net-others lines line net apart =
    λ i. (
      properties_named-others lines line net.name apart i,
      map (λ place. wire_named-others lines line net.name apart place i) (range_with_len 0 (length net.pins)),
    )

-- ---- what each net holds

-- where what nets mean changes at one net's name alone, so does the list of what they mean
map-changed : {X : Type 0} (nets : List NetView) (old new : NetView → X) (net : ℕ) → HasDistinctNames nets → net < length nets →
    ((other : NetView) → other.name ≢ (get_or nets net no_net).name → new other ≡ old other) →
    map new nets ≡ set (map old nets) net (new (get_or nets net no_net))
map-changed {X = X} nets old new net distinct here others =
    ext_get_or changed (map new nets) (set (map old nets) net changed) (simp (length-map, length-set))
    (λ place within. at place (simp length-map at within) (cases_eq place net))
  where
    changed : X
    changed = new (get_or nets net no_net)

    at : (place : ℕ) → place < length nets → (place ≡ net) ⊎ (place ≢ net) →
        get_or (map new nets) place changed ≡ get_or (set (map old nets) net changed) place changed
    at place within (inl same) =
        let room : net < length (map old nets) = simp length-map here in
        get_or-map new nets place no_net changed within ∙ ap (λ k. new (get_or nets k no_net)) same
        ∙ sym (get_or-set_at (map old nets) net place changed changed same room)
    at place within (inr apart) =
        get_or-map new nets place no_net changed within
        ∙ others (get_or nets place no_net) (names-differ nets net place distinct here within apart)
        ∙ sym (get_or-map old nets place no_net changed within)
        ∙ sym (get_or-set_other (map old nets) net place changed changed apart)

-- what is kept of a net among those of all nets
pub kept-at : (netlist : NetlistView) (lines : List NetProperty) (kept : List NetGiven) (net : ℕ) (had : NetGiven) →
    map seen_given kept ≡ given_to_nets netlist lines → net < length netlist.nets → had ≡ get_or kept net had →
    seen_given had ≡ given_to_net lines (net_at netlist net)
kept-at netlist lines kept net had held within here =
    let lengths = sym (length-map kept seen_given) ∙ ap length held ∙ length-map netlist.nets (given_to_net lines) in
    let room : net < length kept = omega (arith, lengths) in
    ap seen_given here ∙ sym (get_or-map seen_given kept net had (seen_given had) room)
    ∙ ap (λ held. get_or held net (seen_given had)) held
    ∙ get_or-map (given_to_net lines) netlist.nets net no_net (seen_given had) within

-- earlier lines gave each net what is kept of it, and some lines are left of all
pub record Given (version : Version) (netlist : NetlistView) (all left : List (ℕ × List ℕ)) (kept : List NetGiven) : Type 0 where
  pub earlier : List NetProperty
  pub rest : fold_lines (properties_after version netlist) [] all ≡ fold_lines (properties_after version netlist) earlier left
  pub held : map seen_given kept ≡ given_to_nets netlist earlier

-- at first no net has anything
pub Given-first : (version : Version) (netlist : NetlistView) (all : List (ℕ × List ℕ)) (kept : List NetGiven) →
    map seen_given kept ≡ given_to_nets netlist [] → Given version netlist all all kept
Given-first version netlist all kept none = record { earlier = []; rest = refl; held = none }

-- something is kept of each net
pub Given-length : {version : Version} {netlist : NetlistView} {all left : List (ℕ × List ℕ)} {kept : List NetGiven} → Given version netlist all left kept →
    length kept ≡ length netlist.nets
Given-length {netlist = netlist} {kept = kept} given =
    sym (length-map kept seen_given) ∙ ap length given.held ∙ length-map netlist.nets (given_to_net given.earlier)

module _ {version : Version} {netlist : NetlistView} {all left : List (ℕ × List ℕ)} {kept : List NetGiven} {net : ℕ} {had : NetGiven}
    (given : Given version netlist all left kept) (within : net < length netlist.nets) (here : had ≡ get_or kept net had) where
  -- what is kept of a net is what earlier lines give it
  held-net : seen_given had ≡ given_to_net given.earlier (net_at netlist net)
  held-net = kept-at netlist given.earlier kept net had given.held within here

  -- for each of its pins
  pub Given-pins : length had.wires.items ≡ length (net_at netlist net).pins
  Given-pins =
      ap (λ (held : Properties × List (Option ℕ)). length held.1) held-net
      ∙ length-map-range_with_len (wire_named given.earlier (net_at netlist net).name) 0 (length (net_at netlist net).pins)

  module _ (property : Property) (pin : HasPin (length (net_at netlist net).pins) property) where
    -- so a wire is of one of them
    pub Given-pin : HasPin (length had.wires.items) property
    Given-pin = subst (λ pins. HasPin pins property) (sym Given-pins) pin

    is_given-had : has_kind given.earlier (net_at netlist net).name property ≡ is_given (seen_given had) property
    is_given-had = sym (ap (λ held. is_given held property) held-net ∙ is_given-held given.earlier (net_at netlist net) property pin)

    module _ {rest : List (ℕ × List ℕ)} {line : ℕ} {code : List ℕ} (turn : left ≡ (line, code) ∷ rest)
        (gives : Ok (record { name = (net_at netlist net).name; property = property }) ≡ property_or_fault version netlist (line, code)) where
      abbrev next : NetProperty
      next = record { name = (net_at netlist net).name; property = property }

      -- what the next line leaves to the rest of the lines, as a test has it
      abbrev unless_given : Bool → Result (List NetProperty) DelayFault
      unless_given twice =
          cond twice (Err (Twice line)) (Ok (given.earlier ++ next ∷ [])) >>= λ lines. fold_lines (properties_after version netlist) lines rest

      next-after : fold_lines (properties_after version netlist) [] all ≡ unless_given (is_given (seen_given had) property)
      next-after =
          given.rest
          ∙ fold_lines-next (properties_after version netlist) given.earlier (unless_twice given.earlier line next) turn
          (ap (λ result. result >>= unless_twice given.earlier line) (sym gives))
          ∙ ap unless_given is_given-had

      -- a line of a kind that its net has stops the reading
      pub Given-stops : is_given (seen_given had) property ≡ true → fold_lines (properties_after version netlist) [] all ≡ Err (Twice line)
      Given-stops twice = next-after ∙ ap unless_given twice

      -- one of another kind gives it the property
      pub Given-more : HasDistinctNames netlist.nets → is_given (seen_given had) property ≡ false → (has : NetGiven) →
          seen_given has ≡ with_given (seen_given had) property → Given version netlist all rest (set kept net has)
      Given-more distinct once has gains = record {
        earlier = given.earlier ++ next ∷ [];
        rest = next-after ∙ ap unless_given once;
        held = map-set seen_given kept net has
            ∙ ap (λ held. set held net (seen_given has)) given.held
            ∙ ap (set (given_to_nets netlist given.earlier) net)
            (gains ∙ ap (λ held. with_given held property) held-net ∙ with_given-held given.earlier (net_at netlist net) property pin)
            ∙ sym (map-changed netlist.nets (given_to_net given.earlier) (given_to_net (given.earlier ++ next ∷ [])) net distinct within
            (given_to_net-others given.earlier next));
      }

-- a text that isn't too long is read line by line
pub properties_of-lines : (netlist : NetlistView) (text : List ℕ) (version : Version) → length text ≤ longest_text → version ≡ version_of (code_lines text) →
    properties_of netlist text ≡ fold_lines (properties_after version netlist) [] (net_lines (code_lines text))
properties_of-lines netlist text version short is =
    unless_too_long-short TooLong (λ all. properties_in netlist (code_lines all)) text short
    ∙ ap (λ version. fold_lines (properties_after version netlist) [] (net_lines (code_lines text))) (sym is)
