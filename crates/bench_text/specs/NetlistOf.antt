-- The netlist of a .bench text.
use Rattle.std.specs.Prelude.{ℕ, ◌||◌, not, nat_lt, Bool, if◌then◌else◌, List, [], ◌∷◌, length, take, map, flat_map, filter_map, find, sum_by, option_map, Option, None, Some, Result, Ok, Err, bytes_eq}
use Rattle.std.specs.List.{list_any, position_or_len, enumerate_from}
use Rattle.std.specs.Option.{option_or}
use Rattle.netlist.specs.declared.part.Part.{Part}
use Rattle.bench_text.specs.declared.fault.BenchFault.{BenchFault}
use Rattle.bench_text.specs.declared.fault.BenchFault.TheVariants.{TooLong, DefinedTwice, Undefined, NoNets, TooMany}
use Rattle.texts.specs.Text.{◌>>=◌, unless_too_long, is_empty}
use Rattle.texts.specs.Fold.{fold_text, one_a_line}
use Rattle.netlist.specs.Netlist.{NetlistView, most_nets, most_pins}
use Rattle.netlist.specs.Repeats.{distinct}
use Rattle.bench_text.specs.Line.{Statement, defines, names_output, statement_of}

-- a net as its line defines it, with the names of its pins
pub record Definition : Type 0 where
  pub line : ℕ
  pub name : List ℕ
  pub part : Part
  pub pins : List (List ℕ)

-- what a line says, with its number, or its first fault
abbrev pub numbered_statement : ℕ × List ℕ → Result (ℕ × Statement) BenchFault
numbered_statement (line, code) = statement_of line code >>= λ said. Ok (line, said)

-- what the lines of a text say, each with its number, or the first fault of a line
abbrev pub statements_of : List ℕ → Result (List (ℕ × Statement)) BenchFault
statements_of text = fold_text (one_a_line numbered_statement) [] text

abbrev pub definition_in : ℕ × Statement → Option Definition
definition_in (line, defines name part pins) = Some (record { line = line; name = name; part = part; pins = pins })
definition_in (line, names_output name) = None

-- the names that a line uses, each with the line
abbrev pub uses_in : ℕ × Statement → List (ℕ × List ℕ)
uses_in (line, defines name part pins) = map (λ pin. (line, pin)) pins
uses_in (line, names_output name) = (line, name) ∷ []

abbrev pub output_in : ℕ × Statement → Option (List ℕ)
output_in (line, defines name part pins) = None
output_in (line, names_output name) = Some name

-- the names of definitions, in order
abbrev pub defined_names : List Definition → List (List ℕ)
defined_names definitions = map (λ (d : Definition). d.name) definitions

abbrev pub is_among : List (List ℕ) → List ℕ → Bool
is_among names name = list_any (bytes_eq name) names

-- the first definition, with its place in the list, of a name that an earlier one defines
abbrev pub first_repeated : List Definition → Option (ℕ × Definition)
first_repeated definitions =
    find (λ (place, later). is_among (defined_names (take place definitions)) later.name) (enumerate_from 0 definitions)

abbrev pub repeated_fault : List Definition → Option BenchFault
repeated_fault definitions = option_map (λ (entry : ℕ × Definition). DefinedTwice entry.1.line) (first_repeated definitions)

-- the first use of a name that isn't among these
abbrev pub first_undefined : List (List ℕ) → List (ℕ × List ℕ) → Option (ℕ × List ℕ)
first_undefined names uses = find (λ (line, name). not (is_among names name)) uses

abbrev pub undefined_fault : List (List ℕ) → List (ℕ × List ℕ) → Option BenchFault
undefined_fault names uses = option_map (λ (used : ℕ × List ℕ). Undefined used.0) (first_undefined names uses)

-- more nets, or more pins, than a netlist may have
abbrev pub is_over_limit : ℕ → ℕ → Bool
is_over_limit nets pins = nat_lt most_nets nets || nat_lt most_pins pins

abbrev pub is_too_many : List Definition → Bool
is_too_many definitions = is_over_limit (length definitions) (sum_by (λ (d : Definition). length d.pins) definitions)

abbrev pub size_fault : List Definition → Option BenchFault
size_fault definitions = if is_empty definitions then Some NoNets else if is_too_many definitions then Some TooMany else None

-- what is wrong with the lines as a whole
abbrev pub fault_of : List Definition → List (ℕ × List ℕ) → Option BenchFault
fault_of definitions uses =
    option_or (repeated_fault definitions)
    (option_or (undefined_fault (defined_names definitions) uses)
    (size_fault definitions))

-- the value, unless there is a fault
abbrev pub unless : {A : Type 0} → Option BenchFault → A → Result A BenchFault
unless (Some fault) value = Err fault
unless None value = Ok value

-- the place of a name in a list of names
abbrev pub place_of : List (List ℕ) → List ℕ → ℕ
place_of names name = position_or_len (bytes_eq name) names

-- the nets that are defined, with the places of the names of their pins
abbrev pub netlist_with : List Definition → List (List ℕ) → NetlistView
netlist_with definitions outputs =
    let names = defined_names definitions in
    record {
      nets = map (λ (d : Definition). record { name = d.name; part = d.part; pins = map (place_of names) d.pins }) definitions;
      outputs = distinct (map (place_of names) outputs);
    }

abbrev pub netlist_of_statements : List (ℕ × Statement) → Result NetlistView BenchFault
netlist_of_statements statements =
    let definitions = filter_map definition_in statements in
    unless (fault_of definitions (flat_map uses_in statements)) (netlist_with definitions (filter_map output_in statements))

-- the netlist of a text, or its first fault
abbrev pub netlist_of : List ℕ → Result NetlistView BenchFault
netlist_of text = unless_too_long TooLong (λ text. statements_of text >>= netlist_of_statements) text
