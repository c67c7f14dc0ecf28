-- What is kept of each net while the lines of a delay text are read.
use Rattle.std.specs.Prelude.{ℕ, Bool, List, length, map, slice_index_or, slice_set, Option, None, Some, Result}
use Rattle.std.specs.List.{range_with_len}
use Rattle.std.specs.Option.{is_some}
use Rattle.std.specs.Result.{result_map_both}
use Rattle.netlist.specs.Netlist.{NetView, NetlistView}
use Rattle.timing_text.specs.declared.fault.DelayFault.{DelayFault}
use Rattle.timing_text.specs.declared.given.NetGiven.{NetGiven}
use Rattle.timing_text.specs.declared.line.Properties.{Properties}
use Rattle.timing_text.specs.declared.line.Property.{Property}
use Rattle.timing_text.specs.declared.line.Property.TheVariants.{Delay, Clock, Initial, Wire}
use Rattle.timing_text.specs.TimingLines.{NetProperty}
use Rattle.timing_text.specs.Timings.{properties_named, properties_of, wire_named, with_property}

-- what lines give a net, and the wire delay that they give each of its pins, in order
abbrev pub given_to_net : List NetProperty → NetView → Properties × List (Option ℕ)
given_to_net lines net = (properties_named lines net.name, map (wire_named lines net.name) (range_with_len 0 (length net.pins)))

-- the same of each net, in order
abbrev pub given_to_nets : NetlistView → List NetProperty → List (Properties × List (Option ℕ))
given_to_nets netlist lines = map (given_to_net lines) netlist.nets

-- the same by a delay text, or its first fault
abbrev pub given_by_text : NetlistView → List ℕ → Result (List (Properties × List (Option ℕ))) DelayFault
given_by_text netlist text = result_map_both (given_to_nets netlist) (λ fault. fault) (properties_of netlist text)

-- what a net was given, from its stored form
abbrev pub seen_given : NetGiven → Properties × List (Option ℕ)
seen_given stored = (stored.properties, stored.wires.items)

-- whether a net was given a property of this kind, and a wire delay to the same pin
abbrev pub is_given : Properties × List (Option ℕ) → Property → Bool
is_given given (Delay ticks) = is_some given.0.delay
is_given given (Clock clock) = is_some given.0.clock
is_given given (Initial value) = is_some given.0.initial
is_given given (Wire wire) = is_some (slice_index_or given.1 wire.place None)

-- what a net was given, and then this property
abbrev pub with_given : Properties × List (Option ℕ) → Property → Properties × List (Option ℕ)
with_given given (Wire wire) = (given.0, slice_set given.1 wire.place (Some wire.ticks))
with_given given property = (with_property given.0 property, given.1)
