use Rattle.std.proofs.Common.{◌≡◌, ◌<◌, ◌==◌, false, Vec, Global, vec_len, Ok, map, sym, ◌∙◌, ap, length, arith}
use Rattle.std.specs.List.{sum_by}
use Rattle.std.proofs.lemmas.Bool.Decides.{nat_tests}
use Rattle.netlist.specs.declared.netlist.Net.{Net}
use Rattle.netlist.specs.Joined.{netlist_view, seen_net}
use Rattle.netlist.specs.Repeats.{distinct}
use Rattle.bench_text.specs.NetlistOf.{is_over_limit}
use Rattle.bench_text.specs.Stages.{seen_lines}
use Rattle.bench_text.proofs.Whole.{netlist-too_many, length-names, outputs-within, netlist-whole, IsNetlist-whole}
use Rattle.bench_text.proofs.reader.netlist.Goals as goal

some_nets : (nets : Vec Net Global) → (vec_len nets == 0) ≡ false → 0 < length nets.items
some_nets nets some = let size = nets.ok.0 in grind (arith, nat_tests)

pub returns-then-is_over_limit : goal.returns-then-is_over_limit
returns-then-is_over_limit c = λ other.
    let nets = c.in_ok-nets.field-0.nets in
    let over = ap (λ nets. is_over_limit (length nets) (sum_by (λ (net : Net). length net.pins.items) nets)) (sym c.as_slice.ensures.value)
    ∙ sym c.is_over_limit.ensures ∙ c.if-is_over_limit.true in
    netlist-too_many (seen_lines c.args.lines.now) c.in_ok-names.names nets.items c.in_ok-nets.field-0.outputs.items
    (c.in_ok-names.ensures (λ e. cc)) (c.in_ok-nets.ensures (λ e. cc)) (some_nets nets (sym c.is_empty.ensures ∙ c.if-is_empty.false)) over

pub without_repeats-requires : goal.without_repeats-requires
without_repeats-requires c =
    rw (c.as_slice-2.ensures.value, c.len.ensures.len)
    (outputs-within (seen_lines c.args.lines.now) c.in_ok-names.names c.in_ok-nets.field-0.nets.items c.in_ok-nets.field-0.outputs.items
    (c.in_ok-names.ensures (λ e. cc)) (c.in_ok-nets.ensures (λ e. cc)))

pub new-requires-clause-same_length : goal.new-requires-clause-same_length
new-requires-clause-same_length c =
    length-names (seen_lines c.args.lines.now) c.in_ok-names.names c.in_ok-nets.field-0.nets.items c.in_ok-nets.field-0.outputs.items
    (c.in_ok-names.ensures (λ e. cc)) (c.in_ok-nets.ensures (λ e. cc))

pub new-requires-clause-well_formed : goal.new-requires-clause-well_formed
new-requires-clause-well_formed c =
    let nets = c.in_ok-nets.field-0.nets in
    let within = ap (λ nets. is_over_limit (length nets) (sum_by (λ (net : Net). length net.pins.items) nets)) (sym c.as_slice.ensures.value)
    ∙ sym c.is_over_limit.ensures ∙ c.if-is_over_limit.false in
    rw (c.in_ok-outputs.ensures, c.as_slice-2.ensures.value)
    (IsNetlist-whole (seen_lines c.args.lines.now) c.in_ok-names.names nets.items c.in_ok-nets.field-0.outputs.items
    (c.in_ok-names.ensures (λ e. cc)) (c.in_ok-nets.ensures (λ e. cc)) (some_nets nets (sym c.is_empty.ensures ∙ c.if-is_empty.false)) within
    c.requires.well_formed c.len.ensures.well_formed)

pub returns : goal.returns
returns c = λ other.
    let nets = c.in_ok-nets.field-0.nets in
    let within = ap (λ nets. is_over_limit (length nets) (sum_by (λ (net : Net). length net.pins.items) nets)) (sym c.as_slice.ensures.value)
    ∙ sym c.is_over_limit.ensures ∙ c.if-is_over_limit.false in
    let outputs = c.in_ok-outputs.ensures ∙ ap distinct c.as_slice-2.ensures.value in
    ap Ok (c.in_ok-new.ensures ∙ ap (netlist_view c.in_ok-names.names (map seen_net nets.items)) outputs)
    ∙ netlist-whole (seen_lines c.args.lines.now) c.in_ok-names.names nets.items c.in_ok-nets.field-0.outputs.items
    (c.in_ok-names.ensures (λ e. cc)) (c.in_ok-nets.ensures (λ e. cc)) (some_nets nets (sym c.is_empty.ensures ∙ c.if-is_empty.false)) within
