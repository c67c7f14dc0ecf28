-- A drawing whose columns fit on a line isn't folded.
use Rattle.std.proofs.Common.{◌≡◌, ◌∙◌, ap, arith, refl, ℕ, zero, ◌+◌, ◌-◌, ◌*◌, ◌/◌, ◌<◌, ◌≤◌, min, List, ◌++◌, flat_map, append-nil}
use Rattle.std.proofs.Math.Nat.{div-eq_of_lt, lt-div-mul-add}
use Rattle.std.specs.List.{range_with_len}
use Rattle.vcd_dump.specs.Dump.{Trace}
use Rattle.timing_diagram.specs.Bus.{BusTrace}
use Rattle.timing_diagram.specs.Columns.{Ticks, IsDrawable, column_count, first_tick, last_tick}
use Rattle.timing_diagram.specs.Drawing.{columns_a_part, drawn_text, folded_text, part_below, part_from, parts_below}
use Rattle.timing_diagram.specs.Picture.{name_width}

-- one part has all ticks
part-whole : (ticks : Ticks) (columns : ℕ) → IsDrawable ticks → column_count ticks ≤ columns → part_from ticks columns 0 ≡ ticks
part-whole ticks columns ok fits =
    let from : first_tick ticks 0 ≡ ticks.from = omega arith in
    let last : min (0 + (columns - 1)) (column_count ticks - 1) ≡ (ticks.to - ticks.from) / ticks.step = omega (arith, fits) in
    let most = lt-div-mul-add {a = ticks.to - ticks.from} {b = ticks.step} ok.some in
    let to : last_tick ticks ((ticks.to - ticks.from) / ticks.step) ≡ ticks.to = omega (arith, most) in
    λ i. record ticks { from = from i; to = (ap (last_tick ticks) last ∙ to) i }

pub short-stays : (line : ℕ) (ticks : Ticks) (traces : List Trace) (buses : List BusTrace) → IsDrawable ticks →
    column_count ticks ≤ columns_a_part line (name_width traces buses) → folded_text line ticks traces buses ≡ drawn_text ticks traces buses
short-stays line ticks traces buses ok fits =
    let columns = columns_a_part line (name_width traces buses) in
    let none : parts_below ticks columns ≡ 0 = div-eq_of_lt (omega (arith, fits)) in
    ap (λ part. drawn_text part traces buses ++ flat_map (part_below ticks columns traces buses) (range_with_len 0 (parts_below ticks columns))) (part-whole ticks columns ok fits)
    ∙ ap (λ count. drawn_text ticks traces buses ++ flat_map (part_below ticks columns traces buses) (range_with_len 0 count)) none
    ∙ append-nil (drawn_text ticks traces buses)
