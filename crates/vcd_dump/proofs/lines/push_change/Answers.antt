use Rattle.std.proofs.Common.{◌≡◌, ◌+◌, ◌++◌, ◌∙◌, ap, length, take, arith}
use Rattle.std.proofs.Math.Seq.{take-append-add}
use Rattle.vcd_dump.proofs.lines.push_change.Goals as goal

pub returns : goal.returns
returns c =
    let items = c.args.line.now.items in
    let many : c.len-len.result + c.len.result + 2 ≡ length items + (length c.args.code.now + 2) =
    omega (arith, c.len-len.ensures, c.len.ensures.is, c.args.line.now.ok) in
    c.truncate.ensures.items
    ∙ (λ i. take (many i) (c.in_ok-extend_from_slice.ensures.items i))
    ∙ take-append-add items c.change.result (length c.args.code.now + 2)
    ∙ ap (λ text. items ++ text) c.change.ensures.line
