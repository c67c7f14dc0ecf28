use Rattle.std.proofs.Common.{◌++◌, ap, ◌∙◌}
use Rattle.circuit_info.specs.PathText.{by_ends}
use Rattle.circuit_info.proofs.path_lines.lines_of_ends.Goals as goal

pub returns : goal.returns
returns c =
    let flops = c.in_ok-push_end.ensures in
    let outputs = c.in_ok-push_end-2.ensures in
    by_ends flops.line outputs.line c.requires.flat flops.holds outputs.holds
    (outputs.added ∙ ap (λ text. text ++ outputs.line) (flops.added ∙ ap (λ text. text ++ flops.line) c.new-text.ensures.items))
