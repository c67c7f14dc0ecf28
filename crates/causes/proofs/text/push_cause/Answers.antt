use Rattle.std.proofs.Common.{◌++◌, ◌∙◌, ap, codes}
use Rattle.netlist.specs.Netlist.{net_at}
use Rattle.bench_text.specs.Canonical.{canonical_line, net_statement}
use Rattle.causes.specs.Text.{reason_text, shown_text, since_text}
use Rattle.causes.proofs.Pieces.{joined₆}
use Rattle.causes.proofs.text.push_cause.Goals as goal

pub returns : goal.returns
returns c =
    let design = c.args.design.now in
    let cause = c.args.cause in
    let name = c.name.ensures ∙ ap (λ netlist. (net_at netlist cause.net).name) c.netlist.ensures in
    joined₆ _ _ _ _ _ _ _ (shown_text c.name.result.now cause.tick cause.value) (since_text cause.tick cause.since) (codes ": ")
    (canonical_line (net_statement c.netlist-2.result.now (net_at c.netlist-2.result.now cause.net))) (reason_text design cause cause.reason) (codes "\n")
    c.in_ok-push_shown.ensures c.in_ok-push_since.ensures c.in_ok-extend_from_slice.ensures.items c.in_ok-push_statement.ensures
    c.in_ok-push_reason.ensures c.in_ok-push.ensures.items
    ∙ (λ i. c.args.text.now.items ++ (shown_text (name i) cause.tick cause.value ++ since_text cause.tick cause.since ++ codes ": "
    ++ canonical_line (net_statement (c.netlist-2.ensures i) (net_at (c.netlist-2.ensures i) cause.net))
    ++ reason_text design cause cause.reason ++ codes "\n"))
