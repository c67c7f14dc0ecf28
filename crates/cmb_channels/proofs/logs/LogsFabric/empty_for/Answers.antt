use Rattle.std.proofs.Common.{◌≡◌, [], length, replicate, ap, sym, subst, ◌∙◌}
use Rattle.design.specs.Pins.{all_fed}
use Rattle.design.proofs.CallerLemmas.{length-sources}
use Rattle.cmb_channels.specs.Logs.{AreLogs, logs_read_by, unread_lists}
use Rattle.cmb_channels.proofs.AllLogs.{lists_first, length-read_by, logs_first}
use Rattle.cmb_channels.proofs.logs.LogsFabric.empty_for.Goals as goal
use Rattle.cmb_channels.proofs.logs.LogsFabric.empty_for.Goals.{In_ok-logs}

logs_are : (c : In_ok-logs) → c.in_ok-logs.logs.items ≡ logs_read_by (length c.args.design.now.circuit) c.in_ok-sources.sources.items
logs_are c = c.in_ok-logs.ensures ∙ ap (logs_read_by (length c.args.design.now.circuit)) (sym c.in_ok-sources.ensures.sources)

counts_are : (c : In_ok-logs) → c.in_ok-counts.counts.items ≡ replicate (length c.in_ok-sources.sources.items) 0
counts_are c =
    c.in_ok-counts.ensures
    ∙ ap (λ pins. replicate pins 0)
    (c.pins-pins.ensures.count ∙ sym (length-sources c.args.design.now.circuit) ∙ ap length (sym c.in_ok-sources.ensures.sources))

pub invariant_of-result : goal.invariant_of-result
invariant_of-result c =
    let at = (goal.at.invariant_of-result c).In_ok-logs in
    let nets = length c.args.design.now.circuit in
    let sources = c.in_ok-sources.sources.items in
    record {
      logs_are =
          subst (λ logs. AreLogs logs sources c.in_ok-counts.counts.items) (sym (logs_are at))
          (subst (AreLogs (logs_read_by nets sources) sources) (sym (counts_are at)) (logs_first nets sources c.in_ok-sources.ensures.within));
      fed_are =
          c.in_ok-fed.ensures.fed
          ∙ (λ i. all_fed (sym (ap length (logs_are at) ∙ length-read_by nets sources) i) (sym c.in_ok-sources.ensures.sources i));
    }

pub returns-clause-lists : goal.returns-clause-lists
returns-clause-lists c =
    let at = (goal.at.returns-clause-lists c).In_ok-logs in
    (λ i. unread_lists (logs_are at i) c.in_ok-sources.sources.items (counts_are at i))
    ∙ lists_first (length c.args.design.now.circuit) c.in_ok-sources.sources.items
    ∙ ap (λ pins. replicate pins []) (ap length c.in_ok-sources.ensures.sources ∙ length-sources c.args.design.now.circuit)

pub returns-clause-nets : goal.returns-clause-nets
returns-clause-nets c =
    ap length (logs_are (goal.at.returns-clause-nets c).In_ok-logs)
    ∙ length-read_by (length c.args.design.now.circuit) c.in_ok-sources.sources.items
