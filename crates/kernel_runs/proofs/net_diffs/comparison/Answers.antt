use Rattle.std.proofs.Common.{refl, sym, ◌∙◌}
use Rattle.prepared_runs.specs.Prepared.{seen_run}
use Rattle.kernel_runs.proofs.Diffs.{AgreesOnCone-marked, IsComparisonOf-differs, IsComparisonOf-same, first_difference-completed}
use Rattle.kernel_runs.proofs.net_diffs.comparison.Goals as goal

pub returns-in-Some-first_difference : goal.returns-in-Some-first_difference
returns-in-Some-first_difference c =
    let one = c.args.one.now in
    let other = c.args.other.now in
    let net = c.in-Some.net in
    let other_net = c.in-Some-find.other_net in
    let found = sym c.in-Some.ensures.named in
    let other_found = sym c.in-Some-find.ensures.named in
    let same = first_difference-completed one other c.args.first.now c.args.second.now c.args.ticks c.args.name.now net other_net
    c.waveform.result.now c.waveform-2.result.now c.requires.runs c.requires.first c.requires.second c.requires.end found other_found
    (c.waveform.ensures.undrained (c.requires.first.undrained net)) (c.waveform-2.ensures.undrained (c.requires.second.undrained other_net)) in
    IsComparisonOf-differs (seen_run one) (seen_run other) c.args.ticks c.args.name.now net found other_net other_found _
    (sym same ∙ sym c.in-Some-first_difference.ensures)

pub returns-in-None : goal.returns-in-None
returns-in-None c =
    let one = c.args.one.now in
    let other = c.args.other.now in
    let net = c.in-Some.net in
    let other_net = c.in-Some-find.other_net in
    let found = sym c.in-Some.ensures.named in
    let other_found = sym c.in-Some-find.ensures.named in
    let same = first_difference-completed one other c.args.first.now c.args.second.now c.args.ticks c.args.name.now net other_net
    c.waveform.result.now c.waveform-2.result.now c.requires.runs c.requires.first c.requires.second c.requires.end found other_found
    (c.waveform.ensures.undrained (c.requires.first.undrained net)) (c.waveform-2.ensures.undrained (c.requires.second.undrained other_net)) in
    IsComparisonOf-same (seen_run one) (seen_run other) c.args.ticks c.args.name.now net found other_net other_found _
    (sym same ∙ sym c.in-None.ensures)
    (AgreesOnCone-marked one other c.args.agreeing.now c.args.name.now net _ c.requires.runs.first c.requires.agreeing found refl)
