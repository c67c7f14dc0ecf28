use Rattle.std.proofs.Common.{rules, tests, not}
use Rattle.std.proofs.lemmas.Iterator.Adapters.{YieldsList-from_skip}
use Rattle.std.proofs.lemmas.Iterator.Consumers.{map_from_collect, YieldsList-at, YieldsList-from_filter}
use Rattle.std.proofs.lemmas.Iterator.Splits.{YieldsList-from_slice_split}
use Rattle.mistakes.specs.BenchLines.{is_gap}
use Rattle.texts.specs.Text.{is_empty}
use Rattle.mistakes.proofs.bench_lines.names_behind.Goals as goal

pub returns : goal.returns
returns c =
    map_from_collect c.collect.result c.collect.ensures.ran
    (YieldsList-from_skip c.args.count
    (YieldsList-at c.skip.ensures.source
    (YieldsList-from_filter _ (λ name. not (is_empty name))
    (YieldsList-at c.filter.ensures.source
    (YieldsList-from_slice_split _ is_gap c.args.code.now c.split.ensures.rest c.split.ensures.done c.split.ensures.closure (λ x r q k. search (rules, tests))))
    c.filter.ensures.closure (λ x r q k. search (rules, tests))))
    c.skip.ensures.count)
