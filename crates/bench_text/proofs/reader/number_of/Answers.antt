use Rattle.std.proofs.Common.{◌∙◌, ap}
use Rattle.std.specs.Option.{ok_or}
use Rattle.bench_text.specs.declared.fault.BenchFault.TheVariants.{Undefined}
use Rattle.bench_text.proofs.Wired.{ok_or-position}
use Rattle.bench_text.proofs.reader.number_of.Goals as goal

pub returns : goal.returns
returns c =
    c.ok_or.ensures.value ∙ ap (λ found. ok_or found (Undefined c.args.line)) c.find.ensures
    ∙ ok_or-position c.args.names.now c.args.line c.args.name.now
