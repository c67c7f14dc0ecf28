use Rattle.std.proofs.Common.{sym, ◌∙◌, ap, length, arith}
use Rattle.std.specs.List.{filter_map}
use Rattle.std.specs.Option.{is_some}
use Rattle.std.proofs.lemmas.List.{length_push}
use Rattle.bench_text.specs.NetlistOf.{definition_in}
use Rattle.bench_text.specs.Stages.{seen_lines}
use Rattle.bench_text.proofs.Named.{named_from-all, named_from-fault, named_from-name, named_from-output}
use Rattle.bench_text.proofs.reader.defined_names.Goals as goal
use Rattle.bench_text.proofs.reader.defined_names.Goals.{in-Defines+else-is_some+in_ok-push, in_default}

pub loop-line-init : goal.loop-line-init
loop-line-init c = record {
  few = omega (arith, ap length c.new-names.ensures);
  names = rw c.new-names.ensures (named_from-all (filter_map definition_in (seen_lines c.args.lines.now)));
}

pub returns-then-is_some : goal.returns-then-is_some
returns-then-is_some c =
    let found = sym (c.is_some.ensures ∙ ap is_some c.find.ensures) ∙ c.if-is_some.true in
    λ _. sym (named_from-fault c.loop-line.names c.args.lines.now c.loop-line.line-index c.loop-line-item.result
    c.loop-line-test.true c.loop-line-item.is c.in-Defines.name c.in-Defines.part c.in-Defines.pins c.in-Defines.is found) ∙ c.loop-line.invariant.names

pub loop-line-preserved : goal.loop-line-preserved
loop-line-preserved c =
    elim c.match-said.branch [
      | in-Defines+else-is_some+in_ok-push w ↦
          let found = sym (w.is_some.ensures ∙ ap is_some w.find.ensures) ∙ w.if-is_some.false in
          record {
            few = rw (w.names-is, w.in_ok-push.ensures.ok, length_push) (omega arith);
            names = rw (w.names-is, w.in_ok-push.ensures.ok)
                (named_from-name c.loop-line.names c.args.lines.now c.loop-line.line-index c.loop-line-item.result
                c.loop-line-test.true c.loop-line-item.is w.in-Defines.name w.in-Defines.part w.in-Defines.pins w.in-Defines.is found ∙ c.loop-line.invariant.names);
          }
      | in_default w ↦ record {
        few = rw w.names-is (omega arith);
        names = rw w.names-is
            (named_from-output c.loop-line.names c.args.lines.now c.loop-line.line-index c.loop-line-item.result
            c.loop-line-test.true c.loop-line-item.is w.in_default.field-0 w.in_default.is ∙ c.loop-line.invariant.names);
      }
    ]
