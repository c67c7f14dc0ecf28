use Rattle.std.proofs.Common.{◌≡◌, ◌+◌, ◌<◌, ◌++◌, length, ap, sym, subst, ◌∙◌, arith}
use Rattle.std.specs.Io.KnownBytes.{Appends}
use Rattle.std.proofs.KnownBytes.{Appends-trans}
use Rattle.std.proofs.lemmas.List.{length-map}
use Rattle.std.proofs.lemmas.List.Elements.{All-from_recursion, All-same}
use Rattle.std.proofs.lemmas.List.Sorted.{All-permutation}
use Rattle.std.proofs.lemmas.Result.{on_ok_weaker, on_err_weaker}
use Rattle.logic3.specs.Wave.{Wave}
use Rattle.logic3.proofs.CallerLemmas.{OnErr_always}
use Rattle.texts.specs.Written.{AppendsPrefix}
use Rattle.texts.proofs.CallerLemmas.{AppendsPrefix-longer, AppendsPrefix-after, AppendsPrefix-piece}
use Rattle.vcd_dump.specs.Lines.{LineView}
use Rattle.vcd_dump.specs.Dump.{declarations, time_line_after}
use Rattle.vcd_dump.specs.Spans.{span_lines, span_text, latest}
use Rattle.vcd_dump.specs.Traces.{traces, named}
use Rattle.vcd_dump.specs.Written.{InOrder}
use Rattle.vcd_dump.proofs.FromWaves.{AreShown, changes_of, behind, dump_text-declared, dump_text-waves, Stepped-waves}
use Rattle.vcd_dump.proofs.Gathered.{EachPlace-span_lines}
use Rattle.vcd_dump.proofs.Stepped.{Stepped}
use Rattle.vcd_dump.proofs.Few.{few_below}
use Rattle.vcd_dump.proofs.dumper.dump.Given.{Over}
use Rattle.vcd_dump.proofs.dumper.dump.Goals as goal
use Rattle.vcd_dump.proofs.dumper.dump.Goals.{After-as_slice}

-- waveforms that are shown up to the horizon
shown_is : (g : Over) (c : After-as_slice g) → AreShown c.args.horizon c.args.waves.now
shown_is g c = record { rises = c.in_ok-lines.ensures.rises; unknown = c.requires.unknown_before; within = c.requires.within_horizon }

-- each has a code
many_is : (g : Over) (c : After-as_slice g) → length c.as_slice-codes.result.now ≡ length c.args.waves.now
many_is g c = ap length c.as_slice-codes.ensures.value ∙ c.in_ok-codes.ensures.many ∙ sym c.requires.one_wave_each

-- their lines in order
step_is : (g : Over) (c : After-as_slice g) →
    Stepped (length c.as_slice-codes.result.now) 0 0 (c.args.horizon + 1) (span_lines 0 (changes_of c.args.waves.now)) c.as_slice.result.now
step_is g c =
    Stepped-waves (length c.as_slice-codes.result.now) c.args.horizon c.args.waves.now c.as_slice.result.now (many_is g c) (shown_is g c)
    (subst (InOrder (span_lines 0 (changes_of c.args.waves.now))) (sym c.as_slice.ensures.value) c.in_ok-lines.ensures.lines)

pub returns-in_err-write_declarations-clause-err : goal.returns-in_err-write_declarations-clause-err
returns-in_err-write_declarations-clause-err g c =
    let held = g.W.Write.contents in
    let circuit = c.args.design.now.circuit in
    let shown = c.args.shown.now in
    let waves = c.args.waves.now in
    OnErr_always c.from_residual-in_err-write_declarations.result
    (subst (AppendsPrefix (held c.args.out.now) (held c.write_declarations.new.out))
    (dump_text-declared c.args.unit c.args.horizon circuit shown waves c.requires.one_wave_each)
    (AppendsPrefix-longer _ _ (declarations c.args.unit (named circuit shown)) (behind c.args.horizon (traces circuit shown waves))
    c.in_err-write_declarations.ensures.err))

pub prove-unreachable-requires : goal.prove-unreachable-requires
prove-unreachable-requires g c =
    let few = few_below (length c.args.design.now.circuit) c.args.shown.now c.requires.shown_exist c.requires.shown_once in
    omega (arith, few, c.nets.ensures.count, c.if-prove.true)

pub returns-in_err-lines-clause-err : goal.returns-in_err-lines-clause-err
returns-in_err-lines-clause-err g c =
    let held = g.W.Write.contents in
    let circuit = c.args.design.now.circuit in
    let shown = c.args.shown.now in
    let waves = c.args.waves.now in
    OnErr_always c.from_residual-in_err-lines.result
    (subst (AppendsPrefix (held c.args.out.now) (held c.write_declarations.new.out))
    (dump_text-declared c.args.unit c.args.horizon circuit shown waves c.requires.one_wave_each)
    (AppendsPrefix-piece _ _ (declarations c.args.unit (named circuit shown)) (behind c.args.horizon (traces circuit shown waves))
    c.in_ok-write_declarations.ensures.ok))

pub write_span-requires-clause-values : goal.write_span-requires-clause-values
write_span-requires-clause-values g c =
    let there = (goal.at.write_span-requires-clause-values g c).After-as_slice in
    let step = step_is g there in
    step.places

pub returns-in_err-time-clause-err : goal.returns-in_err-time-clause-err
returns-in_err-time-clause-err g c =
    let held = g.W.Write.contents in
    let circuit = c.args.design.now.circuit in
    let shown = c.args.shown.now in
    let waves = c.args.waves.now in
    let there = (goal.at.returns-in_err-time-clause-err g c).After-as_slice in
    let step = step_is g there in
    let first = declarations c.args.unit (named circuit shown) in
    let second = span_text 0 (c.args.horizon + 1) (changes_of waves) in
    OnErr_always _
    (subst (AppendsPrefix (held c.args.out.now) (held c.write_span.new.out))
    (dump_text-waves c.args.unit c.args.horizon circuit shown waves c.requires.one_wave_each (shown_is g there))
    (AppendsPrefix-longer _ _ (first ++ second) (time_line_after (latest 0 (span_lines 0 (changes_of waves))) c.args.horizon)
    (AppendsPrefix-after _ (held c.write_declarations.new.out) _ first second c.in_ok-write_declarations.ensures.ok
    (subst (AppendsPrefix (held c.write_declarations.new.out) (held c.write_span.new.out)) step.text c.in_err-time.ensures.err))))

pub returns-clause-ok : goal.returns-clause-ok
returns-clause-ok g c =
    let held = g.W.Write.contents in
    let circuit = c.args.design.now.circuit in
    let shown = c.args.shown.now in
    let waves = c.args.waves.now in
    let there = (goal.at.returns-clause-ok g c).After-as_slice in
    let step = step_is g there in
    let first = declarations c.args.unit (named circuit shown) in
    let second = span_text 0 (c.args.horizon + 1) (changes_of waves) in
    let third = time_line_after (latest 0 (span_lines 0 (changes_of waves))) c.args.horizon in
    on_ok_weaker c.write_last_time.result
    (λ last. subst (Appends (held c.args.out.now) (held c.write_last_time.new.out))
    (dump_text-waves c.args.unit c.args.horizon circuit shown waves c.requires.one_wave_each (shown_is g there))
    (Appends-trans _ (held c.write_span.new.out) _ (first ++ second) third
    (Appends-trans _ (held c.write_declarations.new.out) _ first second c.in_ok-write_declarations.ensures.ok
    (subst (Appends (held c.write_declarations.new.out) (held c.write_span.new.out)) step.text c.in_ok-time.ensures.ok))
    (subst (Appends (held c.write_span.new.out) (held c.write_last_time.new.out))
    (λ i. time_line_after ((c.in_ok-time.ensures.last ∙ step.last) i) (c.ticks-horizon.ensures.ticks i)) last)))
    c.write_last_time.ensures.ok

pub returns-clause-err : goal.returns-clause-err
returns-clause-err g c =
    let held = g.W.Write.contents in
    let circuit = c.args.design.now.circuit in
    let shown = c.args.shown.now in
    let waves = c.args.waves.now in
    let there = (goal.at.returns-clause-err g c).After-as_slice in
    let step = step_is g there in
    let first = declarations c.args.unit (named circuit shown) in
    let second = span_text 0 (c.args.horizon + 1) (changes_of waves) in
    let third = time_line_after (latest 0 (span_lines 0 (changes_of waves))) c.args.horizon in
    on_err_weaker c.write_last_time.result
    (λ fault. subst (AppendsPrefix (held c.args.out.now) (held c.write_last_time.new.out))
    (dump_text-waves c.args.unit c.args.horizon circuit shown waves c.requires.one_wave_each (shown_is g there))
    (AppendsPrefix-after _ (held c.write_span.new.out) _ (first ++ second) third
    (Appends-trans _ (held c.write_declarations.new.out) _ first second c.in_ok-write_declarations.ensures.ok
    (subst (Appends (held c.write_declarations.new.out) (held c.write_span.new.out)) step.text c.in_ok-time.ensures.ok))
    (subst (AppendsPrefix (held c.write_span.new.out) (held c.write_last_time.new.out))
    (λ i. time_line_after ((c.in_ok-time.ensures.last ∙ step.last) i) (c.ticks-horizon.ensures.ticks i)) fault)))
    c.write_last_time.ensures.err

pub write_span-requires-clause-places : goal.write_span-requires-clause-places
write_span-requires-clause-places g c =
    let changes = changes_of c.args.waves.now in
    let P : LineView → Type 0 = λ line. line.place < length c.as_slice-codes.result.now in
    let each = EachPlace-span_lines (length c.as_slice-codes.result.now) 0 changes
    (omega (arith, many_is g c, length-map c.args.waves.now (λ (wave : Wave). wave.changes))) in
    All-same P c.as_slice.result.now c.in_ok-lines.lines.items c.as_slice.ensures.value
    (All-permutation P (span_lines 0 changes) c.in_ok-lines.lines.items c.in_ok-lines.ensures.lines.permutation
    (All-from_recursion P (span_lines 0 changes) each))
