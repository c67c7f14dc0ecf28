use Rattle.std.proofs.Common.{◌≡◌, ◌≢◌, ◌<◌, Err, false, length, All, ap, sym, subst, ◌∙◌, arith, ⊎_elim}
use Rattle.std.specs.Io.KnownBytes.{Appends}
use Rattle.std.proofs.lemmas.List.{length-map}
use Rattle.std.proofs.lemmas.List.Elements.{All-contains}
use Rattle.std.proofs.lemmas.Result.{err_from_is_err_and}
use Rattle.design.specs.Equations.{value_of}
use Rattle.cmb_kernel.specs.State.{KernelView, floor_at}
use Rattle.vcd_dump.specs.declared.fault.DumpFault.TheVariants.{Failed}
use Rattle.texts.specs.Written.{AppendsPrefix}
use Rattle.vcd_dump.specs.Spans.{StreamView, CanSpan, lines_text, parts_of, span_text, spanned, stream_at, with_parts}
use Rattle.vcd_dump.proofs.CallerLemmas.{stream_at-can, stream_at-spanned, with_parts-none}
use Rattle.kernel_runs.specs.Drained.{values_of}
use Rattle.kernel_runs.proofs.Drains.{DrainsTo-trans, least_same}
use Rattle.prepared_runs.proofs.CallerLemmas.{BreaksOff-dump}
use Rattle.kernel_runs.proofs.Others.{IsRest-below, among_or_rest}
use Rattle.kernel_runs.proofs.Streamed.{parts_are}
use Rattle.kernel_runs.proofs.streaming.write_known.Given.{Over}
use Rattle.kernel_runs.proofs.streaming.write_known.Goals as goal
use Rattle.kernel_runs.proofs.streaming.write_known.Goals.{In_ok-give_parts}

pub give_parts-requires-clause-floors : goal.give_parts-requires-clause-floors
give_parts-requires-clause-floors g c = λ net below. omega (arith, c.requires.floors net below, c.requires.ahead)

pub give_parts-requires-clause-streams : goal.give_parts-requires-clause-streams
give_parts-requires-clause-streams g c = ap (λ (s : StreamView). s.failed) c.requires.stream

pub give_parts-requires-clause-each : goal.give_parts-requires-clause-each
give_parts-requires-clause-each g c =
    sym (ap (λ (s : StreamView). s.nets) c.requires.stream
    ∙ length-map c.args.nets.now (value_of c.args.kernel.now.circuit))

pub give_parts-requires-clause-none_yet : goal.give_parts-requires-clause-none_yet
give_parts-requires-clause-none_yet g c =
    with_parts-none c.args.stream.now (ap (λ (s : StreamView). s.given) c.requires.stream) (ap (λ (s : StreamView). s.lines) c.requires.stream)

-- the stream was given the changes since it was written
given_is : (g : Over) (c : In_ok-give_parts g) → c.give_parts.new.stream
    ≡ with_parts (stream_at (values_of c.args.kernel.now.circuit c.args.nets.now) c.args.stream.now.horizon c.args.stream.now.written)
    (parts_of (values_of c.args.kernel.now.circuit c.args.nets.now) c.args.stream.now.written c.args.known)
given_is g c =
    let parts = parts_are c.args.kernel.now c.args.stream.now.written c.args.known c.requires.floors c.args.nets.now c.requires.nets in
    c.in_ok-give_parts.ensures.stream ∙ (λ i. with_parts (c.requires.stream i) (parts i))

pub forget_below-requires-clause-nets : goal.forget_below-requires-clause-nets
forget_below-requires-clause-nets g c =
    subst (λ circuit. All (λ net. net < length circuit) c.args.hidden.now) (sym (ap (λ (k : KernelView). k.circuit) c.in_ok-give_parts.ensures.drains.run))
    (IsRest-below (length c.args.kernel.now.circuit) c.args.nets.now c.args.hidden.now c.requires.hidden)

pub forget_below-requires-clause-known : goal.forget_below-requires-clause-known
forget_below-requires-clause-known g c =
    omega (arith, c.requires.known, least_same c.args.kernel.now c.give_parts.new.kernel c.in_ok-give_parts.ensures.drains)

pub write_parts-requires : goal.write_parts-requires
write_parts-requires g c = λ running.
    let values = values_of c.args.kernel.now.circuit c.args.nets.now in
    let newer : c.args.stream.now.written < c.args.known = omega (arith, c.requires.ahead, c.written.ensures, c.if-written-known.false) in
    subst (λ (s : StreamView). CanSpan s c.args.known) (sym (given_is g (goal.at.write_parts-requires g c).In_ok-give_parts))
    (stream_at-can values c.args.stream.now.horizon c.args.stream.now.written c.args.known newer c.requires.end)

text_is : (g : Over) (c : In_ok-give_parts g) →
    lines_text c.give_parts.new.stream.written c.args.known c.give_parts.new.stream.lines
    ≡ span_text c.args.stream.now.written c.args.known
    (parts_of (values_of c.args.kernel.now.circuit c.args.nets.now) c.args.stream.now.written c.args.known)
text_is g c = ap (λ (s : StreamView). lines_text s.written c.args.known s.lines) (given_is g c)

pub returns-in_err-write_parts-clause-err : goal.returns-in_err-write_parts-clause-err
returns-in_err-write_parts-clause-err g c =
    let p = err_from_is_err_and c.from_residual-in_err-write_parts.result c.from_residual-in_err-write_parts.ensures.1 in
    let given = given_is g (goal.at.returns-in_err-write_parts-clause-err g c).In_ok-give_parts in
    let fresh : c.give_parts.new.stream.failed ≡ false = ap (λ (s : StreamView). s.failed) given in
    let first : c.in_err-write_parts.field-0.0 ≢ Failed = λ same. let fact = c.in_err-write_parts.ensures.only (ap Err same) in (cc) in
    rw (p.1, p.2)
    (BreaksOff-dump _ _ _ _ first (subst (AppendsPrefix _ _) (text_is g (goal.at.returns-in_err-write_parts-clause-err g c).In_ok-give_parts) c.in_err-write_parts.ensures.err))

pub returns-clause-drains : goal.returns-clause-drains
returns-clause-drains g c =
    DrainsTo-trans c.args.kernel.now c.give_parts.new.kernel c.forget_below.new.kernel c.in_ok-give_parts.ensures.drains c.in_ok-forget_below.ensures.drains

pub returns-clause-floors : goal.returns-clause-floors
returns-clause-floors g c = λ net below.
    let circuit = ap (λ (k : KernelView). length k.circuit) c.in_ok-forget_below.ensures.drains.run
    ∙ ap (λ (k : KernelView). length k.circuit) c.in_ok-give_parts.ensures.drains.run in
    ⊎_elim
    (λ shown. c.in_ok-forget_below.ensures.stays net
    (All-contains (λ n. floor_at c.give_parts.new.kernel.state n ≡ c.args.known) c.args.nets.now net c.in_ok-give_parts.ensures.drained shown))
    (λ hidden. All-contains (λ n. floor_at c.forget_below.new.kernel.state n ≡ c.args.known) c.args.hidden.now net c.in_ok-forget_below.ensures.drained hidden)
    (among_or_rest (length c.args.kernel.now.circuit) c.args.nets.now c.args.hidden.now c.requires.hidden net (omega (arith, below, circuit)))

pub returns-clause-stream : goal.returns-clause-stream
returns-clause-stream g c =
    let values = values_of c.args.kernel.now.circuit c.args.nets.now in
    c.in_ok-write_parts.ensures.stream ∙ ap (λ s. spanned s c.args.known) (given_is g (goal.at.returns-clause-stream g c).In_ok-give_parts)
    ∙ stream_at-spanned values c.args.stream.now.horizon c.args.stream.now.written c.args.known c.requires.ahead

pub returns-clause-ok : goal.returns-clause-ok
returns-clause-ok g c = subst (Appends _ _) (text_is g (goal.at.returns-clause-ok g c).In_ok-give_parts) c.in_ok-write_parts.ensures.ok
