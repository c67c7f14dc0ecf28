use Rattle.std.proofs.Common.{◌≡◌, ◌∙◌, ℕ, ◌+◌, ◌<◌, ◌≤◌, All, List, Bool, true, false, [], ◌∷◌, Result, Ok, Err, refl, sym, ap, subst, arith}
use Rattle.std.specs.List.{AllByRecursion}
use Rattle.std.proofs.lemmas.List.Elements.{All-from_recursion, All-weaker}
use Rattle.logic3.specs.declared.change.Change.{Change}
use Rattle.vcd_dump.specs.declared.fault.DumpFault.{DumpFault}
use Rattle.vcd_dump.specs.declared.fault.DumpFault.TheVariants.{Failed}
use Rattle.vcd_dump.specs.Spans.{StreamView, IsPart, CanSpan, with_part, with_parts}
use Rattle.vcd_dump.proofs.CallerLemmas.{with_parts-none, with_parts-more, with_parts-can}
use Rattle.engine_tests.proofs.streams.write_both.Goals as goal

-- a stream that was given both parts
given_both : (stream one two : StreamView) (first second : List Change) → stream.failed ≡ false → stream.given ≡ 0 → stream.lines ≡ [] →
    one ≡ with_part stream first → two ≡ with_part one second → two ≡ with_parts stream (first ∷ second ∷ [])
given_both stream one two first second runs none empty is then =
    let start = with_parts-none stream none empty in
    then ∙ ap (λ s. with_part s second) (is ∙ ap (λ s. with_part s first) (sym start) ∙ with_parts-more stream [] first runs)
    ∙ with_parts-more stream (first ∷ []) second runs

-- where an answer is no fault the stream had not failed
had_not_failed : {A : Type 0} (failed : Bool) (answer : Result A DumpFault) (done : A) → answer ≡ Ok done → (failed ≡ true → answer ≡ Err Failed) →
    failed ≡ false
had_not_failed true answer done is stops = let fault = stops refl in absurd (cc)
had_not_failed false answer done is stops = refl

-- changes of a span are no later than a horizon behind it
within : (from upto horizon : ℕ) (part : List Change) → IsPart from upto part → upto ≤ horizon + 1 → All (λ (change : Change). change.tick ≤ horizon) part
within from upto horizon part is near =
    All-weaker (λ (change : Change). change.tick < upto) (λ (change : Change). change.tick ≤ horizon) (λ change early. omega (arith, early, near)) part is.high

pub part-requires-clause-within : goal.part-requires-clause-within
part-requires-clause-within g c = λ runs.
    within c.args.stream.now.written c.args.upto c.args.stream.now.horizon c.args.first.now c.requires.first (c.requires.within runs)

pub part-requires-2-clause-within : goal.part-requires-2-clause-within
part-requires-2-clause-within g c = λ _.
    let stream = c.args.stream.now in
    let runs = had_not_failed stream.failed c.part.result _ c.in_ok-part.was c.part.ensures.failed in
    let horizon = ap (λ (s : StreamView). s.horizon) c.in_ok-part.ensures.stream in
    within stream.written c.args.upto c.part.new.self.horizon c.args.second.now c.requires.second (omega (arith, c.requires.within runs, horizon))

pub write_parts-requires : goal.write_parts-requires
write_parts-requires g c = λ _.
    let stream = c.args.stream.now in
    let parts = c.args.first.now ∷ c.args.second.now ∷ [] in
    let runs = had_not_failed stream.failed c.part.result _ c.in_ok-part.was c.part.ensures.failed in
    let shows = c.requires.shows runs in
    let each : AllByRecursion (IsPart stream.written c.args.upto) parts = (c.requires.first, (c.requires.second, tt)) in
    subst (λ (s : StreamView). CanSpan s c.args.upto)
    (sym (given_both stream c.part.new.self c.part-2.new.self c.args.first.now c.args.second.now runs (c.requires.none_given runs) (c.requires.no_lines runs)
    c.in_ok-part.ensures.stream c.in_ok-part-2.ensures.stream))
    (with_parts-can stream c.args.upto parts c.requires.ahead (c.requires.within runs) (omega (arith, shows))
    (All-from_recursion (IsPart stream.written c.args.upto) parts each))
