use Rattle.std.proofs.Common.{◌≡◌, ◌≤◌, ◌++◌, ◌-◌, ◌∙◌, ◌∷◌, [], ℕ, refl, ap, subst, List, take, drop, length, take-append-drop, append_assoc, arith}
use Rattle.std.proofs.lemmas.List.{take_rest}
use Rattle.std.proofs.lemmas.Result.{on_ok_weaker, on_err_weaker, IfOk-weaker}
use Rattle.logic3.proofs.CallerLemmas.{OnErr_always}
use Rattle.texts.specs.Written.{AppendsPrefix, GoesOut}
use Rattle.texts.proofs.CallerLemmas.{AppendsPrefix-longer, GoesOut-next, GoesOut-behind, GoesOut-broken}
use Rattle.vcd_dump.specs.Lines.{LineView}
use Rattle.vcd_dump.specs.Spans.{zero_text}
use Rattle.vcd_dump.specs.Written.{written_text, last_tick, written_span}
use Rattle.vcd_dump.proofs.writer.write_in_order.Goals as goal

-- the lines behind the values
later : ℕ → ℕ → List LineView → List ℕ
later nets time lines = written_text (last_tick time (take nets lines)) (drop nets lines)

-- a span from tick 0 on: its values, and the lines behind them
in_two : (before : List ℕ) (nets from time : ℕ) (lines : List LineView) → from ≤ 0 →
    (before ++ zero_text (written_text time (take nets lines))) ++ later nets time lines ≡ before ++ written_span nets from time lines
unfolding later
in_two before nets from time lines zero =
    let none : from ≡ 0 = omega arith in
    rw none (append_assoc before (zero_text (written_text time (take nets lines)))
    (written_text (last_tick time (take nets lines)) (drop nets lines)))

-- what is written behind the values
later_is : (waiting : List ℕ) (nets time after : ℕ) (lines : List LineView) → after ≡ last_tick time (take nets lines) →
    waiting ++ written_text after (take (length lines - nets) (drop nets lines)) ≡ waiting ++ later nets time lines
unfolding later
later_is waiting nets time after lines is = λ i. waiting ++ written_text (is i) (take_rest lines nets i)

last_tick-append : (time : ℕ) (xs ys : List LineView) → last_tick (last_tick time xs) ys ≡ last_tick time (xs ++ ys)
last_tick-append time [] ys = refl
last_tick-append time (x ∷ xs) ys = last_tick-append x.tick xs ys

-- the last of the lines behind the values
last_is : (nets time after : ℕ) (lines : List LineView) → after ≡ last_tick time (take nets lines) →
    last_tick after (take (length lines - nets) (drop nets lines)) ≡ last_tick time lines
last_is nets time after lines is =
    (λ i. last_tick (is i) (take_rest lines nets i))
    ∙ last_tick-append time (take nets lines) (drop nets lines)
    ∙ ap (last_tick time) (take-append-drop nets lines)

pub returns-in_err-time-clause-err : goal.returns-in_err-time-clause-err
returns-in_err-time-clause-err g c =
    let held = g.W.Write.contents in
    let lines = c.args.lines.now in
    OnErr_always c.from_residual.result
    (subst (AppendsPrefix (held c.args.out.now) (held c.write_values.new.out))
    (in_two c.args.text.now.items (length c.args.codes.now) c.args.from c.args.time lines c.if-from-gt0.false)
    (AppendsPrefix-longer _ _ _ (later (length c.args.codes.now) c.args.time lines) c.in_err-time.ensures.err))

pub returns-clause-last : goal.returns-clause-last
returns-clause-last g c =
    let lines = c.args.lines.now in
    IfOk-weaker c.write_lines-2.result _ _
    (λ last h. h ∙ last_is (length c.args.codes.now) c.args.time c.in_ok-time.time lines c.in_ok-time.ensures.last)
    c.write_lines-2.ensures.last

pub returns-clause-ok : goal.returns-clause-ok
returns-clause-ok g c =
    let held = g.W.Write.contents in
    let lines = c.args.lines.now in
    let rest = later (length c.args.codes.now) c.args.time lines in
    let waiting = c.write_values.new.text.items in
    on_ok_weaker c.write_lines-2.result
    (λ h. let more = subst (λ text. GoesOut (held c.write_values.new.out) (held c.write_lines-2.new.out) text c.write_lines-2.new.text.items)
    (later_is waiting (length c.args.codes.now) c.args.time c.in_ok-time.time lines c.in_ok-time.ensures.last) h in
    subst (λ text. GoesOut (held c.args.out.now) (held c.write_lines-2.new.out) text c.write_lines-2.new.text.items)
    (in_two c.args.text.now.items (length c.args.codes.now) c.args.from c.args.time lines c.if-from-gt0.false)
    (GoesOut-next _ (held c.write_values.new.out) _ _ (waiting ++ rest) _ (GoesOut-behind _ _ _ waiting rest c.in_ok-time.ensures.ok) more))
    c.write_lines-2.ensures.ok

pub returns-clause-err : goal.returns-clause-err
returns-clause-err g c =
    let held = g.W.Write.contents in
    let lines = c.args.lines.now in
    let rest = later (length c.args.codes.now) c.args.time lines in
    let waiting = c.write_values.new.text.items in
    on_err_weaker c.write_lines-2.result
    (λ h. let fault = subst (AppendsPrefix (held c.write_values.new.out) (held c.write_lines-2.new.out))
    (later_is waiting (length c.args.codes.now) c.args.time c.in_ok-time.time lines c.in_ok-time.ensures.last) h in
    subst (AppendsPrefix (held c.args.out.now) (held c.write_lines-2.new.out))
    (in_two c.args.text.now.items (length c.args.codes.now) c.args.from c.args.time lines c.if-from-gt0.false)
    (GoesOut-broken _ (held c.write_values.new.out) _ _ (waiting ++ rest) (GoesOut-behind _ _ _ waiting rest c.in_ok-time.ensures.ok) fault))
    c.write_lines-2.ensures.err
