use Rattle.std.proofs.Common.{◌≡◌, ℕ, ◌+◌, ◌<◌, List, ◌∷◌, ◌++◌, ◌∙◌, drop, length, get_or, subst, sym, ap, arith, append_assoc}
use Rattle.std.proofs.lemmas.List.{drop_more}
use Rattle.std.proofs.lemmas.List.Elements.{All-get_or}
use Rattle.logic3.specs.declared.value.Value.{Value}
use Rattle.logic3.proofs.CallerLemmas.{OnErr_always}
use Rattle.vcd_dump.specs.Codes.{code_at, AreCodes}
use Rattle.vcd_dump.specs.Dump.{change_text, time_line_after}
use Rattle.vcd_dump.specs.Lines.{LineView}
use Rattle.vcd_dump.specs.Spans.{line_text}
use Rattle.texts.specs.Written.{GoesOut}
use Rattle.texts.proofs.CallerLemmas.{GoesOut-then, GoesOut-stopped, GoesOut-fault}
use Rattle.vcd_dump.specs.Written.{written_text, last_tick}
use Rattle.vcd_dump.proofs.writer.write_lines.Given.{Over}
use Rattle.vcd_dump.proofs.writer.write_lines.Goals as goal
use Rattle.vcd_dump.proofs.writer.write_lines.Goals.{In_ok-push_change}

-- the line that the loop reads, before those to come
next_line : (lines : List LineView) (index : ℕ) (line : LineView) → index < length lines → line ≡ get_or lines index line →
    drop index lines ≡ line ∷ drop (index + 1) lines
next_line lines index line within is = drop_more lines index line within ∙ ap (λ l. l ∷ drop (index + 1) lines) (sym is)

-- its text
text_is : (codes : List (List ℕ)) (line : LineView) (place : ℕ) (value : Value) (code : List ℕ) → AreCodes codes → line.place < length codes →
    place ≡ line.place → value ≡ line.value → code ≡ get_or codes place code → change_text value code ≡ line_text line
text_is codes line place value code known within here shows is =
    let found : code ≡ code_at line.place = is ∙ ap (λ p. get_or codes p code) here ∙ known line.place code within in
    λ i. change_text (shows i) (found i)

-- a line that was pushed, behind the time of its tick
pushed : (before index tick : ℕ) (line : LineView) (lines : List LineView) (waiting with_time piece text : List ℕ) →
    drop index lines ≡ line ∷ drop (index + 1) lines → tick ≡ line.tick → text ≡ line_text line →
    with_time ≡ waiting ++ time_line_after before tick → piece ≡ with_time ++ text →
    waiting ++ written_text before (drop index lines) ≡ piece ++ written_text tick (drop (index + 1) lines)
pushed before index tick line lines waiting with_time piece text next told says p q =
    let rest = drop (index + 1) lines in
    ap (λ ls. waiting ++ written_text before ls) next
    ∙ (λ i. waiting ++ (time_line_after before (sym told i) ++ sym says i ++ written_text (sym told i) rest))
    ∙ regroup waiting (time_line_after before tick) text (written_text tick rest)
    ∙ ap (λ xs. (xs ++ text) ++ written_text tick rest) (sym p)
    ∙ ap (λ xs. xs ++ written_text tick rest) (sym q)
  where
    regroup : (a b c d : List ℕ) → a ++ (b ++ c ++ d) ≡ ((a ++ b) ++ c) ++ d
    regroup a b c d = simp append_assoc

next_is : (g : Over) (c : In_ok-push_change g) → drop c.loop-line.line-index c.args.lines.now ≡ c.line-item.result ∷ drop (c.loop-line.line-index + 1) c.args.lines.now
next_is g c = next_line c.args.lines.now c.loop-line.line-index c.line-item.result (omega arith) c.line-item.is

pushed_is : (g : Over) (c : In_ok-push_change g) →
    c.loop-line.text.items ++ written_text c.loop-line.before (drop c.loop-line.line-index c.args.lines.now)
    ≡ c.push_change.new.line.items ++ written_text c.tick-tick.result (drop (c.loop-line.line-index + 1) c.args.lines.now)
pushed_is g c =
    let line = c.line-item.result in
    let within : line.place < length c.args.codes.now =
    subst (λ (l : LineView). l.place < length c.args.codes.now) (sym c.line-item.is)
    (All-get_or (λ (l : LineView). l.place < length c.args.codes.now) c.args.lines.now c.loop-line.line-index line (omega arith) c.requires.places) in
    let text = text_is c.args.codes.now line _ _ _ c.requires.codes within c.place.ensures c.value.ensures c.index-codes-place.is in
    pushed c.loop-line.before c.loop-line.line-index c.tick-tick.result line c.args.lines.now c.loop-line.text.items
    c.push_time_after.new.line.items c.push_change.new.line.items _ (next_is g c) c.tick-tick.ensures text
    c.in_ok-push_time_after.ensures c.in_ok-push_change.ensures

pub returns-in_err-push_time_after-clause-err : goal.returns-in_err-push_time_after-clause-err
returns-in_err-push_time_after-clause-err g c =
    OnErr_always c.from_residual.result (GoesOut-stopped _ _ _ _ c.loop-line.invariant.text)

pub returns-in_err-push_change-clause-err : goal.returns-in_err-push_change-clause-err
returns-in_err-push_change-clause-err g c =
    OnErr_always c.from_residual-in_err-push_change.result (GoesOut-stopped _ _ _ _ c.loop-line.invariant.text)

pub returns-in_err-send_long-clause-err : goal.returns-in_err-send_long-clause-err
returns-in_err-send_long-clause-err g c =
    let held = g.W.Write.contents in
    let rest = written_text c.tick-tick.result (drop (c.loop-line.line-index + 1) c.args.lines.now) in
    let is = pushed_is g (goal.at.returns-in_err-send_long-clause-err g c).In_ok-push_change in
    OnErr_always c.from_residual-in_err-send_long.result
    (GoesOut-fault (held c.args.out.now) (held c.loop-line.out) (held c.send_long.new.out) _ c.push_change.new.line.items rest
    (subst (GoesOut _ _ _) is c.loop-line.invariant.text) c.in_err-send_long.ensures.err)

pub loop-line-preserved : goal.loop-line-preserved
loop-line-preserved g c =
    let held = g.W.Write.contents in
    let rest = drop (c.loop-line.line-index + 1) c.args.lines.now in
    let there = (goal.at.loop-line-preserved g c).In_ok-push_change in
    record {
      last = ap (λ tick. last_tick tick rest) c.tick-tick.ensures ∙ sym (ap (last_tick c.loop-line.before) (next_is g there)) ∙ c.loop-line.invariant.last;
      text = GoesOut-then (held c.args.out.now) (held c.loop-line.out) (held c.send_long.new.out) _ c.push_change.new.line.items c.send_long.new.text.items
          (written_text c.tick-tick.result rest) (subst (GoesOut _ _ _) (pushed_is g there) c.loop-line.invariant.text) c.in_ok-send_long.ensures.ok;
    }
