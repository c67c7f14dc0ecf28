use Rattle.std.proofs.Common.{◌≡◌, ◌+◌, ◌-◌, ◌∙◌, All, List, ap, arith, flat_map, filter, map, refl, subst, sym}
use Rattle.std.specs.List.{range_with_len}
use Rattle.std.proofs.lemmas.List.Elements.{All-filter, All-weaker}
use Rattle.drawn_stimuli.specs.declared.input.InputNet.{InputNet}
use Rattle.drawn_stimuli.specs.Signals.{IsDrive}
use Rattle.drawn_stimuli.specs.Inputs.{IsInputNet, seen_input}
use Rattle.drawn_stimuli.specs.StimulusText.{tick_text}
use Rattle.drawn_stimuli.specs.Ticks.{next_tick}
use Rattle.drawn_stimuli.proofs.Quiet.{all_lines, input_moves, later_tick, more_lines, too_long}
use Rattle.drawn_stimuli.proofs.TextLines.{lines_text-ticks}
use Rattle.drawn_stimuli.proofs.text.lines_text.Goals as goal
use Rattle.drawn_stimuli.proofs.text.lines_text.Goals.{After-next_tick-tick}

pub returns-then-len-gt-LONGEST_TEXT-clause-exact : goal.returns-then-len-gt-LONGEST_TEXT-clause-exact
returns-then-len-gt-LONGEST_TEXT-clause-exact c = λ _.
    let every = c.args.rounds.draws.every in
    let next = next_tick every (filter input_moves c.args.inputs.now) c.loop-tick.tick in
    let lines = tick_text c.args.rounds (map (seen_input c.args.netlist.now) c.args.inputs.now) in
    let whole = more_lines c.args.netlist.now c.args.rounds c.args.inputs.now c.loop-tick.tick (c.args.horizon + 1) c.requires.rounds c.requires.inputs
    (omega (arith, c.loop-tick-test.true)) (omega (arith, c.loop-tick-test.true, c.requires.horizon)) next refl
    _ _ _ c.in_ok-push_due.ensures (c.loop-tick.invariant.0 ∙ lines_text-ticks c.args.rounds (map (seen_input c.args.netlist.now) c.args.inputs.now) c.args.horizon) in
    sym (too_long c.push_due.new.text.items (flat_map lines (range_with_len next (c.args.horizon + 1 - next))) _ whole
    (omega (arith, c.if-len-gt-LONGEST_TEXT.true, c.len.ensures)))

pub next_tick-tick-requires-clause-drives : goal.next_tick-tick-requires-clause-drives
next_tick-tick-requires-clause-drives c =
    subst (λ (moving : List InputNet). All (λ (input : InputNet). All IsDrive input.drives.now) moving)
    (sym (c.as_slice-in-loop-tick.ensures.value ∙ c.in_ok-moving.ensures))
    (All-filter input_moves (λ (input : InputNet). All IsDrive input.drives.now) c.args.inputs.now
    (All-weaker (IsInputNet c.args.netlist.now) (λ (input : InputNet). All IsDrive input.drives.now) (λ input sound. sound.drives) c.args.inputs.now c.requires.inputs))

-- the tick that comes next
next_is : (c : After-next_tick-tick) → c.next_tick-tick.result ≡ next_tick c.args.rounds.draws.every (filter input_moves c.args.inputs.now) c.loop-tick.tick
next_is c =
    c.next_tick-tick.ensures
    ∙ ap (λ moving. next_tick c.args.rounds.draws.every moving c.loop-tick.tick) (c.as_slice-in-loop-tick.ensures.value ∙ c.in_ok-moving.ensures)

pub loop-tick-smaller : goal.loop-tick-smaller
loop-tick-smaller c =
    let later = later_tick c.args.rounds.draws.every (filter input_moves c.args.inputs.now) c.loop-tick.tick c.requires.rounds.apart
    (All-filter input_moves (λ (input : InputNet). All IsDrive input.drives.now) c.args.inputs.now
    (All-weaker (IsInputNet c.args.netlist.now) (λ (input : InputNet). All IsDrive input.drives.now) (λ input sound. sound.drives) c.args.inputs.now c.requires.inputs))
    (omega (arith, c.loop-tick-test.true, c.requires.horizon)) in
    omega (arith, later, next_is c, c.loop-tick-test.true)

pub loop-tick-preserved : goal.loop-tick-preserved
loop-tick-preserved c = (
  more_lines c.args.netlist.now c.args.rounds c.args.inputs.now c.loop-tick.tick (c.args.horizon + 1) c.requires.rounds c.requires.inputs
      (omega (arith, c.loop-tick-test.true)) (omega (arith, c.loop-tick-test.true, c.requires.horizon)) c.next_tick-tick.result (next_is c)
      _ _ _ c.in_ok-push_due.ensures c.loop-tick.invariant.0,
  omega (arith, c.if-len-gt-LONGEST_TEXT.false, c.len.ensures),
)

pub returns-clause-exact : goal.returns-clause-exact
returns-clause-exact c = λ _.
    let inputs = map (seen_input c.args.netlist.now) c.args.inputs.now in
    all_lines (tick_text c.args.rounds inputs) c.loop-tick.tick (c.args.horizon + 1) c.loop-tick.text.items _ (omega (arith, c.loop-tick-test.false))
    (c.loop-tick.invariant.0 ∙ lines_text-ticks c.args.rounds inputs c.args.horizon) c.loop-tick.invariant.1
