use Rattle.std.proofs.Common.{◌≡◌, ◌<◌, [], ◌∷◌, get_or, All, Some, ap, sym, subst, ◌∙◌, arith}
use Rattle.logic3.specs.declared.change.Change.{Change}
use Rattle.logic3.specs.Wave.{Wave, joined, last_value}
use Rattle.cmb_channels.specs.Packed.{change_said}
use Rattle.gate_process.proofs.Added.{can_push, added_change, added_nothing}
use Rattle.gate_process.proofs.kept_wave.WaveformKeptWave.add.Goals as goal
use Rattle.gate_process.proofs.kept_wave.WaveformKeptWave.add.Goals.{After-change-in-Some, in-Some+in_ok-push, in_default}

-- what the message tells of
tells : (c : After-change-in-Some) →
    change_said (get_or c.args.news.now c.loop-message.message-index c.message-item.result) ≡ Some c.change-in-Some.result
tells c =
    ap change_said (sym c.message-item.is) ∙ sym c.change.ensures ∙ c.in-Some.is ∙ ap (λ change. Some change) (sym c.change-in-Some.ensures)

pub push-requires-clause-later : goal.push-requires-clause-later
push-requires-clause-later c =
    let told = tells (goal.at.push-requires-clause-later c).After-change-in-Some in
    subst (λ (wave : Wave). All (λ (earlier : Change). earlier.tick < c.change-in-Some.result.tick) wave.changes) (sym c.loop-message.invariant)
    (can_push c.args.self.now c.args.news.now c.loop-message.message-index c.message-item.result c.change-in-Some.result
    (omega (arith, c.loop-message-test.true)) told c.requires).0

pub push-requires-clause-differs : goal.push-requires-clause-differs
push-requires-clause-differs c =
    let told = tells (goal.at.push-requires-clause-differs c).After-change-in-Some in
    subst (λ (wave : Wave). c.change-in-Some.result.value ≡ last_value wave → ⊥) (sym c.loop-message.invariant)
    (can_push c.args.self.now c.args.news.now c.loop-message.message-index c.message-item.result c.change-in-Some.result
    (omega (arith, c.loop-message-test.true)) told c.requires).1

pub loop-message-preserved : goal.loop-message-preserved
loop-message-preserved c =
    let wave = c.args.self.now in
    let news = c.args.news.now in
    let at = c.loop-message.message-index in
    elim c.match-change.branch [
      | in-Some+in_ok-push w ↦
          let told = ap change_said (sym c.message-item.is) ∙ sym c.change.ensures ∙ w.in-Some.is
          ∙ ap (λ change. Some change) (sym w.change-in-Some.ensures) in
          w.self-is ∙ w.in_ok-push.ensures.ok
          ∙ ap (λ (now : Wave). joined now (w.change-in-Some.result ∷ [])) c.loop-message.invariant
          ∙ ap (λ cs. record { before = wave.before; changes = cs })
          (added_change wave.changes news at c.message-item.result w.change-in-Some.result (omega (arith, c.loop-message-test.true)) told)
      | in_default w ↦
          let none = ap change_said (sym c.message-item.is) ∙ sym c.change.ensures ∙ w.in_default.is in
          w.self-is ∙ c.loop-message.invariant
          ∙ ap (λ cs. record { before = wave.before; changes = cs })
          (added_nothing wave.changes news at c.message-item.result (omega (arith, c.loop-message-test.true)) none)
    ]
