use Rattle.std.proofs.Common.{◌≤◌, rules, length, ap, ◌∙◌, subst, arith}
use Rattle.logic3.specs.Wave.{Wave, IsWave}
use Rattle.logic3.proofs.Cuts.{length-filter_le}
use Rattle.logic3.proofs.NextChange.{next_tick-found}
use Rattle.logic3.proofs.Waves.{AllPairs-Alternates}
use Rattle.logic3.proofs.waveform.Waveform.next_change_after.Goals as goal
use Rattle.logic3.proofs.waveform.Waveform.next_change_after.Goals.{After-changes_until-due}

pub changes_until-due-requires : goal.changes_until-due-requires
changes_until-due-requires c =
    rw c.as_slice-changes.ensures (AllPairs-Alternates c.self.inside.before 0 c.self.inside.changes c.self.invariant)

within : (c : After-changes_until-due) → length c.changes_until-due.result.now ≤ length c.as_slice-changes.result.now
within c = rw c.changes_until-due.ensures (length-filter_le _ c.as_slice-changes.result.now)

pub slice_bounds-first-count : goal.slice_bounds-first-count
slice_bounds-first-count c = within (goal.at.slice_bounds-first-count c).After-changes_until-due

pub slice_bounds-first-start : goal.slice_bounds-first-start
slice_bounds-first-start c = omega (arith, within (goal.at.slice_bounds-first-start c).After-changes_until-due)

pub returns-clause-later : goal.returns-clause-later
returns-clause-later c =
    (next_tick-found c.args.self.now c.as_slice-changes.result.now c.changes_until-due.result.now c.args.tick c.map.result
    (subst IsWave c.self.view_is c.self.invariant) (c.as_slice-changes.ensures ∙ ap (λ (w : Wave). w.changes) c.self.view_is)
    c.changes_until-due.ensures (rw (← c.first.ensures.value) (search rules))).later

pub returns-clause-differs : goal.returns-clause-differs
returns-clause-differs c =
    (next_tick-found c.args.self.now c.as_slice-changes.result.now c.changes_until-due.result.now c.args.tick c.map.result
    (subst IsWave c.self.view_is c.self.invariant) (c.as_slice-changes.ensures ∙ ap (λ (w : Wave). w.changes) c.self.view_is)
    c.changes_until-due.ensures (rw (← c.first.ensures.value) (search rules))).differs

pub returns-clause-steady : goal.returns-clause-steady
returns-clause-steady c =
    (next_tick-found c.args.self.now c.as_slice-changes.result.now c.changes_until-due.result.now c.args.tick c.map.result
    (subst IsWave c.self.view_is c.self.invariant) (c.as_slice-changes.ensures ∙ ap (λ (w : Wave). w.changes) c.self.view_is)
    c.changes_until-due.ensures (rw (← c.first.ensures.value) (search rules))).steady
