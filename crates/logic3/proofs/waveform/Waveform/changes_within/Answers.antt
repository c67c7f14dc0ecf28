use Rattle.std.proofs.Common.{◌≡◌, ◌-◌, ◌≤◌, nat_lt, length, take, drop, sym, ap, subst, ◌∙◌, arith}
use Rattle.std.proofs.lemmas.List.{take_rest}
use Rattle.logic3.specs.declared.change.Change.{Change}
use Rattle.logic3.specs.Rising.{TicksRise}
use Rattle.logic3.specs.Wave.{Wave, changes_below, changes_from}
use Rattle.logic3.proofs.Cuts.{Alternates-cut, length-filter_le, rest_from}
use Rattle.logic3.proofs.Waves.{AllPairs-Alternates}
use Rattle.logic3.proofs.waveform.Waveform.changes_within.Goals as goal
use Rattle.logic3.proofs.waveform.Waveform.changes_within.Goals.{After-changes_below-early}

pub changes_below-early-requires : goal.changes_below-early-requires
changes_below-early-requires c =
    rw c.as_slice-changes.ensures (AllPairs-Alternates c.self.inside.before 0 c.self.inside.changes c.self.invariant)

within : (c : After-changes_below-early) → length c.changes_below-early.result.now ≤ length c.as_slice-changes.result.now
within c =
    rw c.changes_below-early.ensures (length-filter_le (λ (change : Change). nat_lt change.tick c.args.from) c.as_slice-changes.result.now)

-- what is left are the changes from the first tick on
rest_is : (c : After-changes_below-early) →
    take (length c.as_slice-changes.result.now - length c.changes_below-early.result.now) (drop (length c.changes_below-early.result.now) c.as_slice-changes.result.now)
    ≡ drop (length c.changes_below-early.result.now) c.self.inside.changes
rest_is c =
    take_rest c.as_slice-changes.result.now (length c.changes_below-early.result.now)
    ∙ ap (drop (length c.changes_below-early.result.now)) c.as_slice-changes.ensures

pub slice_bounds-changes_below-count : goal.slice_bounds-changes_below-count
slice_bounds-changes_below-count c = within (goal.at.slice_bounds-changes_below-count c).After-changes_below-early

pub slice_bounds-changes_below-start : goal.slice_bounds-changes_below-start
slice_bounds-changes_below-start c = omega (arith, within (goal.at.slice_bounds-changes_below-start c).After-changes_below-early)

pub changes_below-requires : goal.changes_below-requires
changes_below-requires c =
    let at = (goal.at.changes_below-requires c).After-changes_below-early in
    let inside : length c.changes_below-early.result.now ≤ length c.self.inside.changes =
    subst (λ changes. length c.changes_below-early.result.now ≤ length changes) c.as_slice-changes.ensures (within at) in
    subst TicksRise (sym (rest_is at))
    (AllPairs-Alternates _ 0 _
    (Alternates-cut c.self.inside.before 0 c.self.inside.changes (length c.changes_below-early.result.now) c.self.invariant inside))

pub returns : goal.returns
returns c =
    let at = (goal.at.returns c).After-changes_below-early in
    let early = ap length (c.changes_below-early.ensures ∙ ap (changes_below c.args.from) c.as_slice-changes.ensures) in
    c.changes_below.ensures
    ∙ ap (changes_below c.args.to)
    (rest_is at ∙ ap (λ count. drop count c.self.inside.changes) early
    ∙ rest_from c.self.inside.before 0 c.args.from c.self.inside.changes c.self.invariant
    ∙ ap (λ (w : Wave). changes_from c.args.from w.changes) c.self.view_is)
