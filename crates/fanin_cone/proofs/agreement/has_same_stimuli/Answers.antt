use Rattle.std.proofs.Common.{◌≡◌, ◌∙◌, ap, rules}
use Rattle.std.specs.Cmp.Lexicographic.{pointwise}
use Rattle.std.proofs.lemmas.Slice.Eq.{slice_eq-Decides}
use Rattle.logic3.specs.Wave.{changes_until, is_same_change}
use Rattle.logic3.proofs.CallerLemmas.{is_same_change-Decides}
use Rattle.fanin_cone.proofs.agreement.has_same_stimuli.Goals as goal

pub returns : goal.returns
returns c =
    let value : c.eq.result ≡ pointwise is_same_change c.changes_until.result.now c.changes_until-2.result.now = search rules in
    let first : c.changes_until.result.now ≡ changes_until c.args.horizon c.args.stimuli.now =
    c.changes_until.ensures ∙ ap (λ end. changes_until end c.args.stimuli.now) c.ticks-end.ensures.ticks in
    let second : c.changes_until-2.result.now ≡ changes_until c.args.horizon c.args.others.now =
    c.changes_until-2.ensures ∙ ap (λ end. changes_until end c.args.others.now) c.ticks-end.ensures.ticks in
    rw (← first, ← second) (slice_eq-Decides is_same_change-Decides c.changes_until.result.now c.changes_until-2.result.now c.eq.result value)
