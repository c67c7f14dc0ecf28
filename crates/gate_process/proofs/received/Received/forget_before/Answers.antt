use Rattle.std.proofs.Common.{◌≡◌, ◌≤◌, ◌∙◌, length, take, ap, sym, subst, arith}
use Rattle.logic3.specs.Rising.{TicksRise}
use Rattle.logic3.specs.Wave.{value_in_the_end}
use Rattle.logic3.proofs.CallerLemmas.{IsCut, AllPairs-Alternates, due_below}
use Rattle.gate_process.specs.Knowledge.{Knowledge, IsKnowledge, forgetting}
use Rattle.gate_process.proofs.Early.{early_cut}
use Rattle.gate_process.proofs.Forgets.{forgets, forgotten_is_known}
use Rattle.gate_process.proofs.received.Received.forget_before.Goals as goal

known : goal.After-drop_front → Knowledge
known c = record { wave = record { before = c.self.inside.before; changes = c.self.inside.changes }; frontier = c.self.inside.frontier }

left : goal.After-drop_front → Knowledge
left c = record { wave = record { before = c.last_kept-self-inside.result; changes = c.drop_front.new.self }; frontier = c.self.inside.frontier }

pub kept_below-early-requires : goal.kept_below-early-requires
kept_below-early-requires c =
    subst TicksRise (sym c.as_slice-changes.ensures)
    (AllPairs-Alternates c.self.inside.before 0 c.self.inside.changes c.self.invariant.known.wave)

cut : (c : goal.After-drop_front) → IsCut c.args.tick c.self.inside.changes c.kept_below-early.result
cut c =
    let rise = AllPairs-Alternates c.self.inside.before 0 c.self.inside.changes c.self.invariant.known.wave in
    let count = c.kept_below-early.ensures.count ∙ ap (due_below c.args.tick) c.as_slice-changes.ensures in
    rw count (early_cut c.self.inside.changes c.args.tick rise)

forgot : (c : goal.After-drop_front) → left c ≡ forgetting c.args.tick (known c)
unfolding known left
forgot c =
    let inside : c.kept_below-early.result ≤ length c.self.inside.changes =
    rw c.as_slice-changes.ensures at c.kept_below-early.ensures.within in
    let last = c.last_kept-self-inside.ensures
    ∙ ap (λ cs. value_in_the_end c.self.inside.before (take c.kept_below-early.result cs)) c.as_slice-changes.ensures in
    (λ i. record { wave = record { before = last i; changes = c.drop_front.ensures i }; frontier = c.self.inside.frontier })
    ∙ forgets (known c) c.args.tick c.kept_below-early.result c.self.invariant.known inside (cut c)
    (λ start. ap (λ (k : Knowledge). k.wave.before) c.self.view_is ∙ c.requires start)

pub invariant_of-self : goal.invariant_of-self
unfolding known left
invariant_of-self c = record {
  known = subst IsKnowledge (sym (forgot c)) (forgotten_is_known c.args.tick (known c));
  within = c.self.invariant.within;
}

pub returns : goal.returns
unfolding known left
returns c = forgot c ∙ ap (forgetting c.args.tick) c.self.view_is

-- where no change is before the tick, nothing is forgotten
pub returns-then-early-eq0 : goal.returns-then-early-eq0
returns-then-early-eq0 c =
    let rise = AllPairs-Alternates c.self.inside.before 0 c.self.inside.changes c.self.invariant.known.wave in
    let none = c.if-early-eq0.true in
    let count : 0 ≡ due_below c.args.tick c.self.inside.changes =
    sym none ∙ c.kept_below-early.ensures.count ∙ ap (due_below c.args.tick) c.as_slice-changes.ensures in
    let cut : IsCut c.args.tick c.self.inside.changes 0 =
    subst (IsCut c.args.tick c.self.inside.changes) (sym count) (early_cut c.self.inside.changes c.args.tick rise) in
    sym c.self.view_is
    ∙ forgets (record { wave = record { before = c.self.inside.before; changes = c.self.inside.changes }; frontier = c.self.inside.frontier }) c.args.tick 0
    c.self.invariant.known (omega arith) cut (λ start. ap (λ (k : Knowledge). k.wave.before) c.self.view_is ∙ c.requires start)
    ∙ ap (forgetting c.args.tick) c.self.view_is
