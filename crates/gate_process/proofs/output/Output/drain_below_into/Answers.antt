use Rattle.std.proofs.Common.{◌≡◌, ◌<◌, ◌++◌, max, length, ap, subst, ◌∙◌}
use Rattle.logic3.specs.Wave.{value_at, changes_below, without_below, changes_between}
use Rattle.logic3.proofs.CallerLemmas.{OnErr_always}
use Rattle.gate_process.specs.Outputs.{OutputView}
use Rattle.gate_process.proofs.Drained.{taken_out, left}
use Rattle.gate_process.proofs.output.Output.drain_below_into.Given.{Over}
use Rattle.gate_process.proofs.output.Output.drain_below_into.Goals as goal
use Rattle.gate_process.proofs.output.Output.drain_below_into.Goals.{After-take_below}

taken : (g : Over) (c : After-take_below g) →
    changes_below c.args.bound (g.W.KeptWave.wave c.self.inside.wave).changes ≡ changes_between (value_at c.args.self.now.known.wave) c.args.self.now.floor c.args.bound
taken g c =
    ap (λ (o : OutputView). changes_below c.args.bound o.known.wave.changes) c.self.view_is
    ∙ taken_out c.args.self.now.known c.args.self.now.floor c.args.bound c.requires.known c.requires.within

pub returns-in_err-take_below-clause-memory : goal.returns-in_err-take_below-clause-memory
returns-in_err-take_below-clause-memory g c =
    let at = (goal.at.returns-in_err-take_below-clause-memory g c).After-take_below in
    OnErr_always _ (subst (λ (cs : _). 0 < length cs) (taken g at) c.in_err-take_below.ensures.memory)

pub returns-clause-changes : goal.returns-clause-changes
returns-clause-changes g c =
    let at = (goal.at.returns-clause-changes g c).After-take_below in
    c.in_ok-take_below.ensures.below ∙ ap (λ cs. c.args.changes.now.items ++ cs) (taken g at)

pub returns-clause-ok : goal.returns-clause-ok
returns-clause-ok g c =
    let wave = c.in_ok-take_below.ensures.rest
    ∙ ap (λ (o : OutputView). without_below c.args.bound o.known.wave) c.self.view_is
    ∙ left c.args.self.now.known c.args.self.now.floor c.args.bound c.requires.known c.requires.within in
    let floor = c.max-self-inside.ensures ∙ ap (λ (o : OutputView). max o.floor c.args.bound) c.self.view_is in
    λ i. record {
      failed = (ap (λ (o : OutputView). o.failed) c.self.view_is) i;
      net = (ap (λ (o : OutputView). o.net) c.self.view_is) i;
      end = (ap (λ (o : OutputView). o.end) c.self.view_is) i;
      floor = floor i;
      known = record { wave = wave i; frontier = (ap (λ (o : OutputView). o.known.frontier) c.self.view_is) i };
    }
