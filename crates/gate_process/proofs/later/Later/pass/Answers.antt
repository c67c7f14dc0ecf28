use Rattle.std.proofs.Common.{◌≡◌, List, take, drop, ap, sym, ◌∙◌}
use Rattle.logic3.specs.declared.change.Change.{Change}
use Rattle.logic3.specs.Wave.{value_in_the_end}
use Rattle.gate_process.specs.Knowledge.{delayed_changes}
use Rattle.gate_process.specs.LaterChanges.{changes_of, due_by}
use Rattle.gate_process.proofs.later.Later.pass.Goals as goal

pub returns-in-Stimuli-clause-value : goal.returns-in-Stimuli-clause-value
returns-in-Stimuli-clause-value c =
    let changes = c.in-Stimuli.changes.now in
    let all : changes ≡ c.args.self.now = sym (ap changes_of c.in-Stimuli.is) ∙ c.self.view_is in
    c.last_value.ensures
    ∙ ap (value_in_the_end c.args.before) (c.split_at.ensures.front ∙ ap (λ count. take count changes) c.due_changes.ensures.count)
    ∙ ap (λ (cs : List Change). value_in_the_end c.args.before (take (due_by c.args.tick cs) cs)) all

pub returns-in-Stimuli-clause-left : goal.returns-in-Stimuli-clause-left
returns-in-Stimuli-clause-left c =
    let changes = c.in-Stimuli.changes.now in
    let all : changes ≡ c.args.self.now = sym (ap changes_of c.in-Stimuli.is) ∙ c.self.view_is in
    c.split_at.ensures.back
    ∙ ap (λ count. drop count changes) c.due_changes.ensures.count
    ∙ ap (λ (cs : List Change). drop (due_by c.args.tick cs) cs) all

pub returns-in-Pin-clause-value : goal.returns-in-Pin-clause-value
returns-in-Pin-clause-value c =
    let all : delayed_changes c.in-Pin.wire c.in-Pin.changes.now ≡ c.args.self.now = sym (ap changes_of c.in-Pin.is) ∙ c.self.view_is in
    c.pass_due-value.ensures.value ∙ ap (λ (cs : List Change). value_in_the_end c.args.before (take (due_by c.args.tick cs) cs)) all

pub returns-in-Pin-clause-left : goal.returns-in-Pin-clause-left
returns-in-Pin-clause-left c =
    let all : delayed_changes c.in-Pin.wire c.in-Pin.changes.now ≡ c.args.self.now = sym (ap changes_of c.in-Pin.is) ∙ c.self.view_is in
    c.pass_due-value.ensures.left ∙ ap (λ (cs : List Change). drop (due_by c.args.tick cs) cs) all
