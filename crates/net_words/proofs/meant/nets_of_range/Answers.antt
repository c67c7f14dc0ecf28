use Rattle.std.proofs.Common.{◌≡◌, ◌∙◌, ◌+◌, ◌++◌, None, ap, rules, sym}
use Rattle.netlist.specs.Netlist.{net_named}
use Rattle.net_words.specs.Meant.{bit_name, seen_range}
use Rattle.net_words.proofs.AllFound.{made_more, made_none}
use Rattle.net_words.proofs.meant.nets_of_range.Goals as goal

pub returns-in_default : goal.returns-in_default
returns-in_default c =
    let range = seen_range c.args.range in
    let step = c.loop-step.step in
    let name : c.as_slice.result.now ≡ bit_name range step =
    c.as_slice.ensures.value ∙ c.in_ok-push_bit_name.ensures ∙ ap (λ before. before ++ bit_name range step) c.clear.ensures.items in
    let none : c.find.result ≡ None = search rules in
    sym (sym c.loop-step.invariant
    ∙ made_none (net_named c.args.netlist.now) (bit_name range) c.loop-step.nets.items step (c.abs_diff-step-end.result + 1) c.loop-step-test.true
    (ap (net_named c.args.netlist.now) (sym name) ∙ sym c.find.ensures ∙ none))

pub loop-step-preserved : goal.loop-step-preserved
loop-step-preserved c =
    let range = seen_range c.args.range in
    let step = c.loop-step.step in
    let name : c.as_slice.result.now ≡ bit_name range step =
    c.as_slice.ensures.value ∙ c.in_ok-push_bit_name.ensures ∙ ap (λ before. before ++ bit_name range step) c.clear.ensures.items in
    made_more (net_named c.args.netlist.now) (bit_name range) c.loop-step.nets.items step (c.abs_diff-step-end.result + 1) c.loop-step-test.true
    c.push.new.self.items c.in-Some.net
    (ap (net_named c.args.netlist.now) (sym name) ∙ sym c.find.ensures ∙ c.in-Some.is) c.in_ok-push.ensures.items
    ∙ c.loop-step.invariant
