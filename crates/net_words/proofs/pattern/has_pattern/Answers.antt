use Rattle.std.proofs.Common.{◌∙◌, ◌+◌, ap, arith, false, get_or, length, refl, sym}
use Rattle.net_words.specs.Pattern.{has_pattern, last_bytes, passing}
use Rattle.net_words.proofs.Passing.{last_bytes-all, last_bytes-more, last_bytes-none, length-passing, passing-at}
use Rattle.net_words.proofs.pattern.has_pattern.Goals as goal

pub loop-step-init : goal.loop-step-init
loop-step-init c =
    let name = c.args.name.now in
    let all = length name + 1 in
    let known = c.in_ok-ends.ensures ∙ ap (λ rest. passing (has_pattern rest) name all) (sym (last_bytes-none c.args.pattern.now)) in
    record { count = ap length known ∙ length-passing (has_pattern (last_bytes c.args.pattern.now 0)) name all; known = known }

pub loop-step-preserved : goal.loop-step-preserved
loop-step-preserved c =
    let name = c.args.name.now in
    let pattern = c.args.pattern.now in
    let step = c.loop-step.step in
    let all = length name + 1 in
    let known =
    c.in_ok-ends-2.ensures (has_pattern (last_bytes pattern step)) (c.as_slice.ensures.value ∙ c.loop-step.invariant.known)
    ∙ ap (λ rest. passing (has_pattern rest) name all) (sym (last_bytes-more pattern step 0 c.loop-step-test.true)) in
    record { count = ap length known ∙ length-passing (has_pattern (last_bytes pattern (step + 1))) name all; known = known }

pub returns : goal.returns
returns c =
    let name = c.args.name.now in
    let pattern = c.args.pattern.now in
    let step = c.loop-step.step in
    ap (λ ends. get_or ends (length name) false) (c.as_slice-2.ensures.value ∙ c.loop-step.invariant.known)
    ∙ passing-at (has_pattern (last_bytes pattern step)) name (length name + 1) (length name) false (omega arith)
    ∙ ap (has_pattern (last_bytes pattern step)) (last_bytes-all name (length name) refl)
    ∙ ap (λ rest. has_pattern rest name) (last_bytes-all pattern step (omega (arith, c.loop-step-test.false, c.loop-step.auto.step-end)))
