use Rattle.std.proofs.Common.{◌≡◌, ℕ, List, [], length, map, ap, ◌∙◌, arith}
use Rattle.std.proofs.lemmas.List.{get_or-map, length-map}
use denote.Ref.{Bor}
use Rattle.plain_runs.specs.Lines.{gives_delay}
use Rattle.plain_runs.proofs.Delayed.{none_more, one_more}
use Rattle.plain_runs.proofs.doubt.delayed_nets.Goals as goal
use Rattle.plain_runs.proofs.doubt.delayed_nets.Goals.{in-Some, in_default}

pub loop-line-preserved : goal.loop-line-preserved
loop-line-preserved c =
    let seen : List (List ℕ) = map (λ (line : Bor (List ℕ)). line.now) c.args.lines.now in
    let long : length seen ≡ length c.args.lines.now = length-map c.args.lines.now (λ (line : Bor (List ℕ)). line.now) in
    let here = get_or-map (λ (line : Bor (List ℕ)). line.now) c.args.lines.now c.loop-line.line-index _ [] c.loop-line-test.true in
    elim c.match-net_delayed_in.branch [
      | in-Some w ↦
          rw w.marks-is (one_more c.args.design.now seen c.loop-line.line-index c.loop-line.marks.items (let test = c.loop-line-test.true in omega (arith, long, test)) c.loop-line.invariant w.in-Some.net w.in-Some.ensures.within
          (λ net. ap (gives_delay c.args.design.now net) here ∙ w.in-Some.ensures.gives net))
      | in_default w ↦
          rw w.marks-is (none_more c.args.design.now seen c.loop-line.line-index c.loop-line.marks.items (let test = c.loop-line-test.true in omega (arith, long, test)) c.loop-line.invariant
          (λ net. ap (gives_delay c.args.design.now net) here ∙ w.in_default.ensures.gives net))
    ]
