use Rattle.std.proofs.Common.{◌≡◌, ◌<◌, get_or, slice_set, sym, subst, arith}
use Rattle.std.specs.Prelude.{All}
use Rattle.logic3.specs.declared.change.Change.{Change}
use Rattle.logic3.specs.Wave.{Wave, value_at}
use Rattle.gate_process.proofs.ReadOnce.{one_steady, two_first, two_second, two_left, two_steady}
use Rattle.gate_process.proofs.cursor.read_two.Goals as goal

pub returns-clause-later : goal.returns-clause-later
returns-clause-later c =
    let first_is = two_first c.args.pins.now c.go_to-first.new.self c.go_to-second.new.self c.index-pins-0-2.result c.requires.two c.index-pins-0-2.is in
    let second_is = two_second c.args.pins.now c.go_to-first.new.self c.go_to-second.new.self c.index-pins-1-2.result c.requires.two c.index-pins-1-2.is in
    let next = c.next_change.ensures.later c.args.tick c.requires.before
    (subst (λ (wave : Wave). All (λ (change : Change). c.args.tick < change.tick) wave.changes) (sym first_is) c.go_to-first.ensures.passed) in
    c.next_change-next.ensures.later c.args.tick next
    (subst (λ (wave : Wave). All (λ (change : Change). c.args.tick < change.tick) wave.changes) (sym second_is) c.go_to-second.ensures.passed)

pub returns-clause-steady : goal.returns-clause-steady
returns-clause-steady c = λ t late early.
    let first_is = two_first c.args.pins.now c.go_to-first.new.self c.go_to-second.new.self c.index-pins-0-2.result c.requires.two c.index-pins-0-2.is in
    let second_is = two_second c.args.pins.now c.go_to-first.new.self c.go_to-second.new.self c.index-pins-1-2.result c.requires.two c.index-pins-1-2.is in
    let within = c.next_change-next.ensures.within in
    two_steady c.args.pins.now c.args.tick t c.index-pins-0.result c.go_to-first.new.self c.index-pins-1.result c.requires.two
    (one_steady (get_or c.args.pins.now 0 c.index-pins-0.result) c.go_to-first.new.self c.args.tick c.next_change-next.result c.go_to-first.ensures.left
    (λ at before. subst (λ (wave : Wave). value_at wave at ≡ wave.before) first_is (c.next_change.ensures.steady at (omega (arith, before, within))))
    (omega (arith, late, early)) t late early)
    (one_steady (get_or (slice_set c.args.pins.now 0 c.go_to-first.new.self) 1 c.index-pins-1.result) c.go_to-second.new.self c.args.tick c.next_change-next.result c.go_to-second.ensures.left
    (λ at before. subst (λ (wave : Wave). value_at wave at ≡ wave.before) second_is (c.next_change-next.ensures.steady at before))
    (omega (arith, late, early)) t late early)

pub returns-clause-left : goal.returns-clause-left
returns-clause-left c = λ t late.
    two_left c.args.pins.now t c.index-pins-0.result c.go_to-first.new.self c.index-pins-1.result c.go_to-second.new.self c.requires.two
    (c.go_to-first.ensures.left t late) (c.go_to-second.ensures.left t late)
