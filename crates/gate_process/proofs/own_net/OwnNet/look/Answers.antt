use Rattle.std.proofs.Common.{sym, ◌∙◌, arith}
use Rattle.gate_process.proofs.Steady.{unread_steady, read_later, read_stays, read_left}
use Rattle.gate_process.proofs.own_net.OwnNet.look.Goals as goal

pub returns-in_default-clause-steady : goal.returns-in_default-clause-steady
returns-in_default-clause-steady c = λ t late early.
    unread_steady c.args.self.now c.read_tick.ensures.well_formed.timed.timing.clock c.args.read.now c.args.tick c.args.limit
    (sym c.read_tick.ensures.tick ∙ c.in_default.is) t (omega (arith, early, c.until.ensures))

pub returns-clause-later : goal.returns-clause-later
returns-clause-later c =
    let later = read_later c.args.self.now c.read_tick.ensures.well_formed.timed.timing.clock c.args.tick c.in-Some.at
    (sym c.read_tick.ensures.tick ∙ c.in-Some.is) c.args.read.now c.args.limit c.read-reading.result.next c.read-reading.ensures.later c.requires.before in
    omega (arith, later, c.until-2.ensures)

pub returns-clause-steady : goal.returns-clause-steady
returns-clause-steady c = λ t late early.
    read_stays c.args.self.now c.read_tick.ensures.well_formed.timed.timing.clock c.args.tick c.in-Some.at
    (sym c.read_tick.ensures.tick ∙ c.in-Some.is) c.args.read.now c.args.limit c.read-reading.result.next c.read-reading.ensures.later
    c.read-reading.ensures.steady t late (omega (arith, early, c.until-2.ensures))

pub returns-clause-left : goal.returns-clause-left
returns-clause-left c =
    read_left c.args.self.now c.read_tick.ensures.well_formed.timed.timing.clock c.args.tick c.in-Some.at
    (sym c.read_tick.ensures.tick ∙ c.in-Some.is) c.args.read.now c.read-reading.new.read c.read-reading.ensures.left
