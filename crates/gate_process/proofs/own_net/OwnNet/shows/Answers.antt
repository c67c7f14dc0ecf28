use Rattle.std.proofs.Common.{ℕ, List, ap, sym, ◌∙◌}
use Rattle.timing_text.specs.declared.timing.Timing.{Timing}
use Rattle.logic3.specs.Summary.{summary_of}
use Rattle.design.specs.Equations.{values_at}
use Rattle.gate_process.specs.Knowledge.{seen_pins}
use Rattle.gate_process.specs.Step.{signals_of}
use Rattle.gate_process.proofs.ReadBy.{shows_there, shows_nowhere}
use Rattle.gate_process.proofs.own_net.OwnNet.shows.Goals as goal

pub returns-in-Some : goal.returns-in-Some
returns-in-Some c =
    shows_there c.args.self.now c.args.received.now c.read_tick.ensures.well_formed c.requires.pins c.requires.not_input c.args.tick c.in-Some.at
    c.made_of.result (sym c.read_tick.ensures.tick ∙ c.in-Some.is) (λ values is count.
    c.made_of.ensures values
    (c.seen_at.ensures
    ∙ ap (λ (wires : List ℕ). summary_of (values_at c.in-Some.at (signals_of (seen_pins wires c.args.received.now)))) c.wires.ensures.wires
    ∙ is) count)

pub returns-in-None : goal.returns-in-None
returns-in-None c =
    ap (λ (timing : Timing). timing.initial) c.timing.ensures
    ∙ shows_nowhere c.args.self.now c.args.received.now c.read_tick.ensures.well_formed c.requires.pins c.requires.not_input c.args.tick
    (sym c.read_tick.ensures.tick ∙ c.in-None.is)
