use Rattle.std.proofs.Common.{◌≡◌, ap, ◌∙◌}
use Rattle.logic3.specs.Wave.{wave_of}
use Rattle.design.specs.Equations.{value_of}
use Rattle.cmb_kernel.specs.State.{floor_at, frontier_at}
use Rattle.cmb_kernel.proofs.Running.{process_below, runs_at, wave_is}
use Rattle.cmb_kernel.proofs.kernel.Kernel+F.waveform.Given.{Over}
use Rattle.cmb_kernel.proofs.kernel.Kernel+F.waveform.Goals as goal
use Rattle.cmb_kernel.proofs.kernel.Kernel+F.waveform.Goals.{After-wave}

pub of_net-requires : goal.of_net-requires
of_net-requires g c =
    let all = c.self.invariant (rw (← c.self.view_is) at c.requires.running) in
    process_below all c.args.net (rw (← c.self.view_is) at c.requires.net)

pub wave-requires : goal.wave-requires
wave-requires g c =
    let all = c.self.invariant (rw (← c.self.view_is) at c.requires.running) in
    record { running = (runs_at all c.args.net c.of_net.result c.of_net.ensures).runs }

known : (g : Over) (c : After-wave g) → c.wave.result.now
    ≡ wave_of (value_of c.args.self.now.circuit c.args.net) (floor_at c.args.self.now.state c.args.net) (frontier_at c.args.self.now.state c.args.net)
known g c =
    let all = c.self.invariant (rw (← c.self.view_is) at c.requires.running) in
    rw (← c.self.view_is)
    (c.wave.ensures ∙ wave_is all c.args.net c.of_net.result c.of_net.ensures)

pub returns-clause-waveform : goal.returns-clause-waveform
returns-clause-waveform g c = known g c

pub returns-clause-undrained : goal.returns-clause-undrained
returns-clause-undrained g c = λ none.
    known g c
    ∙ ap (λ from. wave_of (value_of c.args.self.now.circuit c.args.net) from (frontier_at c.args.self.now.state c.args.net)) none
