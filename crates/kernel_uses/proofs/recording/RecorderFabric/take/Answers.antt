use Rattle.std.proofs.Common.{length, refl, ap, arith}
use Rattle.kernel_uses.specs.Records.{Recorded}
use Rattle.kernel_uses.proofs.EndsOf.{record_fewer, record_same}
use Rattle.kernel_uses.proofs.recording.RecorderFabric.take.Goals as goal

pub invariant_of-self : goal.invariant_of-self
invariant_of-self g c =
    let pins = ap (λ (r : Recorded). length r.lists) c.self.view_is in
    record_same c.take.ensures.lists c.take.ensures.sources c.take.ensures.nets refl
    (record_fewer _ _ _ _ c.self.invariant c.args.pin (omega (arith, c.requires, pins)))
