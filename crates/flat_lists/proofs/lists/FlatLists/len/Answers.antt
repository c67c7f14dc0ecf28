use Rattle.std.proofs.Common.{length, ap, arith}
use Rattle.flat_lists.proofs.Parts.{length-parts}
use Rattle.flat_lists.proofs.lists.FlatLists.len.Goals as goal

pub returns : goal.returns
returns g c =
    omega (
      arith,
      length-parts c.self.inside.bounds.items c.self.inside.items.items c.self.invariant,
      ap length c.self.view_is,
      c.len.ensures,
      c.self.inside.bounds.ok.0,
    )
