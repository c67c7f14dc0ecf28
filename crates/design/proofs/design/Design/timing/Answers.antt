use Rattle.std.proofs.Common.{◌∙◌, [], Some, ap, sym, arith}
use Rattle.std.proofs.lemmas.Slice.Zip.{length-zip}
use Rattle.flat_lists.specs.Parts.{parts}
use Rattle.design.proofs.Joined.{get_or-zip}
use Rattle.design.proofs.Stored.{length-timings, timing_at}
use Rattle.design.proofs.design.Design.timing.Goals as goal

pub index-requires : goal.index-requires
index-requires c =
    omega (
      arith,
      c.requires,
      length-timings c.self.invariant.joined c.self.view_is,
      length-zip c.self.inside.timings.items (parts c.self.inside.first_wires.items c.self.inside.wires.items),
      c.self.inside.timings.ok.0,
    )

pub returns : goal.returns
returns c =
    let timing = c.index.result.now in
    timing_at c.self.invariant.joined c.self.view_is c.args.net (timing, []) c.requires
    ∙ ap (λ both. Some both.0) (get_or-zip c.self.inside.timings.items (parts c.self.inside.first_wires.items c.self.inside.wires.items) c.args.net (timing, [])
    (omega (arith, c.requires, length-timings c.self.invariant.joined c.self.view_is)))
    ∙ ap Some (sym c.index.ensures)
