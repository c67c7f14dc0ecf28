use Rattle.std.proofs.Common.{◌<◌, Some, get_or, length, ap, sym, ◌∙◌, arith}
use Rattle.std.proofs.lemmas.Option.{slice_get-get_or}
use Rattle.design.specs.Pins.{sources_of}
use Rattle.design.proofs.Feeding.{sources_below}
use Rattle.design.proofs.Numbers.{length-sources}
use Rattle.design.proofs.Stored.{sources_are, well_formed}
use Rattle.design.proofs.WellFormed.{All-slice_get, IsCircuit-from_IsDesign}
use Rattle.design.proofs.design.Design.pin_source.Goals as goal

pub index-requires : goal.index-requires
index-requires c =
    omega (
      arith,
      c.requires,
      length-sources c.args.self.now.circuit,
      ap length (sources_are c.self.invariant.joined c.self.view_is),
      c.self.inside.sources.ok.0,
    )

pub returns-clause-source : goal.returns-clause-source
returns-clause-source c =
    slice_get-get_or (sources_of c.args.self.now.circuit) c.args.pin c.index.result.now
    (omega (arith, c.requires, length-sources c.args.self.now.circuit))
    ∙ ap Some (sym (c.index.ensures ∙ ap (λ sources. get_or sources c.args.pin c.index.result.now) (sources_are c.self.invariant.joined c.self.view_is)))

pub returns-clause-within : goal.returns-clause-within
returns-clause-within c =
    All-slice_get (λ source. source < length c.args.self.now.circuit) (sources_of c.args.self.now.circuit) c.args.pin c.index.result.now
    (sources_below c.args.self.now.circuit (IsCircuit-from_IsDesign c.args.self.now (well_formed c.self.invariant.joined c.self.view_is)))
    (returns-clause-source c)
