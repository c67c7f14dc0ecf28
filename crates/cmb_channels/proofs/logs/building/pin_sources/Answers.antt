use Rattle.std.proofs.Common.{◌++◌, ◌<◌, All, [], ◌∷◌, length, ap, sym, subst, ◌∙◌, arith}
use Rattle.std.proofs.lemmas.List.{take_all}
use Rattle.std.proofs.lemmas.List.Elements.{All-push}
use Rattle.design.specs.Pins.{sources_of}
use Rattle.design.proofs.CallerLemmas.{length-sources, take-source}
use Rattle.cmb_channels.proofs.logs.building.pin_sources.Goals as goal

pub loop-pin-preserved : goal.loop-pin-preserved
loop-pin-preserved c = record {
  sources =
      c.in_ok-push.ensures.items
      ∙ ap (λ sources. sources ++ c.pin_source.result ∷ []) c.loop-pin.invariant.sources
      ∙ sym (take-source (sources_of c.args.design.now.circuit) c.loop-pin.pin _ c.pin_source.ensures.source);
  within =
      subst (All (λ source. source < length c.args.design.now.circuit)) (sym c.in_ok-push.ensures.items)
      (All-push (λ source. source < length c.args.design.now.circuit) _ _ c.loop-pin.invariant.within c.pin_source.ensures.within);
}

pub returns-clause-sources : goal.returns-clause-sources
returns-clause-sources c =
    c.loop-pin.invariant.sources
    ∙ take_all c.loop-pin.pin (sources_of c.args.design.now.circuit)
    (omega (arith, c.pins-pins.ensures.count, length-sources c.args.design.now.circuit))
