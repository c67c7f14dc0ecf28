use Rattle.std.proofs.Common.{option_map, ap, sym, ◌∙◌}
use Rattle.std.proofs.lemmas.Option.{same_Some}
use Rattle.design.specs.Circuit.{Net}
use Rattle.gate_process.specs.Truth.{net_at}
use Rattle.gate_process.proofs.Nets.{is_net, slice_get-net_at}
use Rattle.gate_process.proofs.own_net.OwnNet.of.Goals as goal

pub invariant_of-result : goal.invariant_of-result
invariant_of-result c =
    let circuit = c.args.design.now.circuit in
    let there = slice_get-net_at circuit c.args.net c.requires in (
      c.requires,
      is_net c.args.design.now c.nets-nets.ensures.well_formed c.args.net (net_at circuit c.args.net) there,
      same_Some c.part.result (net_at circuit c.args.net).part (sym c.part.ensures ∙ ap (option_map (λ (net : Net). net.part)) there),
      same_Some c.delay.result (net_at circuit c.args.net).timing.delay
          (sym c.delay.ensures ∙ ap (option_map (λ (net : Net). net.timing.delay)) there),
    )

pub returns : goal.returns
returns c = slice_get-net_at c.args.design.now.circuit c.args.net c.requires
