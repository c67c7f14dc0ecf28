use Rattle.std.proofs.Common.{◌∙◌, ◌<◌, [], All, length, ap, map, replicate, subst, sym, arith}
use Rattle.std.proofs.lemmas.List.{drop_more, length-map, map-set}
use Rattle.std.proofs.lemmas.List.Elements.{All-nil, All-replicate}
use Rattle.netlist.proofs.CallerLemmas.{net_at-named}
use Rattle.drawn_stimuli.specs.Signals.{IsDrive}
use Rattle.drawn_stimuli.specs.Inputs.{seen_input_drive}
use Rattle.drawn_stimuli.proofs.KeptDrives.{All-kept, Kept-first, Kept-length, Kept-more, had-in}
use Rattle.drawn_stimuli.proofs.input.drives_by_net.Goals as goal

pub loop-driven-init : goal.loop-driven-init
loop-driven-init c =
    let none = c.in_ok-kept.ensures ∙ ap (λ nets. replicate nets []) c.nets.ensures.nets in (
      Kept-first c.args.netlist.now (map seen_input_drive c.args.drives.now) _ none,
      subst (All (All IsDrive)) (sym none) (All-replicate (All IsDrive) _ [] (All-nil IsDrive)),
    )

pub index_mut-own-requires : goal.index_mut-own-requires
index_mut-own-requires c =
    let lengths = length-map c.loop-driven.kept.items (λ drives. drives.items) in
    let within = net_at-named c.args.netlist.now _ c.in_ok-net.net c.in_ok-net.ensures.net in
    omega (arith, lengths, Kept-length c.loop-driven.invariant.0, within.0)

pub loop-driven-preserved : goal.loop-driven-preserved
loop-driven-preserved c =
    let k = c.loop-driven.invariant.0 in
    let lengths = length-map c.loop-driven.kept.items (λ drives. drives.items) in
    let within = net_at-named c.args.netlist.now _ c.in_ok-net.net c.in_ok-net.ensures.net in
    let room : c.in_ok-net.net < length c.loop-driven.kept.items = omega (arith, lengths, Kept-length k, within.0) in
    let place : c.in_ok-net.net < length (map (λ drives. drives.items) c.loop-driven.kept.items) = omega (arith, lengths, room) in
    let here = had-in (λ drives. drives.items) c.loop-driven.kept.items room c.index_mut-own.ensures.value in
    let held = ap (map (λ drives. drives.items)) c.as_slice.ensures.value ∙ k.held in
    let turn = ap (map seen_input_drive) (drop_more c.args.drives.now c.loop-driven.driven-index _ c.loop-driven-test.true) in
    rw (map-set, c.in_ok-push.ensures.items) (
      Kept-more k turn c.nets.ensures.well_formed.distinct c.in_ok-net.ensures.net here (c.in_ok-net.ensures.fault k.earlier held),
      All-kept _ _ _ _ place here c.in_ok-net.ensures.drive c.loop-driven.invariant.1,
    )
