use Rattle.std.proofs.Common.{ℕ, ◌+◌, ◌<◌, ◌≤◌, ◌∙◌, [], ◌∷◌, ◌++◌, All, List, ap, drop, length, map, sym, subst, arith}
use Rattle.std.proofs.lemmas.List.{length-map, map-append}
use Rattle.std.proofs.lemmas.List.Elements.{All-push}
use Rattle.netlist.specs.Netlist.{most_nets}
use Rattle.netlist.specs.Part.{is_input}
use Rattle.drawn_stimuli.specs.declared.drive.Drive.{Drive}
use Rattle.drawn_stimuli.specs.declared.input.InputNet.{InputNet}
use Rattle.drawn_stimuli.specs.Signals.{IsDrive}
use Rattle.drawn_stimuli.specs.Inputs.{InputView, IsInputNet, inputs_from, next_place, seen_input}
use Rattle.drawn_stimuli.proofs.KeptDrives.{had-in, inputs-more, kept-named, next_place-limit}
use Rattle.drawn_stimuli.proofs.input.inputs_of.Goals as goal

pub loop-net-preserved : goal.loop-net-preserved
loop-net-preserved c =
    let netlist = c.args.netlist.now in
    let net : ℕ = c.loop-net.net in
    let own : List Drive = c.as_slice-own.result.now in
    let held = c.loop-net.invariant in
    let pushed = c.in_ok-push.ensures.items in
    let within : net < length netlist.nets = omega (arith, c.loop-net-test.true, c.nets-net-end.ensures.nets) in
    let room : net < length c.args.drives.now = omega (arith, within, c.requires.one_each) in
    let mapped : net < length (map (λ drives. drives.items) c.args.drives.now) = omega (arith, room, length-map c.args.drives.now (λ drives. drives.items)) in
    let few : c.loop-net.drawn < most_nets = omega (arith, held.2, within, c.nets-net-end.ensures.well_formed.net_limit) in
    let one_more : c.next_place-drawn.result ≤ net + 1 = omega (arith, held.2, next_place-limit c.loop-net.drawn own, c.next_place-drawn.ensures) in
    let is = ap is_input (sym c.part.ensures) ∙ sym c.is_input.ensures ∙ c.if-not-is_input.false in
    let rest = drop (net + 1) netlist.nets in
    let all = had-in (λ drives. drives.items) c.args.drives.now room c.index-drives-net.is in (
      (λ given same.
          ap (λ (inputs : List InputNet). map (seen_input netlist) inputs ++ inputs_from given c.next_place-drawn.result rest) pushed
          ∙ ap (λ place. map (seen_input netlist) (c.loop-net.inputs.items ++ record { net = net; drives = c.as_slice-own.result; place = c.loop-net.drawn } ∷ []) ++ inputs_from given place rest) c.next_place-drawn.ensures
          ∙ ap (λ (inputs : List InputView). inputs ++ inputs_from given (next_place c.loop-net.drawn own) rest) (map-append (seen_input netlist) c.loop-net.inputs.items (record { net = net; drives = c.as_slice-own.result; place = c.loop-net.drawn } ∷ []))
          ∙ inputs-more netlist given (map (seen_input netlist) c.loop-net.inputs.items) net c.loop-net.drawn own within is
          (c.as_slice-own.ensures.value ∙ kept-named netlist given (λ drives. drives.items) c.args.drives.now same within room c.index-drives-net.is)
          (held.0 given same)),
      subst (All (IsInputNet netlist)) (sym pushed)
          (All-push (IsInputNet netlist) c.loop-net.inputs.items (record { net = net; drives = c.as_slice-own.result; place = c.loop-net.drawn }) held.1 (record {
            within = within;
            drives = subst (All IsDrive) (sym (c.as_slice-own.ensures.value ∙ all)) (c.requires.drives net c.index-drives-net.result.items mapped);
            place = few;
          })),
      one_more,
      omega (arith, held.3, c.in_ok-push.ensures.len),
    )
