use Rattle.std.proofs.Common.{◌≡◌, ◌∙◌, ap, map, sym, Some, Ok}
use Rattle.std.specs.Option.{ok_or}
use Rattle.std.proofs.lemmas.Result.{err_from_is_err_and}
use Rattle.netlist.specs.Names.{seen_names}
use Rattle.prepared_runs.specs.declared.fault.SimFault.TheVariants.{UnknownNet}
use Rattle.prepared_runs.specs.Lanes.{bits_of, bus_view, buses_meant, lanes_of, lone_nets}
use Rattle.prepared_runs.proofs.Answer.{IsRefusal-lifted}
use Rattle.prepared_runs.proofs.MeantNets.{IsNet-buses, IsNet-circuit, lanes_of-good, lanes_of-no_bus, lanes_of-unknown}
use Rattle.prepared_runs.proofs.ShownNets.{All-shown_nets}
use Rattle.prepared_runs.proofs.lanes.lanes_of.Goals as goal

pub returns-in_err-shown-clause-err : goal.returns-in_err-shown-clause-err
returns-in_err-shown-clause-err c =
    let p = err_from_is_err_and c.from_residual.result c.from_residual.ensures.1 in
    rw (p.1, p.2) (IsRefusal-lifted _ _ _ (lanes_of-unknown c.args.view.now c.args.design.now.netlist _ _) c.in_err-shown.ensures.err)

pub returns-in_err-buses-clause-err : goal.returns-in_err-buses-clause-err
returns-in_err-buses-clause-err c =
    let p = err_from_is_err_and c.from_residual-in_err-buses.result c.from_residual-in_err-buses.ensures.1 in
    let view = c.args.view.now in
    let netlist = c.args.design.now.netlist in
    let same = ap (λ n. ok_or (buses_meant n (seen_names c.as_slice.result.now)) UnknownNet) c.netlist.ensures
    ∙ ap (λ words. ok_or (buses_meant netlist (seen_names words)) UnknownNet) c.as_slice.ensures.value in
    rw (p.1, p.2) (IsRefusal-lifted _ (lanes_of view netlist) _ (λ none. lanes_of-no_bus view netlist c.in_ok-shown.ensures.known _ (sym same ∙ none)) c.in_err-buses.ensures.err)

pub lone_nets-requires-clause-shown_exist : goal.lone_nets-requires-clause-shown_exist
lone_nets-requires-clause-shown_exist c =
    rw c.in_ok-shown.ensures.nets (All-shown_nets c.args.view.now.show c.args.design.now c.in_ok-shown.ensures.well_formed)

pub lone_nets-requires-clause-bits_exist : goal.lone_nets-requires-clause-bits_exist
lone_nets-requires-clause-bits_exist c =
    let netlist = c.args.design.now.netlist in
    let words = seen_names c.args.view.now.buses.items in
    let are : buses_meant netlist words ≡ Some (map bus_view c.in_ok-buses.buses.items) =
    sym (ap (λ n. buses_meant n (seen_names c.as_slice.result.now)) c.netlist.ensures ∙ ap (λ ws. buses_meant netlist (seen_names ws)) c.as_slice.ensures.value)
    ∙ c.in_ok-buses.ensures.ok in
    rw c.as_slice-2.ensures.value
    (IsNet-circuit c.args.design.now c.in_ok-shown.ensures.well_formed (bits_of (map bus_view c.in_ok-buses.buses.items))
    (IsNet-buses netlist words (map bus_view c.in_ok-buses.buses.items) are))

pub returns-clause-ok : goal.returns-clause-ok
returns-clause-ok c =
    let view = c.args.view.now in
    let netlist = c.args.design.now.netlist in
    let words = seen_names view.buses.items in
    let buses = map bus_view c.in_ok-buses.buses.items in
    let are : buses_meant netlist words ≡ Some buses =
    sym (ap (λ n. buses_meant n (seen_names c.as_slice.result.now)) c.netlist.ensures ∙ ap (λ ws. buses_meant netlist (seen_names ws)) c.as_slice.ensures.value)
    ∙ c.in_ok-buses.ensures.ok in
    let nets : lone_nets view.show netlist buses ≡ c.in_ok-nets.nets.items =
    sym (c.in_ok-nets.ensures ∙ ap (λ bs. lone_nets view.show netlist (map bus_view bs)) c.as_slice-2.ensures.value) in
    lanes_of-good view netlist c.in_ok-shown.ensures.known buses are
    ∙ ap (λ ns. Ok (record { nets = ns; buses = buses })) nets
