use Rattle.std.proofs.Common.{◌≡◌, false, length, map, sym, ap, ◌∙◌, true≢false}
use Rattle.std.specs.List.{list_all}
use Rattle.std.proofs.lemmas.List.{length-map}
use Rattle.netlist.specs.Netlist.{NetlistView, name_at}
use Rattle.fanin_cone.specs.Cone.{IsConeOf}
use Rattle.fanin_cone.proofs.AllMarked.{IsConeOf-kept, MarksCone-of, not_all_in}
use Rattle.fanin_cone.proofs.ConesAlone.{have_numbers}
use Rattle.fanin_cone.proofs.Extracting.{kept_below, numbers_kept, pins_kept, some_kept}
use Rattle.fanin_cone.proofs.alone.cones_alone.Goals as goal
use Rattle.fanin_cone.proofs.alone.cones_alone.Goals.{After-as_slice-3}

-- which nets are kept
kept : (c : After-as_slice-3) → IsConeOf c.args.design.now.netlist (map (name_at c.args.design.now.netlist) c.args.nets.now) c.as_slice-3.result.now
kept c =
    let netlist = c.args.design.now.netlist in
    let nets = c.args.nets.now in
    let cone = MarksCone-of netlist c.netlist.result.now nets c.in_ok-marks.marks.items c.netlist.ensures c.in_ok-marks.ensures.cone in
    IsConeOf-kept netlist (map (name_at netlist) nets) c.in_ok-marks.marks.items c.as_slice-2.result.now c.in_ok-keep.keep.items c.as_slice-3.result.now cone
    c.as_slice-2.ensures.value c.in_ok-keep.ensures c.as_slice-3.ensures.value

pub pick-requires-clause-nets : goal.pick-requires-clause-nets
pick-requires-clause-nets c =
    let netlist = c.args.design.now.netlist in
    kept_below netlist (map (name_at netlist) c.args.nets.now) c.as_slice-3.result.now (kept c)

pub pick-requires-clause-some : goal.pick-requires-clause-some
pick-requires-clause-some c =
    let netlist = c.args.design.now.netlist in
    let names = map (name_at netlist) c.args.nets.now in
    let known = have_numbers netlist c.nets.ensures.well_formed.netlist c.args.nets.now c.requires.nets in
    some_kept netlist names c.args.nets.now c.as_slice-3.result.now known (kept c) (rw length-map c.requires.some)

pub pick-requires-clause-pins : goal.pick-requires-clause-pins
pick-requires-clause-pins c =
    let netlist = c.args.design.now.netlist in
    pins_kept netlist (map (name_at netlist) c.args.nets.now) c.as_slice-3.result.now (kept c) c.nets.ensures.well_formed.netlist

pub pick-requires-clause-outputs : goal.pick-requires-clause-outputs
pick-requires-clause-outputs c =
    let netlist = c.args.design.now.netlist in
    let known = have_numbers netlist c.nets.ensures.well_formed.netlist c.args.nets.now c.requires.nets in
    numbers_kept netlist (map (name_at netlist) c.args.nets.now) c.args.nets.now c.as_slice-3.result.now known (kept c)

pub returns-clause-alone : goal.returns-clause-alone
returns-clause-alone c =
    record {
      first = c.nets.ensures.well_formed;
      second = c.nets-2.ensures.well_formed;
      keep = c.as_slice-3.result.now;
      cone = kept (goal.at.returns-clause-alone c).After-as_slice-3;
      picked_so = c.in_ok-part.ensures;
    }

pub returns-clause-all : goal.returns-clause-all
returns-clause-all c =
    let netlist = c.args.design.now.netlist in
    let nets = c.args.nets.now in
    let marks = c.in_ok-marks.marks.items in
    let cone = MarksCone-of netlist c.netlist.result.now nets marks c.netlist.ensures c.in_ok-marks.ensures.cone in
    let size = c.in_ok-marks.ensures.size ∙ ap (λ (n : NetlistView). length n.nets) c.netlist.ensures in
    let some : list_all (λ mark. mark) marks ≡ false = ap (list_all (λ mark. mark)) (sym c.as_slice.ensures.value) ∙ sym c.if-are_all.ensures in
    ((λ e. absurd (true≢false e)), not_all_in netlist (map (name_at netlist) nets) marks size cone some)
