use Rattle.std.proofs.Common.{◌≡◌, ◌<◌, List, ℕ, length, map, All, sym, ap, ◌∙◌, subst, arith}
use Rattle.std.proofs.lemmas.List.{get_or_default, length-map}
use Rattle.circuit_info.specs.Counts.{IsFirstGreatest}
use Rattle.circuit_info.specs.PathText.{ends, path_line, ticks_to, EndsAt}
use Rattle.circuit_info.proofs.PathTexts.{IsEndLine-latest, end_at, ends_below, path_to_end_below}
use Rattle.circuit_info.proofs.path_lines.push_end.Goals as goal

pub all_ticks-requires-clause-nets : goal.all_ticks-requires-clause-nets
all_ticks-requires-clause-nets c =
    subst (All (λ net. net < length c.args.design.now.netlist.nets))
    (sym (c.as_slice.ensures.value ∙ c.in_ok-nets.ensures ∙ ap (λ netlist. ends netlist c.args.end) c.netlist.ensures))
    (ends_below c.args.design.now c.requires.formed c.args.end)

pub push_path-requires : goal.push_path-requires
push_path-requires c =
    let design = c.args.design.now in
    let nets = c.in_ok-nets.ensures ∙ ap (λ netlist. ends netlist c.args.end) c.netlist.ensures in
    let all = c.in_ok-all.ensures ∙ ap (map (ticks_to design c.args.end)) c.as_slice.ensures.value in
    let inside = subst (λ (numbers : List ℕ). c.first_greatest-place.result < length numbers) c.as_slice-2.ensures.value c.first_greatest-place.ensures.within in
    rw (c.netlist-2.ensures, c.as_slice-3.ensures.value) (path_to_end_below design c.requires.formed c.args.end c.index.result.now c.in_ok-path.path.items
    (end_at design c.args.end c.in_ok-nets.nets.items c.in_ok-all.all.items c.first_greatest-place.result c.index.result.now nets all inside c.index.ensures)
    c.in_ok-path.ensures)

pub returns : goal.returns
returns c =
    let design = c.args.design.now in
    let place = c.first_greatest-place.result in
    let nets = c.in_ok-nets.ensures ∙ ap (λ netlist. ends netlist c.args.end) c.netlist.ensures in
    let all : c.in_ok-all.all.items ≡ map (ticks_to design c.args.end) c.in_ok-nets.nets.items =
    c.in_ok-all.ensures ∙ ap (map (ticks_to design c.args.end)) c.as_slice.ensures.value in
    let first = subst (λ (numbers : List ℕ). IsFirstGreatest numbers place) c.as_slice-2.ensures.value c.first_greatest-place.ensures in
    let within : place < length c.in_ok-nets.nets.items =
    omega (arith, first.within, ap (λ (numbers : List ℕ). length numbers) all, length-map c.in_ok-nets.nets.items (ticks_to design c.args.end)) in
    let net = c.index.ensures ∙ get_or_default c.in_ok-nets.nets.items place c.index.result.now 0 within in
    let ticks = c.index-2.ensures ∙ get_or_default c.in_ok-all.all.items place c.index-2.result.now 0 first.within in
    record {
      line = path_line c.netlist-2.result.now c.args.end c.index-2.result.now c.as_slice-3.result.now;
      holds = IsEndLine-latest design c.args.end c.in_ok-nets.nets.items c.in_ok-all.all.items place c.in_ok-path.path.items _ nets all first
          (subst (λ net. EndsAt design c.args.end net c.in_ok-path.path.items) net c.in_ok-path.ensures)
          (λ i. path_line (c.netlist-2.ensures i) c.args.end (ticks i) (c.as_slice-3.ensures.value i));
      added = c.in_ok-push_path.ensures;
    }
