use Rattle.std.proofs.Common.{◌≡◌, ℕ, ◌<◌, length, sym, ap, ◌∙◌, subst, All, AllPairs, Contains, ◌≢◌}
use Rattle.std.proofs.lemmas.List.{length-map}
use Rattle.std.proofs.lemmas.Option.{none-some}
use Rattle.netlist.specs.Repeats.{distinct}
use Rattle.netlist.specs.Pick.{picked}
use Rattle.netlist.specs.Names.{seen_names}
use Rattle.netlist.proofs.CallerLemmas.{All-distinct, AllPairs-distinct}
use Rattle.fanin_cone.specs.Cone.{IsConeOf}
use Rattle.fanin_cone.proofs.KnownNames.{numbers_below, first_unknown-known, filter_map-known}
use Rattle.fanin_cone.proofs.Extracting.{IsConeOf-names, numbers_kept, some_kept, kept_below, pins_kept}
use Rattle.fanin_cone.proofs.extraction.extract.Goals as goal
use Rattle.fanin_cone.proofs.extraction.extract.Goals.{After-as_slice-4}

pub cone_of-requires : goal.cone_of-requires
cone_of-requires c =
    subst (All (λ n. n < length c.args.netlist.now.nets)) (sym c.as_slice.ensures.value)
    (numbers_below c.args.netlist.now (seen_names c.args.names.now) c.in_ok-numbers.numbers.items c.in_ok-numbers.ensures.known)

pub without_repeats-requires : goal.without_repeats-requires
without_repeats-requires c =
    subst (All (λ n. n < c.nets.result)) (sym c.as_slice-2.ensures.value)
    (rw c.nets.ensures.nets
    (numbers_below c.args.netlist.now (seen_names c.args.names.now) c.in_ok-numbers.numbers.items c.in_ok-numbers.ensures.known))

-- the nets that are kept
kept : (c : After-as_slice-4) → IsConeOf c.args.netlist.now (seen_names c.args.names.now) c.as_slice-3.result.now
kept c =
    IsConeOf-names c.args.netlist.now (seen_names c.args.names.now) c.in_ok-numbers.numbers.items c.as_slice.result.now c.in_ok-keep.keep.items c.as_slice-3.result.now
    c.in_ok-numbers.ensures.known c.as_slice.ensures.value c.as_slice-3.ensures.value c.in_ok-keep.ensures

-- the outputs
outputs_are : (c : After-as_slice-4) → c.as_slice-4.result.now ≡ distinct c.in_ok-numbers.numbers.items
outputs_are c = c.as_slice-4.ensures.value ∙ c.in_ok-outputs.ensures ∙ ap distinct c.as_slice-2.ensures.value

pub pick-requires : goal.pick-requires
pick-requires c =
    let netlist = c.args.netlist.now in
    let names = seen_names c.args.names.now in
    let numbers = c.in_ok-numbers.numbers.items in
    let keep = c.as_slice-3.result.now in
    let known = c.in_ok-numbers.ensures.known in
    record {
      some = some_kept netlist names numbers keep known (kept c) (rw length-map c.requires);
      rising = (kept c).rising;
      nets = kept_below netlist names keep (kept c);
      pins = pins_kept netlist names keep (kept c) c.nets.ensures.well_formed;
      outputs =
          subst (All (Contains keep)) (sym (outputs_are c))
          (All-distinct (Contains keep) numbers (numbers_kept netlist names numbers keep known (kept c)));
      outputs_once = subst (AllPairs (λ (earlier later : ℕ). earlier ≢ later)) (sym (outputs_are c)) (AllPairs-distinct numbers);
    }

pub returns-clause-unknown : goal.returns-clause-unknown
returns-clause-unknown c _ at =
    let none = first_unknown-known c.args.netlist.now (seen_names c.args.names.now) c.in_ok-numbers.numbers.items c.in_ok-numbers.ensures.known in
    (λ e. absurd (cc), λ e. absurd (none-some at (sym none ∙ e)))

pub returns-clause-extracted : goal.returns-clause-extracted
returns-clause-extracted c =
    let netlist = c.args.netlist.now in
    let names = seen_names c.args.names.now in
    let numbers = c.in_ok-numbers.numbers.items in
    let known = c.in_ok-numbers.ensures.known in
    record {
      keep = c.as_slice-3.result.now;
      cone =
          IsConeOf-names netlist names numbers c.as_slice.result.now c.in_ok-keep.keep.items c.as_slice-3.result.now
          known c.as_slice.ensures.value c.as_slice-3.ensures.value c.in_ok-keep.ensures;
      picked_so =
          c.in_ok-extract.ensures
          ∙ ap (picked netlist c.as_slice-3.result.now)
          (c.as_slice-4.ensures.value ∙ c.in_ok-outputs.ensures ∙ ap distinct (c.as_slice-2.ensures.value ∙ sym (filter_map-known netlist names numbers known)));
    }
