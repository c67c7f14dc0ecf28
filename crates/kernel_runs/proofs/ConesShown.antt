-- A run of cones alone shows what the whole run shows.
use Rattle.std.proofs.Common.{◌≡◌, ◌≢◌, ℕ, ◌<◌, ◌≤◌, List, [], ◌∷◌, length, map, All, AllPairs, refl, sym, ap, subst, ◌∙◌, arith}
use Rattle.std.proofs.lemmas.List.Elements.{All-head, All-nil, All-tail}
use Rattle.netlist.specs.Netlist.{name_at}
use Rattle.design.specs.Design.{DesignView, IsDesign}
use Rattle.design.specs.Equations.{value_of}
use Rattle.design.proofs.CallerLemmas.{length-circuit}
use Rattle.cmb_events.specs.declared.event.Event.{Event}
use Rattle.cmb_events.specs.Schedule.{most_events, Exists}
use Rattle.fanin_cone.specs.Extract.{IsDesignOfCones}
use Rattle.fanin_cone.proofs.CallerLemmas.{names_alone, values_alone}
use Rattle.vcd_dump.specs.Dump.{dump_text}
use Rattle.vcd_dump.specs.Traces.{name_of}
use Rattle.prepared_runs.specs.declared.preparation.PreparedRun.{PreparedRun}
use Rattle.prepared_runs.specs.declared.view.Selection.{Selection}
use Rattle.prepared_runs.specs.declared.view.DumpView.{DumpView}
use Rattle.kernel_runs.specs.Alone.{CanShow, ShowsTheSame}
use Rattle.prepared_runs.specs.Source.{dump_of_design, shown_nets, signals_of}
use Rattle.prepared_runs.proofs.CallerLemmas.{All-shown_nets, AllPairs-shown_nets, dump_of_design-nets, name_is}

-- what is the same of each of two is the same of both
both_maps : {A B C D : Type 0} (f : A → C) (g : A → D) (also_f : B → C) (also_g : B → D) (xs : List A) (ys : List B) →
    map f xs ≡ map also_f ys → map g xs ≡ map also_g ys → map {B = C × D} (λ x. (f x, g x)) xs ≡ map {B = C × D} (λ y. (also_f y, also_g y)) ys
both_maps f g also_f also_g [] [] same_f same_g = refl
both_maps f g also_f also_g [] (y ∷ ys) same_f same_g = absurd (cc)
both_maps f g also_f also_g (x ∷ xs) [] same_f same_g = absurd (cc)
both_maps f g also_f also_g (x ∷ xs) (y ∷ ys) same_f same_g =
    let first : f x ≡ also_f y = cc in
    let second : g x ≡ also_g y = cc in
    let rest_f : map f xs ≡ map also_f ys = cc in
    let rest_g : map g xs ≡ map also_g ys = cc in
    let rest = both_maps f g also_f also_g xs ys rest_f rest_g in
    λ i. (first i, second i) ∷ rest i

-- a net has one name in the netlist and in the circuit
names_of : (design : DesignView) → IsDesign design → (nets : List ℕ) → All (λ net. net < length design.circuit) nets →
    map (name_of design.circuit) nets ≡ map (name_at design.netlist) nets
names_of design ok [] below = refl
names_of design ok (net ∷ nets) below =
    let here = name_is design ok net (All-head (λ n. n < length design.circuit) net nets below) in
    let rest = names_of design ok nets (All-tail (λ n. n < length design.circuit) net nets below) in
    λ i. here i ∷ rest i

outputs_below : (design : DesignView) → IsDesign design → All (λ net. net < length design.circuit) design.netlist.outputs
outputs_below design ok = rw (length-circuit design ok) ok.netlist.outputs

-- a design can show its outputs
pub CanShow-outputs : (design : DesignView) → IsDesign design → (horizon : ℕ) (events : List Event) (nets : List ℕ) → events ≡ [] → nets ≡ design.netlist.outputs →
    CanShow (record { horizon = horizon; design = design; schedule = events }) nets
CanShow-outputs design ok horizon events nets none are = record {
  design = ok;
  exist = subst (All (Exists design.circuit)) (sym none) (All-nil (Exists design.circuit));
  few = omega (arith, ap length none);
  there = subst (All (λ net. net < length design.circuit)) (sym are) (outputs_below design ok);
  once = subst (AllPairs (λ (earlier later : ℕ). earlier ≢ later)) (sym are) ok.netlist.outputs_once;
}

-- a run can show the nets that it is to show
pub CanShow-shown : (kind : Selection) (run : PreparedRun) (nets : List ℕ) → IsDesign run.design → All (Exists run.design.circuit) run.schedule →
    length run.schedule ≤ most_events → nets ≡ shown_nets kind run.design.netlist → CanShow run nets
CanShow-shown kind run nets ok exist few are = record {
  design = ok;
  exist = exist;
  few = few;
  there = rw are (All-shown_nets kind run.design ok);
  once = rw are (AllPairs-shown_nets kind run.design ok);
}

module _ (whole part : DesignView) (nets : List ℕ) (below : All (λ net. net < length whole.circuit) nets) (is : IsDesignOfCones whole nets part) where
  in_netlist : All (λ net. net < length whole.netlist.nets) nets
  in_netlist = rw (← length-circuit whole is.first) below

  pub signals_alone : signals_of part.circuit part.netlist.outputs ≡ signals_of whole.circuit nets
  signals_alone =
      both_maps (name_of part.circuit) (value_of part.circuit) (name_of whole.circuit) (value_of whole.circuit) part.netlist.outputs nets
      (names_of part is.second part.netlist.outputs (outputs_below part is.second) ∙ names_alone whole part nets in_netlist is
      ∙ sym (names_of whole is.first nets below))
      (values_alone whole part nets in_netlist is)

-- so it has the same dump
pub dump_alone : (view : DumpView) (run whole : PreparedRun) (listed nets shown : List ℕ) → listed ≡ nets → ShowsTheSame run nets whole shown →
    shown ≡ shown_nets view.show whole.design.netlist →
    dump_text view.unit run.horizon (signals_of run.design.circuit listed) ≡ dump_of_design view whole.horizon whole.design
dump_alone view run whole listed nets shown same_nets same are =
    ap (λ ns. dump_text view.unit run.horizon (signals_of run.design.circuit ns)) same_nets
    ∙ (λ i. dump_text view.unit (same.horizon i) (same.signals i)) ∙ dump_of_design-nets view whole.horizon whole.design shown are
