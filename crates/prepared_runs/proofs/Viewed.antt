-- The dump of a run shows what the equations give.
use Rattle.std.proofs.Common.{◌≡◌, ◌≢◌, ℕ, ◌<◌, ◌≤◌, ◌^◌, ◌⊎◌, inl, inr, nat_lt, Bool, true, false, cond, List, [], length, ◌++◌, map, get_or, option_map, Option, None, Some, IfSome, All, AllPairs, Result, Ok, Err, IsOkAnd, refl, sym, ap, ◌∙◌, subst, arith}
use Rattle.std.specs.List.{slice_get}
use Rattle.std.specs.Option.{option_map_or}
use Rattle.std.specs.Io.KnownBytes.{Appends}
use Rattle.std.proofs.lemmas.Bool.{cases_lt, ltb-false}
use Rattle.std.proofs.lemmas.List.{length-map, get_or-map}
use Rattle.std.proofs.lemmas.List.Elements.{All-map, All-weaker}
use Rattle.std.proofs.lemmas.Option.{slice_get-get_or, slice_get-map}
use Rattle.logic3.specs.declared.value.Value.{Value}
use Rattle.logic3.specs.declared.value.Value.TheVariants.{Unknown}
use Rattle.bench_text.specs.declared.fault.BenchFault.{BenchFault}
use Rattle.netlist.specs.declared.part.Part.TheVariants.{Input}
use Rattle.netlist.specs.Name.{IsName}
use Rattle.netlist.specs.Netlist.{NetView, NetlistView}
use Rattle.bench_text.specs.NetlistOf.{netlist_of}
use Rattle.texts.specs.Text.{◌>>=◌}
use Rattle.bench_text.proofs.CallerLemmas.{IsNetlist-netlist_of}
use Rattle.design.specs.declared.fault.BuildFault.{BuildFault}
use Rattle.timing_text.specs.declared.fault.OptionFault.{OptionFault}
use Rattle.timing_text.specs.declared.fault.OptionFault.TheVariants.{BadHorizon}
use Rattle.design.specs.Build.{design_of}
use Rattle.design.specs.Circuit.{Net}
use Rattle.timing_text.specs.Ranges.{most_ticks}
use Rattle.design.specs.Design.{DesignView, IsDesign, untimed}
use Rattle.design.specs.Equations.{value_of}
use Rattle.timing_text.specs.Options.{options_of, horizon_of}
use Rattle.design.proofs.CallerLemmas.{IsDesign-design_of, length-circuit}
use Rattle.vcd_dump.specs.Traces.{name_of}
use Rattle.vcd_dump.proofs.CallerLemmas.{few_below, shown_value-dump_text}
use Rattle.prepared_runs.specs.declared.fault.SimFault.{SimFault}
use Rattle.prepared_runs.specs.declared.fault.SimFault.TheVariants.{Setting, UnknownNet}
use Rattle.prepared_runs.specs.declared.view.DumpView.{DumpView}
use Rattle.prepared_runs.specs.Faults.{sim_of_bench, sim_of_build}
use Rattle.prepared_runs.specs.Source.{SourceView, design_of_source, dump_of_source, if_known, knows_shown, or_fault, shown_nets, signals_of, dump_of_design}
use Rattle.prepared_runs.specs.Viewed.{ShowsValues}
use Rattle.prepared_runs.proofs.ShownNets.{All-shown_nets, AllPairs-shown_nets}

-- ---- names of nets

abbrev pub no_net : Net
no_net = record {
  name = [];
  part = Input;
  pins = [];
  wires = [];
  timing = record { delay = 0; period = 0; phase = 0; initial = Unknown };
  stimuli = [];
}

module _ (design : DesignView) (ok : IsDesign design) where
  pub name_is : (net : ℕ) → net < length design.circuit → name_of design.circuit net ≡ (get_or design.netlist.nets net (untimed no_net)).name
  name_is net below =
      ap (λ at. option_map_or (λ (n : Net). n.name) at []) (slice_get-get_or design.circuit net no_net below)
      ∙ ap (λ (n : NetView). n.name)
      (sym (ap (λ nets. get_or nets net (untimed no_net)) (sym ok.same_nets) ∙ get_or-map untimed design.circuit net no_net (untimed no_net) below))

  IsName-name_of : (net : ℕ) → net < length design.circuit → IsName (name_of design.circuit net)
  IsName-name_of net below =
      subst IsName (sym (name_is net below)) (ok.netlist.names net (untimed no_net) (omega (arith, length-circuit design ok)))

  earlier_name : (first second : ℕ) → first < second → second < length design.circuit → name_of design.circuit first ≢ name_of design.circuit second
  earlier_name first second less below same =
      ok.netlist.distinct first second (untimed no_net) less (omega (arith, length-circuit design ok))
      (sym (name_is first (omega arith)) ∙ same ∙ name_is second below)

  -- different nets have different names
  other_name : (first second : ℕ) → first ≢ second → first < length design.circuit → second < length design.circuit →
      name_of design.circuit first ≢ name_of design.circuit second
  other_name first second differ low high = go (cases_lt first second) (cases_lt second first)
    where
      go : (first < second) ⊎ (second ≤ first) → (second < first) ⊎ (first ≤ second) → name_of design.circuit first ≢ name_of design.circuit second
      go (inl less) _ = earlier_name first second less high
      go (inr _) (inl more) = λ same. earlier_name second first more low (sym same)
      go (inr a) (inr b) = absurd (differ (omega arith))

  -- ---- the shown nets

  module _ (nets : List ℕ) (below : All (λ net. net < length design.circuit) nets) (once : AllPairs (λ (earlier later : ℕ). earlier ≢ later) nets) where
    abbrev entry : ℕ → List ℕ × (ℕ → Value)
    entry net = (name_of design.circuit net, value_of design.circuit net)

    few : length (map entry nets) ≤ 100_000
    few =
        let within = few_below (length design.circuit) nets below once in
        omega (arith, length-map nets entry, length-circuit design ok, ok.netlist.net_limit)

    proper : All (λ (shown : List ℕ × (ℕ → Value)). IsName shown.0) (map entry nets)
    proper =
        All-map (λ (shown : List ℕ × (ℕ → Value)). IsName shown.0) entry nets
        (All-weaker (λ net. net < length design.circuit) (λ net. IsName (name_of design.circuit net)) IsName-name_of nets below)

    apart : AllPairs (λ (earlier later : List ℕ × (ℕ → Value)). earlier.0 ≢ later.0) (map entry nets)
    apart first second d less inside =
        let late : second < length nets = omega (arith, length-map nets entry) in
        let early : first < length nets = omega arith in
        λ same. other_name (get_or nets first 0) (get_or nets second 0) (once first second 0 less late) (below first 0 early) (below second 0 late)
        (ap (λ (shown : List ℕ × (ℕ → Value)). shown.0) (sym (get_or-map entry nets first 0 d early)) ∙ same
        ∙ ap (λ (shown : List ℕ × (ℕ → Value)). shown.0) (get_or-map entry nets second 0 d late))

    entry_at : (net place : ℕ) → place < length nets → get_or nets place net ≡ net → slice_get (map entry nets) place ≡ Some (entry net)
    entry_at net place inside is =
        slice_get-map entry nets place ∙ ap (option_map entry) (slice_get-get_or nets place net inside ∙ ap (λ n. Some n) is)

  -- the text of a design shows its values
  ShowsValues-dump_of_design : (view : DumpView) (horizon : ℕ) → view.horizon ≡ horizon → horizon < 2 ^ 64 → ShowsValues view design (dump_of_design view horizon design)
  unfolding dump_of_design
  ShowsValues-dump_of_design view horizon is small net tick shown due =
      let nets = shown_nets view.show design.netlist in
      let below = All-shown_nets view.show design ok in
      let once = AllPairs-shown_nets view.show design ok in
      shown_value-dump_text view.unit horizon (signals_of design.circuit nets) shown.0 tick (name_of design.circuit net) (value_of design.circuit net)
      (few nets below once) (proper nets below once) (apart nets below once) (entry_at nets below once net shown.0 shown.1 shown.2) (omega arith) small

-- ---- what settings and texts make

pub record IsReady (ticks : ℕ) (ready : ℕ × DesignView) : Type 0 where
  pub horizon : ready.0 ≡ ticks
  pub within : ticks ≤ most_ticks
  pub design : IsDesign ready.1

module _ (source : SourceView) (ticks : ℕ) (ready : ℕ × DesignView) where
  abbrev build : NetlistView → Result DesignView BuildFault
  build netlist = design_of netlist source.delays source.stimuli source.default_delay source.period

  made : (horizon : ℕ) (netlist : NetlistView) → horizon_of ticks ≡ Ok horizon → netlist_of source.bench ≡ Ok netlist →
      (or_fault sim_of_build (build netlist) >>= λ design. Ok (horizon, design)) ≡ Ok ready → IsReady ticks ready
  made horizon netlist end read = go (build netlist) refl (nat_lt most_ticks ticks) refl end
    where
      go : (result : Result DesignView BuildFault) → build netlist ≡ result → (past : Bool) → nat_lt most_ticks ticks ≡ past →
          cond past (Err BadHorizon) (Ok ticks) ≡ Ok horizon →
          (or_fault sim_of_build result >>= λ design. Ok (horizon, design)) ≡ Ok ready → IsReady ticks ready
      go (Err fault) is past late end e = cc
      go (Ok design) is true late end e = cc
      go (Ok design) is false late end e =
          let same : (horizon, design) ≡ ready = cc in
          let at_end : ticks ≡ horizon = cc in
          subst (IsReady ticks) same (record {
            horizon = sym at_end;
            within = ltb-false most_ticks ticks late;
            design = IsDesign-design_of netlist source.delays source.stimuli source.default_delay source.period design
                (IsNetlist-netlist_of source.bench netlist read) is;
          })

  pub IsReady-design_of_source : design_of_source source ticks ≡ Ok ready → IsReady ticks ready
  unfolding design_of_source
  IsReady-design_of_source = go (options_of source.default_delay source.period) (horizon_of ticks) refl (netlist_of source.bench) refl
    where
      go : (settings : Result (Unit {0}) OptionFault) (end : Result ℕ OptionFault) → horizon_of ticks ≡ end →
          (read : Result NetlistView BenchFault) → netlist_of source.bench ≡ read →
          (or_fault Setting settings >>= λ done. or_fault Setting end >>= λ horizon. or_fault sim_of_bench read >>= λ netlist.
          or_fault sim_of_build (build netlist) >>= λ design. Ok (horizon, design)) ≡ Ok ready → IsReady ticks ready
      go (Err fault) end a read b e = cc
      go (Ok done) (Err fault) a read b e = cc
      go (Ok done) (Ok horizon) a (Err fault) b e = cc
      go (Ok done) (Ok horizon) a (Ok netlist) b e = made horizon netlist a b e

-- an answer that is given is that of nets that are there
known_answer : {A : Type 0} (known : Bool) (answer given : A) → cond known (Ok answer) (Err UnknownNet) ≡ Ok given → answer ≡ given
known_answer true answer given e = cc
known_answer false answer given e = absurd (cc)

-- the dump of a run shows the values of its design
pub ShowsValues-design_of_source : (source : SourceView) (view : DumpView) (horizon : ℕ) (design : DesignView) →
    design_of_source source view.horizon ≡ Ok (horizon, design) → ShowsValues view design (dump_of_design view horizon design)
ShowsValues-design_of_source source view horizon design made =
    let fits = IsReady-design_of_source source view.horizon (horizon, design) made in
    let at_end : horizon ≡ view.horizon = fits.horizon in
    let within = fits.within in
    ShowsValues-dump_of_design design fits.design view horizon (sym at_end) (omega arith)

pub ShowsValues-dump_of_source : (source : SourceView) (view : DumpView) (text : List ℕ) → dump_of_source source view ≡ Ok text →
    IsOkAnd (design_of_source source view.horizon) (λ ready. ShowsValues view ready.1 text)
unfolding dump_of_source
ShowsValues-dump_of_source source view text e = go (design_of_source source view.horizon) (ShowsValues-design_of_source source view) e
  where
    go : (ready : Result (ℕ × DesignView) SimFault) →
        ((horizon : ℕ) (design : DesignView) → ready ≡ Ok (horizon, design) → ShowsValues view design (dump_of_design view horizon design)) →
        (ready >>= λ good. if_known view.show (good.1).netlist (dump_of_design view good.0 good.1)) ≡ Ok text →
        IsOkAnd ready (λ good. ShowsValues view good.1 text)
    go (Ok good) shows e =
        let same = known_answer (knows_shown view.show (good.1).netlist) (dump_of_design view good.0 good.1) text e in
        subst (ShowsValues view good.1) same (shows good.0 good.1 refl)
    go (Err fault) shows e = cc

-- what went out into nothing is all that stands there
pub IfSome-appended : (old new : Option (List ℕ)) (text : List ℕ) (P : List ℕ → Type 0) → old ≡ Some [] → Appends old new text → P text → IfSome new P
IfSome-appended None new text P empty appends holds = cc
IfSome-appended (Some bytes) None text P empty appends holds = absurd appends
IfSome-appended (Some bytes) (Some all) text P empty appends holds =
    let none : bytes ≡ [] = cc in
    subst P (sym (appends ∙ ap (λ before. before ++ text) none)) holds
