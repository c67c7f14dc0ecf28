-- The timing diagram of a run, step by step.
use Rattle.std.proofs.Common.{◌≡◌, ◌≢◌, Bool, false, cond, ℕ, zero, suc, sym, get_or, take, ◌+◌, ◌<◌, ◌≤◌, List, [], ◌∷◌, ◌++◌, length, map, All, Option, Result, Ok, Err, refl, ap, subst, ◌∙◌, arith}
use Rattle.std.proofs.lemmas.List.Elements.{All-cons, All-head, All-nil, All-tail}
use Rattle.std.proofs.lemmas.List.{get_or-map, length-map, map-append, take_more}
use Rattle.std.proofs.KnownBytes.{Keeps-refl}
use Rattle.texts.specs.Text.{◌>>=◌}
use Rattle.logic3.specs.Wave.{Wave, value_at, wave_of}
use Rattle.logic3.proofs.CallerLemmas.{value_at-wave_of}
use Rattle.timing_text.specs.declared.fault.OptionFault.{OptionFault}
use Rattle.timing_text.specs.Options.{horizon_of}
use Rattle.design.specs.Circuit.{Circuit}
use Rattle.design.specs.Design.{DesignView}
use Rattle.design.specs.Equations.{value_of, waves_of}
use Rattle.vcd_dump.specs.Traces.{name_of, traces}
use Rattle.timing_diagram.specs.declared.fault.ColumnsFault.{ColumnsFault}
use Rattle.timing_diagram.specs.declared.form.Form.{Form}
use Rattle.timing_diagram.specs.declared.bus.Bus.{Bus}
use Rattle.timing_diagram.specs.Bus.{BusTrace, seen_bus}
use Rattle.timing_diagram.specs.Columns.{Ticks, IsDrawable, columns_of}
use Rattle.timing_diagram.specs.Drawing.{drawing}
use Rattle.timing_diagram.proofs.CallerLemmas.{drawing-same, is_too_long-same}
use Rattle.timing_diagram.specs.WavesPage.{is_too_long}
use Rattle.timing_diagram.specs.declared.fault.ColumnsFault.TheVariants.{TooManyChanges}
use Rattle.logic3.specs.declared.value.Value.{Value}
use Rattle.vcd_dump.specs.Dump.{Trace}
use Rattle.vcd_dump.specs.declared.fault.DumpFault.{DumpFault}
use Rattle.vcd_dump.specs.declared.fault.DumpFault.TheVariants as dump
use Rattle.texts.specs.Written.{AppendsPrefix}
use Rattle.prepared_runs.specs.Faults.{sim_of_dump}
use Rattle.prepared_runs.proofs.CallerLemmas.{BreaksOff-dump}
use Rattle.prepared_runs.specs.declared.view.DiagramView.{DiagramView}
use Rattle.prepared_runs.specs.declared.fault.SimFault.{SimFault}
use Rattle.prepared_runs.specs.declared.fault.SimFault.TheVariants.{Setting, Dump, Memory}
use Rattle.plain_runs.specs.declared.diagram_fault.DiagramFault.{DiagramFault}
use Rattle.plain_runs.specs.declared.diagram_fault.DiagramFault.TheVariants.{Columns, Run}
use Rattle.plain_runs.specs.Drawn.{DiagramEndsBy, bus_signals, bus_trace, diagram_of_lanes, diagram_of_source, drawing_within, ticks_of_view}
use Rattle.prepared_runs.specs.Ends.{BreaksOff, IsRefusal}
use Rattle.prepared_runs.specs.declared.lanes.BusNets.{BusNets}
use Rattle.prepared_runs.specs.Lanes.{BusView, LanesView, bits_of, bus_view, lanes_of}
use Rattle.prepared_runs.specs.Source.{SourceView, design_of_source, or_fault, signals_of}
use Rattle.prepared_runs.specs.Shown.{wave_at}
use Rattle.prepared_runs.proofs.CallerLemmas.{WritesPart-kept, map-wave_at, traces-map}

module _ (view : DiagramView) where
  pub ticks_of_view-bad : (fault : OptionFault) → horizon_of view.horizon ≡ Err fault → ticks_of_view view ≡ Err (Run (Setting fault))
  unfolding ticks_of_view
  ticks_of_view-bad fault bad = rw bad refl

  pub ticks_of_view-good : (horizon : ℕ) → horizon_of view.horizon ≡ Ok horizon →
      ticks_of_view view ≡ or_fault Columns (columns_of view.from view.to view.step view.at_end horizon)
  unfolding ticks_of_view
  ticks_of_view-good horizon good = rw good refl

-- ---- how it ends

-- a fault of the ticks is none of a write, nor want of memory
pub DiagramEndsBy-ticks : (view : DiagramView) (answer : Result (List ℕ) DiagramFault) (held : Option (List ℕ)) (fault : DiagramFault) →
    ticks_of_view view ≡ Err fault → answer ≡ Err fault → DiagramEndsBy answer held held fault
unfolding ticks_of_view
DiagramEndsBy-ticks view answer held fault bad is = go (horizon_of view.horizon) bad
  where
    ends : (other : DiagramFault) → other ≡ fault → ((is : answer ≡ Err other) → DiagramEndsBy answer held held other) → DiagramEndsBy answer held held fault
    ends other same holds = subst (λ f. answer ≡ Err f → DiagramEndsBy answer held held f) same holds is

    in_columns : (columns : Result Ticks ColumnsFault) → or_fault Columns columns ≡ Err fault → DiagramEndsBy answer held held fault
    in_columns (Ok ticks) e = absurd (cc)
    in_columns (Err why) e = let same : Columns why ≡ fault = cc in ends (Columns why) same (λ refused. (refused, Keeps-refl held))

    go : (end : Result ℕ OptionFault) →
        (or_fault (λ why. Run (Setting why)) end >>= λ horizon. or_fault Columns (columns_of view.from view.to view.step view.at_end horizon)) ≡ Err fault →
        DiagramEndsBy answer held held fault
    go (Ok horizon) e = in_columns (columns_of view.from view.to view.step view.at_end horizon) e
    go (Err why) e = let same : Run (Setting why) ≡ fault = cc in ends (Run (Setting why)) same (λ refused. (refused, Keeps-refl held))

-- before a byte is written it ends by what refuses the run
pub DiagramEndsBy-IsRefusal : {A : Type 0} (refused : Result A SimFault) (answer : Result (List ℕ) DiagramFault) (held : Option (List ℕ)) (fault : SimFault) →
    (refused ≡ Err fault → answer ≡ Err (Run fault)) → IsRefusal refused fault → DiagramEndsBy answer held held (Run fault)
DiagramEndsBy-IsRefusal refused answer held (Dump fault) lifts refusal = absurd refusal
DiagramEndsBy-IsRefusal refused answer held Memory lifts refusal = WritesPart-kept answer held held (Keeps-refl held)
DiagramEndsBy-IsRefusal refused answer held _ lifts refusal = (lifts refusal, Keeps-refl held)

-- behind that, by what breaks its text off
pub DiagramEndsBy-BreaksOff : (old new : Option (List ℕ)) (text : List ℕ) (fault : SimFault) → BreaksOff old new text fault →
    DiagramEndsBy (Ok text) old new (Run fault)
DiagramEndsBy-BreaksOff old new text (Dump fault) part = part
DiagramEndsBy-BreaksOff old new text Memory part = part
DiagramEndsBy-BreaksOff old new text _ part = absurd part

-- ---- its answer

module _ (source : SourceView) (view : DiagramView) (form : Form) where
  -- a fault of the ticks is the answer
  pub diagram_of_source-bad_ticks : (fault : DiagramFault) → ticks_of_view view ≡ Err fault → diagram_of_source source view form ≡ Err fault
  unfolding diagram_of_source
  diagram_of_source-bad_ticks fault bad = rw bad refl

  module _ (ticks : Ticks) (drawn : ticks_of_view view ≡ Ok ticks) where
    -- so is one of the design
    pub diagram_of_source-bad : (fault : SimFault) → design_of_source source view.horizon ≡ Err fault → diagram_of_source source view form ≡ Err (Run fault)
    unfolding diagram_of_source
    diagram_of_source-bad fault bad = rw (drawn, bad) refl

    module _ (horizon : ℕ) (design : DesignView) (made : design_of_source source view.horizon ≡ Ok (horizon, design)) where
      -- so is one of the lanes
      pub diagram_of_source-no_lanes : (fault : SimFault) → lanes_of view design.netlist ≡ Err fault → diagram_of_source source view form ≡ Err (Run fault)
      unfolding diagram_of_source
      diagram_of_source-no_lanes fault none = rw (drawn, made, none) refl

      pub diagram_of_source-good : (lanes : LanesView) → lanes_of view design.netlist ≡ Ok lanes →
          diagram_of_source source view form ≡ diagram_of_lanes form ticks design.circuit lanes
      unfolding diagram_of_source
      diagram_of_source-good lanes are = rw (drawn, made, are) refl

-- ---- its waveforms

-- what holds of each of two lists
parts : (P : ℕ → Type 0) (xs ys : List ℕ) → All P (xs ++ ys) → All P xs × All P ys
parts P [] ys all = (All-nil P, all)
parts P (x ∷ xs) ys all =
    let rest = parts P xs ys (All-tail P x (xs ++ ys) all) in
    (All-cons P x xs (All-head P x (xs ++ ys) all) rest.0, rest.1)

-- what holds of the nets of all buses holds of those of one
pub bus_within : (P : ℕ → Type 0) (buses : List BusNets) (place : ℕ) (d : BusNets) → place < length buses → All P (bits_of (map bus_view buses)) →
    All P (get_or buses place d).nets.items
bus_within P [] place d inside all = absurd (omega arith)
bus_within P (bus ∷ buses) zero d inside all = (parts P bus.nets.items (bits_of (map bus_view buses)) all).0
bus_within P (bus ∷ buses) (suc place) d inside all =
    bus_within P buses place d (omega arith) (parts P bus.nets.items (bits_of (map bus_view buses)) all).1

pub maps : {A B C : Type 0} (f : A → B) (g : B → C) (xs : List A) → map g (map f xs) ≡ map (λ x. g (f x)) xs
maps f g [] = refl
maps f g (x ∷ xs) = ap (λ ys. g (f x) ∷ ys) (maps f g xs)

-- one more bus with its waveforms
pub more_traces : (waves : List Wave) (buses : List BusNets) (place : ℕ) (bus : BusNets) (drawn more : List Bus) (one : Bus) → place < length buses →
    bus ≡ get_or buses place bus → more ≡ drawn ++ one ∷ [] → seen_bus one ≡ bus_trace (wave_at waves) (bus_view bus) →
    map seen_bus drawn ≡ map (bus_trace (wave_at waves)) (take place (map bus_view buses)) →
    map seen_bus more ≡ map (bus_trace (wave_at waves)) (take (place + 1) (map bus_view buses))
more_traces waves buses place bus drawn more one inside is longer seen so_far =
    ap (map seen_bus) longer ∙ map-append seen_bus drawn (one ∷ [])
    ∙ ap (λ traces. traces ++ seen_bus one ∷ []) so_far
    ∙ ap (λ trace. map (bus_trace (wave_at waves)) (take place (map bus_view buses)) ++ trace ∷ [])
    (seen ∙ ap (bus_trace (wave_at waves)) (sym (get_or-map bus_view buses place bus (bus_view bus) inside ∙ ap bus_view (sym is))))
    ∙ sym (ap (map (bus_trace (wave_at waves))) (take_more (map bus_view buses) place (bus_view bus) (omega (arith, length-map buses bus_view)))
    ∙ map-append (bus_trace (wave_at waves)) (take place (map bus_view buses)) _)

-- the same is drawn of the same
abbrev drawn : Form → Ticks → Circuit → List ℕ → List Wave → List BusTrace → Result (List ℕ) DiagramFault
drawn form ticks circuit nets shown buses = drawing_within form ticks (map value_at shown) (traces circuit nets shown) buses

pub drawn-same : (form : Form) (ticks : Ticks) (circuit : Circuit) (nets nets' : List ℕ) (shown shown' : List Wave) (buses buses' : List BusTrace) →
    nets ≡ nets' → shown ≡ shown' → buses ≡ buses' → drawn form ticks circuit nets shown buses ≡ drawn form ticks circuit nets' shown' buses'
drawn-same form ticks circuit nets nets' shown shown' buses buses' a b d =
    ap (λ ns. drawn form ticks circuit ns shown buses) a
    ∙ ap (λ ws. drawn form ticks circuit nets' ws buses) b
    ∙ ap (drawn form ticks circuit nets' shown') d

-- a drawing that isn't too long ends as the writing of it does
pub drawing_within-ends : (form : Form) (ticks : Ticks) (signals : List (ℕ → Value)) (shown : List Trace) (buses : List BusTrace)
    (old new : Option (List ℕ)) (fault : DumpFault) → is_too_long form ticks signals buses ≡ false → fault ≢ dump.Failed →
    AppendsPrefix old new (drawing form ticks shown buses) →
    DiagramEndsBy (drawing_within form ticks signals shown buses) old new (Run (sim_of_dump fault))
drawing_within-ends form ticks signals shown buses old new fault short ok part =
    rw short (DiagramEndsBy-BreaksOff old new (drawing form ticks shown buses) (sim_of_dump fault)
    (BreaksOff-dump old new (drawing form ticks shown buses) fault ok part))

either-same : {long long' : Bool} {text text' : List ℕ} → long ≡ long' → text ≡ text' →
    cond long (Err (Columns TooManyChanges)) (Ok text) ≡ cond long' (Err (Columns TooManyChanges)) (Ok text')
either-same long text = rw (long, text) refl

module _ (circuit : Circuit) (horizon : ℕ) (waves : List Wave) (are : waves ≡ waves_of circuit (horizon + 1)) where
  abbrev IsNet : ℕ → Type 0
  IsNet net = net < length circuit

  abbrev wave : ℕ → Wave
  wave net = wave_of (value_of circuit net) 0 (horizon + 1)

  bits-same : (nets : List ℕ) → All IsNet nets → map (λ net. value_at (wave_at waves net)) nets ≡ map (λ net. value_at (wave net)) nets
  bits-same [] below = refl
  bits-same (net ∷ nets) below =
      let one = map-wave_at circuit horizon waves (net ∷ []) are (All-cons IsNet net [] (All-head IsNet net nets below) (All-nil IsNet)) in
      let here : wave_at waves net ≡ wave net = cc in
      let rest = bits-same nets (All-tail IsNet net nets below) in rw (here, rest) refl

  buses-same : (buses : List BusView) → All IsNet (bits_of buses) → map (bus_trace (wave_at waves)) buses ≡ map (bus_trace wave) buses
  buses-same [] below = refl
  buses-same (bus ∷ buses) below =
      let both = parts IsNet bus.1 (bits_of buses) below in
      let here = bits-same bus.1 both.0 in
      let rest = buses-same buses both.1 in rw (here, rest) refl

  text-same : (form : Form) (ticks : Ticks) (lanes : LanesView) → IsDrawable ticks → ticks.to ≤ horizon →
      All IsNet lanes.nets → All IsNet (bits_of lanes.buses) →
      drawing form ticks (traces circuit lanes.nets (map (wave_at waves) lanes.nets)) (map (bus_trace (wave_at waves)) lanes.buses)
      ≡ drawing form ticks (signals_of circuit lanes.nets) (bus_signals circuit lanes.buses)
  text-same form ticks lanes ok within nets bits =
      ap (λ ws. drawing form ticks (traces circuit lanes.nets ws) (map (bus_trace (wave_at waves)) lanes.buses)) (map-wave_at circuit horizon waves lanes.nets are nets)
      ∙ ap (λ shown. drawing form ticks shown (map (bus_trace (wave_at waves)) lanes.buses)) (traces-map circuit wave lanes.nets)
      ∙ ap (drawing form ticks (map (λ net. (name_of circuit net, value_at (wave net))) lanes.nets)) (buses-same lanes.buses bits)
      ∙ drawing-same ticks ok (name_of circuit) (λ net. value_at (wave net)) (value_of circuit)
      (λ net tick inside. value_at-wave_of (value_of circuit net) 0 (horizon + 1) tick (omega arith) (omega arith)) form lanes.nets lanes.buses

  long-same : (form : Form) (ticks : Ticks) (lanes : LanesView) → IsDrawable ticks → ticks.to ≤ horizon →
      All IsNet lanes.nets → All IsNet (bits_of lanes.buses) →
      is_too_long form ticks (map value_at (map (wave_at waves) lanes.nets)) (map (bus_trace (wave_at waves)) lanes.buses)
      ≡ is_too_long form ticks (map (value_of circuit) lanes.nets) (bus_signals circuit lanes.buses)
  long-same form ticks lanes ok within nets bits =
      ap (λ signals. is_too_long form ticks signals (map (bus_trace (wave_at waves)) lanes.buses)) (maps (wave_at waves) value_at lanes.nets ∙ bits-same lanes.nets nets)
      ∙ ap (is_too_long form ticks (map (λ net. value_at (wave net)) lanes.nets)) (buses-same lanes.buses bits)
      ∙ is_too_long-same ticks ok.forward (λ net. value_at (wave net)) (value_of circuit)
      (λ net tick inside. value_at-wave_of (value_of circuit net) 0 (horizon + 1) tick (omega arith) (omega arith)) form lanes.nets lanes.buses

  -- what is drawn of the waveforms of lanes is the answer's text
  pub diagram_of_lanes-waves : (form : Form) (ticks : Ticks) (lanes : LanesView) → IsDrawable ticks → ticks.to ≤ horizon →
      All IsNet lanes.nets → All IsNet (bits_of lanes.buses) →
      drawn form ticks circuit lanes.nets (map (wave_at waves) lanes.nets) (map (bus_trace (wave_at waves)) lanes.buses)
      ≡ diagram_of_lanes form ticks circuit lanes
  unfolding diagram_of_lanes
  diagram_of_lanes-waves form ticks lanes ok within nets bits =
      either-same (long-same form ticks lanes ok within nets bits) (text-same form ticks lanes ok within nets bits)
