-- Two runs compared net by net, step by step.
use Rattle.std.proofs.Common.{◌≡◌, ℕ, ◌+◌, ◌<◌, ◌≤◌, ◌&&◌, ◌==◌, ◌↔◌, nat_lt, Bool, true, false, cond, IsTrue, List, [], ◌∷◌, ◌++◌, take, length, map, find, get_or, bytes_eq, flat_map, All, Option, Some, None, Result, Ok, Err, IsOkAnd, Bor, refl, sym, ap, subst, ◌∙◌, arith, true≢false}
use Rattle.std.specs.List.{list_all}
use Rattle.std.specs.Prelude.{slice_index_or}
use Rattle.std.proofs.lemmas.List.{flat_map_more, get_or-map, length-map, map-append, take_more}
use Rattle.std.proofs.lemmas.List.Elements.{All-head, All-push, All-tail}
use Rattle.std.proofs.lemmas.List.Folds.{list_all-append}
use Rattle.texts.specs.Text.{◌>>=◌}
use Rattle.logic3.specs.declared.value.Value.{Value}
use Rattle.logic3.specs.Wave.{Wave, value_at, wave_of}
use Rattle.logic3.proofs.CallerLemmas.{value_at-wave_of}
use Rattle.netlist.specs.Names.{seen_names}
use Rattle.netlist.specs.Netlist.{name_at, net_named}
use Rattle.netlist.proofs.CallerLemmas.{All-from_no_position, net_at-named}
use Rattle.timing_text.specs.declared.fault.OptionFault.{OptionFault}
use Rattle.timing_text.specs.declared.fault.OptionFault.TheVariants.{BadHorizon}
use Rattle.timing_text.specs.Options.{horizon_of}
use Rattle.timing_text.specs.Ranges.{most_ticks}
use Rattle.design.specs.Circuit.{Net}
use Rattle.design.specs.Design.{DesignView, IsDesign}
use Rattle.design.specs.Equations.{value_of}
use Rattle.design.proofs.CallerLemmas.{net_named-circuit, length-circuit}
use Rattle.cmb_kernel.specs.State.{KernelView, frontier_at}
use Rattle.fanin_cone.specs.Agreement.{AgreesAt, net_of}
use Rattle.fanin_cone.specs.AgreeingCones.{MarksAgreeing}
use Rattle.fanin_cone.specs.Cone.{start}
use Rattle.wave_diff.specs.declared.comparison.Comparison.{Comparison}
use Rattle.wave_diff.specs.declared.comparison.Comparison.TheVariants.{Same, Differs}
use Rattle.wave_diff.specs.declared.difference.Difference.{Difference}
use Rattle.wave_diff.specs.declared.fault.ComparedFault.{ComparedFault}
use Rattle.wave_diff.specs.declared.fault.ComparedFault.TheVariants.{BadEvery, PastHorizon}
use Rattle.wave_diff.specs.Compared.{ComparedTicks, IsCompared, compared_of}
use Rattle.wave_diff.specs.Comparison.{is_same}
use Rattle.wave_diff.specs.Difference.{first_difference}
use Rattle.wave_diff.specs.Text.{comparison_line}
use Rattle.wave_diff.proofs.CallerLemmas.{first_difference-None, first_difference-same}
use Rattle.wave_diff.specs.declared.diff_ticks.DiffTicks.{DiffTicks}
use Rattle.prepared_runs.specs.declared.fault.SimFault.{SimFault}
use Rattle.prepared_runs.specs.declared.fault.SimFault.TheVariants.{UnknownNet, Dump, Memory}
use Rattle.prepared_runs.specs.declared.preparation.PreparedRun.{PreparedRun}
use Rattle.kernel_runs.specs.declared.diff_fault.DiffFault.{DiffFault}
use Rattle.kernel_runs.specs.declared.diff_fault.DiffFault.TheVariants.{Compared, Run}
use Rattle.wave_diff.specs.declared.comparison.Side.{Side}
use Rattle.wave_diff.specs.declared.comparison.Side.TheVariants.{First, Second}
use Rattle.kernel_runs.specs.declared.twin_run.TwinFault.{TwinFault}
use Rattle.prepared_runs.specs.Ends.{IsRefusal}
use Rattle.kernel_runs.specs.AtEnd.{IsAtEnd}
use Rattle.kernel_runs.specs.Diffs.{AgreesOnCone, IsComparisonOf, IsDiff, IsDiffRefusal, IsOfDifference, IsOfNets, NetDiff, Pair, are_accepted, diff_line, names_compared, of_horizon, on_run, pair_by, pair_in, pair_of, ticks_of_diff}
use Rattle.prepared_runs.specs.Source.{SourceView, or_fault}
use Rattle.prepared_runs.specs.Prepared.{RunView, run_of_source, seen_run}
use Rattle.kernel_runs.specs.Twins.{CanCompare, IsTwinRefusal, on}
use Rattle.kernel_runs.proofs.Isolated.{same_values}
use Rattle.prepared_runs.proofs.CallerLemmas.{ready_of_run}

-- ---- refusals

-- a fault of the ticks, which is none of a write, is the answer
pub IsDiffRefusal-ticks : {A : Type 0} (ticks : DiffTicks) (answer : Result A DiffFault) (fault : DiffFault) →
    ticks_of_diff ticks ≡ Err fault → answer ≡ Err fault → IsDiffRefusal answer fault
unfolding ticks_of_diff
IsDiffRefusal-ticks ticks answer fault bad is = go (horizon_of ticks.horizon) bad
  where
    refused : (other : DiffFault) → other ≡ fault → (answer ≡ Err other → IsDiffRefusal answer other) → IsDiffRefusal answer fault
    refused other same holds = subst (λ f. answer ≡ Err f → IsDiffRefusal answer f) same holds is

    in_ticks : (compared : Result ComparedTicks ComparedFault) → or_fault Compared compared ≡ Err fault → IsDiffRefusal answer fault
    in_ticks (Ok compared) e = absurd (cc)
    in_ticks (Err why) e = let same : Compared why ≡ fault = cc in refused (Compared why) same (λ is. is)

    go : (end : Result ℕ OptionFault) →
        (or_fault of_horizon end >>= λ horizon. or_fault Compared (compared_of ticks.from ticks.every horizon)) ≡ Err fault → IsDiffRefusal answer fault
    go (Ok horizon) e = in_ticks (compared_of ticks.from ticks.every horizon) e
    go (Err why) e = let same : of_horizon why ≡ fault = cc in refused (of_horizon why) same (λ is. is)

-- so is what refuses a side's run
pub IsDiffRefusal-lifted : {A B : Type 0} (answer : Result A DiffFault) (refused : Result B SimFault) (side : Side) (fault : TwinFault) → fault.side ≡ side →
    ((why : SimFault) → refused ≡ Err why → answer ≡ Err (on_run side why)) → IsRefusal refused fault.fault → IsDiffRefusal answer (Run fault)
IsDiffRefusal-lifted answer refused side fault on_side lifts refusal = rw on_side (go fault.fault refusal)
  where
    go : (why : SimFault) → IsRefusal refused why → IsDiffRefusal answer (on_run side why)
    go (Dump other) refusal = absurd refusal
    go Memory refusal = tt
    go _ refusal = lifts _ refusal

-- and what refuses the names
pub IsDiffRefusal-run : {A : Type 0} (made : Result A TwinFault) (fault : TwinFault) → IsTwinRefusal made fault →
    IsDiffRefusal (or_fault Run made) (Run fault)
IsDiffRefusal-run made fault refusal = go fault.side fault.fault refusal
  where
    go : (side : Side) (why : SimFault) → IsTwinRefusal made (on side why) → IsDiffRefusal (or_fault Run made) (on_run side why)
    go side (Dump other) refusal = absurd refusal
    go side Memory refusal = tt
    go side _ refusal = ap (or_fault Run) refusal

pub IsOkAnd-run : {A : Type 0} (made : Result A TwinFault) (P : A → Type 0) → IsOkAnd made P → IsOkAnd (or_fault Run made) P
IsOkAnd-run (Ok value) P holds = holds
IsOkAnd-run (Err fault) P holds = absurd holds

-- ---- the pair

module _ (ticks : DiffTicks) where
  pub ticks_of_diff-bad : (fault : OptionFault) → horizon_of ticks.horizon ≡ Err fault → ticks_of_diff ticks ≡ Err (of_horizon fault)
  unfolding ticks_of_diff
  ticks_of_diff-bad fault bad = rw bad refl

  pub ticks_of_diff-good : (horizon : ℕ) → horizon_of ticks.horizon ≡ Ok horizon →
      ticks_of_diff ticks ≡ or_fault Compared (compared_of ticks.from ticks.every horizon)
  unfolding ticks_of_diff
  ticks_of_diff-good horizon good = rw good refl

module _ (first second : SourceView) (names : List (List ℕ)) (ticks : DiffTicks) where
  pub pair_of-bad_ticks : (fault : DiffFault) → ticks_of_diff ticks ≡ Err fault → pair_of first second names ticks ≡ Err fault
  unfolding pair_of
  pair_of-bad_ticks fault bad = rw bad refl

  module _ (compared : ComparedTicks) (count : ticks_of_diff ticks ≡ Ok compared) where
    pub pair_of-bad_first : (fault : SimFault) → run_of_source first ticks.horizon ≡ Err fault → pair_of first second names ticks ≡ Err (on_run First fault)
    unfolding pair_of
    pair_of-bad_first fault bad = rw (count, bad) refl

    module _ (one : RunView) (made_one : run_of_source first ticks.horizon ≡ Ok one) where
      pub pair_of-bad_second : (fault : SimFault) → run_of_source second ticks.horizon ≡ Err fault → pair_of first second names ticks ≡ Err (on_run Second fault)
      unfolding pair_of
      pair_of-bad_second fault bad = rw (count, made_one, bad) refl

      pub pair_of-in : (other : RunView) → run_of_source second ticks.horizon ≡ Ok other →
          pair_of first second names ticks ≡ or_fault Run (pair_in one other compared names)
      unfolding pair_of
      pair_of-in other made_other = rw (count, made_one, made_other) refl

module _ (one other : RunView) (ticks : ComparedTicks) (names : List (List ℕ)) where
  pub pair_in-unknown : are_accepted one.design.netlist other.design.netlist names ≡ false → pair_in one other ticks names ≡ Err (on First UnknownNet)
  unfolding pair_in
  pair_in-unknown unknown = rw unknown refl

  pub pair_in-known : are_accepted one.design.netlist other.design.netlist names ≡ true →
      pair_in one other ticks names ≡ Ok (pair_by one other ticks (names_compared names one.design.netlist other.design.netlist))
  unfolding pair_in
  pair_in-known known = rw known refl

-- what a pair is made of
pub record IsPairOf (first second : SourceView) (ticks : DiffTicks) (pair : Pair) : Type 0 where
  pub count : ticks_of_diff ticks ≡ Ok pair.ticks
  pub one : run_of_source first ticks.horizon ≡ Ok pair.first
  pub other : run_of_source second ticks.horizon ≡ Ok pair.second

pub IsPairOf-pair_of : (first second : SourceView) (names : List (List ℕ)) (ticks : DiffTicks) (pair : Pair) →
    pair_of first second names ticks ≡ Ok pair → IsPairOf first second ticks pair
unfolding pair_of pair_in
IsPairOf-pair_of first second names ticks pair made = go (ticks_of_diff ticks) refl (run_of_source first ticks.horizon) refl (run_of_source second ticks.horizon) refl made
  where
    in_pair : (known : Bool) (a : Pair) → or_fault Run (cond known (Ok a) (Err (on First UnknownNet))) ≡ Ok pair → a ≡ pair
    in_pair true a e = cc
    in_pair false a e = cc

    go : (counts : Result ComparedTicks DiffFault) → ticks_of_diff ticks ≡ counts → (one : Result RunView SimFault) → run_of_source first ticks.horizon ≡ one →
        (other : Result RunView SimFault) → run_of_source second ticks.horizon ≡ other →
        (counts >>= λ compared. or_fault (on_run First) one >>= λ a. or_fault (on_run Second) other >>= λ b. or_fault Run (pair_in a b compared names)) ≡ Ok pair →
        IsPairOf first second ticks pair
    go (Ok compared) count (Ok a) one (Ok b) other e =
        let same : pair_by a b compared (names_compared names a.design.netlist b.design.netlist) ≡ pair =
        in_pair (are_accepted a.design.netlist b.design.netlist names) _ e in
        record {
          count = count ∙ ap (λ (p : Pair). Ok p.ticks) same;
          one = one ∙ ap (λ (p : Pair). Ok p.first) same;
          other = other ∙ ap (λ (p : Pair). Ok p.second) same;
        }
    go (Err fault) count one made_one other made_other e = absurd (cc)
    go (Ok compared) count (Err fault) made_one other made_other e = absurd (cc)
    go (Ok compared) count (Ok a) made_one (Err fault) made_other e = absurd (cc)

-- its ticks end at the horizon
pub ticks_of_diff-end : (ticks : DiffTicks) (compared : ComparedTicks) → ticks_of_diff ticks ≡ Ok compared → compared.to ≡ ticks.horizon
unfolding ticks_of_diff
ticks_of_diff-end ticks compared made = go (nat_lt most_ticks ticks.horizon) made
  where
    all : ComparedTicks
    all = record { from = ticks.from; every = ticks.every; to = ticks.horizon }

    in_range : (none past : Bool) → or_fault Compared (cond none (Err BadEvery) (cond past (Err PastHorizon) (Ok all))) ≡ Ok compared → compared.to ≡ ticks.horizon
    in_range false false e =
        let same : all ≡ compared = cc in
        ap (λ (t : ComparedTicks). t.to) (sym same)
    in_range false true e = cc
    in_range true past e = cc

    go : (late : Bool) → (or_fault of_horizon (cond late (Err BadHorizon) (Ok ticks.horizon)) >>= λ horizon. or_fault Compared (compared_of ticks.from ticks.every horizon)) ≡ Ok compared →
        compared.to ≡ ticks.horizon
    go false e = in_range (ticks.every == 0) (nat_lt ticks.horizon ticks.from) e
    go true e = cc

-- ---- the comparison of a name

module _ (one other : RunView) (ticks : ComparedTicks) (name : List ℕ) where
  module _ (net : ℕ) (found : net_named one.design.netlist name ≡ Some net) where
    module _ (other_net : ℕ) (other_found : net_named other.design.netlist name ≡ Some other_net) where
      pub IsComparisonOf-differs : (difference : Difference) →
          first_difference (value_of one.design.circuit net) (value_of other.design.circuit other_net) ticks ≡ Some difference →
          IsComparisonOf one other ticks name (Differs difference)
      IsComparisonOf-differs difference differ = rw (found, other_found, differ) refl

      pub IsComparisonOf-same : (agree : Bool) →
          first_difference (value_of one.design.circuit net) (value_of other.design.circuit other_net) ticks ≡ None →
          (IsTrue agree ↔ AgreesOnCone one other name) → IsComparisonOf one other ticks name (Same agree)
      IsComparisonOf-same agree none says = rw (found, other_found, none) (agree, says, refl)

-- ---- one answer

one_Bool : (P : Type 0) (a b : Bool) → (IsTrue a ↔ P) → (IsTrue b ↔ P) → a ≡ b
one_Bool P true b says other = sym (other.1 (says.0 refl))
one_Bool P false true says other = absurd (true≢false (sym (says.1 (other.0 refl))))
one_Bool P false false says other = refl

module _ (one other : RunView) (name : List ℕ) where
  one_of_difference : (found : Option Difference) (a b : Comparison) → IsOfDifference one other name found a → IsOfDifference one other name found b → a ≡ b
  one_of_difference (Some found) a b is also = is ∙ sym also
  one_of_difference None a b (agree, says, is) (other_agree, other_says, also) =
      is ∙ ap (λ agree. Same agree) (one_Bool (AgreesOnCone one other name) agree other_agree says other_says) ∙ sym also

  one_of_nets : (ticks : ComparedTicks) (net other_net : Option ℕ) (a b : Comparison) → IsOfNets one other ticks name net other_net a →
      IsOfNets one other ticks name net other_net b → a ≡ b
  one_of_nets ticks (Some net) (Some other_net) a b is also =
      one_of_difference (first_difference (value_of one.design.circuit net) (value_of other.design.circuit other_net) ticks) a b is also
  one_of_nets ticks (Some net) None a b is also = is ∙ sym also
  one_of_nets ticks None other_net a b is also = is ∙ sym also

-- a name has one comparison
pub one_comparison : (one other : RunView) (ticks : ComparedTicks) (name : List ℕ) (a b : Comparison) →
    IsComparisonOf one other ticks name a → IsComparisonOf one other ticks name b → a ≡ b
one_comparison one other ticks name a b is also =
    one_of_nets one other name ticks (net_named one.design.netlist name) (net_named other.design.netlist name) a b is also

abbrev IsOf : Pair → NetDiff → Type 0
IsOf pair diff = IsComparisonOf pair.first pair.second pair.ticks diff.name diff.comparison

abbrev name_in : NetDiff → List ℕ
name_in diff = diff.name

one_list : (pair : Pair) (a b : List NetDiff) → map name_in a ≡ map name_in b → All (IsOf pair) a → All (IsOf pair) b → a ≡ b
one_list pair [] [] names is also = refl
one_list pair [] (x ∷ xs) names is also = cc
one_list pair (x ∷ xs) [] names is also = cc
one_list pair (x ∷ xs) (y ∷ ys) names is also =
    let name : x.name ≡ y.name = cc in
    let rest : map name_in xs ≡ map name_in ys = cc in
    let there : IsComparisonOf pair.first pair.second pair.ticks x.name y.comparison =
    subst (λ n. IsComparisonOf pair.first pair.second pair.ticks n y.comparison) (sym name) (All-head (IsOf pair) y ys also) in
    let comparison = one_comparison pair.first pair.second pair.ticks x.name x.comparison y.comparison (All-head (IsOf pair) x xs is) there in
    let same : x ≡ y = λ i. record { name = name i; comparison = comparison i } in
    let others = one_list pair xs ys rest (All-tail (IsOf pair) x xs is) (All-tail (IsOf pair) y ys also) in
    cc

-- two runs have one answer
pub one_diff : (pair : Pair) (text other_text : List ℕ) (same other_same : Bool) → IsDiff pair text same → IsDiff pair other_text other_same →
    (text ≡ other_text) × (same ≡ other_same)
one_diff pair text other_text same other_same is also =
    let diffs = one_list pair is.diffs also.diffs (is.names ∙ sym also.names) is.each also.each in (
      is.lines ∙ ap (flat_map diff_line) diffs ∙ sym also.lines,
      is.all_same ∙ ap (list_all (λ (diff : NetDiff). is_same diff.comparison)) diffs ∙ sym also.all_same,
    )

-- ---- the lines

module _ (one other : RunView) (ticks : ComparedTicks) where
  -- one more name
  pub IsDiff-more : (names : List (List ℕ)) (text : List ℕ) (same : Bool) (name : List ℕ) (comparison : Comparison) →
      IsDiff (pair_by one other ticks names) text same → IsComparisonOf one other ticks name comparison →
      IsDiff (pair_by one other ticks (names ++ name ∷ [])) (text ++ diff_line (record { name = name; comparison = comparison })) (same && is_same comparison)
  IsDiff-more names text same name comparison so_far is =
      let more : NetDiff = record { name = name; comparison = comparison } in
      record {
        diffs = so_far.diffs ++ more ∷ [];
        names = map-append name_in so_far.diffs (more ∷ []) ∙ ap (λ ns. ns ++ name ∷ []) so_far.names;
        each = All-push (IsOf (pair_by one other ticks names)) so_far.diffs more so_far.each is;
        lines = ap (λ t. t ++ diff_line more) so_far.lines ∙ flat_map_more diff_line [] so_far.diffs more;
        all_same = ap (λ s. s && is_same comparison) so_far.all_same ∙ one_more (is_same comparison)
            ∙ sym (list_all-append (λ (diff : NetDiff). is_same diff.comparison) so_far.diffs (more ∷ []));
      }
    where
      one_more : (here : Bool) → (list_all (λ (diff : NetDiff). is_same diff.comparison) so_far.diffs && here)
          ≡ (list_all (λ (diff : NetDiff). is_same diff.comparison) so_far.diffs && (here && true))
      one_more true = refl
      one_more false = refl

  -- the next of some names
  pub IsDiff-next : (names : List (Bor (List ℕ))) (at : ℕ) (d : Bor (List ℕ)) (text new_text : List ℕ) (same new_same : Bool) (comparison : Comparison) →
      at < length names → IsDiff (pair_by one other ticks (take at (seen_names names))) text same →
      IsComparisonOf one other ticks (get_or names at d).now comparison → new_text ≡ text ++ comparison_line (get_or names at d).now comparison →
      new_same ≡ (same && is_same comparison) → IsDiff (pair_by one other ticks (take (at + 1) (seen_names names))) new_text new_same
  IsDiff-next names at d text new_text same new_same comparison inside so_far is said kept =
      let name = (get_or names at d).now in
      let there : at < length (seen_names names) = rw length-map inside in
      let more : take (at + 1) (seen_names names) ≡ take at (seen_names names) ++ name ∷ [] =
      take_more (seen_names names) at [] there
      ∙ ap (λ n. take at (seen_names names) ++ n ∷ []) (get_or-map (λ (borrowed : Bor (List ℕ)). borrowed.now) names at d [] inside) in
      rw (more, said, kept) (IsDiff-more (take at (seen_names names)) text same name comparison so_far is)

-- ---- the signals

-- a net of a name is one of the circuit's
pub named_below : (design : DesignView) (name : List ℕ) (net : ℕ) → IsDesign design → net_named design.netlist name ≡ Some net → net < length design.circuit
named_below design name net is found =
    let at = net_at-named design.netlist name net found in
    let same = length-circuit design is in
    omega (arith, at.0, same)

-- what the kernel of a run at its end knows of a net is what the equations give it
pub completed_wave : (run : PreparedRun) (kernel : KernelView) (net : ℕ) (wave : Wave) → IsAtEnd run kernel → net < length run.design.circuit →
    wave ≡ wave_of (value_of kernel.circuit net) 0 (frontier_at kernel.state net) → wave ≡ wave_of (value_of run.design.circuit net) 0 (run.horizon + 1)
completed_wave run kernel net wave completed below is =
    let there : net < length kernel.circuit = rw completed.circuit below in
    is ∙ ap (λ to. wave_of (value_of kernel.circuit net) 0 to) (completed.known net there ∙ completed.end)
    ∙ ap (λ circuit. wave_of (value_of circuit net) 0 (run.horizon + 1)) completed.circuit

-- the waveforms of two nets up to a horizon differ where the signals do
first_difference-waves : (f g : ℕ → Value) (ticks : ComparedTicks) (horizon : ℕ) (first second : Wave) → ticks.to ≤ horizon →
    first ≡ wave_of f 0 (horizon + 1) → second ≡ wave_of g 0 (horizon + 1) →
    first_difference (value_at first) (value_at second) ticks ≡ first_difference f g ticks
first_difference-waves f g ticks horizon first second within is also =
    first_difference-same ticks (value_at first) (value_at second) f g
    (λ tick due. ap (λ wave. value_at wave tick) is ∙ value_at-wave_of f 0 (horizon + 1) tick (omega arith) (omega arith))
    (λ tick due. ap (λ wave. value_at wave tick) also ∙ value_at-wave_of g 0 (horizon + 1) tick (omega arith) (omega arith))

-- so do those that the kernels of two runs know at their end
pub first_difference-completed : (one other : PreparedRun) (first second : KernelView) (ticks : ComparedTicks) (name : List ℕ) (net other_net : ℕ) (wave other_wave : Wave) →
    CanCompare one other → IsAtEnd one first → IsAtEnd other second → ticks.to ≡ one.horizon →
    net_named one.design.netlist name ≡ Some net → net_named other.design.netlist name ≡ Some other_net →
    wave ≡ wave_of (value_of first.circuit net) 0 (frontier_at first.state net) →
    other_wave ≡ wave_of (value_of second.circuit other_net) 0 (frontier_at second.state other_net) →
    first_difference (value_at wave) (value_at other_wave) ticks ≡ first_difference (value_of one.design.circuit net) (value_of other.design.circuit other_net) ticks
first_difference-completed one other first second ticks name net other_net wave other_wave can completed other_completed end found other_found is also =
    first_difference-waves (value_of one.design.circuit net) (value_of other.design.circuit other_net) ticks one.horizon wave other_wave (omega arith)
    (completed_wave one first net wave completed (named_below one.design name net can.first found) is)
    (completed_wave other second other_net other_wave other_completed (named_below other.design name other_net can.second other_found) also
    ∙ ap (λ horizon. wave_of (value_of other.design.circuit other_net) 0 (horizon + 1)) can.horizon)

-- ---- agreeing cones

-- the mark of a net says whether the runs agree on the cone of its name
pub AgreesOnCone-marked : (one other : PreparedRun) (marks : List Bool) (name : List ℕ) (net : ℕ) (agree : Bool) → IsDesign one.design →
    MarksAgreeing one.design other.design one.horizon marks → net_named one.design.netlist name ≡ Some net → agree ≡ slice_index_or marks net false →
    IsTrue agree ↔ AgreesOnCone (seen_run one) (seen_run other) name
AgreesOnCone-marked one other marks name net agree formed marked found is =
    let same : name_at one.design.netlist net ≡ name = (net_at-named one.design.netlist name net found).1 in
    let each = marked.each net (named_below one.design name net formed found) in (
      λ agrees. subst (λ n. AgreesOnCone (seen_run one) (seen_run other) n) same (each.0 (sym is ∙ agrees)),
      λ on. is ∙ each.1 (subst (λ n. AgreesOnCone (seen_run one) (seen_run other) n) (sym same) on),
    )

find-None : {X : Type 0} (p : X → Bool) (xs : List X) → All (λ x. p x ≡ false) xs → find p xs ≡ None
find-None p [] fail = refl
find-None p (x ∷ xs) fail =
    rw (All-head (λ y. p y ≡ false) x xs fail) (find-None p xs (All-tail (λ y. p y ≡ false) x xs fail))

-- a name that no net has is no net's in the circuit
lacks_net : (design : DesignView) → IsDesign design → (name : List ℕ) (x : Net) → net_named design.netlist name ≡ None → net_of design name ≡ Some x → ⊥
lacks_net design formed name x lacks has =
    let HasName : Net → Bool = λ net. bytes_eq net.name name in
    let none : net_of design name ≡ None =
    find-None HasName design.circuit (All-from_no_position HasName design.circuit (sym (net_named-circuit design formed name) ∙ lacks)) in
    cc

-- where the cones agree a net shows the same
pub IsComparisonOf-agreeing : (one other : RunView) (ticks : ComparedTicks) (name : List ℕ) (comparison : Comparison) → IsDesign one.design → IsDesign other.design →
    ticks.to ≤ one.horizon → AgreesOnCone one other name → IsComparisonOf one other ticks name comparison → comparison ≡ Same true
IsComparisonOf-agreeing one other ticks name comparison formed other_formed within agree is =
    go (net_named one.design.netlist name) refl (net_named other.design.netlist name) refl is
  where
    said : (found : Option Difference) → found ≡ None → IsOfDifference one other name found comparison → comparison ≡ Same true
    said None none (agrees, says, is) = is ∙ ap (λ a. Same a) (says.1 agree)
    said (Some found) none is = absurd (cc)

    at : AgreesAt one.design other.design one.horizon name
    at = agree name (start name (0, omega arith, refl))

    go : (net : Option ℕ) → net_named one.design.netlist name ≡ net → (other_net : Option ℕ) → net_named other.design.netlist name ≡ other_net →
        IsOfNets one other ticks name net other_net comparison → comparison ≡ Same true
    go (Some net) found (Some other_net) other_found is =
        let f = value_of one.design.circuit net in
        let g = value_of other.design.circuit other_net in
        let same : (tick : ℕ) → IsCompared ticks tick → f tick ≡ g tick =
        λ tick compared. same_values one.design other.design formed other_formed name net other_net one.horizon agree found other_found tick
        (let early = compared.early_enough in omega arith) in
        said (first_difference f g ticks) (first_difference-None f g ticks same) is
    go None lacks other_net other_found is = absurd (lacks_net one.design formed name at.x lacks at.first)
    go (Some net) found None lacks is = absurd (lacks_net other.design other_formed name at.y lacks at.second)

-- so it is with the comparisons of a pair
pub agreeing_shown : (first second : SourceView) (names : List (List ℕ)) (ticks : DiffTicks) (pair : Pair) (name : List ℕ) (comparison : Comparison) →
    pair_of first second names ticks ≡ Ok pair → AgreesOnCone pair.first pair.second name →
    IsComparisonOf pair.first pair.second pair.ticks name comparison → comparison ≡ Same true
agreeing_shown first second names ticks pair name comparison made agree is =
    let parts = IsPairOf-pair_of first second names ticks pair made in
    let ready = ready_of_run first ticks.horizon pair.first parts.one in
    let other_ready = ready_of_run second ticks.horizon pair.second parts.other in
    let end = ticks_of_diff-end ticks pair.ticks parts.count in
    let horizon : pair.first.horizon ≡ ticks.horizon = ready.horizon in
    IsComparisonOf-agreeing pair.first pair.second pair.ticks name comparison ready.design other_ready.design (omega (arith, end, horizon)) agree is
