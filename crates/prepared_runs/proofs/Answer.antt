-- The answer to a source, step by step.
use Rattle.std.proofs.Common.{◌≡◌, ◌≢◌, ℕ, ◌<◌, ◌≤◌, Bool, true, false, cond, IsTrue, List, length, Result, Ok, Err, refl, subst, ◌⊎◌, inl, inr}
use Rattle.std.proofs.lemmas.Bool.{cases_lt}
use Rattle.bench_text.specs.declared.fault.BenchFault.{BenchFault}
use Rattle.bench_text.specs.declared.fault.BenchFault.TheVariants as bench
use Rattle.netlist.specs.Netlist.{NetlistView}
use Rattle.bench_text.specs.NetlistOf.{netlist_of}
use Rattle.texts.specs.Text.{longest_text}
use Rattle.timing_text.specs.declared.fault.OptionFault.{OptionFault}
use Rattle.timing_text.specs.declared.fault.DelayFault.TheVariants as delay
use Rattle.timing_text.specs.declared.fault.StimulusFault.TheVariants as stimulus
use Rattle.design.specs.declared.fault.BuildFault.{BuildFault}
use Rattle.design.specs.declared.fault.BuildFault.TheVariants as build
use Rattle.design.specs.Design.{DesignView}
use Rattle.timing_text.specs.Options.{options_of, horizon_of}
use Rattle.design.specs.Build.{design_of}
use Rattle.cmb_events.specs.declared.event.Event.{Event}
use Rattle.cmb_events.specs.declared.schedule_fault.ScheduleFault.{ScheduleFault}
use Rattle.cmb_events.specs.declared.schedule_fault.ScheduleFault.TheVariants as schedule
use Rattle.prepared_runs.specs.declared.view.Selection.{Selection}
use Rattle.prepared_runs.specs.declared.view.DumpView.{DumpView}
use Rattle.prepared_runs.specs.declared.fault.SimFault.{SimFault}
use Rattle.prepared_runs.specs.declared.fault.SimFault.TheVariants.{Setting, UnknownNet, Dump, Memory}
use Rattle.prepared_runs.specs.Events.{events_of_picks}
use Rattle.prepared_runs.specs.Faults.{sim_of_bench, sim_of_build, sim_of_schedule}
use Rattle.prepared_runs.specs.Source.{SourceView, design_of_source, dump_of_source, if_known, knows_shown, dump_of_design}
use Rattle.prepared_runs.specs.Prepared.{run_of_source}
use Rattle.prepared_runs.specs.Ends.{IsRefusal}

module _ {A : Type 0} (answer : Result A SimFault) where
  -- a fault of the netlist refuses the run, unless it is want of memory
  pub IsRefusal-bench : (fault : BenchFault) →
      (¬ ◌≡◌ {A = Result NetlistView BenchFault} (Err fault) (Err bench.Memory) → answer ≡ Err (sim_of_bench fault)) → IsRefusal answer (sim_of_bench fault)
  IsRefusal-bench bench.Memory refused = tt
  IsRefusal-bench _ refused = refused (λ e. (cc))

  -- so does a fault of the timing or the stimuli
  pub IsRefusal-build : (fault : BuildFault) →
      (¬ ◌≡◌ {A = Result DesignView BuildFault} (Err fault) (Err build.Memory) → answer ≡ Err (sim_of_build fault)) → IsRefusal answer (sim_of_build fault)
  IsRefusal-build build.Memory refused = tt
  IsRefusal-build (build.Timing delay.Memory) refused = tt
  IsRefusal-build (build.Stimulus stimulus.Memory) refused = tt
  IsRefusal-build (build.Setting fault) refused = refused (λ e. (cc))
  IsRefusal-build (build.Timing _) refused = refused (λ e. (cc))
  IsRefusal-build (build.Stimulus _) refused = refused (λ e. (cc))

  -- so does a fault of the schedule
  pub IsRefusal-schedule : (fault : ScheduleFault) →
      (¬ ◌≡◌ {A = Result (List Event) ScheduleFault} (Err fault) (Err schedule.Memory) → answer ≡ Err (sim_of_schedule fault)) →
      IsRefusal answer (sim_of_schedule fault)
  IsRefusal-schedule schedule.Memory refused = tt
  IsRefusal-schedule _ refused = refused (λ e. (cc))

-- ---- what is found at once

-- a text that is refused at once where it is too long isn't too long where it isn't refused so
pub short-unless_refused : {A F : Type 0} (result : Result A F) (fault : F) (text : List ℕ) →
    (longest_text < length text → result ≡ Err fault) → result ≢ Err fault → length text ≤ longest_text
short-unless_refused result fault text at_once other = go (cases_lt longest_text (length text))
  where
    go : (longest_text < length text) ⊎ (length text ≤ longest_text) → length text ≤ longest_text
    go (inl long) = absurd (other (at_once long))
    go (inr short) = short

-- a fault of a netlist's text that is told as want of memory isn't that it is too long
pub memory_of_bench : (fault : BenchFault) → sim_of_bench fault ≡ Memory → fault ≢ bench.TooLong
memory_of_bench fault same is = let told = subst (λ f. sim_of_bench f ≡ Memory) is same in cc

-- ---- the design

module _ (source : SourceView) (ticks : ℕ) where
  pub design_of_source-bad_settings : (fault : OptionFault) → options_of source.default_delay source.period ≡ Err fault →
      design_of_source source ticks ≡ Err (Setting fault)
  unfolding design_of_source
  design_of_source-bad_settings fault bad = rw bad refl

  module _ (settings : Unit {0}) (good : options_of source.default_delay source.period ≡ Ok settings) where
    pub design_of_source-bad_horizon : (fault : OptionFault) → horizon_of ticks ≡ Err fault → design_of_source source ticks ≡ Err (Setting fault)
    unfolding design_of_source
    design_of_source-bad_horizon fault bad = rw (good, bad) refl

    module _ (horizon : ℕ) (end : horizon_of ticks ≡ Ok horizon) where
      pub design_of_source-bad_bench : (fault : BenchFault) → netlist_of source.bench ≡ Err fault → design_of_source source ticks ≡ Err (sim_of_bench fault)
      unfolding design_of_source
      design_of_source-bad_bench fault bad = rw (good, end, bad) refl

      module _ (netlist : NetlistView) (read : netlist_of source.bench ≡ Ok netlist) where
        pub design_of_source-bad_texts : (fault : BuildFault) →
            design_of netlist source.delays source.stimuli source.default_delay source.period ≡ Err fault →
            design_of_source source ticks ≡ Err (sim_of_build fault)
        unfolding design_of_source
        design_of_source-bad_texts fault bad = rw (good, end, read, bad) refl

        pub design_of_source-good : (design : DesignView) →
            design_of netlist source.delays source.stimuli source.default_delay source.period ≡ Ok design →
            design_of_source source ticks ≡ Ok (horizon, design)
        unfolding design_of_source
        design_of_source-good design made = rw (good, end, read, made) refl

-- ---- the run

-- what refuses one answer refuses another that fails where it does
pub IsRefusal-lifted : {A B : Type 0} (refused : Result A SimFault) (answer : Result B SimFault) (fault : SimFault) →
    (refused ≡ Err fault → answer ≡ Err fault) → IsRefusal refused fault → IsRefusal answer fault
IsRefusal-lifted refused answer (Dump fault) lifts refusal = refusal
IsRefusal-lifted refused answer Memory lifts refusal = tt
IsRefusal-lifted refused answer _ lifts refusal = lifts refusal

module _ (source : SourceView) (ticks : ℕ) where
  -- a fault of the design is the answer
  pub run_of_source-bad : (fault : SimFault) → design_of_source source ticks ≡ Err fault → run_of_source source ticks ≡ Err fault
  unfolding run_of_source
  run_of_source-bad fault bad = rw bad refl

  module _ (horizon : ℕ) (design : DesignView) (made : design_of_source source ticks ≡ Ok (horizon, design)) where
    -- so is a fault of the schedule
    pub run_of_source-bad_schedule : (fault : ScheduleFault) → events_of_picks design.circuit source.picks ≡ Err fault →
        run_of_source source ticks ≡ Err (sim_of_schedule fault)
    unfolding run_of_source
    run_of_source-bad_schedule fault bad = rw (made, bad) refl

    pub run_of_source-good : (events : List Event) → events_of_picks design.circuit source.picks ≡ Ok events →
        run_of_source source ticks ≡ Ok (record { horizon = horizon; design = design; events = events })
    unfolding run_of_source
    run_of_source-good events picked = rw (made, picked) refl

-- ---- what is made of it

-- a net that isn't there refuses one answer as it refuses another
pub unknown_for : {A B : Type 0} (show : Selection) (netlist : NetlistView) (shown : A) (answer : B) (fault : SimFault) →
    if_known show netlist shown ≡ Err fault → if_known show netlist answer ≡ Err fault
unknown_for show netlist shown answer fault = go (knows_shown show netlist)
  where
    go : (known : Bool) → cond known (Ok shown) (Err UnknownNet) ≡ Err fault → cond known (Ok answer) (Err UnknownNet) ≡ Err fault
    go true e = absurd (cc)
    go false e = cc

module _ (source : SourceView) (view : DumpView) where
  -- a fault of the design is the answer
  pub dump_of_source-bad : (fault : SimFault) → design_of_source source view.horizon ≡ Err fault → dump_of_source source view ≡ Err fault
  unfolding dump_of_source
  dump_of_source-bad fault bad = rw bad refl

  module _ (horizon : ℕ) (design : DesignView) (made : design_of_source source view.horizon ≡ Ok (horizon, design)) where
    -- so is a net that isn't there
    pub dump_of_source-unknown : {A : Type 0} (shown : A) (fault : SimFault) → if_known view.show design.netlist shown ≡ Err fault →
        dump_of_source source view ≡ Err fault
    unfolding dump_of_source
    dump_of_source-unknown shown fault unknown = rw made (unknown_for view.show design.netlist shown _ fault unknown)

    pub dump_of_source-good : IsTrue (knows_shown view.show design.netlist) → dump_of_source source view ≡ Ok (dump_of_design view horizon design)
    unfolding dump_of_source
    dump_of_source-good known = rw (made, known) refl
