-- How the answer to texts ends, from how their runs do.
use Rattle.std.proofs.Common.{◌≡◌, ◌≢◌, ℕ, Bool, List, Option, Result, Ok, Err, IsOkAnd, inl, inr, refl, ap, subst}
use Rattle.std.specs.Io.KnownBytes.{Appends, Keeps}
use Rattle.std.specs.Result.{result_map_both}
use Rattle.std.proofs.KnownBytes.{Appends-kept, Keeps-refl}
use Rattle.bench_text.specs.declared.fault.BenchFault.{BenchFault}
use Rattle.bench_text.specs.declared.fault.BenchFault.TheVariants as bench
use Rattle.design.specs.Design.{DesignView}
use Rattle.circuit_info.specs.InfoText.{IsInfoOf}
use Rattle.drawn_stimuli.specs.declared.driven_fault.DrivenFault.{DrivenFault}
use Rattle.drawn_stimuli.specs.declared.driven_fault.DrivenFault.TheVariants as driven
use Rattle.fanin_cone.specs.declared.fault.ConeTextFault.{ConeTextFault}
use Rattle.fanin_cone.specs.declared.fault.ConeTextFault.TheVariants as cone
use Rattle.plain_runs.specs.declared.diagram_fault.DiagramFault.{DiagramFault}
use Rattle.plain_runs.specs.declared.diagram_fault.DiagramFault.TheVariants as diagram
use Rattle.plain_runs.specs.Drawn.{DiagramEndsBy}
use Rattle.prepared_runs.specs.declared.fault.SimFault.{SimFault}
use Rattle.prepared_runs.specs.declared.fault.SimFault.TheVariants.{Dump, Memory}
use Rattle.kernel_runs.specs.declared.simulation.Report.{Report}
use Rattle.kernel_runs.specs.declared.diff_fault.DiffFault.{DiffFault}
use Rattle.kernel_runs.specs.declared.diff_fault.DiffFault.TheVariants as diff
use Rattle.wave_diff.specs.declared.comparison.Side.{Side}
use Rattle.wave_diff.specs.declared.comparison.Side.TheVariants.{First}
use Rattle.kernel_runs.specs.declared.twin_run.TwinFault.{TwinFault}
use Rattle.kernel_runs.specs.Diffs.{IsDiff, IsDiffRefusal, Pair, on_run}
use Rattle.prepared_runs.specs.Ends.{IsRefusal, RunEndsBy}
use Rattle.prepared_runs.specs.Faults.{sim_of_bench}
use Rattle.kernel_runs.specs.declared.check_run.CheckAnswer.{CheckAnswer}
use Rattle.kernel_runs.specs.declared.twin_run.TwinAnswer.{TwinAnswer}
use Rattle.kernel_runs.specs.Checked.{checked}
use Rattle.prepared_runs.specs.Prepared.{RunView}
use Rattle.kernel_runs.specs.Twins.{IsComparison, IsTwinRefusal, Twins, on}
use Rattle.kernel_runs.specs.AnswerText.{check_text, twin_text}
use Rattle.program_io.specs.declared.outcome.Outcome.{Outcome}
use Rattle.program_io.specs.declared.outcome.Outcome.TheVariants.{Done}
use Rattle.program_io.specs.declared.program_fault.ProgramFault.{ProgramFault}
use Rattle.program_io.specs.declared.program_fault.ProgramFault.TheVariants.{Flush, Output, Read}
use Rattle.program_io.specs.declared.program_fault.ProgramFault.TheVariants as program
use Rattle.program_io.specs.Ends.{WriteEndsBy}
use Rattle.program_io.specs.Answers.{Answer, AnswerEndsBy, GoesOut, IsDiffAnswer, IsInfoAnswer, IsNoRead, IsTwinAnswer, answered, compared, counted, just, with_counts}
use Rattle.program_io.specs.ProgramFaults.{fault_of_bench, fault_of_cone, fault_of_diagram, fault_of_diff, fault_of_driven, fault_of_run, fault_of_twin}

module _ (P : Result Answer ProgramFault → Type 0) where
  -- ---- before a byte is written

  -- a fault of one of two runs, which is the answer unless memory was wanting
  pub AnswerEndsBy-twin : {A : Type 0} (held : Option (List ℕ)) (made : Result A TwinFault) (fault : TwinFault) →
      ((other : TwinFault) → made ≡ Err other → P (Err (fault_of_twin other))) → IsTwinRefusal made fault → AnswerEndsBy P held held (fault_of_twin fault)
  AnswerEndsBy-twin held made fault stands refusal = go fault.side fault.fault refusal
    where
      go : (at : Side) (fault : SimFault) → IsTwinRefusal made (on at fault) → AnswerEndsBy P held held (fault_of_run at fault)
      go at (Dump broken) refusal = absurd refusal
      go at Memory refusal = inl (Keeps-refl held)
      go at fault refusal = (stands (on at fault) refusal, Keeps-refl held)

  -- so is one of two runs that are compared net by net, or of the ticks that count
  pub AnswerEndsBy-diff : {A : Type 0} (held : Option (List ℕ)) (made : Result A DiffFault) (fault : DiffFault) →
      ((other : DiffFault) → made ≡ Err other → P (Err (fault_of_diff other))) → IsDiffRefusal made fault → AnswerEndsBy P held held (fault_of_diff fault)
  AnswerEndsBy-diff held made (diff.Compared fault) stands refusal = (stands (diff.Compared fault) refusal, Keeps-refl held)
  AnswerEndsBy-diff held made (diff.Run fault) stands refusal = go fault.side fault.fault refusal
    where
      go : (at : Side) (fault : SimFault) → IsDiffRefusal made (on_run at fault) → AnswerEndsBy P held held (fault_of_run at fault)
      go at (Dump broken) refusal = absurd refusal
      go at Memory refusal = inl (Keeps-refl held)
      go at fault refusal = (stands (on_run at fault) refusal, Keeps-refl held)

  -- so is one of the only source
  pub AnswerEndsBy-source : {A : Type 0} (held : Option (List ℕ)) (made : Result A SimFault) (fault : SimFault) →
      ((other : SimFault) → made ≡ Err other → P (Err (fault_of_run First other))) → IsRefusal made fault → AnswerEndsBy P held held (fault_of_run First fault)
  AnswerEndsBy-source held made (Dump broken) stands refusal = absurd refusal
  AnswerEndsBy-source held made Memory stands refusal = inl (Keeps-refl held)
  AnswerEndsBy-source held made fault stands refusal = (stands fault refusal, Keeps-refl held)

  -- so is one of the only netlist
  pub AnswerEndsBy-bench : (held : Option (List ℕ)) (fault : BenchFault) → (fault ≢ bench.Memory → P (Err (fault_of_bench fault))) →
      AnswerEndsBy P held held (fault_of_bench fault)
  AnswerEndsBy-bench held bench.Memory refused = inl (Keeps-refl held)
  AnswerEndsBy-bench held _ refused = (refused (λ e. (cc)), Keeps-refl held)

  -- so is one of the text of cones
  pub AnswerEndsBy-cone : (held : Option (List ℕ)) (fault : ConeTextFault) → (fault ≢ cone.Memory → P (Err (fault_of_cone fault))) →
      AnswerEndsBy P held held (fault_of_cone fault)
  AnswerEndsBy-cone held cone.Memory refused = inl (Keeps-refl held)
  AnswerEndsBy-cone held cone.UnknownNet refused = (refused (λ e. (cc)), Keeps-refl held)
  AnswerEndsBy-cone held (cone.Bench fault) refused = AnswerEndsBy-bench held fault (λ other. refused (λ e. (cc)))

  -- so is one of a stimulus text
  pub AnswerEndsBy-driven : (held : Option (List ℕ)) (fault : DrivenFault) → (fault ≢ driven.Memory → P (Err (fault_of_driven fault))) →
      AnswerEndsBy P held held (fault_of_driven fault)
  AnswerEndsBy-driven held driven.Memory refused = inl (Keeps-refl held)
  AnswerEndsBy-driven held _ refused = (refused (λ e. (cc)), Keeps-refl held)

  -- ---- the only run

  module _ {A : Type 0} (answer_of : A → Answer) where
    abbrev text_in : Result A SimFault → Result (List ℕ) SimFault
    text_in result = result_map_both (λ value. (answer_of value).text) (λ fault. fault) result

    -- is refused before a byte is written
    pub AnswerEndsBy-refused : (result : Result A SimFault) → P (answered answer_of result) → (held : Option (List ℕ)) (fault : SimFault) →
        IsRefusal result fault → AnswerEndsBy P held held (fault_of_run First fault)
    AnswerEndsBy-refused result is held (Dump broken) refused = absurd refused
    AnswerEndsBy-refused result is held Memory refused = inl (Keeps-refl held)
    AnswerEndsBy-refused result is held _ refused = (subst (λ (r : Result A SimFault). P (answered answer_of r)) refused is, Keeps-refl held)

    answered-refused : (result : Result A SimFault) (fault : SimFault) → text_in result ≡ Err fault → answered answer_of result ≡ Err (fault_of_run First fault)
    answered-refused (Ok value) fault refused = cc
    answered-refused (Err other) fault refused = ap (answered just) refused

    -- ends by a fault of it
    pub AnswerEndsBy-run : (result : Result A SimFault) → P (answered answer_of result) → (old new : Option (List ℕ)) (fault : SimFault) →
        RunEndsBy (text_in result) old new fault → AnswerEndsBy P old new (fault_of_run First fault)
    AnswerEndsBy-run (Ok value) is old new (Dump broken) (failed, part) = (failed, (answer_of value, is, part))
    AnswerEndsBy-run (Err fault) is old new (Dump broken) (failed, part) = absurd part
    AnswerEndsBy-run (Ok value) is old new Memory part = inr (answer_of value, is, part)
    AnswerEndsBy-run (Err fault) is old new Memory kept = inl kept
    AnswerEndsBy-run result is old new fault ends = (subst (P) (answered-refused result fault ends.0) is, ends.1)

  -- the same where the run's answer is a text alone
  pub AnswerEndsBy-dump : (result : Result (List ℕ) SimFault) → P (answered just result) → (old new : Option (List ℕ)) (fault : SimFault) →
      RunEndsBy result old new fault → AnswerEndsBy P old new (fault_of_run First fault)
  AnswerEndsBy-dump result is old new fault ends = AnswerEndsBy-run just result is old new fault (rw (text_in-just result) ends)
    where
      text_in-just : (result : Result (List ℕ) SimFault) → text_in just result ≡ result
      text_in-just (Ok text) = refl
      text_in-just (Err fault) = refl

  -- the same of a timing diagram
  pub AnswerEndsBy-diagram : (result : Result (List ℕ) DiagramFault) → P (result_map_both just fault_of_diagram result) →
      (old new : Option (List ℕ)) (fault : DiagramFault) → DiagramEndsBy result old new fault → AnswerEndsBy P old new (fault_of_diagram fault)
  AnswerEndsBy-diagram (Ok text) is old new (diagram.Run (Dump broken)) (failed, part) = (failed, (just text, is, part))
  AnswerEndsBy-diagram (Err fault) is old new (diagram.Run (Dump broken)) (failed, part) = absurd part
  AnswerEndsBy-diagram (Ok text) is old new (diagram.Run Memory) part = inr (just text, is, part)
  AnswerEndsBy-diagram (Err fault) is old new (diagram.Run Memory) kept = inl kept
  AnswerEndsBy-diagram result is old new fault ends =
      (subst (λ (r : Result (List ℕ) DiagramFault). P (result_map_both just fault_of_diagram r)) ends.0 is, ends.1)

  -- ---- behind the last write

  -- the dump of a run went out, and its counts are those asked for
  pub GoesOut-run : (counts : Bool) (result : Result (List ℕ × Report) SimFault) → P (answered (with_counts counts) result) →
      (old new : Option (List ℕ)) (outcome : Outcome) →
      IsOkAnd result (λ done. Appends old new done.0 × (outcome ≡ counted counts (done.1).total)) → GoesOut P old new outcome
  GoesOut-run counts (Ok done) is old new outcome went = (with_counts counts done, is, went)
  GoesOut-run counts (Err fault) is old new outcome went = absurd went

  -- the same where the run's answer is a text alone
  pub GoesOut-dump : (result : Result (List ℕ) SimFault) → P (answered just result) → (old new : Option (List ℕ)) →
      IsOkAnd result (Appends old new) → GoesOut P old new Done
  GoesOut-dump (Ok text) is old new went = (just text, is, (went, refl))
  GoesOut-dump (Err fault) is old new went = absurd went

  pub GoesOut-diagram : (result : Result (List ℕ) DiagramFault) → P (result_map_both just fault_of_diagram result) → (old new : Option (List ℕ)) →
      IsOkAnd result (Appends old new) → GoesOut P old new Done
  GoesOut-diagram (Ok text) is old new went = (just text, is, (went, refl))
  GoesOut-diagram (Err fault) is old new went = absurd went

  -- the text of the answer is written
  module _ (answer : Answer) (written : List ℕ) (is : P (Ok answer)) (same : written ≡ answer.text) (old new : Option (List ℕ)) where
    pub GoesOut-text : Appends old new written → GoesOut P old new answer.outcome
    GoesOut-text done = (answer, is, (rw (← same) done, refl))

    pub AnswerEndsBy-text : (fault : ProgramFault) → WriteEndsBy old new written fault → AnswerEndsBy P old new fault
    AnswerEndsBy-text fault (inl (broken, is_output, failed, part)) = rw is_output (failed, (answer, is, rw (← same) part))
    AnswerEndsBy-text fault (inr (is_flush, done)) = rw is_flush (answer, is, rw (← same) done)

  -- a flush keeps what was written
  module _ (old new flushed : Option (List ℕ)) (outcome : Outcome) (done : GoesOut P old new outcome) (kept : Keeps new flushed) where
    pub GoesOut-flushed : GoesOut P old flushed outcome
    GoesOut-flushed = (done.0, done.1, (Appends-kept old new flushed _ done.2.0 kept, done.2.1))

    pub AnswerEndsBy-flush : (fault : ProgramFault) → fault ≡ Flush → AnswerEndsBy P old flushed fault
    AnswerEndsBy-flush fault is = rw is (done.0, done.1, Appends-kept old new flushed _ done.2.0 kept)

-- ---- none of these faults is a failed read

pub fault_of_run-no_read : (side : Side) (fault : SimFault) → IsNoRead (fault_of_run side fault)
fault_of_run-no_read side (Dump broken) = tt
fault_of_run-no_read side Memory = tt
fault_of_run-no_read side fault = tt

pub fault_of_diff-no_read : (fault : DiffFault) → IsNoRead (fault_of_diff fault)
fault_of_diff-no_read (diff.Compared fault) = tt
fault_of_diff-no_read (diff.Run fault) = fault_of_run-no_read fault.side fault.fault

pub fault_of_diagram-no_read : (fault : DiagramFault) → IsNoRead (fault_of_diagram fault)
fault_of_diagram-no_read (diagram.Columns fault) = tt
fault_of_diagram-no_read (diagram.Run fault) = fault_of_run-no_read First fault

pub fault_of_cone-no_read : (fault : ConeTextFault) → IsNoRead (fault_of_cone fault)
fault_of_cone-no_read (cone.Bench fault) = fault_of_run-no_read First (sim_of_bench fault)
fault_of_cone-no_read cone.UnknownNet = tt
fault_of_cone-no_read cone.Memory = tt

pub fault_of_driven-no_read : (fault : DrivenFault) → IsNoRead (fault_of_driven fault)
fault_of_driven-no_read (driven.Setting fault) = tt
fault_of_driven-no_read (driven.Bench fault) = tt
fault_of_driven-no_read (driven.Drives fault) = tt
fault_of_driven-no_read driven.Memory = tt

pub WriteEndsBy-no_read : (old new : Option (List ℕ)) (text : List ℕ) (fault : ProgramFault) → WriteEndsBy old new text fault → IsNoRead fault
WriteEndsBy-no_read old new text fault (inl (broken, is, failed, part)) = rw is tt
WriteEndsBy-no_read old new text fault (inr (is, done)) = rw is tt

-- ---- an answer of one kind is one of another

module _ (P Q : Result Answer ProgramFault → Type 0) (turns : (answer : Result Answer ProgramFault) → P answer → Q answer) (old new : Option (List ℕ)) where
  pub GoesOut-weaker : (outcome : Outcome) → GoesOut P old new outcome → GoesOut Q old new outcome
  GoesOut-weaker outcome (answer, is, went) = (answer, turns (Ok answer) is, went)

  pub AnswerEndsBy-weaker : (fault : ProgramFault) → AnswerEndsBy P old new fault → AnswerEndsBy Q old new fault
  AnswerEndsBy-weaker (Read name) ends = ends
  AnswerEndsBy-weaker program.Memory (inl kept) = inl kept
  AnswerEndsBy-weaker program.Memory (inr (answer, is, part)) = inr (answer, turns (Ok answer) is, part)
  AnswerEndsBy-weaker (Output broken) (failed, (answer, is, part)) = (failed, (answer, turns (Ok answer) is, part))
  AnswerEndsBy-weaker Flush (answer, is, done) = (answer, turns (Ok answer) is, done)
  AnswerEndsBy-weaker fault ends = (turns (Err fault) ends.0, ends.1)

-- the lines of a comparison are the answer of the twin
pub IsTwinAnswer-done : (twins : Result Twins TwinFault) (name : List ℕ) (horizon : ℕ) (comparison : TwinAnswer) →
    IsOkAnd twins (λ both. IsComparison both name horizon comparison) → IsTwinAnswer twins name horizon (Ok (just (twin_text comparison)))
IsTwinAnswer-done (Ok both) name horizon comparison is = (comparison, is, refl)
IsTwinAnswer-done (Err fault) name horizon comparison is = absurd is

-- what refuses two runs is the answer of the twin
pub IsTwinAnswer-refused : (twins : Result Twins TwinFault) (name : List ℕ) (horizon : ℕ) (fault : TwinFault) → twins ≡ Err fault →
    IsTwinAnswer twins name horizon (Err (fault_of_twin fault))
IsTwinAnswer-refused twins name horizon fault refused = rw refused refl

-- so it is with the description of a source
pub IsInfoAnswer-done : (made : Result (ℕ × DesignView) SimFault) (ready : ℕ × DesignView) (text : List ℕ) → made ≡ Ok ready → IsInfoOf ready.1 text →
    IsInfoAnswer made (Ok (just text))
IsInfoAnswer-done made ready text made_so is = rw made_so (text, is, refl)

pub IsInfoAnswer-refused : (made : Result (ℕ × DesignView) SimFault) (fault : SimFault) → made ≡ Err fault → IsInfoAnswer made (Err (fault_of_run First fault))
IsInfoAnswer-refused made fault refused = rw refused refl

-- so it is with a comparison net by net
pub IsDiffAnswer-done : (made : Result Pair DiffFault) (text : List ℕ) (same : Bool) → IsOkAnd made (λ pair. IsDiff pair text same) →
    IsDiffAnswer made (Ok (compared text same))
IsDiffAnswer-done (Ok pair) text same is = (text, (same, is, refl))
IsDiffAnswer-done (Err fault) text same is = absurd is

pub IsDiffAnswer-refused : (made : Result Pair DiffFault) (fault : DiffFault) → made ≡ Err fault → IsDiffAnswer made (Err (fault_of_diff fault))
IsDiffAnswer-refused made fault refused = rw refused refl

-- so are those of a check that of the check
pub answered-checked : (result : Result RunView SimFault) (answer : CheckAnswer) → IsOkAnd result (λ run. answer ≡ checked run) →
    Ok (just (check_text answer)) ≡ answered (λ run. just (check_text (checked run))) result
answered-checked (Ok run) answer same = ap (λ (a : CheckAnswer). Ok (just (check_text a))) same
answered-checked (Err fault) answer same = absurd same
