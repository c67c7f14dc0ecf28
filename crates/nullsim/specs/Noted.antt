-- The notes on the run of an order that is done.
use Rattle.std.specs.Prelude.{◌≡◌, ℕ, List, [], ◌++◌, option_and_then, option_map, Option, None, Some, Result, Ok, Err}
use Rattle.std.specs.Io.KnownBytes.{Appends}
use Rattle.prepared_runs.specs.declared.fault.SimFault.{SimFault}
use Rattle.prepared_runs.specs.Events.{nothing}
use Rattle.prepared_runs.specs.Source.{SourceView}
use Rattle.plain_runs.specs.Noted.{notes_of_source}
use Rattle.program_io.specs.declared.exit.Exit.{Exit}
use Rattle.program_io.specs.Ends.{ForAnswer}
use Rattle.command_line.specs.declared.order.Order.{Order}
use Rattle.command_line.specs.declared.order.Order.TheVariants.{Why, Diff, Twin}
use Rattle.command_line.specs.declared.source_options.SourceOptions.{SourceOptions}
use Rattle.program_io.specs.declared.order_texts.OrderTexts.{OrderTexts}
use Rattle.command_line.specs.Sources.{ReadTexts, picks_note, source_from}
use Rattle.command_line.specs.Orders.{last_tick, options_on}
use Rattle.wave_diff.specs.declared.comparison.Side.TheVariants.{First}
use Rattle.program_io.specs.OrderAnswer.{IsAnswerTo}
use Rattle.program_io.specs.Report.{outcome_text}
use Rattle.program_io.specs.Status.{status_of_outcome}
use Rattle.nullsim.specs.Command.{Streams}
use Rattle.nullsim.specs.Parts.{AreWritten}

-- the run on which there are notes: that of an order for one run to a horizon, but for `why`
abbrev pub noted_run : Order → Option (SourceOptions × ℕ)
noted_run (Why options net tick) = None
noted_run (Diff first second names ticks) = None
noted_run (Twin first second net horizon) = None
noted_run order = option_and_then (λ options. option_map (λ tick. (options, tick)) (last_tick order)) (options_on order First)

-- the run of these options and texts; no events are picked
abbrev pub noted_source : SourceOptions → ReadTexts → SourceView
noted_source options texts = record (source_from options texts) { picks = nothing }

-- a text, or the empty text in place of a fault
abbrev pub text_or_none : Result (List ℕ) SimFault → List ℕ
text_or_none (Ok text) = text
text_or_none (Err fault) = []

abbrev pub run_notes : OrderTexts → Option (SourceOptions × ℕ) → List ℕ
run_notes texts None = []
run_notes texts (Some run) = text_or_none (notes_of_source (noted_source run.0 texts.first) run.1) ++ picks_note (run.0).picks

-- the notes on an order's run, by its texts
abbrev pub order_notes : OrderTexts → Order → List ℕ
order_notes texts order = run_notes texts (noted_run order)

-- the answer over these texts was written, and what is printed with it, followed by the notes on its run, or a prefix of each
abbrev pub AnswerNoted : OrderTexts → Order → Streams → Streams → Exit → Type 0
AnswerNoted texts order old new exit =
    ForAnswer (IsAnswerTo order texts) (λ answer. Appends old.out new.out answer.text
    × AreWritten old.err new.err (outcome_text answer.outcome) (order_notes texts order) exit.written
    × (exit.status ≡ status_of_outcome answer.outcome))
