-- The answer to a deck, from its sections and from the answer to their texts.
use Rattle.std.proofs.Common.{◌≡◌, ℕ, ◌+◌, ◌-◌, ◌^◌, ◌<◌, ◌≤◌, min, nat_lt, Bool, true, false, if◌then◌else◌, List, [], ◌∷◌, length, Option, Some, None, Result, Ok, Err, IfErr, IsOk, IsOkAnd, ◌⊎◌, inl, inr, refl, sym, ap, subst, ◌∙◌, arith}
use Rattle.std.proofs.KnownBytes.{Keeps-refl}
use Rattle.std.proofs.lemmas.Bool.{cases_lt, lt-ltb}
use Rattle.std.specs.Option.{option_map_or}
use Rattle.std.specs.Result.{result_map_both}
use Rattle.texts.specs.Text.{◌>>=◌, longest_text}
use Rattle.timing_text.specs.Ranges.{most_ticks}
use Rattle.timing_text.specs.Options.{horizon_of}
use Rattle.texts.specs.Written.{AppendsPrefix}
use Rattle.prepared_runs.specs.declared.fault.SimFault.{SimFault}
use Rattle.prepared_runs.specs.declared.fault.SimFault.TheVariants.{Dump, Memory}
use Rattle.prepared_runs.specs.declared.deck_fault.DeckFault.{DeckFault}
use Rattle.prepared_runs.specs.declared.deck_fault.DeckFault.TheVariants.{TooLong, BadDeck, Sim}
use Rattle.kernel_runs.specs.declared.simulation.Report.{Report}
use Rattle.prepared_runs.specs.Deck.{Sections, ended_lines, first_bad, horizon_in, sections_at, sections_behind, sections_of, sections_of_lines}
use Rattle.program_io.specs.DeckRun.{DeckEndsBy, DeckMayWantMemory, deck_answer, dump_of_deck, simulated_deck, source_of_deck, view_of_deck}
use Rattle.prepared_runs.specs.Ends.{WritesPart, RunEndsBy}
use Rattle.prepared_runs.specs.declared.view.DumpView.{DumpView}
use Rattle.prepared_runs.specs.declared.view.View.{View}
use Rattle.prepared_runs.specs.Source.{SourceView, MayWantMemory, design_of_source, or_fault, dump_of_design}
use Rattle.prepared_runs.specs.Views.{dump_view}
use Rattle.prepared_runs.specs.Seen.{held, on_sections}
use Rattle.kernel_runs.specs.Simulated.{dump_in, simulated}
use Rattle.prepared_runs.specs.Prepared.{run_of_source}
use Rattle.wave_diff.specs.declared.comparison.Side.TheVariants.{First}
use Rattle.program_io.specs.declared.program_fault.ProgramFault.{ProgramFault}
use Rattle.program_io.specs.Answers.{Answer, AnswerEndsBy, IsNoRead, answered, just, run_answer, with_counts}
use Rattle.program_io.specs.ProgramFaults.{fault_of_deck}
use Rattle.program_io.proofs.AnswerEnds.{fault_of_run-no_read}
use Rattle.program_io.proofs.Cut.{cut, limited-cut}

-- a horizon past a `u64` is refused as the largest `u64` is
horizon_of-held : (horizon : ℕ) → horizon_of (min (2 ^ 64 - 1) horizon) ≡ horizon_of horizon
horizon_of-held horizon = go (cases_lt most_ticks horizon)
  where
    go : (most_ticks < horizon) ⊎ (horizon ≤ most_ticks) → horizon_of (min (2 ^ 64 - 1) horizon) ≡ horizon_of horizon
    go (inl above) = rw (lt-ltb most_ticks (min (2 ^ 64 - 1) horizon) (omega arith), lt-ltb most_ticks horizon above) refl
    go (inr within) = let same : min (2 ^ 64 - 1) horizon ≡ horizon = omega arith in ap horizon_of same

-- so the sections as the code holds them have the same answer
simulated-held : (s : Sections) → simulated (source_of_deck (held s)) (dump_view (view_of_deck (held s))) ≡ simulated (source_of_deck s) (dump_view (view_of_deck s))
unfolding simulated run_of_source design_of_source dump_of_design
simulated-held s = rw (horizon_of-held s.horizon) refl

-- the answer to a deck whose sections the code found
pub simulated_deck-sections : (bytes : List ℕ) (found : Sections) → on_sections held (sections_of bytes) ≡ Ok found →
    simulated_deck bytes ≡ or_fault Sim (simulated (source_of_deck found) (dump_view (view_of_deck found)))
unfolding simulated_deck
simulated_deck-sections bytes found is = go (sections_of bytes) is
  where
    go : (sections : Result Sections DeckFault) → on_sections held sections ≡ Ok found →
        (sections >>= λ s. or_fault Sim (simulated (source_of_deck s) (dump_view (view_of_deck s))))
        ≡ or_fault Sim (simulated (source_of_deck found) (dump_view (view_of_deck found)))
    go (Ok s) e =
        let same : held s ≡ found = cc in
        ap (or_fault Sim) (sym (simulated-held s) ∙ ap (λ (d : Sections). simulated (source_of_deck d) (dump_view (view_of_deck d))) same)
    go (Err fault) e = cc

-- by a run that says the same
pub simulated_deck-run : (bytes : List ℕ) (found : Sections) (source : SourceView) (view : View) → on_sections held (sections_of bytes) ≡ Ok found →
    source ≡ source_of_deck found → view ≡ view_of_deck found → simulated_deck bytes ≡ or_fault Sim (simulated source (dump_view view))
simulated_deck-run bytes found source view is same_source same_view =
    simulated_deck-sections bytes found is ∙ ap (λ s. or_fault Sim (simulated s (dump_view (view_of_deck found)))) (sym same_source)
    ∙ ap (λ (v : View). or_fault Sim (simulated source (dump_view v))) (sym same_view)

-- ---- a text in which it found none

-- the fault isn't that of a run
abbrev NoRun : DeckFault → Type 0
NoRun (Sim fault) = ⊥
NoRun fault = Unit {0}

no_run-behind : (horizon : ℕ) (lines : List (List ℕ)) → IfErr (sections_behind horizon lines) NoRun
unfolding sections_behind
no_run-behind horizon lines = go (first_bad lines)
  where
    go : (bad : Option (ℕ × List ℕ)) → IfErr (option_map_or (λ (bad : ℕ × List ℕ). Err (BadDeck (bad.0 + 2))) bad (Ok (sections_at horizon lines))) NoRun
    go None = tt
    go (Some bad) = tt

no_run-lines : (lines : List (List ℕ)) → IfErr (sections_of_lines lines) NoRun
no_run-lines [] = tt
no_run-lines (first ∷ lines) = go (horizon_in first)
  where
    go : (horizon : Option ℕ) → IfErr (option_map_or (λ horizon. sections_behind horizon lines) horizon (Err (BadDeck 1))) NoRun
    go None = tt
    go (Some horizon) = no_run-behind horizon lines

no_run : (bytes : List ℕ) → IfErr (sections_of bytes) NoRun
unfolding sections_of
no_run bytes = go (nat_lt longest_text (length bytes))
  where
    go : (long : Bool) → IfErr (if long then Err TooLong else sections_of_lines (ended_lines bytes)) NoRun
    go true = tt
    go false = no_run-lines (ended_lines bytes)

no_run-found : (bytes : List ℕ) (fault : DeckFault) → on_sections held (sections_of bytes) ≡ Err fault → NoRun fault
no_run-found bytes fault is = go (sections_of bytes) (no_run bytes) is
  where
    go : (sections : Result Sections DeckFault) → IfErr sections NoRun → on_sections held sections ≡ Err fault → NoRun fault
    go (Ok s) none e = cc
    go (Err other) none e = let same : other ≡ fault = cc in subst NoRun same none

-- so this is the deck's answer
dump_of_deck-bad_text : (bytes : List ℕ) (fault : DeckFault) → on_sections held (sections_of bytes) ≡ Err fault →
    dump_of_deck bytes ≡ Err fault
unfolding simulated_deck
dump_of_deck-bad_text bytes fault is = go (sections_of bytes) is
  where
    go : (sections : Result Sections DeckFault) → on_sections held sections ≡ Err fault →
        dump_in (sections >>= λ s. or_fault Sim (simulated (source_of_deck s) (dump_view (view_of_deck s)))) ≡ Err fault
    go (Ok s) e = cc
    go (Err other) e = let same : other ≡ fault = cc in ap Err same

-- such a text is refused, and nothing goes out
pub DeckEndsBy-bad_text : (bytes : List ℕ) (kept : Option (List ℕ)) (fault : DeckFault) → on_sections held (sections_of bytes) ≡ Err fault →
    DeckEndsBy (dump_of_deck bytes) kept kept fault
DeckEndsBy-bad_text bytes kept TooLong is = (dump_of_deck-bad_text bytes TooLong is, Keeps-refl kept)
DeckEndsBy-bad_text bytes kept (BadDeck line) is = (dump_of_deck-bad_text bytes (BadDeck line) is, Keeps-refl kept)
DeckEndsBy-bad_text bytes kept (Sim fault) is = absurd (no_run-found bytes (Sim fault) is)

pub AnswerEndsBy-bad_text : (bytes : List ℕ) (kept : Option (List ℕ)) (fault : DeckFault) → on_sections held (sections_of bytes) ≡ Err fault →
    AnswerEndsBy (λ answer. answer ≡ deck_answer bytes) kept kept (fault_of_deck fault)
AnswerEndsBy-bad_text bytes kept TooLong is =
    (sym (ap (result_map_both just fault_of_deck) (dump_of_deck-bad_text bytes TooLong is)), Keeps-refl kept)
AnswerEndsBy-bad_text bytes kept (BadDeck line) is =
    (sym (ap (result_map_both just fault_of_deck) (dump_of_deck-bad_text bytes (BadDeck line) is)), Keeps-refl kept)
AnswerEndsBy-bad_text bytes kept (Sim fault) is = absurd (no_run-found bytes (Sim fault) is)

-- no fault of a deck is a failed read
pub fault_of_deck-no_read : (fault : DeckFault) → IsNoRead (fault_of_deck fault)
fault_of_deck-no_read TooLong = tt
fault_of_deck-no_read (BadDeck line) = tt
fault_of_deck-no_read (Sim fault) = fault_of_run-no_read First fault

-- a run that says the same as the sections has the deck's answer
pub deck_answer-run : (bytes : List ℕ) (found : Sections) (source : SourceView) (view : View) (shown : DumpView) →
    on_sections held (sections_of bytes) ≡ Ok found → source ≡ source_of_deck found → view ≡ view_of_deck found → shown ≡ dump_view view →
    run_answer source shown false ≡ deck_answer bytes
deck_answer-run bytes found source view shown is same_source same_view same_shown =
    ap (λ (s : DumpView). run_answer source s false) same_shown ∙ sym (go (simulated source (dump_view view)))
    ∙ sym (ap as_answer (simulated_deck-run bytes found source view is same_source same_view))
  where
    as_answer : Result (List ℕ × Report) DeckFault → Result Answer ProgramFault
    as_answer deck = result_map_both just fault_of_deck (dump_in deck)

    go : (answer : Result (List ℕ × Report) SimFault) → as_answer (or_fault Sim answer) ≡ answered (with_counts false) answer
    go (Ok done) = refl
    go (Err fault) = refl

-- a text that is too long may be cut
sections_of-cut : (text : List ℕ) → sections_of (cut text) ≡ sections_of text
unfolding sections_of
sections_of-cut text = limited-cut (Err TooLong) (λ t. sections_of_lines (ended_lines t)) text

dump_of_deck-cut : (bytes : List ℕ) → dump_of_deck (cut bytes) ≡ dump_of_deck bytes
unfolding simulated_deck
dump_of_deck-cut bytes = rw (sections_of-cut bytes) refl

pub deck_answer-cut : (bytes : List ℕ) → deck_answer (cut bytes) ≡ deck_answer bytes
deck_answer-cut bytes = ap (result_map_both just fault_of_deck) (dump_of_deck-cut bytes)

-- a run of the sections that is done is a run of the deck that is done
pub IsOkAnd-Sim : {A : Type 0} (answer : Result A SimFault) (P : A → Type 0) → IsOkAnd answer P → IsOkAnd (or_fault Sim answer) P
IsOkAnd-Sim (Ok value) P done = done
IsOkAnd-Sim (Err fault) P done = absurd done

WritesPart-Sim : (answer : Result (List ℕ) SimFault) (old new : Option (List ℕ)) → WritesPart answer old new → WritesPart (or_fault Sim answer) old new
WritesPart-Sim (Ok text) old new part = part
WritesPart-Sim (Err fault) old new part = part

DeckEndsBy-or_fault : (answer : Result (List ℕ) SimFault) (old new : Option (List ℕ)) (fault : SimFault) → RunEndsBy answer old new fault →
    DeckEndsBy (or_fault Sim answer) old new (Sim fault)
DeckEndsBy-or_fault answer old new (Dump fault) (failed, part) = (failed, IsOkAnd-Sim answer (AppendsPrefix old new) part)
DeckEndsBy-or_fault answer old new Memory ends = WritesPart-Sim answer old new ends
DeckEndsBy-or_fault answer old new _ ends = (ap (or_fault Sim) ends.0, ends.1)

dump_in-or_fault : (answer : Result (List ℕ × Report) SimFault) → dump_in (or_fault Sim answer) ≡ or_fault Sim (dump_in answer)
dump_in-or_fault (Ok both) = refl
dump_in-or_fault (Err fault) = refl

-- and one that ended with a fault is one that ended with it
pub DeckEndsBy-Sim : (deck : Result (List ℕ × Report) DeckFault) (answer : Result (List ℕ × Report) SimFault) (old new : Option (List ℕ)) (fault : SimFault) →
    deck ≡ or_fault Sim answer → RunEndsBy (dump_in answer) old new fault → DeckEndsBy (dump_in deck) old new (Sim fault)
DeckEndsBy-Sim deck answer old new fault is ends =
    subst (λ d. DeckEndsBy d old new (Sim fault)) (sym (ap dump_in is ∙ dump_in-or_fault answer))
    (DeckEndsBy-or_fault (dump_in answer) old new fault ends)

-- what a run of the sections that the code found may want, the deck may want
pub DeckMayWantMemory-sections : (bytes : List ℕ) (found : Sections) → on_sections held (sections_of bytes) ≡ Ok found →
    MayWantMemory (source_of_deck found) found.horizon → DeckMayWantMemory bytes
DeckMayWantMemory-sections bytes found is may = go (sections_of bytes) is
  where
    go : (sections : Result Sections DeckFault) → on_sections held sections ≡ Ok found →
        IsOkAnd sections (λ s. MayWantMemory (source_of_deck s) s.horizon)
    go (Ok s) e =
        let same : found ≡ held s = cc in
        let may_held = subst (λ (d : Sections). MayWantMemory (source_of_deck d) d.horizon) same may in
        record {
          settings = may_held.settings;
          horizon = subst IsOk (horizon_of-held s.horizon) may_held.horizon;
          netlist = may_held.netlist;
        }
    go (Err fault) e = cc

-- a text in which it found none isn't refused for want of memory
pub bad_text-Memory : {A B : Type 0} (bytes : List ℕ) (result : Result A DeckFault) (fault : DeckFault) → on_sections held (sections_of bytes) ≡ Err fault →
    result ≡ Err fault → result ≡ Err (Sim Memory) → B
bad_text-Memory bytes result TooLong none is wanting = cc
bad_text-Memory bytes result (BadDeck line) none is wanting = cc
bad_text-Memory bytes result (Sim fault) none is wanting = absurd (no_run-found bytes (Sim fault) none)

-- the deck wants memory where its run does
pub Sim-Memory : {A B : Type 0} (result : Result A DeckFault) (run : Result B SimFault) (fault : SimFault) → result ≡ Err (Sim fault) → run ≡ Err fault →
    result ≡ Err (Sim Memory) → run ≡ Err Memory
Sim-Memory result run fault is failed wanting = let same : fault ≡ Memory = cc in failed ∙ ap Err same
