-- A run's dump, span by span.
use Rattle.std.proofs.Common.{◌≡◌, ◌≢◌, ℕ, ◌+◌, ◌≤◌, List, ◌++◌, Option, ap, sym, subst, ◌∙◌, arith, append-nil, append_assoc}
use Rattle.std.specs.Io.KnownBytes.{Appends}
use Rattle.std.proofs.KnownBytes.{Appends-trans}
use Rattle.logic3.specs.declared.value.Value.{Value}
use Rattle.design.specs.Circuit.{Circuit}
use Rattle.design.specs.Equations.{value_of}
use Rattle.vcd_dump.specs.declared.unit.TimeUnit.{TimeUnit}
use Rattle.vcd_dump.specs.declared.fault.DumpFault.{DumpFault}
use Rattle.vcd_dump.specs.declared.fault.DumpFault.TheVariants.{Failed}
use Rattle.texts.specs.Written.{AppendsPrefix}
use Rattle.texts.proofs.CallerLemmas.{AppendsPrefix-after, AppendsPrefix-longer, AppendsPrefix-whole}
use Rattle.vcd_dump.specs.Dump.{declarations, dump_text}
use Rattle.vcd_dump.specs.Spans.{StreamView, last_text, parts_of, span_text, stream_at}
use Rattle.vcd_dump.specs.Traces.{named}
use Rattle.vcd_dump.proofs.CallerLemmas.{dump_text-nets, span_text-more}
use Rattle.prepared_runs.specs.declared.fault.SimFault.{SimFault}
use Rattle.prepared_runs.specs.declared.fault.SimFault.TheVariants.{Dump, Memory}
use Rattle.kernel_runs.specs.Drained.{values_of}
use Rattle.prepared_runs.specs.Ends.{BreaksOff}
use Rattle.prepared_runs.specs.Faults.{sim_of_dump}
use Rattle.prepared_runs.proofs.CallerLemmas.{BreaksOff-dump}
use Rattle.prepared_runs.specs.Source.{signals_of}

-- ---- what breaks off

-- behind a text that went out
pub BreaksOff-after : (old mid new : Option (List ℕ)) (text more : List ℕ) (fault : SimFault) → Appends old mid text → BreaksOff mid new more fault →
    BreaksOff old new (text ++ more) fault
BreaksOff-after old mid new text more (Dump fault) went (failed, part) = (failed, AppendsPrefix-after old mid new text more went part)
BreaksOff-after old mid new text more Memory went part = AppendsPrefix-after old mid new text more went part
BreaksOff-after old mid new text more _ went part = absurd part

-- in the first part of a text
pub BreaksOff-longer : (old new : Option (List ℕ)) (text rest whole : List ℕ) (fault : SimFault) → text ++ rest ≡ whole → BreaksOff old new text fault →
    BreaksOff old new whole fault
BreaksOff-longer old new text rest whole (Dump fault) is (failed, part) =
    (failed, subst (AppendsPrefix old new) is (AppendsPrefix-longer old new text rest part))
BreaksOff-longer old new text rest whole Memory is part = subst (AppendsPrefix old new) is (AppendsPrefix-longer old new text rest part)
BreaksOff-longer old new text rest whole _ is part = absurd part

-- ---- the dump of some nets

module _ (unit : TimeUnit) (horizon : ℕ) (circuit : Circuit) (nets : List ℕ) where
  abbrev values : List (ℕ → Value)
  values = values_of circuit nets

  -- the whole dump
  abbrev whole : List ℕ
  whole = dump_text unit horizon (signals_of circuit nets)

  -- what stands before the lines of a tick
  unfoldable pub text_before : ℕ → List ℕ
  text_before to = declarations unit (named circuit nets) ++ span_text 0 to (parts_of values 0 to)

  -- what stands from there on
  unfoldable text_from : ℕ → List ℕ
  text_from from =
      span_text from (horizon + 1) (parts_of values from (horizon + 1))
      ++ last_text (stream_at values horizon (horizon + 1))

  pub text_begins : declarations unit (named circuit nets) ≡ text_before 0
  unfolding text_before
  text_begins = sym (append-nil (declarations unit (named circuit nets)))

  text_more : (from to : ℕ) → from ≤ to → text_before from ++ span_text from to (parts_of values from to) ≡ text_before to
  unfolding text_before
  text_more from to ahead =
      append_assoc (declarations unit (named circuit nets)) (span_text 0 from (parts_of values 0 from)) (span_text from to (parts_of values from to))
      ∙ ap (λ text. declarations unit (named circuit nets) ++ text) (span_text-more values from to ahead)

  text_ends : text_before (horizon + 1) ++ last_text (stream_at values horizon (horizon + 1)) ≡ whole
  unfolding text_before
  text_ends =
      append_assoc (declarations unit (named circuit nets)) (span_text 0 (horizon + 1) (parts_of values 0 (horizon + 1)))
      (last_text (stream_at values horizon (horizon + 1)))
      ∙ dump_text-nets unit horizon circuit nets (value_of circuit)

  text_whole : (at : ℕ) → at ≤ horizon + 1 → text_before at ++ text_from at ≡ whole
  unfolding text_from
  text_whole at within =
      sym (append_assoc (text_before at) (span_text at (horizon + 1) (parts_of values at (horizon + 1)))
      (last_text (stream_at values horizon (horizon + 1))))
      ∙ ap (λ text. text ++ last_text (stream_at values horizon (horizon + 1))) (text_more at (horizon + 1) within)
      ∙ text_ends

  -- ---- steps of a stream, from what a writer held at first

  -- the declarations broke off
  pub breaks_at_first : (first now : Option (List ℕ)) (fault : DumpFault) → fault ≢ Failed → AppendsPrefix first now (declarations unit (named circuit nets)) →
      BreaksOff first now whole (sim_of_dump fault)
  breaks_at_first first now fault new part =
      BreaksOff-longer first now (declarations unit (named circuit nets)) (text_from 0) whole (sim_of_dump fault)
      (ap (λ text. text ++ text_from 0) text_begins ∙ text_whole 0 (omega arith))
      (BreaksOff-dump first now (declarations unit (named circuit nets)) fault new part)

  module _ (first held : Option (List ℕ)) (from : ℕ) (went : Appends first held (text_before from)) where
    -- a span more
    pub goes_on : (now : Option (List ℕ)) (to : ℕ) → from ≤ to → Appends held now (span_text from to (parts_of values from to)) →
        Appends first now (text_before to)
    goes_on now to ahead more =
        subst (Appends first now) (text_more from to ahead)
        (Appends-trans first held now (text_before from) (span_text from to (parts_of values from to)) went more)

    -- a span broke off
    pub breaks_in_span : (now : Option (List ℕ)) (to : ℕ) (fault : SimFault) → from ≤ to → to ≤ horizon + 1 →
        BreaksOff held now (span_text from to (parts_of values from to)) fault → BreaksOff first now whole fault
    breaks_in_span now to fault ahead within part =
        BreaksOff-longer first now (text_before from ++ span_text from to (parts_of values from to)) (text_from to) whole fault
        (ap (λ text. text ++ text_from to) (text_more from to ahead) ∙ text_whole to within)
        (BreaksOff-after first held now (text_before from) (span_text from to (parts_of values from to)) fault went part)

    -- nothing more went out
    pub breaks_here : from ≤ horizon + 1 → BreaksOff first held whole Memory
    breaks_here within =
        subst (AppendsPrefix first held) (text_whole from within)
        (AppendsPrefix-longer first held (text_before from) (text_from from) (AppendsPrefix-whole first held (text_before from) went))

    text_end : (stream : StreamView) → from ≡ horizon + 1 → stream ≡ stream_at values horizon from → text_before from ++ last_text stream ≡ whole
    text_end stream here at =
        ap (λ s. text_before from ++ last_text s) at ∙ ap (λ to. text_before to ++ last_text (stream_at values horizon to)) here ∙ text_ends

    -- the end
    pub ends : (now : Option (List ℕ)) (stream : StreamView) → from ≡ horizon + 1 → stream ≡ stream_at values horizon from →
        Appends held now (last_text stream) → Appends first now whole
    ends now stream here at last =
        subst (Appends first now) (text_end stream here at) (Appends-trans first held now (text_before from) (last_text stream) went last)

    pub breaks_at_end : (now : Option (List ℕ)) (stream : StreamView) (fault : DumpFault) → fault ≢ Failed → from ≡ horizon + 1 → stream ≡ stream_at values horizon from →
        AppendsPrefix held now (last_text stream) → BreaksOff first now whole (sim_of_dump fault)
    breaks_at_end now stream fault new here at part =
        BreaksOff-dump first now whole fault new
        (subst (AppendsPrefix first now) (text_end stream here at) (AppendsPrefix-after first held now (text_before from) (last_text stream) went part))
