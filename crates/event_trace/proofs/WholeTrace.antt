-- The three parts of a trace.
use Rattle.std.proofs.Common.{◌≡◌, ℕ, List, [], ◌∷◌, ◌++◌, Option, refl, ap, sym, subst, ◌∙◌, append-nil}
use Rattle.std.specs.Io.KnownBytes.{Appends}
use Rattle.texts.specs.Written.{AppendsPrefix, GoesOut}
use Rattle.design.specs.Circuit.{Circuit}
use Rattle.cmb_events.specs.declared.event.Event.{Event}
use Rattle.cmb_kernel.specs.declared.counts.Counts.{Counts}
use Rattle.cmb_kernel.specs.State.{KernelView, IsUndrained, fresh, floor_at, most_rounds}
use Rattle.cmb_kernel.specs.Step.{completed_within, steps}
use Rattle.cmb_kernel.proofs.CallerLemmas.{steps_floor, started_floor}
use Rattle.event_trace.specs.declared.shown_events.ShownEvents.{ShownEvents}
use Rattle.event_trace.specs.Lines.{Line, ends, counts_line}
use Rattle.event_trace.specs.ShownLines.{shown_text}
use Rattle.event_trace.specs.Trace.{lines_from, lines_of, lines_within}
use Rattle.event_trace.proofs.GoingOut.{all_sent, first_broken, second_broken, third_broken, third_missing}
use Rattle.event_trace.proofs.ShownTexts.{shown_text-append}

parts : (shown : ShownEvents) (circuit : Circuit) (xs ys : List Line) (counts : Counts) →
    shown_text shown circuit (xs ++ ys ++ ends counts ∷ []) ≡ (shown_text shown circuit xs ++ shown_text shown circuit ys) ++ counts_line counts
parts shown circuit xs ys counts =
    shown_text-append shown circuit (xs ++ ys) (ends counts ∷ [])
    ∙ (λ i. shown_text-append shown circuit xs ys i ++ append-nil (counts_line counts) i)

-- events take nothing out
pub steps_undrained : (kernel new : KernelView) (events : List Event) → new ≡ record kernel { state = steps kernel.state events } →
    IsUndrained kernel.state → IsUndrained new.state
steps_undrained kernel new events goes undrained net =
    ap (λ (k : KernelView). floor_at k.state net) goes ∙ steps_floor kernel.state events net ∙ undrained net

-- of a fresh kernel nothing was taken out
pub fresh_undrained : (circuit : Circuit) (end : ℕ) (kernel : KernelView) → kernel ≡ fresh circuit end → IsUndrained kernel.state
fresh_undrained circuit end kernel is net = ap (λ (k : KernelView). floor_at k.state net) is ∙ started_floor circuit end net

-- ---- what went out

-- a kernel to which events happened, whose lines are the first of the trace
module _ (shown : ShownEvents) (circuit : Circuit) (kernel after : KernelView) (events : List Event) (goes : after ≡ record kernel { state = steps kernel.state events }) where
  -- the lines of the rounds that are left then
  abbrev rounds_text : List ℕ
  rounds_text = shown_text shown circuit (lines_within (most_rounds after.end after.circuit) after.state)

  three_parts : shown_text shown circuit (lines_from kernel.state (most_rounds kernel.end kernel.circuit) events)
      ≡ (shown_text shown circuit (lines_of kernel.state events)
      ++ shown_text shown circuit (lines_within (most_rounds after.end after.circuit) after.state))
      ++ counts_line (completed_within (most_rounds after.end after.circuit) after.state).counts
  three_parts =
      parts shown circuit (lines_of kernel.state events) (lines_within (most_rounds kernel.end kernel.circuit) (steps kernel.state events)) _
      ∙ ap (λ (k : KernelView). (shown_text shown circuit (lines_of kernel.state events) ++ shown_text shown circuit (lines_within (most_rounds k.end k.circuit) k.state))
      ++ counts_line (completed_within (most_rounds k.end k.circuit) k.state).counts) (sym goes)

  module _ (old mid : Option (List ℕ)) (none waiting : List ℕ) (empty : none ≡ [])
      (first : GoesOut old mid (none ++ shown_text shown circuit (lines_of kernel.state events)) waiting) (new : Option (List ℕ)) where
    events_out : GoesOut old mid (shown_text shown circuit (lines_of kernel.state events)) waiting
    events_out = subst (λ (text : List ℕ). GoesOut old mid (text ++ shown_text shown circuit (lines_of kernel.state events)) waiting) empty first

    -- the rounds were broken off
    pub rounds_broken : AppendsPrefix mid new (waiting ++ shown_text shown circuit (lines_within (most_rounds after.end after.circuit) after.state)) →
        AppendsPrefix old new (shown_text shown circuit (lines_from kernel.state (most_rounds kernel.end kernel.circuit) events))
    rounds_broken fault =
        second_broken _ (shown_text shown circuit (lines_of kernel.state events)) rounds_text
        (counts_line (completed_within (most_rounds after.end after.circuit) after.state).counts) three_parts old mid new waiting events_out fault

    module _ (left : List ℕ) (second : GoesOut mid new (waiting ++ shown_text shown circuit (lines_within (most_rounds after.end after.circuit) after.state)) left) where
      -- the counts were not told
      pub counts_missing : AppendsPrefix old new (shown_text shown circuit (lines_from kernel.state (most_rounds kernel.end kernel.circuit) events))
      counts_missing =
          third_missing _ (shown_text shown circuit (lines_of kernel.state events)) rounds_text
          (counts_line (completed_within (most_rounds after.end after.circuit) after.state).counts) three_parts old mid new waiting events_out left second

      module _ (last : Option (List ℕ)) (ready slice : List ℕ) (counts : Counts)
          (counted : counts ≡ (completed_within (most_rounds after.end after.circuit) after.state).counts) (made : ready ≡ left ++ counts_line counts)
          (handed : slice ≡ ready) where
        told : ready ≡ left ++ counts_line (completed_within (most_rounds after.end after.circuit) after.state).counts
        told = made ∙ ap (λ cs. left ++ counts_line cs) counted

        -- the last piece was broken off
        pub last_broken : AppendsPrefix new last slice → AppendsPrefix old last (shown_text shown circuit (lines_from kernel.state (most_rounds kernel.end kernel.circuit) events))
        last_broken fault =
            third_broken _ (shown_text shown circuit (lines_of kernel.state events)) rounds_text
            (counts_line (completed_within (most_rounds after.end after.circuit) after.state).counts) three_parts old mid new waiting events_out left second
            last ready told (subst (AppendsPrefix new last) handed fault)

        -- all went out
        pub trace_sent : Appends new last slice → Appends old last (shown_text shown circuit (lines_from kernel.state (most_rounds kernel.end kernel.circuit) events))
        trace_sent sent =
            all_sent _ (shown_text shown circuit (lines_of kernel.state events)) rounds_text
            (counts_line (completed_within (most_rounds after.end after.circuit) after.state).counts) three_parts old mid new waiting events_out left second
            last ready told (subst (Appends new last) handed sent)

-- the events were broken off
pub events_broken : (shown : ShownEvents) (circuit : Circuit) (kernel : KernelView) (events : List Event) (old new : Option (List ℕ)) (none : List ℕ) → none ≡ [] →
    AppendsPrefix old new (none ++ shown_text shown circuit (lines_of kernel.state events)) →
    AppendsPrefix old new (shown_text shown circuit (lines_from kernel.state (most_rounds kernel.end kernel.circuit) events))
events_broken shown circuit kernel events old new none empty fault =
    first_broken _ (shown_text shown circuit (lines_of kernel.state events))
    (shown_text shown circuit (lines_within (most_rounds kernel.end kernel.circuit) (steps kernel.state events)))
    (counts_line (completed_within (most_rounds kernel.end kernel.circuit) (steps kernel.state events)).counts)
    (three_parts shown circuit kernel (record kernel { state = steps kernel.state events }) events refl) old new
    (subst (λ (text : List ℕ). AppendsPrefix old new (text ++ shown_text shown circuit (lines_of kernel.state events))) empty fault)
