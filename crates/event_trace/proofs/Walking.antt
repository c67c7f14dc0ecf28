-- Events one after another, with their lines.
use Rattle.std.proofs.Common.{◌≡◌, ℕ, suc, ◌+◌, ◌-◌, ◌<◌, List, [], ◌∷◌, ◌++◌, length, drop, map, get_or, refl, ap, sym, ◌∙◌, arith, add-one, drop-cons, append_assoc}
use Rattle.std.specs.List.{range_with_len}
use Rattle.design.specs.Circuit.{Circuit}
use Rattle.cmb_events.specs.declared.event.Event.{Event}
use Rattle.cmb_events.specs.declared.event.Event.TheVariants.{Deliver, Advance}
use Rattle.cmb_kernel.specs.State.{KernelView, IsUndrained, floor_at}
use Rattle.cmb_kernel.proofs.CallerLemmas.{steps_floor}
use Rattle.cmb_kernel.specs.Step.{step, steps}
use Rattle.event_trace.specs.declared.shown_events.ShownEvents.{ShownEvents}
use Rattle.event_trace.specs.ShownLines.{shown_text}
use Rattle.event_trace.specs.Trace.{line_of, lines_of}
use Rattle.event_trace.proofs.ShownTexts.{shown_text-append}

-- the event at a place
abbrev pub event_at : List Event → ℕ → Event
event_at events index = get_or events index (Deliver 0)

next_event : (events : List Event) (index : ℕ) → index < length events → drop index events ≡ event_at events index ∷ drop (index + 1) events
next_event events index within = rw (add-one, drop-cons events index (Deliver 0) within) refl

module _ (kernel new : KernelView) (events : List Event) (index : ℕ) (within : index < length events)
    (goes : new ≡ record kernel { state = step kernel.state (event_at events index) }) where
  -- the events that are left lead to the same end
  pub goes_on : record new { state = steps new.state (drop (index + 1) events) } ≡ record kernel { state = steps kernel.state (drop index events) }
  goes_on =
      ap (λ (k : KernelView). record k { state = steps k.state (drop (index + 1) events) }) goes
      ∙ ap (λ (es : List Event). record kernel { state = steps kernel.state es }) (sym (next_event events index within))

  -- nothing is taken out
  pub undrained_on : IsUndrained kernel.state → IsUndrained new.state
  undrained_on undrained net =
      ap (λ (k : KernelView). floor_at k.state net) goes ∙ steps_floor kernel.state (event_at events index ∷ []) net ∙ undrained net

  -- and the lines that are left come after the one that was added, if it is shown
  pub lines_on : (shown : ShownEvents) (circuit : Circuit) (text piece : List ℕ) →
      piece ≡ text ++ shown_text shown circuit (line_of kernel.state (event_at events index) ∷ []) →
      text ++ shown_text shown circuit (lines_of kernel.state (drop index events))
      ≡ piece ++ shown_text shown circuit (lines_of new.state (drop (index + 1) events))
  lines_on shown circuit text piece is =
      let line = line_of kernel.state (event_at events index) in
      let rest = lines_of (step kernel.state (event_at events index)) (drop (index + 1) events) in
      ap (λ (es : List Event). text ++ shown_text shown circuit (lines_of kernel.state es)) (next_event events index within)
      ∙ ap (λ (xs : List ℕ). text ++ xs) (shown_text-append shown circuit (line ∷ []) rest)
      ∙ sym (append_assoc text (shown_text shown circuit (line ∷ [])) (shown_text shown circuit rest))
      ∙ ap (λ (xs : List ℕ). xs ++ shown_text shown circuit rest) (sym is)
      ∙ ap (λ (k : KernelView). piece ++ shown_text shown circuit (lines_of k.state (drop (index + 1) events))) (sym goes)

-- ---- the events of a round

-- the advances of the nets from one on
abbrev pub advances_from : ℕ → ℕ → List Event
advances_from net nets = map Advance (range_with_len net (nets - net))

-- the advance of one more net
pub advances_on : (net nets : ℕ) (events more : List Event) → net < nets → more ≡ events ++ Advance net ∷ [] →
    more ++ advances_from (net + 1) nets ≡ events ++ advances_from net nets
advances_on net nets events more within is =
    let one : nets - net ≡ suc (nets - (net + 1)) = omega arith in
    rw (is, one) (append_assoc events (Advance net ∷ []) (advances_from (net + 1) nets))
