-- A pass over the segments of an order: each net comes the least delay farther, or to the end.
use Rattle.std.proofs.Common.{◌≡◌, ℕ, ◌+◌, ◌-◌, ◌<◌, ◌≤◌, min, List, [], ◌++◌, refl, take, drop, length, get_or, suc, ap, sym, subst, ◌∙◌, arith, drop-cons, drop_of_length-le, take-add}
use Rattle.std.specs.List.{All}
use Rattle.std.proofs.lemmas.List.{take_all}
use Rattle.std.proofs.lemmas.List.Elements.{All-append, All-nil}
use Rattle.design.specs.Circuit.{Circuit}
use Rattle.design.specs.Segments.{IsSegment, LieBetween}
use Rattle.design.specs.declared.segments.Segment.{Segment}
use Rattle.cmb_kernel.specs.State.{KernelView, State, frontier_at, least_delay, least_frontier}
use Rattle.cmb_kernel.specs.Sound.{IsSound}
use Rattle.cmb_kernel.specs.Step.{steps}
use Rattle.cmb_events.specs.Schedule.{Exists}
use Rattle.cmb_kernel.specs.Sweeps.{AllKnow, EventsLead, HoldsAll}
use Rattle.cmb_kernel.proofs.CallerLemmas.{least_frontier-le, least_frontier_greatest, of_contained, steps-append}
use Rattle.kernel_runs.specs.Paces.{AllFarther, Covers, GoesOn}
use Rattle.kernel_runs.specs.declared.sweeps.Sweeps as of_sweeps

-- ---- events lead on

-- from a state to itself lead none
pub EventsLead-none : (circuit : Circuit) (state : State) → EventsLead circuit state state
EventsLead-none circuit state = record { events = []; exist = All-nil (Exists circuit); leads = refl }

pub EventsLead-trans : {circuit : Circuit} {start now next : State} → EventsLead circuit start now → EventsLead circuit now next → EventsLead circuit start next
EventsLead-trans {circuit} {start} {now} {next} came goes = record {
  events = came.events ++ goes.events;
  exist = All-append (Exists circuit) came.events goes.events came.exist goes.exist;
  leads = steps-append start came.events goes.events ∙ ap (λ state. steps state goes.events) came.leads ∙ goes.leads;
}

-- ---- a run goes on

pub GoesOn-none : (start : KernelView) → IsSound start.circuit start.end start.state → GoesOn start start
GoesOn-none start sound = record {
  run = refl;
  sound = sound;
  led = EventsLead-none start.circuit start.state;
  none_falls = record { nets = λ net. omega arith; pins = λ pin. omega arith };
  floors = λ net. refl;
}

pub GoesOn-trans : {start now next : KernelView} → GoesOn start now → GoesOn now next → GoesOn start next
GoesOn-trans {start} {now} {next} came goes = record {
  run = goes.run ∙ ap (λ (k : KernelView). record k { state = next.state }) came.run;
  sound = goes.sound;
  led = EventsLead-trans came.led (subst (λ (k : KernelView). EventsLead k.circuit now.state next.state) came.run goes.led);
  none_falls = record {
    nets = λ net. (let a = came.none_falls.nets net in let b = goes.none_falls.nets net in omega (arith, a, b));
    pins = λ pin. (let a = came.none_falls.pins pin in let b = goes.none_falls.pins pin in omega (arith, a, b));
  };
  floors = λ net. goes.floors net ∙ came.floors net;
}

module _ {start now : KernelView} (goes : GoesOn start now) where
  -- what nets know, they go on to know
  pub AllKnow-on : (tick : ℕ) → AllKnow start.circuit tick start.state → AllKnow now.circuit tick now.state
  AllKnow-on tick all = λ net below.
      let circuit = ap (λ (k : KernelView). length k.circuit) goes.run in
      let known = all net (omega (arith, below, circuit)) in
      let rises = goes.none_falls.nets net in
      omega (arith, known, rises)

  -- so nets that are farther stay so
  pub AllFarther-on : (run : KernelView) (tick : ℕ) (nets : List ℕ) → AllFarther run tick start.state nets → AllFarther run tick now.state nets
  AllFarther-on run tick nets farther = λ place d h.
      let far : min run.end (tick + least_delay run.end run.circuit) ≤ frontier_at start.state (get_or nets place d) = farther place d h in
      let rises = goes.none_falls.nets (get_or nets place d) in
      omega (arith, far, rises)

  -- and what is said of the end and the least delay is the same of both
  pub AllFarther-same : (tick : ℕ) (state : State) (nets : List ℕ) → AllFarther now tick state nets → AllFarther start tick state nets
  AllFarther-same tick state nets = subst (λ (k : KernelView). AllFarther k tick state nets) goes.run

  -- where each net is farther, so is the least
  pub all_farther : (order : List ℕ) → HoldsAll start.circuit order → AllFarther start (least_frontier start.end start.state) now.state order →
      min start.end (least_frontier start.end start.state + least_delay start.end start.circuit) ≤ least_frontier now.end now.state
  all_farther order holds farther =
      least_frontier_greatest now.circuit now.end (min start.end (least_frontier start.end start.state + least_delay start.end start.circuit))
      now.state goes.sound (let end = ap (λ (k : KernelView). k.end) goes.run in omega (arith, end))
      (λ net below.
      of_contained (λ n. min start.end (least_frontier start.end start.state + least_delay start.end start.circuit) ≤ frontier_at now.state n) order farther
      net (holds net (subst (λ (k : KernelView). net < length k.circuit) goes.run below)))

-- sweeps whose next window differs cover the nets of a run that goes on
pub still_covers : (sweeps now : of_sweeps.Sweeps) {start next : KernelView} {width : ℕ} → now ≡ record sweeps { width = width } → GoesOn start next →
    Covers sweeps start.circuit start.end → Covers now next.circuit next.end
still_covers sweeps now {start} {next} is goes covers =
    subst (λ (k : KernelView). Covers now k.circuit k.end) (sym goes.run)
    (subst (λ (s : of_sweeps.Sweeps). Covers s start.circuit start.end) (sym is)
    (record { within = covers.within; all = covers.all; cut_up = covers.cut_up; to_end = covers.to_end; most = covers.most }))

-- sweeps whose dump was written cover the same nets
pub covers_written : (sweeps now : of_sweeps.Sweeps) {circuit : Circuit} {end reported : ℕ} → now ≡ record sweeps { reported = reported } →
    Covers sweeps circuit end → Covers now circuit end
covers_written sweeps now {circuit} {end} is covers =
    subst (λ (s : of_sweeps.Sweeps). Covers s circuit end) (sym is)
    (record { within = covers.within; all = covers.all; cut_up = covers.cut_up; to_end = covers.to_end; most = covers.most })

-- every net knows what the least does
pub all_know_least : (run : KernelView) → IsSound run.circuit run.end run.state → AllKnow run.circuit (least_frontier run.end run.state) run.state
all_know_least run sound = λ net below. least_frontier-le run.circuit run.end run.state sound net below

-- what each of some nets knows, each knows of less
pub all_less : (state : State) (known less : ℕ) (nets : List ℕ) → less ≤ known → All (λ net. known ≤ frontier_at state net) nets →
    All (λ net. less ≤ frontier_at state net) nets
all_less state known less nets h each = λ place d within.
    let here : known ≤ frontier_at state (get_or nets place d) = each place d within in
    omega (arith, here, h)

-- ---- segments

-- the segment that comes next, and those behind it
pub next_segment : (circuit : Circuit) (order : List ℕ) (begin end : ℕ) (segments : List Segment) (index : ℕ) (d : Segment) → index < length segments →
    LieBetween circuit order begin (drop index segments) end →
    IsSegment circuit order begin (get_or segments index d) × LieBetween circuit order (get_or segments index d).end (drop (index + 1) segments) end
next_segment circuit order begin end segments index d h lie =
    let more : suc index ≡ index + 1 = omega arith in
    subst (λ n. IsSegment circuit order begin (get_or segments index d) × LieBetween circuit order (get_or segments index d).end (drop n segments) end) more
    (subst (λ left. LieBetween circuit order begin left end) (drop-cons segments index d h) lie)

-- behind the last one the order ends
pub no_segment : (circuit : Circuit) (order : List ℕ) (begin end : ℕ) (segments : List Segment) (index : ℕ) → length segments ≤ index →
    LieBetween circuit order begin (drop index segments) end → begin ≡ end
no_segment circuit order begin end segments index h lie =
    subst (λ left. LieBetween circuit order begin left end) (drop_of_length-le segments h) lie

-- a stretch more of a list
pub All-stretch : (P : ℕ → Type 0) (numbers : List ℕ) (begin end : ℕ) → begin ≤ end → All P (take begin numbers) →
    All P (take (end - begin) (drop begin numbers)) → All P (take end numbers)
All-stretch P numbers begin end h before stretch =
    let all : begin + (end - begin) ≡ end = omega arith in
    subst (All P) (sym (take-add begin (end - begin) numbers) ∙ ap (λ n. take n numbers) all)
    (All-append P (take begin numbers) (take (end - begin) (drop begin numbers)) before stretch)

-- behind the last segment the whole order is farther, and so is the least
pub covered : {start now : KernelView} → GoesOn start now → (order : List ℕ) (segments : List Segment) (begin index : ℕ) → length segments ≤ index →
    HoldsAll start.circuit order → AllFarther start (least_frontier start.end start.state) now.state (take begin order) →
    LieBetween start.circuit order begin (drop index segments) (length order) →
    min start.end (least_frontier start.end start.state + least_delay start.end start.circuit) ≤ least_frontier now.end now.state
covered {start} {now} goes order segments begin index h holds farther lie =
    let end = no_segment start.circuit order begin (length order) segments index h lie in
    all_farther goes order holds
    (subst (AllFarther start (least_frontier start.end start.state) now.state) (take_all begin order (omega (arith, end))) farther)
