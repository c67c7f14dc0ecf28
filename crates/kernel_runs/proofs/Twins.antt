-- Two runs, step by step, and what they show of one net.
use Rattle.std.proofs.Common.{◌≡◌, ℕ, ◌+◌, ◌<◌, ◌≤◌, ◌↔◌, All, Bool, false, IsTrue, List, [], ◌∷◌, length, Option, None, Some, IsSome, IfSome, Result, Ok, Err, refl, sym, ap, ◌∙◌, arith, true≢false}
use Rattle.std.specs.Option.{ok_or, unwrap_or}
use Rattle.logic3.specs.Wave.{wave_of}
use Rattle.logic3.proofs.CallerLemmas.{wave_of_iff}
use Rattle.netlist.specs.Netlist.{net_named}
use Rattle.design.specs.Design.{DesignView}
use Rattle.design.specs.Equations.{value_of}
use Rattle.cmb_events.specs.Schedule.{most_events, Exists}
use Rattle.fanin_cone.specs.Agreement.{AgreesOn, net_of}
use Rattle.fanin_cone.specs.Cone.{InCone, start}
use Rattle.prepared_runs.specs.declared.fault.SimFault.{SimFault}
use Rattle.prepared_runs.specs.declared.fault.SimFault.TheVariants.{UnknownNet, Dump, Memory}
use Rattle.prepared_runs.specs.declared.preparation.PreparedRun.{PreparedRun}
use Rattle.wave_diff.specs.declared.comparison.Side.{Side}
use Rattle.wave_diff.specs.declared.comparison.Side.TheVariants.{First, Second}
use Rattle.kernel_runs.specs.declared.twin_run.TwinAnswer.{TwinAnswer}
use Rattle.kernel_runs.specs.declared.twin_run.TwinFault.{TwinFault}
use Rattle.prepared_runs.specs.Ends.{IsRefusal}
use Rattle.prepared_runs.specs.Source.{SourceView, net_or_unknown}
use Rattle.prepared_runs.specs.Prepared.{RunView, run_of_source, seen_run}
use Rattle.kernel_runs.specs.Twins.{CanCompare, IsComparison, IsTwinRefusal, Twins, on, twins_in, twins_of}
use Rattle.kernel_runs.proofs.Isolated.{same_values}
use Rattle.prepared_runs.proofs.CallerLemmas.{named, ready_of_run}

-- ---- refusals

module _ {A : Type 0} (answer : Result A TwinFault) where
  -- a side has no net of the name
  pub IsTwinRefusal-net : (side : Side) (fault : TwinFault) → fault.side ≡ side → (found : Option ℕ) → ok_or found UnknownNet ≡ Err fault.fault →
      answer ≡ Err (on side fault.fault) → IsTwinRefusal answer fault
  IsTwinRefusal-net side fault on_side found lacks is = rw on_side (go fault.fault found lacks is)
    where
      go : (why : SimFault) (found : Option ℕ) → ok_or found UnknownNet ≡ Err why → answer ≡ Err (on side why) → IsTwinRefusal answer (on side why)
      go (Dump other) None lacks is = cc
      go (Dump other) (Some net) lacks is = cc
      go Memory found lacks is = tt
      go _ found lacks is = is

  -- what refuses a side's run
  pub IsTwinRefusal-lifted : {B : Type 0} (refused : Result B SimFault) (side : Side) (fault : TwinFault) → fault.side ≡ side →
      ((why : SimFault) → refused ≡ Err why → answer ≡ Err (on side why)) → IsRefusal refused fault.fault → IsTwinRefusal answer fault
  IsTwinRefusal-lifted refused side fault on_side lifts refusal = rw on_side (go fault.fault refusal)
    where
      go : (why : SimFault) → IsRefusal refused why → IsTwinRefusal answer (on side why)
      go (Dump other) refusal = absurd refusal
      go Memory refusal = tt
      go _ refusal = lifts _ refusal

module _ (first second : SourceView) (name : List ℕ) (horizon : ℕ) where
  pub twins_of-bad_first : (fault : SimFault) → run_of_source first horizon ≡ Err fault → twins_of first second name horizon ≡ Err (on First fault)
  unfolding twins_of
  twins_of-bad_first fault bad = rw bad refl

  module _ (one : RunView) (made_one : run_of_source first horizon ≡ Ok one) where
    pub twins_of-bad_second : (fault : SimFault) → run_of_source second horizon ≡ Err fault → twins_of first second name horizon ≡ Err (on Second fault)
    unfolding twins_of
    twins_of-bad_second fault bad = rw (made_one, bad) refl

    pub twins_of-in : (other : RunView) → run_of_source second horizon ≡ Ok other → twins_of first second name horizon ≡ twins_in one other name
    unfolding twins_of
    twins_of-in other made_other = rw (made_one, made_other) refl

module _ (one other : RunView) (name : List ℕ) where
  pub twins_in-bad_net : (fault : SimFault) → net_or_unknown one.design name ≡ Err fault → twins_in one other name ≡ Err (on First fault)
  unfolding twins_in
  twins_in-bad_net fault bad = rw bad refl

  module _ (net : ℕ) (found : net_or_unknown one.design name ≡ Ok net) where
    pub twins_in-bad_other_net : (fault : SimFault) → net_or_unknown other.design name ≡ Err fault → twins_in one other name ≡ Err (on Second fault)
    unfolding twins_in
    twins_in-bad_other_net fault bad = rw (found, bad) refl

    pub twins_in-good : (other_net : ℕ) → net_or_unknown other.design name ≡ Ok other_net →
        twins_in one other name ≡ Ok (record { first = one; second = other; net = net; other_net = other_net })
    unfolding twins_in
    twins_in-good other_net other_found = rw (found, other_found) refl

-- ---- agreement

-- whether designs agree on a net's cone, by the call that says it where both have the net; where one lacks it they don't
pub agrees_iff : (a b : DesignView) (name : List ℕ) (horizon : ℕ) (answer : Option Bool) →
    (IsSome answer ↔ (IsSome (net_of a name) × IsSome (net_of b name))) →
    IfSome answer (λ agrees. IsTrue agrees ↔ AgreesOn a b (InCone a.netlist (name ∷ [])) horizon) →
    IsTrue (unwrap_or answer false) ↔ AgreesOn a b (InCone a.netlist (name ∷ [])) horizon
agrees_iff a b name horizon (Some agrees) found said = said
agrees_iff a b name horizon None found said = (
  λ never. absurd (true≢false (sym never)),
  λ agree.
      let at = agree name (start name (0, omega arith, refl)) in
      absurd (true≢false (sym (found.1 (rw at.first refl, rw at.second refl)))),
)

-- ---- the comparison

-- two prepared runs can be compared
pub CanCompare-made : (first second : SourceView) (horizon : ℕ) (one other : PreparedRun) → run_of_source first horizon ≡ Ok (seen_run one) →
    run_of_source second horizon ≡ Ok (seen_run other) → All (Exists one.design.circuit) one.schedule → length one.schedule ≤ most_events →
    All (Exists other.design.circuit) other.schedule → length other.schedule ≤ most_events → CanCompare one other
CanCompare-made first second horizon one other made_one made_other exist few other_exist other_few =
    let ready = ready_of_run first horizon (seen_run one) made_one in
    let other_ready = ready_of_run second horizon (seen_run other) made_other in
    record {
      first = ready.design;
      second = other_ready.design;
      first_exist = exist;
      second_exist = other_exist;
      first_few = few;
      second_few = other_few;
      horizon = other_ready.horizon ∙ sym ready.horizon;
    }

module _ (one other : PreparedRun) (can : CanCompare one other) (name : List ℕ) (net other_net : ℕ) (answer : TwinAnswer) where
  abbrev twins : Twins
  twins = record { first = seen_run one; second = seen_run other; net = net; other_net = other_net }

  -- both runs end at one horizon
  pub IsComparison-made : (IsTrue answer.agree ↔ AgreesOn one.design other.design (InCone one.design.netlist (name ∷ [])) one.horizon) →
      answer.first ≡ wave_of (value_of one.design.circuit net) 0 (one.horizon + 1) →
      answer.second ≡ wave_of (value_of other.design.circuit other_net) 0 (other.horizon + 1) → IsComparison twins name one.horizon answer
  IsComparison-made agree first_is second_is = record {
    agree = agree;
    first = first_is;
    second = second_is ∙ ap (λ ticks. wave_of (value_of other.design.circuit other_net) 0 (ticks + 1)) can.horizon;
  }

  -- runs that agree on a net's cone show the same for it
  pub same_waves : net_or_unknown one.design name ≡ Ok net → net_or_unknown other.design name ≡ Ok other_net →
      IsComparison twins name one.horizon answer → IsTrue answer.agree → answer.first ≡ answer.second
  same_waves found other_found compared agrees =
      let f = value_of one.design.circuit net in
      let g = value_of other.design.circuit other_net in
      let same : (tick : ℕ) → tick < one.horizon + 1 → f tick ≡ g tick =
      λ tick due. same_values one.design other.design can.first can.second
      name net other_net one.horizon (compared.agree.0 agrees)
      (named (net_named one.design.netlist name) net found) (named (net_named other.design.netlist name) other_net other_found) tick (omega arith) in
      compared.first ∙ (wave_of_iff f g (one.horizon + 1)).1 same ∙ sym compared.second
