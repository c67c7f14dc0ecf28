-- The answer to a question for causes, step by step.
use Rattle.std.proofs.Common.{◌≡◌, ℕ, ◌+◌, List, [], ◌∷◌, ◌++◌, length, Option, None, Some, Result, Ok, Err, refl, sym, ap, ◌∙◌, zero-add}
use Rattle.std.specs.List.{range_with_len}
use Rattle.std.specs.Option.{ok_or}
use Rattle.std.proofs.lemmas.List.FromFn.{map-range_with_len_more}
use Rattle.logic3.specs.Wave.{Wave, wave_of}
use Rattle.design.specs.Circuit.{Circuit}
use Rattle.design.specs.Design.{DesignView}
use Rattle.design.specs.Equations.{value_of, waves_of}
use Rattle.prepared_runs.specs.Shown.{waves_up_to}
use Rattle.causes.specs.Text.{why_text}
use Rattle.prepared_runs.specs.declared.fault.SimFault.{SimFault}
use Rattle.prepared_runs.specs.declared.fault.SimFault.TheVariants.{UnknownNet, Dump, Memory}
use Rattle.prepared_runs.specs.Ends.{IsRefusal}
use Rattle.kernel_runs.specs.Explained.{why_of_source}
use Rattle.prepared_runs.specs.Source.{SourceView, design_of_source, net_or_unknown}

module _ (source : SourceView) (name : List ℕ) (tick : ℕ) where
  pub why_of_source-bad : (fault : SimFault) → design_of_source source tick ≡ Err fault → why_of_source source name tick ≡ Err fault
  unfolding why_of_source
  why_of_source-bad fault bad = rw bad refl

  module _ (horizon : ℕ) (design : DesignView) (made : design_of_source source tick ≡ Ok (horizon, design)) where
    pub why_of_source-unknown : (fault : SimFault) → net_or_unknown design name ≡ Err fault → why_of_source source name tick ≡ Err fault
    unfolding why_of_source
    why_of_source-unknown fault bad = rw (made, bad) refl

    pub why_of_source-good : (net : ℕ) → net_or_unknown design name ≡ Ok net → why_of_source source name tick ≡ Ok (why_text design net tick)
    unfolding why_of_source
    why_of_source-good net found = rw (made, found) refl

-- a name that no net has refuses
pub IsRefusal-net : {A : Type 0} (answer : Result A SimFault) (fault : SimFault) (found : Option ℕ) → ok_or found UnknownNet ≡ Err fault →
    answer ≡ Err fault → IsRefusal answer fault
IsRefusal-net answer (Dump other) None lacks is = cc
IsRefusal-net answer (Dump other) (Some net) lacks is = cc
IsRefusal-net answer Memory found lacks is = tt
IsRefusal-net answer _ found lacks is = is

-- the waveform of one net more
pub waves_up_to-more : (circuit : Circuit) (horizon net : ℕ) (waves new : List Wave) (wave : Wave) → waves ≡ waves_up_to circuit horizon (range_with_len 0 net) →
    wave ≡ wave_of (value_of circuit net) 0 (horizon + 1) → new ≡ waves ++ wave ∷ [] → new ≡ waves_up_to circuit horizon (range_with_len 0 (net + 1))
waves_up_to-more circuit horizon net waves new wave so_far is more =
    more
    ∙ (λ i. so_far i ++ is i ∷ [])
    ∙ sym (map-range_with_len_more (λ n. wave_of (value_of circuit n) 0 (horizon + 1)) 0 net net (zero-add net))

-- those of all nets
pub waves_of-all : (circuit : Circuit) (horizon nets : ℕ) → nets ≡ length circuit →
    waves_up_to circuit horizon (range_with_len 0 nets) ≡ waves_of circuit (horizon + 1)
unfolding waves_of
waves_of-all circuit horizon nets same = ap (λ n. waves_up_to circuit horizon (range_with_len 0 n)) same
