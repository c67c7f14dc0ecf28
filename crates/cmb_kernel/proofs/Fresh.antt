-- A kernel to which nothing happened yet.
use Rattle.std.proofs.Common.{◌≡◌, ℕ, ◌+◌, ◌≤◌, List, [], map, length, replicate, ap, sym, subst, ◌∙◌, arith}
use Rattle.std.proofs.lemmas.Simd.{map-map}
use Rattle.design.specs.Circuit.{pin_count}
use Rattle.timing_text.specs.Ranges.{most_ticks}
use Rattle.design.specs.Design.{DesignView, IsDesign}
use Rattle.design.specs.Pins.{sources_of}
use Rattle.cmb_channels.specs.declared.message.Message.{Message}
use Rattle.gate_process.specs.Step.{ProcessView, running, started_process}
use Rattle.cmb_kernel.specs.declared.counts.Counts.{Counts}
use Rattle.cmb_kernel.specs.State.{started}
use Rattle.cmb_kernel.specs.Running.{state_of, IsRunning}
use Rattle.cmb_kernel.proofs.Soundness.{started_sound}

abbrev pub no_counts : Counts
no_counts = record { events = 0; changes = 0; nulls = 0; rounds = 0 }

module _ (design : DesignView) (end : ℕ) (processes : List ProcessView) (lists : List (List Message))
    (given : processes ≡ map (λ net. running (started_process end net)) design.circuit)
    (empty : lists ≡ replicate (pin_count design.circuit) []) where
  states : map (λ (p : ProcessView). p.state) processes ≡ map (started_process end) design.circuit
  states =
      ap (map (λ (p : ProcessView). p.state)) given
      ∙ map-map (λ (p : ProcessView). p.state) (λ net. running (started_process end net)) design.circuit

  pub state_started : state_of processes lists no_counts ≡ started design.circuit end
  state_started = λ i. record { processes = states i; lists = empty i; counts = no_counts }

  pub fresh_runs : (sources : List ℕ) (nets : ℕ) → IsDesign design → end ≤ most_ticks + 1 → sources ≡ sources_of design.circuit →
      nets ≡ length design.circuit → IsRunning design end processes sources nets (state_of processes lists no_counts)
  fresh_runs sources nets well_formed within feeds all_nets =
      subst (IsRunning design end processes sources nets) (sym state_started) (record {
        well_formed = well_formed;
        within = within;
        all_run = given ∙ sym (map-map running (started_process end) design.circuit);
        feeds = feeds;
        all_nets = all_nets;
        messages = omega arith;
        sound = started_sound design.circuit end;
      })
