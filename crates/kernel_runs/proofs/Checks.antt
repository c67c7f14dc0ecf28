-- What the kernel and the plain engine give each net.
use Rattle.std.proofs.Common.{◌≡◌, ℕ, ◌+◌, ◌<◌, List, length, map, get_or, sym, ap, ◌∙◌, arith}
use Rattle.std.specs.List.{range_with_len}
use Rattle.std.proofs.lemmas.List.FromFn.{length-map-range_with_len, get_or-map-range_with_len}
use Rattle.logic3.specs.Wave.{Wave, wave_of}
use Rattle.design.specs.Equations.{value_of, waves_of}
use Rattle.cmb_kernel.specs.State.{KernelView, frontier_at}
use Rattle.prepared_runs.specs.Shown.{waves_up_to}
use Rattle.kernel_runs.specs.Simulated.{IsKnown}
use Rattle.prepared_runs.specs.Prepared.{RunView}
use Rattle.kernel_runs.proofs.Simulated.{waves_up_to-known}

-- the waveforms of all nets, up to where the kernel ends
abbrev pub waves_to_end : KernelView → List Wave
waves_to_end kernel = map (λ net. wave_of (value_of kernel.circuit net) 0 kernel.end) (range_with_len 0 (length kernel.circuit))

-- those of the plain engine are such
pub waves_of-to_end : (run : RunView) (kernel : KernelView) → kernel.circuit ≡ run.design.circuit → kernel.end ≡ run.horizon + 1 →
    waves_of run.design.circuit (run.horizon + 1) ≡ waves_to_end kernel
unfolding waves_of
waves_of-to_end run kernel circuit end =
    ap (λ nets. waves_up_to run.design.circuit run.horizon (range_with_len 0 (length nets))) (sym circuit)
    ∙ sym (waves_up_to-known run kernel circuit end (range_with_len 0 (length kernel.circuit)))

module _ (kernel : KernelView) (waves : List Wave) (are : waves ≡ waves_to_end kernel) where
  pub length-to_end : length waves ≡ length kernel.circuit
  length-to_end = ap length are ∙ length-map-range_with_len (λ net. wave_of (value_of kernel.circuit net) 0 kernel.end) 0 (length kernel.circuit)

  -- and those of a kernel that knows each net
  pub known_wave : (net : ℕ) (d : Wave) → IsKnown kernel → net < length kernel.circuit →
      wave_of (value_of kernel.circuit net) 0 (frontier_at kernel.state net) ≡ get_or waves net d
  known_wave net d known below =
      ap (λ to. wave_of (value_of kernel.circuit net) 0 to) (known net below)
      ∙ sym (ap (λ ws. get_or ws net d) are
      ∙ get_or-map-range_with_len (λ n. wave_of (value_of kernel.circuit n) 0 kernel.end) 0 (length kernel.circuit) net net d below (omega arith))
