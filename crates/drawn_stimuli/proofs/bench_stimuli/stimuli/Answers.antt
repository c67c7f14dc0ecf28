use Rattle.std.proofs.Common.{◌≡◌, Err, map, sym, ap}
use Rattle.std.proofs.lemmas.Result.{err_from_is_err_and}
use Rattle.bench_text.specs.declared.fault.BenchFault.TheVariants as bench
use Rattle.drawn_stimuli.specs.declared.fault.DriveFault.TheVariants as drives
use Rattle.drawn_stimuli.specs.Given.{seen_drive}
use Rattle.drawn_stimuli.specs.Driven.{driven_of_bench, driven_of_drives}
use Rattle.drawn_stimuli.proofs.StimuliTexts.{stimuli_of_drives-bad, stimuli_of_drives-bad_bench, stimuli_of_drives-bad_horizon, stimuli_of_drives-good}
use Rattle.drawn_stimuli.proofs.bench_stimuli.stimuli.Goals as goal

pub returns-in_err-horizon : goal.returns-in_err-horizon
returns-in_err-horizon c =
    let p = err_from_is_err_and c.from_residual.result c.from_residual.ensures.1 in
    rw (p.1, p.2) (record {
      exact = λ not_memory.
          sym (stimuli_of_drives-bad_horizon c.args.bench.now (map seen_drive c.args.drives.now) c.args.draws c.args.horizon _ (sym c.in_err-horizon.ensures));
    })

pub returns-in_err-netlist : goal.returns-in_err-netlist
returns-in_err-netlist c =
    let p = err_from_is_err_and c.from_residual-in_err-netlist.result c.from_residual-in_err-netlist.ensures.1 in
    rw (p.1, p.2) (record {
      exact = λ not_memory.
          sym (stimuli_of_drives-bad_bench c.args.bench.now (map seen_drive c.args.drives.now) c.args.draws c.args.horizon _ (sym c.in_ok-horizon.ensures) _
          (sym (c.in_err-netlist.ensures.netlist (λ same.
          let is : c.in_err-netlist.field-0.0 ≡ bench.Memory = cc in
          not_memory (ap (λ fault. Err (driven_of_bench fault)) is)))));
    })

pub returns-in_err-stimuli_text : goal.returns-in_err-stimuli_text
returns-in_err-stimuli_text c =
    let p = err_from_is_err_and c.from_residual-in_err-stimuli_text.result c.from_residual-in_err-stimuli_text.ensures.1 in
    rw (p.1, p.2) (record {
      exact = λ not_memory.
          sym (stimuli_of_drives-bad c.args.bench.now (map seen_drive c.args.drives.now) c.args.draws c.args.horizon _ (sym c.in_ok-horizon.ensures) _
          (sym (c.in_ok-netlist.ensures.netlist (λ e. (cc)))) _
          (sym (c.in_err-stimuli_text.ensures.exact (λ same.
          let is : c.in_err-stimuli_text.field-0.0 ≡ drives.Memory = cc in
          not_memory (ap (λ fault. Err (driven_of_drives fault)) is)))));
    })

pub returns : goal.returns
returns c = record {
  exact = λ not_memory.
      sym (stimuli_of_drives-good c.args.bench.now (map seen_drive c.args.drives.now) c.args.draws c.args.horizon _ (sym c.in_ok-horizon.ensures) _
      (sym (c.in_ok-netlist.ensures.netlist (λ e. (cc)))) _ (sym (c.in_ok-stimuli_text.ensures.exact (λ e. (cc)))));
}
