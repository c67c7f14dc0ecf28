use Rattle.std.proofs.Common.{refl, sym}
use Rattle.std.proofs.lemmas.Result.{err_from_is_err_and}
use Rattle.prepared_runs.specs.Source.{seen_source}
use Rattle.prepared_runs.proofs.Answer.{short-unless_refused, memory_of_bench, IsRefusal-bench, IsRefusal-build, design_of_source-bad_settings, design_of_source-bad_horizon, design_of_source-bad_bench, design_of_source-bad_texts, design_of_source-good}
use Rattle.prepared_runs.proofs.preparation.prepare.Goals as goal

pub returns-in_err-options-clause-err : goal.returns-in_err-options-clause-err
returns-in_err-options-clause-err c =
    let p = err_from_is_err_and c.from_residual.result c.from_residual.ensures.1 in
    rw (p.1, p.2) (design_of_source-bad_settings (seen_source c.args.source.now) c.args.horizon _ (sym c.in_err-options.ensures))

pub returns-in_err-horizon-clause-err : goal.returns-in_err-horizon-clause-err
returns-in_err-horizon-clause-err c =
    let p = err_from_is_err_and c.from_residual-in_err-horizon.result c.from_residual-in_err-horizon.ensures.1 in
    rw (p.1, p.2) (design_of_source-bad_horizon (seen_source c.args.source.now) c.args.horizon _ (sym c.in_ok-options.ensures) _ (sym c.in_err-horizon.ensures))

pub returns-in_err-netlist-clause-err : goal.returns-in_err-netlist-clause-err
returns-in_err-netlist-clause-err c =
    let p = err_from_is_err_and c.from_residual-in_err-netlist.result c.from_residual-in_err-netlist.ensures.1 in
    rw (p.1, p.2) (IsRefusal-bench _ _ (λ known. design_of_source-bad_bench (seen_source c.args.source.now) c.args.horizon _ (sym c.in_ok-options.ensures)
    _ (sym c.in_ok-horizon.ensures) _ (sym (c.in_err-netlist.ensures.netlist known))))

pub returns-in_err-design-clause-err : goal.returns-in_err-design-clause-err
returns-in_err-design-clause-err c =
    let p = err_from_is_err_and c.from_residual-in_err-design.result c.from_residual-in_err-design.ensures.1 in
    rw (p.1, p.2) (IsRefusal-build _ _ (λ known. design_of_source-bad_texts (seen_source c.args.source.now) c.args.horizon _ (sym c.in_ok-options.ensures)
    _ (sym c.in_ok-horizon.ensures) _ (sym (c.in_ok-netlist.ensures.netlist (λ e. (cc)))) _ (sym (c.in_err-design.ensures.design known))))

pub returns-clause-ok : goal.returns-clause-ok
returns-clause-ok c =
    design_of_source-good (seen_source c.args.source.now) c.args.horizon _ (sym c.in_ok-options.ensures)
    _ (sym c.in_ok-horizon.ensures) _ (sym (c.in_ok-netlist.ensures.netlist (λ e. (cc)))) _ (sym (c.in_ok-design.ensures.design (λ e. (cc))))

-- memory may be wanting once the settings are in their ranges and the netlist's text isn't too long
pub returns-in_err-options-clause-memory : goal.returns-in_err-options-clause-memory
returns-in_err-options-clause-memory c =
    let p = err_from_is_err_and c.from_residual.result c.from_residual.ensures.1 in
    rw (p.1, p.2) (λ same. absurd (cc))

pub returns-in_err-horizon-clause-memory : goal.returns-in_err-horizon-clause-memory
returns-in_err-horizon-clause-memory c =
    let p = err_from_is_err_and c.from_residual-in_err-horizon.result c.from_residual-in_err-horizon.ensures.1 in
    rw (p.1, p.2) (λ same. absurd (cc))

pub returns-in_err-netlist-clause-memory : goal.returns-in_err-netlist-clause-memory
returns-in_err-netlist-clause-memory c =
    let p = err_from_is_err_and c.from_residual-in_err-netlist.result c.from_residual-in_err-netlist.ensures.1 in
    rw (p.1, p.2) (λ same. record {
      settings = rw (← c.in_ok-options.ensures) refl;
      horizon = rw (← c.in_ok-horizon.ensures) refl;
      netlist = short-unless_refused _ _ c.args.source.now.bench.now c.in_err-netlist.ensures.at_once
          (λ long. memory_of_bench c.in_err-netlist.field-0.0 (cc) (cc));
    })

pub returns-in_err-design-clause-memory : goal.returns-in_err-design-clause-memory
returns-in_err-design-clause-memory c = λ same. record {
  settings = rw (← c.in_ok-options.ensures) refl;
  horizon = rw (← c.in_ok-horizon.ensures) refl;
  netlist = short-unless_refused _ _ c.args.source.now.bench.now c.in_ok-netlist.ensures.at_once (λ long. cc);
}

pub returns-clause-begun : goal.returns-clause-begun
returns-clause-begun c = record {
  settings = rw (← c.in_ok-options.ensures) refl;
  horizon = rw (← c.in_ok-horizon.ensures) refl;
  netlist = short-unless_refused _ _ c.args.source.now.bench.now c.in_ok-netlist.ensures.at_once (λ long. cc);
}
