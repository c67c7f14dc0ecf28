use Rattle.std.proofs.Common.{sym, ap, ◌∙◌, Ok, Err, length, arith}
use Rattle.std.proofs.lemmas.Result.{err_from_is_err_and}
use Rattle.netlist.proofs.CallerLemmas.{pins_exist, pins_few}
use Rattle.timing_text.specs.Timings.{seen_timings}
use Rattle.design.specs.Pins.{all_fed}
use Rattle.design.proofs.Built.{IsGiven, is_given, design_of-given, IsJoined-given, design_of-timing_fault, design_of-stimulus_fault}
use Rattle.design.proofs.design.Design.build.Goals as goal
use Rattle.design.proofs.design.Design.build.Goals.{In_ok-stimuli}

given : (c : In_ok-stimuli) → IsGiven c.args.netlist c.args.delays.now c.args.stimuli.now c.args.default_delay c.args.period
    (seen_timings c.in_ok-timed.timed) c.in_ok-stimuli.stimuli
given c = is_given c.args.netlist c.args.delays.now c.args.stimuli.now c.args.default_delay c.args.period _ _ c.in_ok-options.field-0
    c.in_ok-options.ensures (c.in_ok-timed.ensures.timings (λ e. (cc))) (c.in_ok-stimuli.ensures.stimuli (λ e. (cc)))

pub returns-in_err-timed-clause-design : goal.returns-in_err-timed-clause-design
returns-in_err-timed-clause-design c =
    let lifted = err_from_is_err_and c.from_residual-in_err-timed.result c.from_residual-in_err-timed.ensures.1 in
    rw (lifted.1, lifted.2)
    (λ differs. design_of-timing_fault c.args.netlist c.args.delays.now c.args.stimuli.now c.args.default_delay c.args.period c.in_ok-options.field-0
    c.in_ok-options.ensures _ (λ other. c.in_err-timed.ensures.timings (λ e. other (cc))) (λ e. differs (ap Err e)))

pub returns-in_err-stimuli-clause-design : goal.returns-in_err-stimuli-clause-design
returns-in_err-stimuli-clause-design c =
    let lifted = err_from_is_err_and c.from_residual-in_err-stimuli.result c.from_residual-in_err-stimuli.ensures.1 in
    rw (lifted.1, lifted.2)
    (λ differs. design_of-stimulus_fault c.args.netlist c.args.delays.now c.args.stimuli.now c.args.default_delay c.args.period c.in_ok-options.field-0
    c.in_ok-options.ensures _ _ (c.in_ok-timed.ensures.timings (λ e. (cc))) (λ other. c.in_err-stimuli.ensures.stimuli (λ e. other (cc))) (λ e. differs (ap Err e)))

pub joined-requires : goal.joined-requires
joined-requires c =
    IsJoined-given (given (goal.at.joined-requires c).In_ok-stimuli) c.in_ok-first_pins.first_pins.items c.in_ok-sources.sources.items
    c.in_ok-fed.fed c.in_ok-first_pins.ensures.well_formed c.in_ok-first_pins.ensures.starts c.in_ok-sources.ensures
    (c.in_ok-fed.ensures ∙ ap (all_fed c.nets.result) c.as_slice.ensures.value ∙ ap (λ nets. all_fed nets c.in_ok-sources.sources.items) c.nets.ensures.nets)

pub fed_pins-requires-clause-exist : goal.fed_pins-requires-clause-exist
fed_pins-requires-clause-exist c =
    let sources = c.as_slice.ensures.value ∙ c.in_ok-sources.ensures in
    rw (sources, c.nets.ensures.nets) (pins_exist c.args.netlist c.nets.ensures.well_formed)

pub fed_pins-requires-clause-few : goal.fed_pins-requires-clause-few
fed_pins-requires-clause-few c =
    omega (arith, ap length (c.as_slice.ensures.value ∙ c.in_ok-sources.ensures), pins_few c.args.netlist c.nets.ensures.well_formed)

pub returns-clause-design : goal.returns-clause-design
returns-clause-design c = λ _. ap Ok c.joined.ensures ∙ sym (design_of-given (given (goal.at.returns-clause-design c).In_ok-stimuli))
