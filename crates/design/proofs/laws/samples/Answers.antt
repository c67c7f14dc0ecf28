use Rattle.std.proofs.Common.{arith}
use Rattle.design.proofs.SampleTicks.{first_sample-is, first_sample-least, last_sample-is, last_sample-le, last_sample-greatest, next_sample-is, next_sample-le, next_sample-least}
use Rattle.design.proofs.laws.samples.Goals as goal

pub returns-clause-first : goal.returns-clause-first
returns-clause-first c = λ period phase below. first_sample-is period phase (omega (arith, below)) below

pub returns-clause-least : goal.returns-clause-least
returns-clause-least c = λ period phase sample below. first_sample-least period phase (omega (arith, below)) below sample

pub returns-clause-last : goal.returns-clause-last
returns-clause-last c = λ period phase tick below begun.
    (last_sample-is period phase (omega (arith, below)) below tick begun, last_sample-le period phase (omega (arith, below)) below tick begun)

pub returns-clause-greatest : goal.returns-clause-greatest
returns-clause-greatest c = λ period phase tick sample below. last_sample-greatest period phase (omega (arith, below)) below tick sample

pub returns-clause-next : goal.returns-clause-next
returns-clause-next c = λ period phase tick below.
    (next_sample-is period phase (omega (arith, below)) below tick, next_sample-le period phase (omega (arith, below)) below tick)

pub returns-clause-soonest : goal.returns-clause-soonest
returns-clause-soonest c = λ period phase tick sample below. next_sample-least period phase (omega (arith, below)) below tick sample
