use Rattle.std.proofs.Common.{arith}
use Rattle.std.proofs.lemmas.Option.{slice_get_within}
use Rattle.design.specs.Pins.{sources_of}
use Rattle.design.proofs.CallerLemmas.{length-sources}
use Rattle.cmb_kernel.proofs.UsefulEvents.{advance_useful}
use Rattle.cmb_kernel.proofs.Single.{advance_is_useful, advance_beside, advance_others, advance_sends, advance_leaves_lists, nothing_to_tell}
use Rattle.cmb_kernel.proofs.laws.advances.Goals as goal

pub returns-clause-useful : goal.returns-clause-useful
returns-clause-useful c circuit ok last state sound net process at =
    (advance_is_useful circuit ok last state sound net process at, advance_useful state net process at)

pub returns-clause-sent : goal.returns-clause-sent
returns-clause-sent c circuit ok last state sound net pin feeds =
    advance_sends circuit ok last state sound net pin feeds
    (let within = slice_get_within (sources_of circuit) pin net feeds in let count = length-sources circuit in omega (arith, within, count))

pub returns-clause-lists : goal.returns-clause-lists
returns-clause-lists c circuit ok last state sound net pin apart = advance_leaves_lists circuit ok last state sound net pin apart

pub returns-clause-processes : goal.returns-clause-processes
returns-clause-processes c state net other apart = advance_others state net other apart

pub returns-clause-others : goal.returns-clause-others
returns-clause-others c circuit ok last state sound net other below apart = advance_beside circuit ok last state sound net other below apart

pub returns-clause-quiet : goal.returns-clause-quiet
returns-clause-quiet c circuit ok last state sound net below events exist unheard =
    nothing_to_tell circuit ok last state net events sound below exist unheard
