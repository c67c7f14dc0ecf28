use Rattle.timing_diagram.proofs.Waves.{ascii_kept, wave_back}
use Rattle.timing_diagram.proofs.laws.waves_show_the_signal.Goals as goal

pub returns-clause-shown : goal.returns-clause-shown
returns-clause-shown c = wave_back

pub returns-clause-ascii : goal.returns-clause-ascii
returns-clause-ascii c = ascii_kept
