use Rattle.std.proofs.Common.{rules, tests, not, ◌==◌}
use Rattle.std.proofs.lemmas.Fn.{filter_same}
use Rattle.mistakes.proofs.corrections.telling_correction.keep_no_hashes.Goals as goal

pub returns : goal.returns
returns c = filter_same _ (λ byte. not (byte == 35)) _ (λ x b q r. search (rules, tests)) _ _ c.retain.ensures.filtered
