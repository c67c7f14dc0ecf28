use Rattle.vcd_dump.proofs.CodeLemmas.{code_at-same}
use Rattle.vcd_dump.proofs.laws.distinct_codes.Goals as goal

pub returns : goal.returns
returns c first second apart same = apart (code_at-same first second same)
