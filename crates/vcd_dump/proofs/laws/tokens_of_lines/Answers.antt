use Rattle.std.proofs.Common.{refl}
use Rattle.vcd_dump.proofs.Tokens.{dump_tokens-append, dump_tokens-lines}
use Rattle.vcd_dump.proofs.laws.tokens_of_lines.Goals as goal

pub returns-clause-two_parts : goal.returns-clause-two_parts
returns-clause-two_parts c first second = dump_tokens-append first second 10 refl

pub returns-clause-all_lines : goal.returns-clause-all_lines
returns-clause-all_lines c = dump_tokens-lines
