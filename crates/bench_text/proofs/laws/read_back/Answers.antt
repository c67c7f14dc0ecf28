use Rattle.bench_text.proofs.ReadBack.{netlist_of-canonical}
use Rattle.bench_text.proofs.laws.read_back.Goals as goal

pub returns : goal.returns
returns c = netlist_of-canonical
