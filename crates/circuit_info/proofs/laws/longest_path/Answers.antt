use Rattle.circuit_info.proofs.PathLengths.{path_most, path_one}
use Rattle.circuit_info.proofs.PathNets.{longest_is_path}
use Rattle.circuit_info.proofs.laws.longest_path.Goals as goal

pub returns-clause-most : goal.returns-clause-most
returns-clause-most c = λ design net ticks path formed flat is. path_most design formed flat.levels flat.levelling flat.few net ticks path is

pub returns-clause-one : goal.returns-clause-one
returns-clause-one c = λ design net formed flat. path_one design formed flat.levels flat.levelling flat.few net

pub returns-clause-nets : goal.returns-clause-nets
returns-clause-nets c = λ design net path formed flat is. longest_is_path design formed flat.levels flat.levelling flat.few net path is
