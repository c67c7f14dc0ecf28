use Rattle.net_words.specs.Meant.{seen_range}
use Rattle.net_words.proofs.RealNets.{IsNet-found_range}
use Rattle.net_words.proofs.meant.nets_meant.Goals as goal

pub returns-in-Some-range_of-clause-exist : goal.returns-in-Some-range_of-clause-exist
returns-in-Some-range_of-clause-exist c =
    IsNet-found_range c.args.netlist.now (seen_range c.in-Some-range_of.range) c.nets_of_range.result c.nets_of_range.ensures
