use Rattle.std.proofs.Common.{◌∙◌, Vec, ap, option_map, sym, ℕ}
use Rattle.std.specs.declared.alloc.Global.{Global}
use Rattle.net_words.proofs.Words.{some-meant}
use Rattle.net_words.proofs.listed.nets_listed.Goals as goal

pub returns-in-Some-clause-some : goal.returns-in-Some-clause-some
returns-in-Some-clause-some c =
    some-meant c.args.netlist.now c.args.word.now c.in-Some.nets.items
    (sym c.in_ok-nets.ensures.nets ∙ ap (option_map (λ (nets : Vec ℕ Global). nets.items)) c.in-Some.is)
