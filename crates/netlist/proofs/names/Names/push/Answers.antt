use Rattle.std.proofs.Common.{◌∙◌, sym, ap, subst, map, ◌++◌, ◌∷◌, []}
use Rattle.netlist.specs.Names.{IsNames}
use Rattle.netlist.proofs.NewName.{names-insert_key, IsNames-push}
use Rattle.netlist.proofs.names.Names.push.Goals as goal

pub returns-clause-ok : goal.returns-clause-ok
returns-clause-ok c =
    ap (map (λ v. v.items)) c.in_ok-insert.ensures.keys
    ∙ names-insert_key (λ v. v.items) c.self.inside.set.keys c.in_ok-key.key
    (rw (c.in_ok-key.ensures.ok, c.self.view_is) c.requires.new)
    ∙ (λ i. c.self.view_is i ++ c.in_ok-key.ensures.ok i ∷ [])

pub invariant_of-self-2 : goal.invariant_of-self-2
invariant_of-self-2 c =
    subst IsNames (sym (returns-clause-ok c))
    (IsNames-push c.args.self.now c.args.name.now (rw c.self.view_is at c.self.invariant) c.requires.new c.requires.room)
