use Rattle.std.proofs.Common.{◌≡◌, length, ap, sym, subst, ◌∙◌}
use Rattle.std.proofs.lemmas.Bool.{eqb-true}
use Rattle.gate_process.specs.Knowledge.{Knowledge, IsKnowledge, kept_since}
use Rattle.gate_process.proofs.Forgets.{forgets_none}
use Rattle.gate_process.proofs.received.Received.keep.Goals as goal

-- where no change is kept, nothing is forgotten
pub returns-then-is_empty : goal.returns-then-is_empty
returns-then-is_empty c =
    let none : length c.args.self.now.wave.changes ≡ 0 =
    ap (λ (k : Knowledge). length k.wave.changes) (sym c.self.view_is)
    ∙ eqb-true (length c.self.inside.changes) 0 (sym c.is_empty.ensures ∙ c.if-is_empty.true) in
    forgets_none c.args.self.now (kept_since c.args.oldest c.args.self.now.frontier) (subst IsKnowledge c.self.view_is c.self.invariant.known) none c.requires
