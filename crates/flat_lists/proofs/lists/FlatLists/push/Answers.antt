use Rattle.std.proofs.Common.{◌≡◌, ◌++◌, ◌∷◌, [], length, ap, sym, subst, ◌∙◌, arith}
use Rattle.flat_lists.specs.Parts.{parts, AreBounds}
use Rattle.flat_lists.proofs.Parts.{parts_more, bounds_more}
use Rattle.flat_lists.proofs.lists.FlatLists.push.Goals as goal
use Rattle.flat_lists.proofs.lists.FlatLists.push.Goals.{After-push_reserved}

new_bounds : (g : _) (c : After-push_reserved g) →
    c.push_reserved.new.self.items ≡ c.self.inside.bounds.items ++ length (c.self.inside.items.items ++ c.args.list.now) ∷ []
new_bounds g c =
    let end : c.saturating_add-end.result ≡ length (c.self.inside.items.items ++ c.args.list.now) =
    omega (
      arith,
      c.len.ensures,
      c.saturating_add-end.ensures,
      c.if-end.false,
      c.extend_from_slice.new.self.ok.0,
      c.self.inside.items.ok.0,
      c.in_ok-extend_from_slice.ensures.len,
      ap length c.in_ok-extend_from_slice.ensures.items,
    ) in
    c.push_reserved.ensures.items ∙ (λ i. c.reserve.ensures.items i ++ end i ∷ [])

pub invariant_of-self-2 : goal.invariant_of-self-2
invariant_of-self-2 g c =
    let bounds = new_bounds g (goal.at.invariant_of-self-2 g c).After-push_reserved in
    subst (AreBounds c.push_reserved.new.self.items) (sym c.in_ok-extend_from_slice.ensures.items)
    (subst (λ places. AreBounds places (c.self.inside.items.items ++ c.args.list.now)) (sym bounds)
    (bounds_more c.self.inside.items.items c.args.list.now c.self.inside.bounds.items c.self.invariant))

pub returns-clause-ok : goal.returns-clause-ok
returns-clause-ok g c =
    let bounds = new_bounds g (goal.at.returns-clause-ok g c).After-push_reserved in
    (λ i. parts (bounds i) (c.in_ok-extend_from_slice.ensures.items i))
    ∙ parts_more c.self.inside.items.items c.args.list.now c.self.inside.bounds.items c.self.invariant
    ∙ ap (λ lists. lists ++ c.args.list.now ∷ []) c.self.view_is
