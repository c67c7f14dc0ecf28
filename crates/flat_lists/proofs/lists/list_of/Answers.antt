use Rattle.std.proofs.Common.{◌≡◌, ◌+◌, suc, slice_index_or, slice_range, add-one, ap, sym, ◌∙◌, arith}
use Rattle.flat_lists.proofs.Parts.{IsPart, part_at}
use Rattle.flat_lists.proofs.lists.list_of.Goals as goal
use Rattle.flat_lists.proofs.lists.list_of.Goals.{Start}

part : (g : _) (c : Start g) → IsPart c.args.bounds.now c.args.items.now c.args.number
part g c = part_at c.args.bounds.now c.args.items.now c.args.number c.requires.bounds c.requires.number

pub offset_bounds-bounds-number : goal.offset_bounds-bounds-number
offset_bounds-bounds-number g c = omega (arith, (part g (goal.at.offset_bounds-bounds-number g c).Start).exists)

pub bounds-bounds-number : goal.bounds-bounds-number
bounds-bounds-number g c = omega (arith, (part g (goal.at.bounds-bounds-number g c).Start).exists)

pub overflow_add-end : goal.overflow_add-end
overflow_add-end g c = omega (arith, (part g (goal.at.overflow_add-end g c).Start).exists)

pub offset_bounds-bounds-number-2 : goal.offset_bounds-bounds-number-2
offset_bounds-bounds-number-2 g c = omega (arith, (part g (goal.at.offset_bounds-bounds-number-2 g c).Start).exists)

pub bounds-bounds-number-2 : goal.bounds-bounds-number-2
bounds-bounds-number-2 g c = omega (arith, (part g (goal.at.bounds-bounds-number-2 g c).Start).exists)

next : (g : _) (c : Start g) → slice_index_or c.args.bounds.now (c.args.number + 1) 0 ≡ slice_index_or c.args.bounds.now (suc c.args.number) 0
next g c = ap (λ place. slice_index_or c.args.bounds.now place 0) (add-one c.args.number)

pub between-requires-clause-rising : goal.between-requires-clause-rising
between-requires-clause-rising g c =
    let at = (goal.at.between-requires-clause-rising g c).Start in
    omega (arith, next g at, (part g at).rising)

pub between-requires-clause-within : goal.between-requires-clause-within
between-requires-clause-within g c =
    let at = (goal.at.between-requires-clause-within g c).Start in
    omega (arith, next g at, (part g at).within)

pub returns : goal.returns
returns g c =
    let at = (goal.at.returns g c).Start in
    c.between.ensures
    ∙ ap (slice_range c.args.items.now (slice_index_or c.args.bounds.now c.args.number 0)) (next g at)
    ∙ sym (part g at).is
