use Rattle.std.proofs.Common.{◌∙◌, [], Some, slice_index_or, ap, sym, arith}
use Rattle.flat_lists.specs.Parts.{parts}
use Rattle.design.proofs.Stored.{length-stimuli, stimuli_at}
use Rattle.design.proofs.design.Design.stimuli.Goals as goal

pub list_of-requires-clause-bounds : goal.list_of-requires-clause-bounds
list_of-requires-clause-bounds c = rw (c.as_slice.ensures.value, c.as_slice-2.ensures.value) c.self.invariant.stimulus_bounds

pub list_of-requires-clause-number : goal.list_of-requires-clause-number
list_of-requires-clause-number c =
    rw (c.as_slice.ensures.value, c.as_slice-2.ensures.value)
    (omega (arith, c.requires, length-stimuli c.self.invariant.joined c.self.view_is))

pub returns : goal.returns
returns c =
    stimuli_at c.self.invariant.joined c.self.view_is c.args.net [] c.requires
    ∙ (λ i. Some (slice_index_or (parts (sym c.as_slice-2.ensures.value i) (sym c.as_slice.ensures.value i)) c.args.net []))
    ∙ ap Some (sym c.list_of.ensures)
