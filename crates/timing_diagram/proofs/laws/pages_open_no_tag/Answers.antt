use Rattle.timing_diagram.proofs.Escapes.{page_keeps, page_opens_nothing}
use Rattle.timing_diagram.proofs.laws.pages_open_no_tag.Goals as goal

pub returns-clause-opens : goal.returns-clause-opens
returns-clause-opens c = page_opens_nothing

pub returns-clause-others : goal.returns-clause-others
returns-clause-others c = page_keeps
