use Rattle.std.proofs.Common.{codes}
use Rattle.texts.specs.Written.{numbered}
use Rattle.causes.proofs.Pieces.{joined₂}
use Rattle.causes.proofs.text.push_swings.Goals as goal

pub returns : goal.returns
returns c =
    joined₂ _ _ _ (numbered (codes ", swings since ") c.args.start) (numbered (codes " with period ") c.args.period)
    c.in_ok-push_numbered.ensures c.in_ok-push_numbered-2.ensures
