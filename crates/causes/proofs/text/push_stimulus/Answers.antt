use Rattle.std.proofs.Common.{codes, ap, ◌∙◌, ◌++◌}
use Rattle.logic3.specs.Value.{value_text}
use Rattle.texts.specs.Written.{numbered}
use Rattle.causes.proofs.Pieces.{joined₅}
use Rattle.causes.proofs.text.push_stimulus.Goals as goal

pub returns : goal.returns
returns c =
    joined₅ _ _ _ _ _ _ (numbered (codes ", stimulus ") c.args.tick) (codes " ") c.args.name.now (codes " ") (value_text c.args.value)
    c.in_ok-push_numbered.ensures c.in_ok-push.ensures.items c.in_ok-extend_from_slice.ensures.items
    c.in_ok-push-2.ensures.items (c.in_ok-extend_from_slice-2.ensures.items ∙ ap (λ piece. c.push-2.new.self.items ++ piece) (c.as_bytes.ensures.value ∙ c.text.ensures))
