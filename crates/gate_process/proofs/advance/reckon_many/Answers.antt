use Rattle.std.proofs.Common.{◌≡◌, ◌-◌, max, ◌∙◌}
use Rattle.gate_process.specs.Knowledge.{seen_pins}
use Rattle.gate_process.specs.Reading.{read_by}
use Rattle.gate_process.specs.Step.{always}
use Rattle.gate_process.proofs.ReadBy.{all_read, count_read, goes_to, news_tell_of_it}
use Rattle.gate_process.proofs.advance.reckon_many.Goals as goal
use Rattle.gate_process.proofs.advance.reckon_many.Goals.{After-as_mut_slice}

more : (c : After-as_mut_slice) → c.as_mut_slice.result.now ≡ read_by c.args.net.now (seen_pins c.args.net.now.wires c.args.received.now)
more c =
    c.as_mut_slice.ensures.value ∙ c.in_ok-cursors.ensures
    ∙ all_read c.args.net.now c.args.received.now c.wires.ensures.well_formed c.requires.pins c.wires.result.now c.wires.ensures.wires
    c.requires.some

pub walk-requires-clause-read : goal.walk-requires-clause-read
walk-requires-clause-read c =
    count_read c.args.net.now c.args.received.now c.wires.ensures.well_formed c.requires.pins _ (more (goal.at.walk-requires-clause-read c).After-as_mut_slice)

pub returns-clause-to : goal.returns-clause-to
returns-clause-to c =
    goes_to c.args.net.now (seen_pins c.args.net.now.wires c.args.received.now) _ (more (goal.at.returns-clause-to c).After-as_mut_slice) c.walk.result c.args.span.from
    (max c.args.span.from c.args.span.sure) (c.args.most - max c.args.span.from c.args.span.sure)
    c.walk.ensures.to

pub returns-clause-news : goal.returns-clause-news
returns-clause-news c =
    news_tell_of_it c.args.net.now (seen_pins c.args.net.now.wires c.args.received.now) _ (more (goal.at.returns-clause-news c).After-as_mut_slice) c.walk.result c.args.span.from
    (always c.args.last) _ c.walk.ensures.news
