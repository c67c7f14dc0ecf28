use Rattle.std.proofs.Common.{◌≡◌, ◌∷◌, [], ◌-◌, max, ap, ◌∙◌}
use Rattle.logic3.specs.Wave.{Wave}
use Rattle.gate_process.specs.Knowledge.{seen_pins}
use Rattle.gate_process.specs.Reading.{read_by}
use Rattle.gate_process.specs.Step.{always}
use Rattle.gate_process.proofs.ReadBy.{stimuli_read, one_read, two_read, three_read, count_read, goes_to, news_tell_of_it}
use Rattle.gate_process.proofs.advance.reckon.Goals as goal
use Rattle.gate_process.proofs.advance.reckon.Goals.{After-stimuli, After-cursor, After-cursor-in-len2-2, After-cursor-in-len3-3}

-- ---- what is read, by how many pins there are

none : (c : After-stimuli) → (c.stimuli.result ∷ []) ≡ read_by c.args.net.now (seen_pins c.args.net.now.wires c.args.received.now)
none c =
    ap (λ (w : Wave). w ∷ []) c.stimuli.ensures
    ∙ stimuli_read c.args.net.now c.args.received.now c.wires-wires.ensures.well_formed c.requires.pins c.in-empty.len_below

one : (c : After-cursor) → (c.cursor.result ∷ []) ≡ read_by c.args.net.now (seen_pins c.args.net.now.wires c.args.received.now)
one c =
    ap (λ (w : Wave). w ∷ []) c.cursor.ensures
    ∙ one_read c.args.net.now c.args.received.now c.wires-wires.ensures.well_formed c.requires.pins c.wires-wires.result.now c.wires-wires.ensures.wires
    c.pin-item.result c.in-len1.len_at_least c.in-len1.len_below c.pin-item.is

two : (c : After-cursor-in-len2-2) → (c.cursor-in-len2.result ∷ c.cursor-in-len2-2.result ∷ [])
    ≡ read_by c.args.net.now (seen_pins c.args.net.now.wires c.args.received.now)
two c =
    (λ i. c.cursor-in-len2.ensures i ∷ c.cursor-in-len2-2.ensures i ∷ [])
    ∙ two_read c.args.net.now c.args.received.now c.wires-wires.ensures.well_formed c.requires.pins c.wires-wires.result.now c.wires-wires.ensures.wires
    c.first-item.result c.second-item.result c.in-len2.len_at_least c.in-len2.len_below c.first-item.is c.second-item.is

three : (c : After-cursor-in-len3-3) → (c.cursor-in-len3.result ∷ c.cursor-in-len3-2.result ∷ c.cursor-in-len3-3.result ∷ [])
    ≡ read_by c.args.net.now (seen_pins c.args.net.now.wires c.args.received.now)
three c =
    (λ i. c.cursor-in-len3.ensures i ∷ c.cursor-in-len3-2.ensures i ∷ c.cursor-in-len3-3.ensures i ∷ [])
    ∙ three_read c.args.net.now c.args.received.now c.wires-wires.ensures.well_formed c.requires.pins c.wires-wires.result.now c.wires-wires.ensures.wires
    c.first-item-then-received-lt4.result c.second-item-then-received-lt4.result c.third-item.result c.in-len3.len_at_least c.in-len3.len_below c.first-item-then-received-lt4.is c.second-item-then-received-lt4.is c.third-item.is

pub walk-requires-clause-read : goal.walk-requires-clause-read
walk-requires-clause-read c =
    count_read c.args.net.now c.args.received.now c.wires-wires.ensures.well_formed c.requires.pins _ (none (goal.at.walk-requires-clause-read c).After-stimuli)

pub walk-requires-in-len1-clause-read : goal.walk-requires-in-len1-clause-read
walk-requires-in-len1-clause-read c =
    count_read c.args.net.now c.args.received.now c.wires-wires.ensures.well_formed c.requires.pins _ (one (goal.at.walk-requires-in-len1-clause-read c).After-cursor)

pub walk-requires-in-len2-clause-read : goal.walk-requires-in-len2-clause-read
walk-requires-in-len2-clause-read c =
    count_read c.args.net.now c.args.received.now c.wires-wires.ensures.well_formed c.requires.pins _ (two (goal.at.walk-requires-in-len2-clause-read c).After-cursor-in-len2-2)

pub walk-requires-in-len3-clause-read : goal.walk-requires-in-len3-clause-read
walk-requires-in-len3-clause-read c =
    count_read c.args.net.now c.args.received.now c.wires-wires.ensures.well_formed c.requires.pins _ (three (goal.at.walk-requires-in-len3-clause-read c).After-cursor-in-len3-3)

-- ---- what comes of it

pub returns-in-empty-clause-news : goal.returns-in-empty-clause-news
returns-in-empty-clause-news c =
    news_tell_of_it c.args.net.now (seen_pins c.args.net.now.wires c.args.received.now) _ (none (goal.at.returns-in-empty-clause-news c).After-stimuli) c.walk.result c.args.span.from
    (always c.args.last) _ c.walk.ensures.news

pub returns-in-len1-clause-to : goal.returns-in-len1-clause-to
returns-in-len1-clause-to c =
    goes_to c.args.net.now (seen_pins c.args.net.now.wires c.args.received.now) _ (one (goal.at.returns-in-len1-clause-to c).After-cursor) c.walk-in-len1.result c.args.span.from
    (max c.args.span.from c.args.span.sure) (c.args.most - max c.args.span.from c.args.span.sure)
    c.walk-in-len1.ensures.to

pub returns-in-len1-clause-news : goal.returns-in-len1-clause-news
returns-in-len1-clause-news c =
    news_tell_of_it c.args.net.now (seen_pins c.args.net.now.wires c.args.received.now) _ (one (goal.at.returns-in-len1-clause-news c).After-cursor) c.walk-in-len1.result c.args.span.from
    (always c.args.last) _ c.walk-in-len1.ensures.news

pub returns-in-len2-clause-to : goal.returns-in-len2-clause-to
returns-in-len2-clause-to c =
    goes_to c.args.net.now (seen_pins c.args.net.now.wires c.args.received.now) _ (two (goal.at.returns-in-len2-clause-to c).After-cursor-in-len2-2) c.walk-in-len2.result c.args.span.from
    (max c.args.span.from c.args.span.sure) (c.args.most - max c.args.span.from c.args.span.sure)
    c.walk-in-len2.ensures.to

pub returns-in-len2-clause-news : goal.returns-in-len2-clause-news
returns-in-len2-clause-news c =
    news_tell_of_it c.args.net.now (seen_pins c.args.net.now.wires c.args.received.now) _ (two (goal.at.returns-in-len2-clause-news c).After-cursor-in-len2-2) c.walk-in-len2.result c.args.span.from
    (always c.args.last) _ c.walk-in-len2.ensures.news

pub returns-in-len3-clause-to : goal.returns-in-len3-clause-to
returns-in-len3-clause-to c =
    goes_to c.args.net.now (seen_pins c.args.net.now.wires c.args.received.now) _ (three (goal.at.returns-in-len3-clause-to c).After-cursor-in-len3-3) c.walk-in-len3.result c.args.span.from
    (max c.args.span.from c.args.span.sure) (c.args.most - max c.args.span.from c.args.span.sure)
    c.walk-in-len3.ensures.to

pub returns-in-len3-clause-news : goal.returns-in-len3-clause-news
returns-in-len3-clause-news c =
    news_tell_of_it c.args.net.now (seen_pins c.args.net.now.wires c.args.received.now) _ (three (goal.at.returns-in-len3-clause-news c).After-cursor-in-len3-3) c.walk-in-len3.result c.args.span.from
    (always c.args.last) _ c.walk-in-len3.ensures.news
