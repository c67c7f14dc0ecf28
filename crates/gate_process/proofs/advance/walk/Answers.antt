use Rattle.std.proofs.Common.{◌≡◌, ◌≢◌, ℕ, ◌-◌, ◌<◌, ◌≤◌, ◌==◌, max, cond, [], ◌∷◌, ◌++◌, map, refl, ap, sym, ◌∙◌, false, arith, rules, ◌⊎◌, inl, inr}
use Rattle.std.proofs.lemmas.Bool.{cases_lt}
use Rattle.logic3.specs.declared.value.Value.TheVariants.{Unknown}
use Rattle.std.proofs.lemmas.Result.{IfOk-weaker}
use Rattle.logic3.specs.Wave.{changes_between}
use Rattle.cmb_channels.specs.declared.message.Message.TheVariants.{Change as Changes}
use Rattle.gate_process.specs.Knowledge.{news_of}
use Rattle.gate_process.specs.Reading.{shown}
use Rattle.gate_process.specs.Step.{continued, always, first_unknown}
use Rattle.gate_process.proofs.Reach.{first_unknown-is}
use Rattle.gate_process.proofs.Walks.{told_to, none_between, walk_begins, walked_same, walked_change, walked_news, continued-late, IfOk-both}
use Rattle.gate_process.proofs.advance.walk.Goals as goal
use Rattle.gate_process.proofs.advance.walk.Goals.{After-look-look, After-waits}

pub loop-tick-init : goal.loop-tick-init
loop-tick-init c =
    let signal = continued (always c.args.last) c.args.span.from (shown c.args.net.now c.args.read.now) in
    let none = none_between signal c.args.span.from in
    record {
      walked = record {
        after = omega arith;
        within = c.requires.ahead;
        latest_is = walk_begins c.args.last c.args.span.from (shown c.args.net.now c.args.read.now) c.requires.begins;
        messages_are = c.requires.empty ∙ ap (map Changes) (sym none);
        told_is = ap (told_to c.args.span.from) (sym none);
      };
      left = λ t late. refl;
      count = c.requires.read;
      settled = λ t late early. absurd (omega (arith, late, early));
    }

shows : (c : After-look-look) → c.look-look.result.value
    ≡ continued (always c.args.last) c.args.span.from (shown c.args.net.now c.args.read.now) c.loop-tick.tick
shows c =
    c.look-look.ensures.value
    ∙ c.loop-tick.invariant.left c.loop-tick.tick (omega arith)
    ∙ sym (continued-late (always c.args.last) c.args.span.from (shown c.args.net.now c.args.read.now) c.loop-tick.tick c.loop-tick.invariant.walked.after)

steady : (c : After-look-look) → (t : ℕ) → c.loop-tick.tick ≤ t → t < c.look-look.result.until →
    continued (always c.args.last) c.args.span.from (shown c.args.net.now c.args.read.now) t
    ≡ continued (always c.args.last) c.args.span.from (shown c.args.net.now c.args.read.now) c.loop-tick.tick
steady c t late early =
    let after = c.loop-tick.invariant.walked.after in
    continued-late (always c.args.last) c.args.span.from (shown c.args.net.now c.args.read.now) t (omega (arith, after, late))
    ∙ sym (c.loop-tick.invariant.left t late)
    ∙ c.look-look.ensures.steady t late early
    ∙ c.loop-tick.invariant.left c.loop-tick.tick (omega arith)
    ∙ sym (continued-late (always c.args.last) c.args.span.from (shown c.args.net.now c.args.read.now) c.loop-tick.tick after)

left : (c : After-look-look) → (t : ℕ) → c.look-look.result.until ≤ t →
    shown c.args.net.now c.look-look.new.read t ≡ shown c.args.net.now c.args.read.now t
left c t late =
    let later = c.look-look.ensures.later in
    let now : c.loop-tick.tick ≤ t = omega (arith, later, late) in c.look-look.ensures.left t now ∙ c.loop-tick.invariant.left t now

settled : (c : After-waits) → c.waits.result ≡ false → (t : ℕ) → max c.args.span.from c.args.span.sure ≤ t → t < c.look-look.result.until →
    shown c.args.net.now c.args.read.now t ≢ Unknown
settled c goes_on t late early = go (cases_lt t c.loop-tick.tick) (c.waits.ensures.no goes_on)
  where
    go : (t < c.loop-tick.tick) ⊎ (c.loop-tick.tick ≤ t) → (c.loop-tick.tick < c.args.span.sure) ⊎ (c.look-look.result.value ≢ Unknown) →
        shown c.args.net.now c.args.read.now t ≢ Unknown
    go (inl before) way = c.loop-tick.invariant.settled t late before
    go (inr now) (inl sure) =
        let limit = c.limit_at.ensures.sure sure in
        let within = c.look-look.ensures.within in
        absurd (omega (arith, late, early, limit, within))
    go (inr now) (inr known) = λ unknown.
        known (c.look-look.ensures.value ∙ sym (c.look-look.ensures.steady t now early) ∙ c.loop-tick.invariant.left t now ∙ unknown)

pub loop-tick-preserved-in_ok-push : goal.loop-tick-preserved-in_ok-push
loop-tick-preserved-in_ok-push c =
    let at = (goal.at.loop-tick-preserved-in_ok-push c).After-look-look in
    let more = (goal.at.loop-tick-preserved-in_ok-push c).After-waits in
    let differs : c.look-look.result.value ≢ c.loop-tick.latest = search rules in
    record {
      walked = walked_change (continued (always c.args.last) c.args.span.from (shown c.args.net.now c.args.read.now)) c.args.span.from c.args.most c.loop-tick.tick
          c.loop-tick.told c.loop-tick.latest c.loop-tick.messages.items c.look-look.result.until c.look-look.result.value _
          c.loop-tick.invariant.walked c.look-look.ensures.later (omega (arith, c.look-look.ensures.within, c.limit_at.ensures.within)) (steady at) (shows at)
          differs (c.in_ok-push.ensures.items ∙ ap (λ message. c.loop-tick.messages.items ++ message ∷ []) c.changed.ensures);
      left = left at;
      count = c.look-look.ensures.length ∙ c.loop-tick.invariant.count;
      settled = settled more c.if-waits.false;
    }

pub loop-tick-preserved : goal.loop-tick-preserved
loop-tick-preserved c =
    let at = (goal.at.loop-tick-preserved c).After-look-look in
    let more = (goal.at.loop-tick-preserved c).After-waits in
    let same : c.look-look.result.value ≡ c.loop-tick.latest = search rules in
    record {
      walked = walked_same (continued (always c.args.last) c.args.span.from (shown c.args.net.now c.args.read.now)) c.args.span.from c.args.most c.loop-tick.tick
          c.loop-tick.told c.loop-tick.latest c.loop-tick.messages.items c.look-look.result.until c.look-look.result.value
          c.loop-tick.invariant.walked c.look-look.ensures.later (omega (arith, c.look-look.ensures.within, c.limit_at.ensures.within)) (steady at) (shows at)
          same;
      left = left at;
      count = c.look-look.ensures.length ∙ c.loop-tick.invariant.count;
      settled = settled more c.if-waits.false;
    }

-- where the net waits the walk is over
pub returns-then-waits-clause-to : goal.returns-then-waits-clause-to
returns-then-waits-clause-to c =
    let waits = c.waits.ensures.yes c.if-waits.true in
    let after = c.loop-tick.invariant.walked.after in
    let unknown = sym (c.look-look.ensures.value ∙ c.loop-tick.invariant.left c.loop-tick.tick (omega arith)) ∙ waits.1 in
    let first = first_unknown-is (shown c.args.net.now c.args.read.now) (max c.args.span.from c.args.span.sure)
    (c.args.most - max c.args.span.from c.args.span.sure) c.loop-tick.tick (omega (arith, after, waits.0))
    (omega (arith, c.loop-tick-test.true)) c.loop-tick.invariant.settled (λ before. unknown) in
    IfOk-weaker c.tell_up_to.result (λ to. to ≡ c.loop-tick.tick) (λ to. to ≡ first_unknown (shown c.args.net.now c.args.read.now)
    (max c.args.span.from c.args.span.sure) (c.args.most - max c.args.span.from c.args.span.sure)) (λ to is. is ∙ sym first) c.tell_up_to.ensures.to

pub returns-then-waits-clause-news : goal.returns-then-waits-clause-news
returns-then-waits-clause-news c =
    IfOk-both c.tell_up_to.result _ _ _ (λ to is told.
    walked_news _ c.args.span.from c.args.most c.loop-tick.tick c.loop-tick.told c.loop-tick.latest c.loop-tick.messages.items _
    c.loop-tick.invariant.walked told
    ∙ ap (λ n. cond (n == c.args.span.from) []
    (news_of (changes_between (continued (always c.args.last) c.args.span.from (shown c.args.net.now c.args.read.now)) c.args.span.from n) n)) (sym is))
    c.tell_up_to.ensures.to c.tell_up_to.ensures.messages

-- else it comes to the limit
pub returns-clause-to : goal.returns-clause-to
returns-clause-to c =
    let done = c.loop-tick-test.false in
    let ahead = c.requires.ahead in
    let sure = c.requires.sure in
    let within = c.loop-tick.invariant.walked.within in
    let first = first_unknown-is (shown c.args.net.now c.args.read.now) (max c.args.span.from c.args.span.sure)
    (c.args.most - max c.args.span.from c.args.span.sure) c.loop-tick.tick (omega (arith, done, ahead, sure))
    (omega (arith, within, ahead, sure)) c.loop-tick.invariant.settled (λ before. absurd (omega (arith, before, done, ahead, sure))) in
    IfOk-weaker c.tell_up_to-2.result (λ to. to ≡ c.loop-tick.tick) (λ to. to ≡ first_unknown (shown c.args.net.now c.args.read.now)
    (max c.args.span.from c.args.span.sure) (c.args.most - max c.args.span.from c.args.span.sure)) (λ to is. is ∙ sym first) c.tell_up_to-2.ensures.to

pub returns-clause-news : goal.returns-clause-news
returns-clause-news c =
    IfOk-both c.tell_up_to-2.result _ _ _ (λ to is told.
    walked_news _ c.args.span.from c.args.most c.loop-tick.tick c.loop-tick.told c.loop-tick.latest c.loop-tick.messages.items _
    c.loop-tick.invariant.walked told
    ∙ ap (λ n. cond (n == c.args.span.from) []
    (news_of (changes_between (continued (always c.args.last) c.args.span.from (shown c.args.net.now c.args.read.now)) c.args.span.from n) n)) (sym is))
    c.tell_up_to-2.ensures.to c.tell_up_to-2.ensures.messages
