use Rattle.std.proofs.Common.{◌≡◌, ℕ, ◌+◌, ◌<◌, List, [], ◌∷◌, length, take, get_or, refl, ap, sym, ◌∙◌, arith}
use Rattle.std.proofs.lemmas.List.{take_more}
use Rattle.cmb_channels.specs.declared.message.Message.{Message}
use Rattle.cmb_channels.specs.Lists.{sent}
use Rattle.cmb_channels.proofs.Places.{sent-append, sent-none}
use Rattle.cmb_channels.proofs.fabric.Fabric.send_all.Goals as goal

-- one more message is sent after those before it
sent_more : (net index : ℕ) (sources old : List ℕ) (messages : List Message) (start before after : List (List Message)) (d : Message) →
    index < length messages → sources ≡ old → before ≡ sent net (take index messages) old start →
    after ≡ sent net (get_or messages index d ∷ []) sources before → after ≡ sent net (take (index + 1) messages) old start
sent_more net index sources old messages start before after d within same so_far now =
    now ∙ ap (λ s. sent net (get_or messages index d ∷ []) s before) same
    ∙ ap (sent net (get_or messages index d ∷ []) old) so_far
    ∙ sent-append net (take index messages) (get_or messages index d ∷ []) old start
    ∙ ap (λ ms. sent net ms old start) (sym (take_more messages index d within))

pub loop-message-init : goal.loop-message-init
loop-message-init g c = record {
  lists = sym (sent-none c.args.net (g.Self.Fabric.sources c.args.self.now) (g.Self.Fabric.lists c.args.self.now));
  pins = refl;
  sources = refl;
  nets = refl;
}

pub loop-message-preserved : goal.loop-message-preserved
loop-message-preserved g c = record {
  lists = sent_more c.args.net c.loop-message.message-index _ _ c.args.messages.now _ _ _ _ (omega arith) c.loop-message.invariant.sources c.loop-message.invariant.lists
      (c.in_ok-send.ensures.ok ∙ ap (λ m. sent c.args.net (m ∷ []) (g.Self.Fabric.sources c.loop-message.self) (g.Self.Fabric.lists c.loop-message.self)) (c.message.ensures ∙ c.message-item.is));
  pins = c.in_ok-send.ensures.pins ∙ c.loop-message.invariant.pins;
  sources = c.in_ok-send.ensures.sources ∙ c.loop-message.invariant.sources;
  nets = c.in_ok-send.ensures.nets ∙ c.loop-message.invariant.nets;
}
