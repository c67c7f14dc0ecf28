use Rattle.std.proofs.Common.{◌≡◌, length, take}
use Rattle.cmb_channels.specs.Lists.{sent}
use Rattle.cmb_channels.proofs.fabric.Fabric.send_all.Given as goal

abbrev pub invariant-loop-message : goal.invariant-loop-message
invariant-loop-message g l = record {
  lists : g.Self.Fabric.lists l.self ≡ sent l.net (take l.message-index l.messages) (g.Self.Fabric.sources l.fn.self) (g.Self.Fabric.lists l.fn.self);
  pins : length (g.Self.Fabric.lists l.self) ≡ length (g.Self.Fabric.lists l.fn.self);
  sources : g.Self.Fabric.sources l.self ≡ g.Self.Fabric.sources l.fn.self;
  nets : g.Self.Fabric.nets l.self ≡ g.Self.Fabric.nets l.fn.self;
}
