-- Messages as a log stores them.
use Rattle.std.specs.Prelude.{List}
use Rattle.cmb_channels.specs.declared.message.Message.{Message}
use Rattle.cmb_channels.specs.declared.logs.messages.Stored.{Stored}
use Rattle.cmb_channels.specs.declared.logs.messages.Stored.TheVariants.{Packed, Wide}

abbrev pub stored_messages : Stored → List Message
stored_messages (Packed packed) = packed.items
stored_messages (Wide wide) = wide.items
