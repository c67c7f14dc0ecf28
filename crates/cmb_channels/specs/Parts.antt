-- Parts of a log.
use Rattle.std.specs.Prelude.{List}
use Rattle.cmb_channels.specs.declared.message.Message.{Message}
use Rattle.cmb_channels.specs.declared.logs.waiting.Part.{Part}
use Rattle.cmb_channels.specs.declared.logs.waiting.Part.TheVariants.{Packed, Wide}

abbrev pub messages_in : Part → List Message
messages_in (Packed packed) = packed.now
messages_in (Wide wide) = wide.now
