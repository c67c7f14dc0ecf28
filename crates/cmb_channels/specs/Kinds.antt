-- The kinds of messages.
use Rattle.std.specs.Prelude.{Bool, true, false}
use Rattle.cmb_channels.specs.declared.message.Message.{Message}
use Rattle.cmb_channels.specs.declared.message.Message.TheVariants.{Change as Changes, Null}

abbrev pub is_change : Message → Bool
is_change (Changes change) = true
is_change (Null bound) = false

abbrev pub is_null : Message → Bool
is_null (Changes change) = false
is_null (Null bound) = true
