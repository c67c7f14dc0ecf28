-- Messages and changes in four bytes.
use Rattle.std.proofs.Common.{◌≡◌, ℕ, zero, suc, ◌+◌, ◌*◌, ◌/◌, ◌%◌, ◌<◌, List, Option, None, Some, refl, ◌∙◌, arith}
use Rattle.std.specs.Prelude.{filter_map}
use Rattle.std.specs.Option.{option_map_or}
use Rattle.logic3.specs.declared.change.Change.{Change}
use Rattle.logic3.specs.declared.value.Value.{Value}
use Rattle.logic3.specs.declared.value.Value.TheVariants.{Zero, One, Unknown}
use Rattle.cmb_channels.specs.declared.message.Message.{Message}
use Rattle.cmb_channels.specs.declared.message.Message.TheVariants.{Change as Changes, Null}
use Rattle.cmb_channels.specs.Logs.{said_of, tick_said, value_said}

-- ---- messages

-- the ticks that fit are below this number
abbrev pub packed_ticks : ℕ
packed_ticks = 1_073_741_824

-- the value of a change by its number; a null message has 3
abbrev pub value_of_digit : ℕ → Option Value
value_of_digit zero = Some Zero
value_of_digit (suc zero) = Some One
value_of_digit (suc (suc zero)) = Some Unknown
value_of_digit (suc (suc (suc more))) = None

abbrev pub digit_of_value : Option Value → ℕ
digit_of_value (Some Zero) = 0
digit_of_value (Some One) = 1
digit_of_value (Some Unknown) = 2
digit_of_value None = 3

-- four times the tick, and the number of the value
abbrev pub message_of : ℕ → Message
message_of code = said_of (code / 4) (value_of_digit (code % 4))

abbrev pub code_of : Message → ℕ
code_of message = tick_said message * 4 + digit_of_value (value_said message)

digit_back : (tick digit : ℕ) → digit < 4 → code_of (said_of tick (value_of_digit digit)) ≡ tick * 4 + digit
digit_back tick zero small = refl
digit_back tick (suc zero) small = refl
digit_back tick (suc (suc zero)) small = refl
digit_back tick (suc (suc (suc zero))) small = refl
digit_back tick (suc (suc (suc (suc more)))) small = absurd (omega (arith, small))

-- a code is that of its message
pub code_back : (code : ℕ) → code_of (message_of code) ≡ code
code_back code = digit_back (code / 4) (code % 4) (omega arith) ∙ omega arith

-- ---- changes

-- the change that a message reports, if any
abbrev pub change_said : Message → Option Change
change_said (Changes change) = Some change
change_said (Null bound) = None

-- the changes that messages report
abbrev pub changes_said : List Message → List Change
changes_said messages = filter_map change_said messages

-- a change by its code, which is that of its message
abbrev pub change_of : ℕ → Change
change_of code = record { tick = code / 4; value = option_map_or (λ value. value) (value_of_digit (code % 4)) Unknown }
