-- Channels with a record of what was sent.
use Rattle.std.specs.Prelude.{◌≡◌, ℕ, ◌-◌, List, [], drop, length, map, Some, slice_get, slice_index_or, Vec}
use Rattle.cmb_channels.specs.declared.message.Message.{Message}

-- the messages that wait at each pin, the net that feeds each pin, how many nets there are, and all that each net sent
pub record Recorded : Type 0 where
  pub lists : List (List Message)
  pub sources : List ℕ
  pub nets : ℕ
  pub history : List (List Message)

-- some messages are the last ones of others
abbrev pub IsEndOf : List Message → List Message → Type 0
IsEndOf messages all = drop (length all - length messages) all ≡ messages

-- what waits at each pin is the end of what its source has sent
pub record IsRecord (lists : List (List Message)) (sources : List ℕ) (nets : ℕ) (history : List (List Message)) : Type 0 where
  pub one_each : length history ≡ nets
  pub ends : (pin source : ℕ) → slice_get sources pin ≡ Some source →
      IsEndOf (slice_index_or lists pin []) (slice_index_or history source [])

module _ {A : Type 0} where
  -- the messages that are stored for each net
  abbrev pub messages_in : List (Vec Message A) → List (List Message)
  messages_in history = map (λ messages. messages.items) history
