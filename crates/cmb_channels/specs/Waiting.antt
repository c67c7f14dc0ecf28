-- The messages that wait in the queues of some pins.
use Rattle.std.specs.Prelude.{◌≡◌, ℕ, ◌<◌, List, [], ◌∷◌, ◌++◌, map, Some, slice_get}
use Rattle.std.specs.declared.collections.VecDeque.{VecDeque}
use Rattle.std.specs.VecDeque.{deque_len, deque_capacity}
use Rattle.cmb_channels.specs.declared.message.Message.{Message}
use Rattle.cmb_channels.specs.Lists.{update}

-- the lists with a message at the end of that of each of these pins
abbrev pub appended : Message → List ℕ → List (List Message) → List (List Message)
appended message [] lists = lists
appended message (pin ∷ pins) lists = appended message pins (update (λ list. list ++ message ∷ []) pin lists)

module _ {A : Type 0} where
  -- the messages in each queue, the oldest first
  abbrev pub lists_in : List (VecDeque Message A) → List (List Message)
  lists_in queues = map (λ queue. queue.items) queues

  -- the queue of a pin has room for one more message
  abbrev pub HasRoom : List (VecDeque Message A) → ℕ → Type 0
  HasRoom queues pin = (queue : VecDeque Message A) → slice_get queues pin ≡ Some queue → deque_len queue < deque_capacity queue
