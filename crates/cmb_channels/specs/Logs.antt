-- The logs of nets, and what pins have taken from them.
use Rattle.std.specs.Prelude.{◌≡◌, ℕ, ◌+◌, ◌-◌, ◌/◌, ◌%◌, ◌<◌, ◌≤◌, ◌==◌, nat_lt, nat_le, Bool, if◌then◌else◌, List, [], ◌∷◌, ◌++◌, length, map, drop, count_by, All, Option, None, Some, slice_get}
use Rattle.std.specs.List.{range_with_len}
use Rattle.std.specs.Option.{option_map_or}
use Rattle.logic3.specs.declared.value.Value.{Value}
use Rattle.design.specs.Pins.{all_fed}
use Rattle.cmb_channels.specs.declared.message.Message.{Message}
use Rattle.cmb_channels.specs.declared.message.Message.TheVariants.{Change as Changes, Null}

-- ---- a message in a log

-- a message by its tick: a change to a value, or a null message
abbrev pub said_of : ℕ → Option Value → Message
said_of tick (Some value) = Changes (record { tick = tick; value = value })
said_of tick None = Null tick

abbrev pub tick_said : Message → ℕ
tick_said (Changes change) = change.tick
tick_said (Null bound) = bound

abbrev pub value_said : Message → Option Value
value_said (Changes change) = Some change.value
value_said (Null bound) = None

-- ---- counts

-- counts of messages wrap around at this number
abbrev pub two_to_64 : ℕ
two_to_64 = 18_446_744_073_709_551_616

-- a count after some more messages
abbrev pub count_after : ℕ → ℕ → ℕ
count_after count more = (count + more) % two_to_64

-- how far one count is past another
abbrev pub past : ℕ → ℕ → ℕ
past from count = (count + (two_to_64 - from)) % two_to_64

-- ---- the log of a net

-- the number of pins that the net feeds, how many of these haven't taken all of its messages, the number of messages that were
-- removed, and those that came after them, the oldest first
pub record LogView : Type 0 where
  pub readers : ℕ
  pub behind : ℕ
  pub cut : ℕ
  pub messages : List Message

abbrev pub empty_log : ℕ → LogView
empty_log readers = record { readers = readers; behind = 0; cut = 0; messages = [] }

-- the log with these messages more, which no pin has taken; if no pin reads the log, it keeps nothing
abbrev pub written : List Message → LogView → LogView
written messages log =
    if log.readers == 0 then log
    else record log { behind = log.readers; messages = log.messages ++ messages }

-- the log without its first messages
abbrev pub shortened : ℕ → LogView → LogView
shortened count log = record log { cut = count_after log.cut count; messages = drop count log.messages }

-- the log without all messages but the last, so many, if these are at most half of them
abbrev pub cut_to : ℕ → LogView → LogView
cut_to kept log = if nat_le kept (length log.messages / 2) then shortened (length log.messages - kept) log else log

-- the log after a pin that was behind took the messages before a place
abbrev pub passed : ℕ → LogView → LogView
passed place log = if place == length log.messages then record log { behind = log.behind - 1 } else log

-- the messages that a pin that has taken a number of them hasn't taken
abbrev pub unread : LogView → ℕ → List Message
unread log count = drop (past log.cut count) log.messages

-- there are some
abbrev pub is_behind : LogView → ℕ → Bool
is_behind log count = nat_lt (past log.cut count) (length log.messages)

-- pins with these counts of taken messages read this log
pub record IsLog (log : LogView) (counts : List ℕ) : Type 0 where
  pub cut : log.cut < two_to_64
  pub readers : log.readers ≡ length counts
  pub within : All (λ count. past log.cut count ≤ length log.messages) counts
  pub behind : log.behind ≡ count_by (is_behind log) counts

-- ---- the logs of all nets

-- the messages that wait at a pin that this net feeds, given the number that it has taken
abbrev pub unread_of : List LogView → ℕ → ℕ → List Message
unread_of logs source count = option_map_or (λ log. unread log count) (slice_get logs source) []

-- the messages that wait at each pin
abbrev pub unread_lists : List LogView → List ℕ → List ℕ → List (List Message)
unread_lists logs [] counts = []
unread_lists logs (source ∷ sources) [] = []
unread_lists logs (source ∷ sources) (count ∷ counts) = unread_of logs source count ∷ unread_lists logs sources counts

-- the numbers of messages that the pins that a net feeds have taken
abbrev pub counts_of : ℕ → List ℕ → List ℕ → List ℕ
counts_of net [] counts = []
counts_of net (source ∷ sources) [] = []
counts_of net (source ∷ sources) (count ∷ counts) =
    let later = counts_of net sources counts in if source == net then count ∷ later else later

-- each pin reads the log of its source
pub record AreLogs (logs : List LogView) (sources counts : List ℕ) : Type 0 where
  pub one_count_each : length counts ≡ length sources
  pub nets : All (λ source. source < length logs) sources
  pub logs_are : (net : ℕ) (log : LogView) → slice_get logs net ≡ Some log → IsLog log (counts_of net sources counts)

-- the pins that each net feeds are stored beside
pub record AreStored (logs : List LogView) (sources counts : List ℕ) (fed : List (List ℕ)) : Type 0 where
  pub logs_are : AreLogs logs sources counts
  pub fed_are : fed ≡ all_fed (length logs) sources

-- an empty log for each of a number of nets, read by the pins with these sources
abbrev pub logs_read_by : ℕ → List ℕ → List LogView
logs_read_by nets sources = map (λ net. empty_log (count_by (λ source. source == net) sources)) (range_with_len 0 nets)
