-- Buses: several nets in one lane, as hexadecimal numbers.
use Rattle.std.specs.Prelude.{ℕ, ◌+◌, ◌-◌, ◌*◌, ◌/◌, ◌==◌, ◌&&◌, ◌||◌, not, nat_le, nat_lt, Bool, if◌then◌else◌, List, length, map, slice_index_or}
use Rattle.std.specs.List.{list_all, position_or_len, range_with_len}
use Rattle.logic3.specs.declared.value.Value.{Value}
use Rattle.logic3.specs.declared.value.Value.TheVariants.{Zero, One, Unknown}
use Rattle.logic3.specs.Value.{is_same}
use Rattle.logic3.specs.Wave.{value_at}
use Rattle.timing_diagram.specs.declared.bus.Bus.{Bus}
use Rattle.timing_diagram.specs.Columns.{Ticks, column_count, shown_tick}
use Rattle.timing_diagram.specs.Marks.{shows_value}

-- a bus: its name, and the signals of its bits, the most significant first
abbrev pub BusTrace : Type 0
BusTrace = List ℕ × List (ℕ → Value)

abbrev pub seen_bus : Bus → BusTrace
seen_bus bus = (bus.name.now, map value_at bus.bits.items)

-- ---- its digits

-- the bit at a place, counted from the least significant one, which is the last; before the first bit there are zeros
abbrev pub bit_at : List (ℕ → Value) → ℕ → ℕ → Value
bit_at bits tick place =
    if nat_lt place (length bits) then slice_index_or bits (length bits - 1 - place) (λ tick. Unknown) tick else Zero

abbrev pub bit_number : Value → ℕ
bit_number Zero = 0
bit_number One = 1
bit_number Unknown = 0

-- 0 to 9 and a to f
abbrev pub hex_byte : ℕ → ℕ
hex_byte number = if nat_lt number 10 then 48 + number else 87 + number

-- the digit of four bits: x if one of them is X
abbrev pub digit_of : Value → Value → Value → Value → ℕ
digit_of a b c d =
    if is_same a Unknown || is_same b Unknown || (is_same c Unknown || is_same d Unknown) then 120
    else hex_byte (8 * bit_number a + 4 * bit_number b + (2 * bit_number c + bit_number d))

-- the digit at a place, counted from the last
abbrev pub digit_at : List (ℕ → Value) → ℕ → ℕ → ℕ
digit_at bits tick place =
    digit_of (bit_at bits tick (4 * place + 3)) (bit_at bits tick (4 * place + 2))
    (bit_at bits tick (4 * place + 1)) (bit_at bits tick (4 * place))

-- a digit for each four bits, and one for those left over
abbrev pub digit_count : ℕ → ℕ
digit_count bits = (bits + 3) / 4

-- all digits at a tick, the most significant first
abbrev pub digits : List (ℕ → Value) → ℕ → List ℕ
digits bits tick =
    let count = digit_count (length bits) in
    map (λ place. digit_at bits tick (count - 1 - place)) (range_with_len 0 count)

-- ---- its columns

-- whether a column shows a value of each bit, by the rule of a net
abbrev pub shows_bits : List (ℕ → Value) → Ticks → ℕ → Bool
shows_bits bits ticks column = list_all (λ bit. shows_value bit ticks column) bits

-- whether two columns show the same value of a bit
abbrev pub shows_same : Ticks → ℕ → ℕ → (ℕ → Value) → Bool
shows_same ticks column other bit =
    shows_value bit ticks column && (shows_value bit ticks other
    && is_same (bit (shown_tick ticks column)) (bit (shown_tick ticks other)))

abbrev pub are_alike : List (ℕ → Value) → Ticks → ℕ → ℕ → Bool
are_alike bits ticks column other = list_all (shows_same ticks column other) bits

-- whether a column is the first one, or shows something else than the one before it
abbrev pub begins : List (ℕ → Value) → Ticks → ℕ → Bool
begins bits ticks column = column == 0 || not (are_alike bits ticks (column - 1) column)

-- the number of columns from this one on that show what this one shows
abbrev pub lasting : List (ℕ → Value) → Ticks → ℕ → ℕ
lasting bits ticks column =
    1 + position_or_len (λ later. not (are_alike bits ticks column later))
    (range_with_len (column + 1) (column_count ticks - (column + 1)))

-- whether the digits have as many columns as they need, one each
abbrev pub fits : List (ℕ → Value) → Ticks → ℕ → Bool
fits bits ticks column = nat_le (digit_count (length bits)) (lasting bits ticks column)
