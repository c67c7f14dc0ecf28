-- Ways in which a line of a delay, stimulus or schedule text is wrong, and what it may be written as.
use Rattle.std.specs.Prelude.{ℕ, List, [], ◌∷◌, codes}
use Rattle.mistakes.specs.BenchCorrections.{correction, equals, for_nets}
use Rattle.mistakes.specs.Corrections.{Correction, Piece, at_place, own}
use Rattle.mistakes.specs.Forms.{Slot, any_word, fixed, keyword, line_end, numeral}

-- slots whose names play no part
abbrev pub word : Slot
word = any_word []

abbrev pub count : Slot
count = numeral []

-- the words at these places, of which this one is a net
abbrev pub picked : List Slot → List ℕ → ℕ → List Piece → Correction
picked wrong said net pieces = for_nets (net ∷ []) (correction wrong said (pieces ∷ []))

-- ---- delays

-- y = 3
abbrev pub assigned_delay : Correction
assigned_delay = picked (word ∷ equals ∷ count ∷ line_end ∷ []) (codes "write ") 0 (at_place 0 ∷ at_place 2 ∷ [])

-- y = 3, in version 2
abbrev pub assigned_second : Correction
assigned_second =
    picked (word ∷ equals ∷ count ∷ line_end ∷ []) (codes "write ") 0 (own (codes "delay") ∷ at_place 0 ∷ at_place 2 ∷ [])

-- delay y = 3
abbrev pub assigned_worded : Correction
assigned_worded =
    picked (keyword (codes "delay") ∷ word ∷ equals ∷ count ∷ line_end ∷ []) (codes "write ") 1
    (own (codes "delay") ∷ at_place 1 ∷ at_place 3 ∷ [])

-- y 3, in version 2
abbrev pub first_in_second : Correction
first_in_second = picked (word ∷ count ∷ line_end ∷ []) (codes "write ") 0 (own (codes "delay") ∷ at_place 0 ∷ at_place 1 ∷ [])

abbrev pub version_line : List (List Piece)
version_line = (own (codes "timing") ∷ own (codes "version") ∷ own (codes "2") ∷ []) ∷ []

-- a line of version 2, in the first line of a text without the line that says so
abbrev pub second_in_first : List ℕ → List Slot → Correction
second_in_first form row = correction (keyword form ∷ word ∷ row) (codes "add the first line ") version_line

-- timing version 3
abbrev pub other_version : Correction
other_version =
    correction (fixed (codes "timing") ∷ fixed (codes "version") ∷ count ∷ line_end ∷ [])
    (codes "a text of version 1 has no such line; one of version 2 begins with ") version_line

-- Timing Version 2
abbrev pub capital_version : Correction
capital_version =
    correction (keyword (codes "timing") ∷ keyword (codes "version") ∷ fixed (codes "2") ∷ line_end ∷ []) (codes "write ") version_line

abbrev pub delay_corrections : List Correction
delay_corrections =
    assigned_delay ∷ assigned_second ∷ assigned_worded ∷ first_in_second
    ∷ second_in_first (codes "delay") (count ∷ line_end ∷ []) ∷ second_in_first (codes "clock") (count ∷ count ∷ line_end ∷ [])
    ∷ second_in_first (codes "init") (word ∷ line_end ∷ []) ∷ second_in_first (codes "wire") (count ∷ count ∷ line_end ∷ [])
    ∷ other_version ∷ capital_version ∷ []

-- ---- stimuli

-- a 10 1
abbrev pub name_first : Correction
name_first = picked (word ∷ count ∷ word ∷ line_end ∷ []) (codes "write ") 0 (at_place 1 ∷ at_place 0 ∷ at_place 2 ∷ [])

-- a 1 10
abbrev pub value_before_tick : Correction
value_before_tick = picked (word ∷ word ∷ count ∷ line_end ∷ []) (codes "write ") 0 (at_place 2 ∷ at_place 0 ∷ at_place 1 ∷ [])

-- 0 a = 1
abbrev pub assigned_value : Correction
assigned_value =
    picked (count ∷ word ∷ equals ∷ word ∷ line_end ∷ []) (codes "write ") 1 (at_place 0 ∷ at_place 1 ∷ at_place 3 ∷ [])

abbrev pub from_start : List ℕ
from_start = codes "for a value from tick 0 on, write "

-- a = 1
abbrev pub assigned_alone : Correction
assigned_alone = picked (word ∷ equals ∷ word ∷ line_end ∷ []) from_start 0 (own (codes "0") ∷ at_place 0 ∷ at_place 2 ∷ [])

-- a 1
abbrev pub without_tick : Correction
without_tick = picked (word ∷ word ∷ line_end ∷ []) from_start 0 (own (codes "0") ∷ at_place 0 ∷ at_place 1 ∷ [])

-- 5 a 1 b 0
abbrev pub two_changes : Correction
two_changes =
    for_nets (1 ∷ 3 ∷ [])
    (correction (count ∷ word ∷ word ∷ word ∷ word ∷ line_end ∷ []) (codes "one change a line: ")
    ((at_place 0 ∷ at_place 1 ∷ at_place 2 ∷ []) ∷ (at_place 0 ∷ at_place 3 ∷ at_place 4 ∷ []) ∷ []))

abbrev pub stimulus_corrections : List Correction
stimulus_corrections =
    name_first ∷ value_before_tick ∷ assigned_value ∷ assigned_alone ∷ without_tick ∷ two_changes ∷ []

-- ---- schedules

-- advance a b
abbrev pub two_steps : Correction
two_steps =
    for_nets (1 ∷ 2 ∷ [])
    (correction (fixed (codes "advance") ∷ word ∷ word ∷ line_end ∷ []) (codes "one step a line: ")
    ((at_place 0 ∷ at_place 1 ∷ []) ∷ (at_place 0 ∷ at_place 2 ∷ []) ∷ []))

abbrev pub schedule_corrections : List Correction
schedule_corrections = two_steps ∷ []
