-- How far past what every net knows a sweep goes.
use Rattle.std.specs.Prelude.{ℕ, ◌*◌, ◌/◌, ◌-◌, ◌==◌, ◌||◌, not, nat_lt, if◌then◌else◌, min, max}

-- the most changes that a sweep over few nets should send
abbrev pub most_sent_by_few : ℕ
most_sent_by_few = 16_384

-- the most changes that a sweep should send, unless two for each net are more
abbrev pub most_sent_by_many : ℕ
most_sent_by_many = 65_536

-- the most changes that a sweep over this number of nets should send: four for each net, within these bounds
abbrev pub most_sent : ℕ → ℕ
most_sent nets = max (2 * nets) (max most_sent_by_few (min most_sent_by_many (4 * nets)))

-- the widest window: past the longest run
abbrev pub widest : ℕ
widest = 16_777_216

-- the width of the next window, given the ticks that were known before a sweep, the width of its window, and the number
-- of changes that it sent: the same after the first sweep. Else it is twice as wide if they are fewer than a quarter of
-- the most that it should send, a quarter narrower if they are more than the most, and half as wide if they are more than
-- twice as many
abbrev pub next_width : ℕ → ℕ → ℕ → ℕ → ℕ
next_width known width sent most =
    if known == 0 then width
    else if nat_lt sent (most / 4) then min (width * 2) widest
    else if nat_lt most (sent / 2) then max (width / 2) 1
    else if nat_lt most sent then max (width - width / 4) 1 else width

-- the tick up to which a dump is written, given up to which it is written already, the ticks that every net knows, the end of
-- the run, the changes that were sent since the dump was last written, and the most that a sweep should send: all that is
-- known, at the end or if these changes are at least a quarter of the most
abbrev pub written_next : ℕ → ℕ → ℕ → ℕ → ℕ → ℕ
written_next written known end sent most =
    if known == end || not (nat_lt sent (most / 4)) then known else written
