-- The ticks at which a value may change.
use Rattle.std.specs.Prelude.{ℕ, ◌+◌, ◌-◌, ◌%◌, ◌^◌, min, nat_lt, Bool, true, false, if◌then◌else◌, List}
use Rattle.std.specs.List.{fold, list_any}
use Rattle.drawn_stimuli.specs.declared.drive.Drive.{Drive}
use Rattle.drawn_stimuli.specs.declared.drive.Drive.TheVariants.{Clock, ClockFrom, Hold, HoldBits, Pulse}
use Rattle.drawn_stimuli.specs.declared.input.InputNet.{InputNet}

-- a tick that stands for none: past every horizon
abbrev pub never : ℕ
never = 2 ^ 64 - 1

-- the first multiple after a tick
abbrev pub next_multiple : ℕ → ℕ → ℕ
next_multiple step tick = min never (tick - tick % step + step)

-- whether a drive may change
abbrev pub moves : Drive → Bool
moves (Clock half) = true
moves (ClockFrom half first begins_high) = true
moves (Hold value) = false
moves (HoldBits ones unknown) = false
moves (Pulse from to) = true

-- whether an input with these drives may change at ticks other than those of draws
abbrev pub is_moving : List Drive → Bool
is_moving drives = list_any moves drives

-- the first tick after this one at which a drive may change
abbrev pub next_change : Drive → ℕ → ℕ
next_change (Clock half) tick = next_multiple half tick
next_change (ClockFrom half first begins_high) tick = if nat_lt tick first then first else min never (first + next_multiple half (tick - first))
next_change (Hold value) tick = never
next_change (HoldBits ones unknown) tick = never
next_change (Pulse from to) tick = if nat_lt tick from then from else if nat_lt tick to then to else never

-- the first tick after this one at which one of these drives may change
abbrev pub next_of : List Drive → ℕ → ℕ
next_of drives tick = fold (λ (next : ℕ) (drive : Drive). min next (next_change drive tick)) never drives

-- the first tick after this one at which one of these inputs may change, or values are drawn
abbrev pub next_tick : ℕ → List InputNet → ℕ → ℕ
next_tick every inputs tick =
    fold (λ (next : ℕ) (input : InputNet). min next (next_of input.drives.now tick)) (next_multiple every tick) inputs
