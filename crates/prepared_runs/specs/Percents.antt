-- The progress of a run in percent, on one line.
use Rattle.std.specs.Prelude.{◌≡◌, ℕ, zero, suc, ◌+◌, ◌*◌, ◌/◌, max, Bool, true, false, List, [], ◌∷◌, ◌++◌, Option, nat_lt, if◌then◌else◌, codes, decimal}
use Rattle.std.specs.Io.KnownBytes.{Appends, Keeps}
use Rattle.texts.specs.Written.{AppendsPrefix}

-- how much of a run is done if a number of ticks are known, in percent, rounded down
abbrev pub percent_of : ℕ → ℕ → ℕ
percent_of horizon ticks = ticks * 100 / (horizon + 1)

-- a percentage, written over the line
abbrev pub percent_text : ℕ → List ℕ
percent_text percent = codes "\r" ++ decimal percent ++ codes "%"

-- the least percentage that may still be written, after one has been reported
abbrev pub behind : ℕ → ℕ → ℕ
behind next percent = max next (percent + 1)

-- the same after those of some numbers of ticks
abbrev pub next_percent : ℕ → ℕ → List ℕ → ℕ
next_percent horizon next [] = next
next_percent horizon next (ticks ∷ more) = next_percent horizon (behind next (percent_of horizon ticks)) more

-- a percentage, unless it or a greater one was written
abbrev pub shown_percent : ℕ → ℕ → List ℕ
shown_percent next percent = if nat_lt percent next then [] else percent_text percent

-- the percentages of some numbers of ticks, each of which is greater than all before it
abbrev pub percents_text : ℕ → ℕ → List ℕ → List ℕ
percents_text horizon next [] = []
percents_text horizon next (ticks ∷ more) =
    shown_percent next (percent_of horizon ticks) ++ percents_text horizon (behind next (percent_of horizon ticks)) more

-- the end of the line, if one has begun
abbrev pub line_feed : ℕ → List ℕ
line_feed zero = []
line_feed (suc next) = codes "\n"

-- the whole text for these numbers of ticks
abbrev pub progress_text : ℕ → List ℕ → List ℕ
progress_text horizon ticks = percents_text horizon 0 ticks ++ line_feed (next_percent horizon 0 ticks)

-- a writer of percentages: the least one that it may still write, whether its writer has failed, and what was written to it
pub record Meter : Type 0 where
  pub next : ℕ
  pub failed : Bool
  pub bytes : Option (List ℕ)

-- the meter received these numbers of ticks, and wrote the whole text, or a prefix of it if the writer failed
pub record Shows (horizon : ℕ) (old : Meter) (ticks : List ℕ) (new : Meter) : Type 0 where
  pub next : new.next ≡ next_percent horizon old.next ticks
  pub part : AppendsPrefix old.bytes new.bytes (percents_text horizon old.next ticks)
  pub whole : new.failed ≡ false → Appends old.bytes new.bytes (percents_text horizon old.next ticks)
  pub fails : old.failed ≡ true → (new.failed ≡ true) × Keeps old.bytes new.bytes
