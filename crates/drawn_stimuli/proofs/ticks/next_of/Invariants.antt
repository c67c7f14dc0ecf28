-- The first tick so far, and then those of the drives left, give that of all.
use Rattle.std.proofs.Common.{◌≡◌, ℕ, drop, min}
use Rattle.std.specs.List.{fold}
use Rattle.drawn_stimuli.specs.declared.drive.Drive.{Drive}
use Rattle.drawn_stimuli.specs.Ticks.{next_change, next_of}
use Rattle.drawn_stimuli.proofs.ticks.next_of.Given as goal

abbrev pub invariant-loop-drive : goal.invariant-loop-drive
invariant-loop-drive l =
    fold (λ (next : ℕ) (drive : Drive). min next (next_change drive l.tick)) l.next (drop l.drive-index l.drives)
    ≡ next_of l.drives l.tick
