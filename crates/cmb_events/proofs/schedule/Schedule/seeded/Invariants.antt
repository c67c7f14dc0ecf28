use Rattle.std.proofs.Common.{◌≡◌, ◌-◌, length, map, All}
use Rattle.cmb_events.specs.Schedule.{pick_of, words_from, Exists}
use Rattle.cmb_events.proofs.Picks.{picks_then}
use Rattle.cmb_events.proofs.schedule.Schedule.seeded.Given as goal

-- the events so far, one for each word, and those that the words left pick are all, and those so far exist
abbrev pub invariant-loop-pick : goal.invariant-loop-pick
invariant-loop-pick l =
    (picks_then l.design.circuit l.events.items (l.picks - l._pick) l.words ≡ map (pick_of l.design.circuit) (words_from l.seed l.picks))
    × All (Exists l.design.circuit) l.events.items
    × (length l.events.items ≡ l._pick)
