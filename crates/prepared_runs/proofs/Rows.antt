-- The sections of some decks, byte for byte, by computation.
use Rattle.std.proofs.Common.{◌≡◌, [], Ok, refl, codes}
use Rattle.prepared_runs.specs.Deck.{sections_of, sections_behind}

sections_in_any_order : sections_of (codes "%nullsim 5\n\n%stimuli\n0 a 1\n \t%bench \r\n%delays\n\ny 1")
    ≡ Ok (record { horizon = 5; texts = record { bench = []; delays = codes "\ny 1"; stimuli = codes "0 a 1\n"; schedule = [] } })
unfolding sections_of sections_behind
sections_in_any_order = refl

section_of_events : sections_of (codes "%nullsim 5\n%schedule\nadvance y # %bench\n%foo\n%bench\nINPUT(a)\n")
    ≡ Ok (record { horizon = 5; texts = record { bench = codes "INPUT(a)\n"; delays = []; stimuli = []; schedule = codes "advance y # %bench\n%foo\n" } })
unfolding sections_of sections_behind
section_of_events = refl
