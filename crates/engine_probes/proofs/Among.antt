-- One process among others keeps its pins and its end while it hears messages.
use Rattle.std.proofs.Common.{◌≡◌, ℕ, ◌<◌, ◌∙◌, List, Some, length, slice_get, slice_set, Result, Ok, Err, ap, sym, arith}
use Rattle.std.specs.Option.{ForSome}
use Rattle.std.specs.Result.{OnOk, OnErr}
use Rattle.std.proofs.lemmas.List.{length-set, get_or-set_same}
use Rattle.std.proofs.lemmas.Option.{same_Some, slice_get-get_or, slice_get_within}
use Rattle.cmb_channels.specs.declared.message.Message.{Message}
use Rattle.gate_process.specs.Step.{ProcessView, running, heard}
use Rattle.gate_process.proofs.CallerLemmas.{Lasting, lasts_heard}

get_of_set_same : (xs : List ProcessView) (at : ℕ) (x : ProcessView) → at < length xs → slice_get (slice_set xs at x) at ≡ Some x
get_of_set_same xs at x within =
    let size = length-set xs at x in
    slice_get-get_or (slice_set xs at x) at x (omega arith) ∙ ap Some (get_or-set_same xs at x x within)

pub stays_among : {E : Type 0} (old new : List ProcessView) (net : ℕ) (message : Message) (result : Result (Unit {0}) E) (process other : ProcessView) →
    slice_get old net ≡ Some process →
    OnOk result (ForSome (slice_get old net) (λ (p : ProcessView). new ≡ slice_set old net (running (heard 0 message p.state)))) →
    OnErr result (new ≡ old) → slice_get new net ≡ Some other → Lasting process other
stays_among {E = E} old new net message (Ok done) process other at ok err there =
    let next = running (heard 0 message process.state) in
    let is : slice_get new net ≡ Some next =
    ap (λ (ps : List ProcessView). slice_get ps net) (ok process at)
    ∙ get_of_set_same old net next (slice_get_within old net process at) in
    lasts_heard {E = E} process other 0 message (Ok done) (same_Some other next (sym there ∙ is)) tt
stays_among {E = E} old new net message (Err fault) process other at ok err there =
    lasts_heard {E = E} process other 0 message (Err fault) tt
    (same_Some other process (sym there ∙ ap (λ (ps : List ProcessView). slice_get ps net) err ∙ at))

pub length_among : {E : Type 0} (old new : List ProcessView) (net : ℕ) (message : Message) (result : Result (Unit {0}) E) (process : ProcessView) →
    slice_get old net ≡ Some process →
    OnOk result (ForSome (slice_get old net) (λ (p : ProcessView). new ≡ slice_set old net (running (heard 0 message p.state)))) →
    OnErr result (new ≡ old) → length new ≡ length old
length_among old new net message (Ok done) process at ok err =
    ap (λ (ps : List ProcessView). length ps) (ok process at) ∙ length-set old net (running (heard 0 message process.state))
length_among old new net message (Err fault) process at ok err = ap (λ (ps : List ProcessView). length ps) err
