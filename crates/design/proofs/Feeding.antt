-- Each pin of a circuit is fed by a net of it.
use Rattle.std.proofs.Common.{ℕ, ◌<◌, [], ◌∷◌, length, All}
use Rattle.std.proofs.lemmas.List.Elements.{All-nil, All-head, All-tail, All-append}
use Rattle.design.specs.Circuit.{Net, Circuit, IsCircuit}
use Rattle.design.specs.Pins.{sources_of}

below : (limit : ℕ) (nets : Circuit) → All (λ (net : Net). All (λ pin. pin < limit) net.pins) nets → All (λ source. source < limit) (sources_of nets)
below limit [] all = All-nil (λ source. source < limit)
below limit (net ∷ nets) all =
    All-append (λ source. source < limit) net.pins (sources_of nets)
    (All-head (λ (n : Net). All (λ pin. pin < limit) n.pins) net nets all)
    (below limit nets (All-tail (λ (n : Net). All (λ pin. pin < limit) n.pins) net nets all))

pub sources_below : (circuit : Circuit) → IsCircuit circuit → All (λ source. source < length circuit) (sources_of circuit)
sources_below circuit ok = below (length circuit) circuit ok.pins
