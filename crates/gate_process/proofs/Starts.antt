-- How a process begins.
use Rattle.std.proofs.Common.{◌≡◌, ℕ, List, [], ◌∷◌, map, length, replicate, refl, ap, sym, ◌∙◌}
use Rattle.design.specs.Circuit.{Net}
use Rattle.gate_process.specs.Knowledge.{Knowledge, nothing_known}
use Rattle.gate_process.specs.Outputs.{OutputView, process_of, started_output}
use Rattle.gate_process.specs.Step.{running, started_process}

-- the same for each is so many of it
pub map-same : {A B : Type 0} (xs : List A) (y : B) → map (λ (x : A). y) xs ≡ replicate (length xs) y
map-same [] y = refl
map-same (x ∷ xs) y = ap (λ ys. y ∷ ys) (map-same xs y)

-- a process of which nothing is known has started
pub starts : (end : ℕ) (net : Net) (output : OutputView) (received : List Knowledge) → output ≡ started_output end net →
    received ≡ replicate (length output.net.pins) nothing_known → process_of output received ≡ running (started_process end net)
starts end net output received is nothing =
    let all = nothing ∙ ap (λ (o : OutputView). replicate (length o.net.pins) nothing_known) is ∙ sym (map-same net.pins nothing_known) in
    λ i. process_of (is i) (all i)
