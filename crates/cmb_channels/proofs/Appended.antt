-- What a net sends to the pins that it feeds.
use Rattle.std.proofs.Common.{◌≡◌, ℕ, suc, ◌==◌, Bool, true, false, cond, List, [], ◌∷◌, ◌++◌, map, length, ap, ◌∙◌, refl, arith}
use Rattle.design.specs.Pins.{pins_fed}
use Rattle.cmb_channels.specs.declared.message.Message.{Message}
use Rattle.cmb_channels.specs.Lists.{sent}
use Rattle.cmb_channels.specs.Waiting.{appended}
use Rattle.cmb_channels.proofs.WaitingLemmas.{appended-suc}

-- a message at the pins that a net feeds is what the net sends
pub appended-fed : (message : Message) (net : ℕ) (sources : List ℕ) (lists : List (List Message)) → length lists ≡ length sources →
    appended message (pins_fed net sources) lists ≡ sent net (message ∷ []) sources lists
appended-fed message net [] lists h = refl
appended-fed message net (source ∷ sources) [] h = absurd (omega arith)
appended-fed message net (source ∷ sources) (list ∷ lists) h = go (source == net) (appended-fed message net sources lists (omega arith))
  where
    go : (same : Bool) → appended message (pins_fed net sources) lists ≡ sent net (message ∷ []) sources lists →
        appended message (cond {A = List ℕ} same (0 ∷ map suc (pins_fed net sources)) (map suc (pins_fed net sources))) (list ∷ lists)
        ≡ cond same (list ++ message ∷ []) list ∷ sent net (message ∷ []) sources lists
    go true e = appended-suc message (pins_fed net sources) (list ++ message ∷ []) lists ∙ ap (λ rest. (list ++ message ∷ []) ∷ rest) e
    go false e = appended-suc message (pins_fed net sources) list lists ∙ ap (λ rest. list ∷ rest) e
