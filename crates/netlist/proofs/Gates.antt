-- Which nets gates drive.
use Rattle.std.proofs.Common.{◌≡◌, ℕ, ◌<◌, ◌≤◌, false, IsTrue, true≢false, List, length, All, sym, ap, ◌∙◌, subst, arith, ⊎_elim}
use Rattle.std.proofs.lemmas.Bool.{cases_lt}
use Rattle.std.proofs.lemmas.List.{get_or_past}
use Rattle.netlist.specs.Netlist.{NetView, NetlistView, IsNetlist, net_at}
use Rattle.netlist.specs.Part.{is_gate}
use Rattle.netlist.specs.Flow.{is_gate_in, FlowsTo, straight, through}
use Rattle.netlist.proofs.Named.{no_net}

pub no_gate_past : (nets : List NetView) (net : ℕ) → length nets ≤ net → is_gate_in nets net ≡ false
no_gate_past nets net past = ap (λ net. is_gate net.part) (get_or_past nets net no_net past)

pub gate_within : (nets : List NetView) (net : ℕ) → IsTrue (is_gate_in nets net) → net < length nets
gate_within nets net gate = ⊎_elim
    (λ below. below)
    (λ past. absurd (true≢false (sym gate ∙ no_gate_past nets net past)))
    (cases_lt net (length nets))

-- pins are numbers of nets
pub pins_within : (netlist : NetlistView) → IsNetlist netlist → (net : ℕ) (pins : List ℕ) → pins ≡ (net_at netlist net).pins →
    All (λ pin. pin < length netlist.nets) pins
pins_within netlist ok net pins are = subst (All (λ pin. pin < length netlist.nets)) (sym are) (⊎_elim
    (λ below. ok.pins net no_net below)
    (λ past. subst (λ (net : NetView). All (λ pin. pin < length netlist.nets) net.pins) (sym (get_or_past netlist.nets net no_net past))
    (λ k d within. absurd (omega (arith, within))))
    (cases_lt net (length netlist.nets)))

-- what flows to a gate flows on
pub flows_on : {nets : List NetView} {first second : ℕ} (third : ℕ) → FlowsTo nets first second → FlowsTo nets second third → FlowsTo nets first third
flows_on {second = second} _ early (straight to feeds) = through second to early feeds
flows_on _ early (through middle to late feeds) = through middle to (flows_on middle early late) feeds
