-- The circuit of a design by the stored parts.
use Rattle.std.proofs.Common.{◌≡◌, ℕ, zero, suc, ◌<◌, List, [], ◌∷◌, length, map, get_or, position, Option, None, option_map, Some, slice_get, bytes_eq, refl, ap, sym, ◌∙◌, arith}
use Rattle.std.specs.List.{zip}
use Rattle.std.proofs.lemmas.List.{length-map}
use Rattle.std.proofs.lemmas.Option.{slice_get-map, slice_get-get_or, none-some, same_Some}
use Rattle.std.proofs.lemmas.Simd.{map-map}
use Rattle.std.proofs.lemmas.Slice.Zip.{length-zip, firsts-zip, seconds-zip}
use Rattle.logic3.specs.declared.change.Change.{Change}
use Rattle.netlist.specs.Netlist.{NetView, net_named}
use Rattle.netlist.proofs.CallerLemmas.{position-map}
use Rattle.timing_text.specs.declared.timing.Timing.{Timing}
use Rattle.design.specs.Circuit.{Net}
use Rattle.design.specs.Design.{DesignView, IsDesign, untimed}
use Rattle.design.specs.Joined.{timed_net, timed_nets}

-- a part of the net at a place, where the parts of all nets are known
pub get_part : {A B : Type 0} (part : A → B) (xs : List A) (ys : List B) (place : ℕ) (d : B) → map part xs ≡ ys → place < length xs →
    option_map part (slice_get xs place) ≡ Some (get_or ys place d)
get_part part xs ys place d same within =
    let long : length xs ≡ length ys = sym (length-map xs part) ∙ ap length same in
    sym (slice_get-map part xs place) ∙ ap (λ zs. slice_get zs place) same ∙ slice_get-get_or ys place d (omega arith)

-- two lists side by side at a place
pub get_or-zip : {A B : Type 0} (xs : List A) (ys : List B) (place : ℕ) (d : A × B) → place < length (zip xs ys) →
    get_or (zip xs ys) place d ≡ (get_or xs place d.0, get_or ys place d.1)
get_or-zip [] ys place d within = absurd (omega arith)
get_or-zip (x ∷ xs) [] place d within = absurd (omega arith)
get_or-zip (x ∷ xs) (y ∷ ys) zero d within = refl
get_or-zip (x ∷ xs) (y ∷ ys) (suc place) d within = get_or-zip xs ys place d (omega arith)

-- what is known of two parts is known of each
pub first_part : {A B C : Type 0} (f : A → B) (g : A → C) (place : Option A) (both : B × C) →
    option_map (λ x. (f x, g x)) place ≡ Some both → option_map f place ≡ Some both.0
first_part f g None both is = absurd (none-some both is)
first_part f g (Some x) both is = ap (λ (pair : _ × _). Some pair.0) (same_Some (f x, g x) both is)

pub second_part : {A B C : Type 0} (f : A → B) (g : A → C) (place : Option A) (both : B × C) →
    option_map (λ x. (f x, g x)) place ≡ Some both → option_map g place ≡ Some both.1
second_part f g None both is = absurd (none-some both is)
second_part f g (Some x) both is = ap (λ (pair : _ × _). Some pair.1) (same_Some (f x, g x) both is)

module _ (nets : List NetView) (timings : List (Timing × List ℕ)) (stimuli : List (List Change))
    (some_timing : length timings ≡ length nets) (some_stimuli : length stimuli ≡ length nets) where
  both : length (zip timings stimuli) ≡ length nets
  both = length-zip timings stimuli ∙ omega arith

  pub untimed-timed_nets : map untimed (timed_nets nets timings stimuli) ≡ nets
  untimed-timed_nets = map-map untimed timed_net (zip nets (zip timings stimuli)) ∙ firsts-zip nets (zip timings stimuli) both

  pub timings-timed_nets : map (λ (net : Net). (net.timing, net.wires)) (timed_nets nets timings stimuli) ≡ timings
  timings-timed_nets =
      map-map (λ (net : Net). (net.timing, net.wires)) timed_net (zip nets (zip timings stimuli))
      ∙ sym (map-map (λ (t : (Timing × List ℕ) × List Change). t.0) (λ (t : NetView × ((Timing × List ℕ) × List Change)). t.1)
      (zip nets (zip timings stimuli)))
      ∙ ap (map (λ (t : (Timing × List ℕ) × List Change). t.0)) (seconds-zip nets (zip timings stimuli) both)
      ∙ firsts-zip timings stimuli (omega arith)

  pub stimuli-timed_nets : map (λ (net : Net). net.stimuli) (timed_nets nets timings stimuli) ≡ stimuli
  stimuli-timed_nets =
      map-map (λ (net : Net). net.stimuli) timed_net (zip nets (zip timings stimuli))
      ∙ sym (map-map (λ (t : (Timing × List ℕ) × List Change). t.1) (λ (t : NetView × ((Timing × List ℕ) × List Change)). t.1)
      (zip nets (zip timings stimuli)))
      ∙ ap (map (λ (t : (Timing × List ℕ) × List Change). t.1)) (seconds-zip nets (zip timings stimuli) both)
      ∙ seconds-zip timings stimuli (omega arith)

-- a net has the same number in the netlist and in the circuit
pub net_named-circuit : (design : DesignView) → IsDesign design → (name : List ℕ) →
    net_named design.netlist name ≡ position (λ (net : Net). bytes_eq net.name name) design.circuit
net_named-circuit design ok name =
    ap (position (λ (net : NetView). bytes_eq net.name name)) (sym ok.same_nets)
    ∙ position-map untimed (λ (net : NetView). bytes_eq net.name name) design.circuit
