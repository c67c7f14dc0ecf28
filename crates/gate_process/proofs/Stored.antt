-- The processes of a design in two lists.
use Rattle.std.proofs.Common.{◌≡◌, ◌≢◌, ℕ, zero, suc, ◌+◌, ◌-◌, ◌<◌, ◌≤◌, Bool, true, false, List, [], ◌∷◌, ◌++◌, map, length, take, drop, replicate, option_map, Some, slice_get, slice_set, refl, ap, sym, subst, ◌∙◌, arith, ◌⊎◌, inl, inr}
use Rattle.std.proofs.lemmas.List.{append_assoc, take-append-drop, take_at, drop_at, drop-drop, length-append, length-map, length-take-le, length-drop, length-replicate, take-replicate, drop-replicate, set-get_or, with_items_is}
use Rattle.std.proofs.lemmas.Option.{same_Some, get_or_from_slice_get, slice_get-map}
use Rattle.std.proofs.Math.Seq.{take-add, map-set_same}
use Rattle.std.specs.Global.{Vec}
use Rattle.std.specs.Vec.{with_items, vec_len}
use Rattle.timing_text.specs.Ranges.{most_ticks}
use Rattle.design.specs.Circuit.{Net, Circuit, pin_count}
use Rattle.design.specs.Design.{DesignView, IsDesign}
use Rattle.design.specs.Pins.{first_pin}
use Rattle.design.proofs.CallerLemmas.{pin_count-cons, pins_after}
use Rattle.gate_process.specs.Knowledge.{Knowledge, nothing_known}
use Rattle.gate_process.specs.Outputs.{OutputView, state_of, process_of, started_output, nets_of, processes_of, AreStored}
use Rattle.gate_process.specs.Quiet.{AreAtRest}
use Rattle.gate_process.specs.Step.{ProcessView, running, started_process}
use Rattle.gate_process.specs.Truth.{IsProcess}
use Rattle.gate_process.proofs.Events.{get_of_map, started_is_process}
use Rattle.gate_process.proofs.Nets.{is_net}
use Rattle.gate_process.proofs.Quiet.{get_of_set}
use Rattle.gate_process.proofs.Starts.{map-same}

-- ---- a part of a list is written

-- some of a list, from a place on, replaced by as many others
abbrev pub put : {A : Type 0} → ℕ → ℕ → List A → List A → List A
put first count xs ys = take first xs ++ (ys ++ drop count (drop first xs))

put_split : {A : Type 0} (early first count : ℕ) (xs ys : List A) →
    put (early + first) count xs ys ≡ take early xs ++ put first count (drop early xs) ys
put_split early first count xs ys =
    ap (λ part. part ++ (ys ++ drop count (drop (early + first) xs))) (take-add early first xs)
    ∙ append_assoc (take early xs) (take first (drop early xs)) (ys ++ drop count (drop (early + first) xs))
    ∙ ap (λ part. take early xs ++ (take first (drop early xs) ++ (ys ++ drop count part))) (sym (drop-drop first early xs))

pub length-put : {A : Type 0} (first count : ℕ) (xs ys : List A) → first + count ≤ length xs → length ys ≡ count →
    length (put first count xs ys) ≡ length xs
length-put first count xs ys within long =
    omega (
      arith,
      length-append (take first xs) (ys ++ drop count (drop first xs)),
      length-append ys (drop count (drop first xs)),
      length-take-le first xs (omega arith),
      length-drop count (drop first xs),
      length-drop first xs,
    )

-- ---- one of some processes

pub length-processes_of : (outputs : List OutputView) (received : List Knowledge) → length (processes_of outputs received) ≡ length outputs
length-processes_of [] received = refl
length-processes_of (output ∷ outputs) received = ap suc (length-processes_of outputs (drop (length output.net.pins) received))

found_at : (outputs : List OutputView) (received : List Knowledge) (net : ℕ) (output : OutputView) → slice_get outputs net ≡ Some output →
    slice_get (processes_of outputs received) net
    ≡ Some (process_of output (take (length output.net.pins) (drop (first_pin (nets_of outputs) net) received)))
found_at [] received net output at = cc
found_at (first ∷ outputs) received zero output at =
    ap (λ (o : OutputView). Some (process_of o (take (length o.net.pins) received))) (same_Some first output at)
found_at (first ∷ outputs) received (suc net) output at =
    found_at outputs (drop (length first.net.pins) received) net output at
    ∙ ap (λ pins. Some (process_of output (take (length output.net.pins) pins)))
    (drop-drop (first_pin (nets_of outputs) net) (length first.net.pins) received)

written_at : (outputs : List OutputView) (received : List Knowledge) (net : ℕ) (output new : OutputView) (pins : List Knowledge) →
    slice_get outputs net ≡ Some output → new.net ≡ output.net → length pins ≡ length output.net.pins →
    first_pin (nets_of outputs) net + length output.net.pins ≤ length received →
    processes_of (slice_set outputs net new) (put (first_pin (nets_of outputs) net) (length output.net.pins) received pins)
    ≡ slice_set (processes_of outputs received) net (process_of new pins)
written_at [] received net output new pins at same long within = cc
written_at (first ∷ outputs) received zero output new pins at same long within =
    let old : length output.net.pins ≡ length first.net.pins = ap (λ (o : OutputView). length o.net.pins) (sym (same_Some first output at)) in
    let now : length pins ≡ length new.net.pins = long ∙ ap (λ (n : Net). length n.pins) (sym same) in
    let rest = drop (length output.net.pins) received in
    let here = take_at pins rest (length new.net.pins) now in
    let others = drop_at pins rest (length new.net.pins) now ∙ ap (λ n. drop n received) old in
    λ i. process_of new (here i) ∷ processes_of outputs (others i)
written_at (first ∷ outputs) received (suc net) output new pins at same long within =
    let count = length first.net.pins in
    let later = drop count received in
    let apart = put_split count (first_pin (nets_of outputs) net) (length output.net.pins) received pins in
    let early : length (take count received) ≡ count = length-take-le count received (omega arith) in
    let here = ap (take count) apart ∙ take_at (take count received) (put (first_pin (nets_of outputs) net) (length output.net.pins) later pins) count early in
    let others = ap (drop count) apart ∙ drop_at (take count received) (put (first_pin (nets_of outputs) net) (length output.net.pins) later pins) count early in
    let rest = written_at outputs later net output new pins at same long (omega (arith, within, length-drop count received)) in
    λ i. process_of first (here i) ∷ (ap (processes_of (slice_set outputs net new)) others ∙ rest) i

-- ---- one of those of a circuit

module _ (circuit : Circuit) (outputs : List OutputView) (received : List Knowledge) (stored : AreStored circuit outputs received)
    (net : ℕ) (output : OutputView) (at : slice_get outputs net ≡ Some output) where
  pub the_net : slice_get circuit net ≡ Some output.net
  the_net = ap (λ nets. slice_get nets net) (sym stored.nets) ∙ slice_get-map (λ (o : OutputView). o.net) outputs net
      ∙ ap (λ found. option_map (λ (o : OutputView). o.net) found) at

  pub pins_within : first_pin circuit net + length output.net.pins ≤ length received
  pins_within = omega (arith, pins_after circuit net output.net the_net, stored.pins)

  -- what its pins have received
  abbrev pub pins_of : List Knowledge
  pins_of = take (length output.net.pins) (drop (first_pin circuit net) received)

  pub long_pins : length pins_of ≡ length output.net.pins
  long_pins =
      length-take-le (length output.net.pins) (drop (first_pin circuit net) received)
      (omega (arith, pins_within, length-drop (first_pin circuit net) received))

  pub found : slice_get (processes_of outputs received) net ≡ Some (process_of output pins_of)
  found =
      found_at outputs received net output at
      ∙ ap (λ nets. Some (process_of output (take (length output.net.pins) (drop (first_pin nets net) received)))) stored.nets

  -- a running one is a process
  pub is_process : output.failed ≡ false → IsProcess (state_of output pins_of)
  is_process = stored.processes net (process_of output pins_of) found

  -- the output and what the pins have received are written
  module _ (new : OutputView) (pins : List Knowledge) (same : new.net ≡ output.net) (long : length pins ≡ length output.net.pins) where
    pub written : processes_of (slice_set outputs net new) (put (first_pin circuit net) (length output.net.pins) received pins)
        ≡ slice_set (processes_of outputs received) net (process_of new pins)
    written =
        subst (λ nets. processes_of (slice_set outputs net new) (put (first_pin nets net) (length output.net.pins) received pins)
        ≡ slice_set (processes_of outputs received) net (process_of new pins)) stored.nets
        (written_at outputs received net output new pins at same long
        (subst (λ nets. first_pin nets net + length output.net.pins ≤ length received) (sym stored.nets) pins_within))

    pub still_stored : (new.failed ≡ false → IsProcess (state_of new pins)) →
        AreStored circuit (slice_set outputs net new) (put (first_pin circuit net) (length output.net.pins) received pins)
    still_stored ok = record {
      nets = map-set_same (λ (o : OutputView). o.net) outputs net new output
          (same ∙ ap (λ (o : OutputView). o.net) (sym (get_or_from_slice_get outputs net output output at))) ∙ stored.nets;
      pins = length-put (first_pin circuit net) (length output.net.pins) received pins pins_within long ∙ stored.pins;
      processes = λ place process is runs.
          go place process (get_of_set (processes_of outputs received) net (process_of new pins) place process
          (ap (λ all. slice_get all place) (sym written) ∙ is)) runs;
    }
      where
        go : (place : ℕ) (process : ProcessView) →
            ((place ≡ net) × (process_of new pins ≡ process)) ⊎ ((place ≢ net) × (slice_get (processes_of outputs received) place ≡ Some process)) →
            process.failed ≡ false → IsProcess process.state
        go place process (inl (here, is)) runs =
            subst (λ (p : ProcessView). IsProcess p.state) is (ok (ap (λ (p : ProcessView). p.failed) is ∙ runs))
        go place process (inr (other, is)) runs = stored.processes place process is runs

-- ---- the net with a number, and its pins from one place up to another

pub counted : (circuit : Circuit) (outputs : List OutputView) (received : List Knowledge) → AreStored circuit outputs received →
    length outputs ≡ length circuit
counted circuit outputs received stored = sym (length-map outputs (λ (o : OutputView). o.net)) ∙ ap length stored.nets

-- one of some processes, whose pins are those from a place on, and what writing it makes
pub record Located (circuit : Circuit) (outputs : List OutputView) (received : List Knowledge) (net start count : ℕ)
    (slice : List Knowledge) (output : OutputView) : Type 0 where
  pub within : start + count ≤ length slice
  pub stands : slice_get (processes_of outputs received) net ≡ Some (process_of output (take count (drop start slice)))
  pub long : length (take count (drop start slice)) ≡ count
  pub written : (new : OutputView) (pins : List Knowledge) → new.net ≡ output.net → length pins ≡ count →
      processes_of (slice_set outputs net new) (put start count slice pins) ≡ slice_set (processes_of outputs received) net (process_of new pins)
  pub stored : (new : OutputView) (pins : List Knowledge) → new.net ≡ output.net → length pins ≡ count →
      (new.failed ≡ false → IsProcess (state_of new pins)) → AreStored circuit (slice_set outputs net new) (put start count slice pins)

pub located : (circuit : Circuit) (outputs : List OutputView) (received : List Knowledge) (net start end : ℕ) (slice : List Knowledge)
    (output : OutputView) → AreStored circuit outputs received → slice_get outputs net ≡ Some output → start ≡ first_pin circuit net →
    option_map (λ (n : Net). first_pin circuit net + length n.pins) (slice_get circuit net) ≡ Some end → slice ≡ received →
    Located circuit outputs received net start (end - start) slice output
located circuit outputs received net start end slice output stored at start_is end_is slice_is =
    let there = the_net circuit outputs received stored net output at in
    let last = same_Some _ end (ap (option_map (λ (n : Net). first_pin circuit net + length n.pins)) (sym there) ∙ end_is) in
    let count : length output.net.pins ≡ end - start = omega (arith, last, start_is) in
    subst (λ n. Located circuit outputs received net start n slice output) count
    (subst (λ from. Located circuit outputs received net from (length output.net.pins) slice output) (sym start_is)
    (subst (λ all. Located circuit outputs received net (first_pin circuit net) (length output.net.pins) all output) (sym slice_is) (record {
      within = pins_within circuit outputs received stored net output at;
      stands = found circuit outputs received stored net output at;
      long = long_pins circuit outputs received stored net output at;
      written = written circuit outputs received stored net output at;
      stored = still_stored circuit outputs received stored net output at;
    })))

-- what is written as it is
pub same_set : {A : Type 0} (xs : List A) (place : ℕ) (x : A) → slice_get xs place ≡ Some x → slice_set xs place x ≡ xs
same_set xs place x at = ap (slice_set xs place) (sym (get_or_from_slice_get xs place x x at)) ∙ set-get_or xs place x

-- what a list holds after a part of it was written
pub part_written : (v : Vec Knowledge) (start count : ℕ) (slice pins : List Knowledge) → length slice ≡ vec_len v →
    start + count ≤ length slice → length pins ≡ count → (with_items v (put start count slice pins)).items ≡ put start count slice pins
part_written v start count slice pins all within long =
    with_items_is v (put start count slice pins) (length-put start count slice pins within long ∙ all)

-- ---- what is stored where the pins are a vector

module _ (circuit : Circuit) (outputs : List OutputView) (v : Vec Knowledge) (net start count : ℕ) (slice : List Knowledge)
    (output : OutputView) (here : Located circuit outputs v.items net start count slice output) (all : length slice ≡ vec_len v)
    (new : OutputView) (pins : List Knowledge) (same : new.net ≡ output.net) (long : length pins ≡ length (take count (drop start slice))) where
  pub now_written : processes_of (slice_set outputs net new) (with_items v (put start count slice pins)).items
      ≡ slice_set (processes_of outputs v.items) net (process_of new pins)
  now_written =
      ap (processes_of (slice_set outputs net new)) (part_written v start count slice pins all here.within (long ∙ here.long))
      ∙ here.written new pins same (long ∙ here.long)

  pub now_stored : (new.failed ≡ false → IsProcess (state_of new pins)) →
      AreStored circuit (slice_set outputs net new) (with_items v (put start count slice pins)).items
  now_stored ok =
      subst (AreStored circuit (slice_set outputs net new)) (sym (part_written v start count slice pins all here.within (long ∙ here.long)))
      (here.stored new pins same (long ∙ here.long) ok)

-- ---- where an output alone is written

put_same : {A : Type 0} (first count : ℕ) (xs : List A) → put first count xs (take count (drop first xs)) ≡ xs
put_same first count xs = ap (λ rest. take first xs ++ rest) (take-append-drop count (drop first xs)) ∙ take-append-drop first xs

module _ (circuit : Circuit) (outputs : List OutputView) (received : List Knowledge) (stored : AreStored circuit outputs received)
    (net : ℕ) (output : OutputView) (at : slice_get outputs net ≡ Some output) (new : OutputView) (same : new.net ≡ output.net) where
  abbrev its_pins : List Knowledge
  its_pins = pins_of circuit outputs received stored net output at

  pub output_written : processes_of (slice_set outputs net new) received ≡ slice_set (processes_of outputs received) net (process_of new its_pins)
  output_written =
      ap (processes_of (slice_set outputs net new)) (sym (put_same (first_pin circuit net) (length output.net.pins) received))
      ∙ written circuit outputs received stored net output at new its_pins same (long_pins circuit outputs received stored net output at)

  pub output_stored : (new.failed ≡ false → IsProcess (state_of new its_pins)) → AreStored circuit (slice_set outputs net new) received
  output_stored ok =
      subst (AreStored circuit (slice_set outputs net new)) (put_same (first_pin circuit net) (length output.net.pins) received)
      (still_stored circuit outputs received stored net output at new its_pins same (long_pins circuit outputs received stored net output at) ok)

-- ---- which nets there are

pub in_outputs : (outputs : List OutputView) (received : List Knowledge) (processes : List ProcessView) (net : ℕ) →
    processes_of outputs received ≡ processes → net < length processes → net < length outputs
in_outputs outputs received processes net is below =
    subst (λ n. net < n) (ap length (sym is) ∙ length-processes_of outputs received) below

pub in_circuit : (circuit : Circuit) (outputs : List OutputView) (received : List Knowledge) (processes : List ProcessView) (net : ℕ) →
    AreStored circuit outputs received → processes_of outputs received ≡ processes → net < length processes → net < length circuit
in_circuit circuit outputs received processes net stored is below =
    subst (λ n. net < n) (counted circuit outputs received stored) (in_outputs outputs received processes net is below)

-- ---- how they begin

pub all_started : (end : ℕ) (circuit : Circuit) →
    processes_of (map (started_output end) circuit) (replicate (pin_count circuit) nothing_known)
    ≡ map (λ net. running (started_process end net)) circuit
all_started end [] = refl
all_started end (net ∷ nets) =
    let count = pin_count-cons net nets in
    let pins = take-replicate (length net.pins) (pin_count (net ∷ nets)) nothing_known (omega (arith, count)) ∙ sym (map-same net.pins nothing_known) in
    let rest : drop (length net.pins) (replicate (pin_count (net ∷ nets)) nothing_known) ≡ replicate (pin_count nets) nothing_known =
    drop-replicate (length net.pins) (pin_count (net ∷ nets)) nothing_known ∙ ap (λ n. replicate n nothing_known) (omega (arith, count)) in
    λ i. process_of (started_output end net) (pins i) ∷ (ap (processes_of (map (started_output end) nets)) rest ∙ all_started end nets) i

nets_started : (end : ℕ) (circuit : Circuit) → nets_of (map (started_output end) circuit) ≡ circuit
nets_started end [] = refl
nets_started end (net ∷ nets) = ap (λ rest. net ∷ rest) (nets_started end nets)

pub started_stored : (design : DesignView) (end : ℕ) (outputs : List OutputView) (received : List Knowledge) → IsDesign design → end ≤ most_ticks + 1 →
    outputs ≡ map (started_output end) design.circuit → received ≡ replicate (pin_count design.circuit) nothing_known →
    AreStored design.circuit outputs received
started_stored design end outputs received ok within outputs_are received_is = record {
  nets = ap nets_of outputs_are ∙ nets_started end design.circuit;
  pins = ap length received_is ∙ length-replicate (pin_count design.circuit) nothing_known;
  processes = λ net process is runs.
      let all = (λ i. processes_of (outputs_are i) (received_is i)) ∙ all_started end design.circuit in
      let here = get_of_map (λ n. running (started_process end n)) design.circuit net process (ap (λ ps. slice_get ps net) (sym all) ∙ is) in
      subst (λ (p : ProcessView). IsProcess p.state) (sym here.2) (started_is_process end here.0 (is_net design ok net here.0 here.1) within);
}

-- none of this number of flags is true
none_true : (count place : ℕ) → slice_get (replicate count false) place ≡ Some true → ⊥
none_true zero place e = cc
none_true (suc count) zero e = cc
none_true (suc count) (suc place) e = none_true count place e

pub none_at_rest : (processes : List ProcessView) (count : ℕ) (quiet : List Bool) (heard : List ℕ) → length processes ≡ count →
    quiet ≡ replicate count false → heard ≡ replicate count 0 → AreAtRest processes quiet heard
none_at_rest processes count quiet heard long quiet_is heard_is = record {
  flagged = record {
    flags = ap length quiet_is ∙ length-replicate count false ∙ sym long;
    stays = λ net process is flag runs. absurd (none_true count net (ap (λ flags. slice_get flags net) (sym quiet_is) ∙ flag));
  };
  pins = record {
    ticks = ap length heard_is ∙ length-replicate count 0 ∙ sym long;
    knows = λ net process tick is flag to runs. absurd (none_true count net (ap (λ flags. slice_get flags net) (sym quiet_is) ∙ flag));
  };
}
