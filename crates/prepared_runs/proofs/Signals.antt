-- A dump depends on what its signals show up to the horizon alone.
use Rattle.std.proofs.Common.{◌≡◌, ℕ, ◌+◌, ◌-◌, ◌≤◌, ◌==◌, ◌&&◌, not, if◌then◌else◌, List, [], ◌∷◌, ◌++◌, map, flat_map, refl, ap, ◌∙◌, arith}
use Rattle.std.specs.List.{enumerate_from}
use Rattle.logic3.specs.declared.value.Value.{Value}
use Rattle.logic3.specs.Value.{is_same}
use Rattle.logic3.specs.Wave.{Wave, value_at, wave_of}
use Rattle.logic3.proofs.CallerLemmas.{value_at-wave_of}
use Rattle.texts.specs.Text.{is_empty}
use Rattle.design.specs.Circuit.{Circuit}
use Rattle.design.specs.Design.{DesignView}
use Rattle.design.specs.Equations.{value_of}
use Rattle.vcd_dump.specs.declared.unit.TimeUnit.{TimeUnit}
use Rattle.vcd_dump.specs.Codes.{code_at}
use Rattle.vcd_dump.specs.Dump.{Variable, variable_at, declaration, change_text, change_line, time_line, changes_at, lines_at, dump_text}
use Rattle.vcd_dump.specs.Traces.{name_of, traces}
use Rattle.vcd_dump.proofs.CallerLemmas.{same_from}
use Rattle.prepared_runs.specs.declared.view.DumpView.{DumpView}
use Rattle.prepared_runs.specs.Source.{shown_nets, signals_of, dump_of_design}
use Rattle.prepared_runs.specs.Shown.{waves_up_to}

-- the shown nets with their codes, from a place on
abbrev variables_from : {A : Type 0} → (A → List ℕ × (ℕ → Value)) → ℕ → List A → List Variable
variables_from shown place xs = map variable_at (enumerate_from place (map shown xs))

-- what is written of each alike is written of all alike
flat_map-same : {A : Type 0} (first second : A → List ℕ × (ℕ → Value)) (write : Variable → List ℕ) →
    ((place : ℕ) (x : A) → write (variable_at (place, first x)) ≡ write (variable_at (place, second x))) → (place : ℕ) (xs : List A) →
    flat_map write (variables_from first place xs) ≡ flat_map write (variables_from second place xs)
flat_map-same first second write same place [] = refl
flat_map-same first second write same place (x ∷ xs) =
    let here = same place x in
    let rest = flat_map-same first second write same (place + 1) xs in cc

module _ {A : Type 0} (name : A → List ℕ) (first second : A → ℕ → Value) (horizon : ℕ)
    (same : (x : A) (tick : ℕ) → tick ≤ horizon → first x tick ≡ second x tick) (xs : List A) where
  changes_at-same : (tick : ℕ) → tick ≤ horizon →
      changes_at (variables_from (λ x. (name x, first x)) 0 xs) tick ≡ changes_at (variables_from (λ x. (name x, second x)) 0 xs) tick
  changes_at-same tick within =
      flat_map-same (λ x. (name x, first x)) (λ x. (name x, second x))
      (λ (v : Variable). if is_same (v.signal (tick - 1)) (v.signal tick) then [] else change_line tick v)
      (λ place x. rw (same x (tick - 1) (omega arith), same x tick within) refl) 0 xs

  lines_at-same : (tick : ℕ) → tick ≤ horizon →
      lines_at (variables_from (λ x. (name x, first x)) 0 xs) horizon tick ≡ lines_at (variables_from (λ x. (name x, second x)) 0 xs) horizon tick
  lines_at-same tick within =
      ap (λ changes. if is_empty changes && not (tick == horizon) then [] else time_line tick ++ changes) (changes_at-same tick within)

  -- signals that agree up to the horizon have the same dump
  pub dump_text-same : (unit : TimeUnit) →
      dump_text unit horizon (map (λ x. (name x, first x)) xs) ≡ dump_text unit horizon (map (λ x. (name x, second x)) xs)
  dump_text-same unit =
      let declared = flat_map-same (λ x. (name x, first x)) (λ x. (name x, second x)) declaration (λ place x. refl) 0 xs in
      let values = flat_map-same (λ x. (name x, first x)) (λ x. (name x, second x)) (change_line 0)
      (λ place x. ap (λ value. change_text value (code_at place)) (same x 0 (omega arith))) 0 xs in
      let changes = same_from (lines_at (variables_from (λ x. (name x, first x)) 0 xs) horizon)
      (lines_at (variables_from (λ x. (name x, second x)) 0 xs) horizon) 1 horizon (λ tick a b. lines_at-same tick (omega arith)) in
      rw (declared, values, changes) refl

-- what waveforms of nets show
pub traces-map : (circuit : Circuit) (wave : ℕ → Wave) (nets : List ℕ) →
    traces circuit nets (map wave nets) ≡ map (λ net. (name_of circuit net, value_at (wave net))) nets
traces-map circuit wave [] = refl
traces-map circuit wave (net ∷ nets) = ap (λ shown. (name_of circuit net, value_at (wave net)) ∷ shown) (traces-map circuit wave nets)

-- the dump of waveforms up to the horizon is the dump of the signals
pub dump_text-waves : (unit : TimeUnit) (horizon : ℕ) (circuit : Circuit) (nets : List ℕ) →
    dump_text unit horizon (traces circuit nets (waves_up_to circuit horizon nets)) ≡ dump_text unit horizon (signals_of circuit nets)
dump_text-waves unit horizon circuit nets =
    ap (dump_text unit horizon) (traces-map circuit (λ net. wave_of (value_of circuit net) 0 (horizon + 1)) nets)
    ∙ dump_text-same (name_of circuit) (λ net. value_at (wave_of (value_of circuit net) 0 (horizon + 1))) (value_of circuit) horizon
    (λ net tick within. value_at-wave_of (value_of circuit net) 0 (horizon + 1) tick (omega arith) (omega arith)) nets unit

-- so what is dumped of the shown nets' waveforms is the answer's text
pub dump_of_design-waves : (view : DumpView) (horizon : ℕ) (design : DesignView) (nets : List ℕ) (waves : List Wave) →
    nets ≡ shown_nets view.show design.netlist → waves ≡ waves_up_to design.circuit horizon nets →
    dump_text view.unit horizon (traces design.circuit nets waves) ≡ dump_of_design view horizon design
unfolding dump_of_design
dump_of_design-waves view horizon design nets waves are show =
    ap (λ ws. dump_text view.unit horizon (traces design.circuit nets ws)) show
    ∙ dump_text-waves view.unit horizon design.circuit nets
    ∙ ap (λ ns. dump_text view.unit horizon (signals_of design.circuit ns)) are

-- what is dumped of the shown nets is the answer's text
pub dump_of_design-nets : (view : DumpView) (horizon : ℕ) (design : DesignView) (nets : List ℕ) → nets ≡ shown_nets view.show design.netlist →
    dump_text view.unit horizon (signals_of design.circuit nets) ≡ dump_of_design view horizon design
unfolding dump_of_design
dump_of_design-nets view horizon design nets are = ap (λ ns. dump_text view.unit horizon (signals_of design.circuit ns)) are
