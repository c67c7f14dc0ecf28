use Rattle.std.proofs.Common.{◌≡◌, ℕ, ◌+◌, ◌<◌, ◌≤◌, List, [], ◌∷◌, ◌++◌, ◌∙◌, ap, sym, subst, suc, length, get_or, take, drop, drop-cons, add-one, map, flat_map, append_assoc, append-nil, arith}
use Rattle.std.specs.List.{AllByRecursion, enumerate_from}
use Rattle.std.proofs.lemmas.List.{take_all, drop_all}
use Rattle.std.proofs.lemmas.List.Elements.{All-from_recursion, recursion_from_All, All-more, All-same, All-weaker}
use Rattle.logic3.specs.declared.change.Change.{Change}
use Rattle.logic3.specs.Wave.{Wave, IsWave}
use Rattle.vcd_dump.specs.Lines.{LineView}
use Rattle.vcd_dump.specs.Spans.{lines_of, span_lines}
use Rattle.vcd_dump.specs.Traces.{EndsBy}
use Rattle.vcd_dump.proofs.Gathered.{EachTick, EachLine-span_lines}
use Rattle.vcd_dump.proofs.gathering.gather_waves.Goals as goal

-- the lines of the nets from a place on
abbrev rest : ℕ → List Wave → List LineView
rest place waves = flat_map (lines_of 0) (enumerate_from place (map (λ (wave : Wave). wave.changes) (drop place waves)))

-- one more net
next_net : (place : ℕ) (waves : List Wave) (done more : List LineView) (wave : Wave) (changes : List Change) → place < length waves →
    wave ≡ get_or waves place wave → changes ≡ wave.changes → more ≡ done ++ lines_of 0 (place, changes) →
    more ++ rest (place + 1) waves ≡ done ++ rest place waves
next_net place waves done more wave changes within is same gathered =
    let read : drop place waves ≡ wave ∷ drop (place + 1) waves =
    rw add-one (drop-cons waves place wave within ∙ ap (λ w. w ∷ drop (suc place) waves) (sym is)) in
    ap (λ xs. xs ++ rest (place + 1) waves) (gathered ∙ ap (λ cs. done ++ lines_of 0 (place, cs)) same)
    ∙ append_assoc done (lines_of 0 (place, wave.changes)) (rest (place + 1) waves)
    ∙ ap (λ ws. done ++ flat_map (lines_of 0) (enumerate_from place (map (λ (w : Wave). w.changes) ws))) (sym read)

pub loop-place-preserved : goal.loop-place-preserved
loop-place-preserved c =
    let waves = c.args.waves.now in
    let place = c.loop-place.place in
    let within : place < length waves = omega arith in
    record {
      lines = next_net place waves _ _ _ _ within c.index-waves-place.is c.changes.ensures.changes c.in_ok-gather.ensures ∙ c.loop-place.invariant.lines;
      rises = All-more IsWave waves place _ within c.loop-place.invariant.rises
          (subst IsWave c.index-waves-place.is c.changes.ensures.alternates);
    }

-- the lines are no later than the horizon
ends_by : (horizon : ℕ) (waves : List Wave) → AllByRecursion (EndsBy horizon) waves →
    AllByRecursion (EachTick (λ tick. tick < 0 + (horizon + 1))) (map (λ (wave : Wave). wave.changes) waves)
ends_by horizon [] all = tt
ends_by horizon (wave ∷ waves) all = (
  recursion_from_All (λ (change : Change). change.tick < 0 + (horizon + 1)) wave.changes
      (All-weaker (λ (change : Change). change.tick ≤ horizon) (λ (change : Change). change.tick < 0 + (horizon + 1))
      (λ change early. omega arith) wave.changes all.0),
  ends_by horizon waves all.1,
)

pub sort-requires-clause-ticks : goal.sort-requires-clause-ticks
sort-requires-clause-ticks c =
    let waves = c.args.waves.now in
    let lines = c.loop-place.lines.items in
    let parts = map (λ (wave : Wave). wave.changes) waves in
    let P : LineView → Type 0 = λ line. line.tick < 0 + (c.args.horizon + 1) in
    let none : drop c.loop-place.place waves ≡ [] = drop_all c.loop-place.place waves (omega arith) in
    let is : lines ≡ span_lines 0 parts =
    sym (append-nil lines)
    ∙ ap (λ ws. lines ++ flat_map (lines_of 0) (enumerate_from c.loop-place.place (map (λ (wave : Wave). wave.changes) ws))) (sym none)
    ∙ c.loop-place.invariant.lines in
    All-same P lines (span_lines 0 parts) is
    (All-from_recursion P (span_lines 0 parts) (EachLine-span_lines (λ tick. tick < 0 + (c.args.horizon + 1)) 0 parts (λ e. omega arith)
    (ends_by c.args.horizon waves (recursion_from_All (EndsBy c.args.horizon) waves c.requires.ticks))))

pub returns-clause-rises : goal.returns-clause-rises
returns-clause-rises c =
    let waves = c.args.waves.now in
    All-same IsWave waves (take c.loop-place.place waves) (sym (take_all c.loop-place.place waves (omega arith))) c.loop-place.invariant.rises
