-- What waveforms show, as signals.
use Rattle.std.proofs.Common.{◌≡◌, ℕ, ◌+◌, List, [], ◌∷◌, ◌++◌, length, map, flat_map, All, refl, ap, subst, sym, ◌∙◌, arith, append_assoc, codes}
use Rattle.std.proofs.lemmas.List.{length-map}
use Rattle.std.specs.List.{enumerate_from, range_with_len}
use Rattle.std.proofs.lemmas.List.Elements.{All-head, All-tail}
use Rattle.logic3.specs.declared.value.Value.TheVariants.{Unknown}
use Rattle.logic3.specs.declared.change.Change.{Change}
use Rattle.logic3.specs.Wave.{Wave, IsWave, value_at, changes_between}
use Rattle.logic3.proofs.CallerLemmas.{changes_between-value_after}
use Rattle.design.specs.Circuit.{Circuit}
use Rattle.vcd_dump.specs.declared.unit.TimeUnit.{TimeUnit}
use Rattle.texts.specs.Written.{line}
use Rattle.vcd_dump.specs.Lines.{LineView}
use Rattle.vcd_dump.specs.Dump.{Trace, variable_at, variables_of, declaration, declarations, heading, time_line_after, first_values, lines_at, dump_text}
use Rattle.vcd_dump.specs.Traces.{EndsBy, name_of, traces, named}
use Rattle.vcd_dump.specs.Spans.{span_lines, span_text, latest, IsPart, parts_of, shown_signals, whole_text}
use Rattle.vcd_dump.specs.Written.{InOrder}
use Rattle.vcd_dump.proofs.Gathered.{OfSpan-parts}
use Rattle.vcd_dump.proofs.Stepped.{Stepped, Stepped-in_order}
use Rattle.vcd_dump.proofs.Streams.{IsPart-parts_of}
use Rattle.vcd_dump.proofs.Wholes.{dump_text-whole}

-- the changes of waveforms
abbrev pub changes_of : List Wave → List (List Change)
changes_of waves = map (λ (wave : Wave). wave.changes) waves

-- waveforms that a dump can show up to a horizon
pub record AreShown (horizon : ℕ) (waves : List Wave) : Type 0 where
  pub rises : All IsWave waves
  pub unknown : All (λ (wave : Wave). wave.before ≡ Unknown) waves
  pub within : All (EndsBy horizon) waves

-- the changes of a waveform are those of its signal
changes-is : (horizon : ℕ) (wave : Wave) → IsWave wave → wave.before ≡ Unknown → EndsBy horizon wave →
    wave.changes ≡ changes_between (value_at wave) 0 (horizon + 1)
changes-is horizon wave rise unknown within =
    sym (changes_between-value_after wave.before wave.changes 0 (horizon + 1) rise
    (λ k d a. let last = within k d a in omega arith) (sym unknown))

pub changes_of-is : (horizon : ℕ) (waves : List Wave) → AreShown horizon waves → changes_of waves ≡ parts_of (map value_at waves) 0 (horizon + 1)
changes_of-is horizon [] shown = refl
changes_of-is horizon (wave ∷ waves) shown =
    let here = changes-is horizon wave (All-head IsWave wave waves shown.rises)
    (All-head (λ (w : Wave). w.before ≡ Unknown) wave waves shown.unknown) (All-head (EndsBy horizon) wave waves shown.within) in
    let rest = changes_of-is horizon waves (record {
      rises = All-tail IsWave wave waves shown.rises;
      unknown = All-tail (λ (w : Wave). w.before ≡ Unknown) wave waves shown.unknown;
      within = All-tail (EndsBy horizon) wave waves shown.within;
    }) in
    λ i. here i ∷ rest i

-- ---- the names of the nets that they show

names_of : (circuit : Circuit) (place : ℕ) (shown : List ℕ) (waves : List Wave) → length waves ≡ length shown →
    flat_map declaration (map variable_at (enumerate_from place (traces circuit shown waves)))
    ≡ flat_map declaration (map variable_at (enumerate_from place (map (λ net. (name_of circuit net, λ tick. Unknown)) shown)))
names_of circuit place [] waves same = refl
names_of circuit place (net ∷ shown) [] same = absurd (omega arith)
names_of circuit place (net ∷ shown) (wave ∷ waves) same =
    ap (λ ds. declaration (variable_at (place, (name_of circuit net, value_at wave))) ++ ds)
    (names_of circuit (place + 1) shown waves (omega arith))

-- what stands behind the declarations
abbrev pub behind : ℕ → List Trace → List ℕ
behind horizon all = first_values (variables_of all) ++ flat_map (lines_at (variables_of all) horizon) (range_with_len 1 horizon)

shown_signals-traces : (circuit : Circuit) (shown : List ℕ) (waves : List Wave) → length waves ≡ length shown →
    shown_signals (traces circuit shown waves) ≡ map value_at waves
shown_signals-traces circuit [] [] same = refl
shown_signals-traces circuit [] (wave ∷ waves) same = absurd (omega arith)
shown_signals-traces circuit (net ∷ shown) [] same = absurd (omega arith)
shown_signals-traces circuit (net ∷ shown) (wave ∷ waves) same =
    ap (λ ss. value_at wave ∷ ss) (shown_signals-traces circuit shown waves (omega arith))

-- their dump begins with the declarations
pub dump_text-declared : (unit : TimeUnit) (horizon : ℕ) (circuit : Circuit) (shown : List ℕ) (waves : List Wave) → length waves ≡ length shown →
    declarations unit (named circuit shown) ++ behind horizon (traces circuit shown waves) ≡ dump_text unit horizon (traces circuit shown waves)
dump_text-declared unit horizon circuit shown waves same =
    let all = traces circuit shown waves in
    (λ i. (heading unit ++ sym (names_of circuit 0 shown waves same) i ++ line (codes "$upscope $end") ++ line (codes "$enddefinitions $end"))
    ++ behind horizon all)
    ∙ sym (append_assoc (declarations unit (variables_of all)) (first_values (variables_of all))
    (flat_map (lines_at (variables_of all) horizon) (range_with_len 1 horizon)))

-- the three pieces of their dump
pub dump_text-waves : (unit : TimeUnit) (horizon : ℕ) (circuit : Circuit) (shown : List ℕ) (waves : List Wave) → length waves ≡ length shown →
    AreShown horizon waves →
    declarations unit (named circuit shown) ++ span_text 0 (horizon + 1) (changes_of waves)
    ++ time_line_after (latest 0 (span_lines 0 (changes_of waves))) horizon
    ≡ dump_text unit horizon (traces circuit shown waves)
dump_text-waves unit horizon circuit shown waves same are =
    let parts = changes_of-is horizon waves are in
    let names = names_of circuit 0 shown waves same in
    append_assoc (declarations unit (named circuit shown)) (span_text 0 (horizon + 1) (changes_of waves))
    (time_line_after (latest 0 (span_lines 0 (changes_of waves))) horizon)
    ∙ (λ i. declarations unit (named circuit shown)
    ++ (span_text 0 (horizon + 1) (parts i) ++ time_line_after (latest 0 (span_lines 0 (parts i))) horizon))
    ∙ (λ i. (heading unit ++ sym names i ++ line (codes "$upscope $end") ++ line (codes "$enddefinitions $end"))
    ++ whole_text horizon (sym (shown_signals-traces circuit shown waves same) i))
    ∙ dump_text-whole unit horizon (traces circuit shown waves)

-- their lines in order
pub Stepped-waves : (nets horizon : ℕ) (waves : List Wave) (sorted : List LineView) → nets ≡ length waves → AreShown horizon waves →
    InOrder (span_lines 0 (changes_of waves)) sorted → Stepped nets 0 0 (horizon + 1) (span_lines 0 (changes_of waves)) sorted
Stepped-waves nets horizon waves sorted count are order =
    let parts = changes_of-is horizon waves are in
    Stepped-in_order nets 0 0 (horizon + 1) (span_lines 0 (changes_of waves)) sorted order
    (OfSpan-parts nets 0 (horizon + 1) (changes_of waves) (omega arith)
    (length-map waves (λ (wave : Wave). wave.changes) ∙ sym count)
    (subst (All (IsPart 0 (horizon + 1))) (sym parts) (IsPart-parts_of (map value_at waves) 0 (horizon + 1)))) (omega arith) (omega arith)
