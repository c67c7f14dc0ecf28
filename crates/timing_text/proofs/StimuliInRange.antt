-- The stimuli of a text rise in their range, and stand at inputs alone.
use Rattle.std.proofs.Common.{◌≡◌, ◌≢◌, ℕ, ◌<◌, ◌≤◌, Bool, true, false, cond, not, ltb, List, [], ◌∷◌, ◌++◌, length, map, filter, get_or, Ok, Err, Option, None, Some, All, option_map, ◌⊎◌, inl, inr, refl, sym, ap, ◌∙◌, subst, true≢false, arith}
use Rattle.std.specs.Option.{option_map_or}
use Rattle.std.specs.Str.{bytes_eq}
use Rattle.std.proofs.lemmas.Bool.{cases_eq, ltb-false}
use Rattle.std.proofs.lemmas.List.Elements.{All-nil, All-head, All-tail, All-push, All-map, All-filter, All-weaker, All-from_get_or}
use Rattle.std.proofs.lemmas.Slice.Eq.{bytes_eq-Decides}
use Rattle.logic3.specs.declared.value.Value.{Value}
use Rattle.logic3.specs.declared.change.Change.{Change}
use Rattle.netlist.specs.declared.part.Part.{Part}
use Rattle.netlist.specs.declared.part.Part.TheVariants.{Input, Gate, Flop}
use Rattle.logic3.specs.Rising.{TicksRise}
use Rattle.texts.specs.Text.{code_lines}
use Rattle.texts.specs.Fold.{fold_text}
use Rattle.netlist.specs.Netlist.{NetView, NetlistView, net_named, net_at}
use Rattle.timing_text.specs.declared.fault.StimulusFault.TheVariants.{TooLong, BadLine, NotAnInput, TickTooLarge, BadValue, NotRising}
use Rattle.timing_text.specs.Ranges.{most_ticks, HasStimuli}
use Rattle.netlist.specs.Part.{is_input}
use Rattle.timing_text.specs.Words.{find_net, value_of_word}
use Rattle.timing_text.specs.Stimuli.{StimulusLine, NamedChange, named_change, stimulus_in, stimulus_at, stimulus_or_fault, with_stimulus, stimuli_after, stimuli_of, stimuli_named}
use Rattle.netlist.proofs.CallerLemmas.{HasDistinctNames, no_net, net_at-named, names-differ}
use Rattle.timing_text.proofs.Rising.{is_reached}
use Rattle.timing_text.proofs.StimuliNamed.{TicksRise-more}
use Rattle.texts.proofs.CallerLemmas.{bind-Ok, fold_lines-keeps, unless_too_long-Ok}

-- a change of the input of this number, not past the last tick
record IsStimulus (netlist : NetlistView) (s : NamedChange) : Type 0 where
  net : ℕ
  within : net < length netlist.nets
  named : (net_at netlist net).name ≡ s.name
  driven : is_input (net_at netlist net).part ≡ true
  in_time : s.change.tick ≤ most_ticks

stimulus_at-Ok : (netlist : NetlistView) (line : ℕ) (s : StimulusLine) (given : NamedChange) (net : NetView) → stimulus_at line s (Some net) ≡ Ok given →
    (is_input net.part ≡ true) × (s.tick ≤ most_ticks) × (s.name ≡ given.name) × (s.tick ≡ given.change.tick)
stimulus_at-Ok netlist line s given net same = go (is_input net.part) (ltb most_ticks s.tick) (value_of_word s.value) refl refl same
  where
    go : (input late : Bool) (meant : Option Value) → is_input net.part ≡ input → ltb most_ticks s.tick ≡ late →
        cond (not input) (Err (NotAnInput line))
        (cond late (Err (TickTooLarge line)) (option_map_or (λ value. Ok (named_change s value)) meant (Err (BadValue line))))
        ≡ Ok given →
        (is_input net.part ≡ true) × (s.tick ≤ most_ticks) × (s.name ≡ given.name) × (s.tick ≡ given.change.tick)
    go false late meant driven in_time same = (cc)
    go true true meant driven in_time same = (cc)
    go true false None driven in_time same = (cc)
    go true false (Some value) driven in_time same =
        let equal : named_change s value ≡ given = (cc) in
        (driven, ltb-false most_ticks s.tick in_time, ap (λ (s : NamedChange). s.name) equal, ap (λ (s : NamedChange). s.change.tick) equal)

stimulus_or_fault-IsStimulus : (netlist : NetlistView) (line : ℕ × List ℕ) (given : NamedChange) → stimulus_or_fault netlist line ≡ Ok given →
    IsStimulus netlist given
stimulus_or_fault-IsStimulus netlist (line, code) given same = go (stimulus_in code) same
  where
    at : (s : StimulusLine) (found : Option ℕ) → net_named netlist s.name ≡ found → stimulus_at line s (option_map (net_at netlist) found) ≡ Ok given →
        IsStimulus netlist given
    at s None named same = (cc)
    at s (Some net) named same =
        let fit = stimulus_at-Ok netlist line s given (net_at netlist net) same in
        let own = net_at-named netlist s.name net named in
        record { net = net; within = own.0; named = own.1 ∙ fit.2; driven = fit.0; in_time = omega (arith, fit.1, fit.3) }

    go : (read : Option StimulusLine) →
        option_map_or (λ (s : StimulusLine). stimulus_at line s (find_net netlist s.name)) read (Err (BadLine line)) ≡ Ok given →
        IsStimulus netlist given
    go None same = (cc)
    go (Some s) same = at s (net_named netlist s.name) refl same

with_stimulus-more : (earlier more : List NamedChange) (line : ℕ) (s : NamedChange) → with_stimulus earlier line s ≡ Ok more →
    (is_reached s.change.tick (stimuli_named earlier s.name) ≡ false) × (earlier ++ s ∷ [] ≡ more)
with_stimulus-more earlier more line s same = go (is_reached s.change.tick (stimuli_named earlier s.name)) refl same
  where
    go : (reached : Bool) → is_reached s.change.tick (stimuli_named earlier s.name) ≡ reached →
        cond reached (Err (NotRising line)) (Ok (earlier ++ s ∷ [])) ≡ Ok more →
        (is_reached s.change.tick (stimuli_named earlier s.name) ≡ false) × (earlier ++ s ∷ [] ≡ more)
    go true test same = (cc)
    go false test same = (test, (cc))

-- what holds of all stimuli that a text gives
record AreStimuli (netlist : NetlistView) (stimuli : List NamedChange) : Type 0 where
  each : All (IsStimulus netlist) stimuli
  rise : (name : List ℕ) → TicksRise (stimuli_named stimuli name)

stimuli_after-AreStimuli : (netlist : NetlistView) (earlier more : List NamedChange) (line : ℕ × List ℕ) → AreStimuli netlist earlier →
    stimuli_after netlist earlier line ≡ Ok more → AreStimuli netlist more
stimuli_after-AreStimuli netlist earlier more line fit same =
    let given = bind-Ok (stimulus_or_fault netlist line) (with_stimulus earlier line.0) more same in
    let s = given.0 in
    let added = with_stimulus-more earlier more line.0 s given.2 in
    let fits : AreStimuli netlist (earlier ++ s ∷ []) = record {
      each = All-push (IsStimulus netlist) earlier s fit.each (stimulus_or_fault-IsStimulus netlist line s given.1);
      rise = TicksRise-more earlier s fit.rise added.0;
    } in
    subst (AreStimuli netlist) added.1 fits

stimuli_of-AreStimuli : (netlist : NetlistView) (text : List ℕ) (stimuli : List NamedChange) → stimuli_of netlist text ≡ Ok stimuli → AreStimuli netlist stimuli
stimuli_of-AreStimuli netlist text stimuli same =
    fold_lines-keeps (stimuli_after netlist) (λ given left. AreStimuli netlist given)
    (λ earlier more line rest fit step. stimuli_after-AreStimuli netlist earlier more line fit step)
    (code_lines text) [] stimuli none (unless_too_long-Ok TooLong (fold_text (stimuli_after netlist) []) text stimuli same)
  where
    none : AreStimuli netlist []
    none = record { each = All-nil (IsStimulus netlist); rise = λ name i j d before within. absurd (omega arith) }

-- a name that no stimulus has
stimuli_named-none : (stimuli : List NamedChange) (name : List ℕ) → All (λ (s : NamedChange). s.name ≢ name) stimuli → stimuli_named stimuli name ≡ []
stimuli_named-none [] name apart = refl
stimuli_named-none (s ∷ stimuli) name apart =
    go (bytes_eq s.name name) refl
    (stimuli_named-none stimuli name (All-tail (λ (s : NamedChange). s.name ≢ name) s stimuli apart))
  where
    go : (same : Bool) → bytes_eq s.name name ≡ same → stimuli_named stimuli name ≡ [] →
        map (λ (s : NamedChange). s.change)
        (cond same (s ∷ filter (λ (s : NamedChange). bytes_eq s.name name) stimuli) (filter (λ (s : NamedChange). bytes_eq s.name name) stimuli))
        ≡ []
    go true same none =
        absurd (All-head (λ (s : NamedChange). s.name ≢ name) s stimuli apart ((bytes_eq-Decides s.name name).0 same))
    go false same none = none

-- such as that of a net that is no input
none-at : (netlist : NetlistView) (stimuli : List NamedChange) (place : ℕ) → HasDistinctNames netlist.nets → All (IsStimulus netlist) stimuli →
    place < length netlist.nets → is_input (get_or netlist.nets place no_net).part ≡ false →
    stimuli_named stimuli (get_or netlist.nets place no_net).name ≡ []
none-at netlist stimuli place distinct each within undriven =
    stimuli_named-none stimuli (get_or netlist.nets place no_net).name
    (All-weaker (IsStimulus netlist) (λ (s : NamedChange). s.name ≢ (get_or netlist.nets place no_net).name)
    (λ s fits same. go s fits same (cases_eq fits.net place)) stimuli each)
  where
    go : (s : NamedChange) (fits : IsStimulus netlist s) → s.name ≡ (get_or netlist.nets place no_net).name →
        (fits.net ≡ place) ⊎ (fits.net ≢ place) → ⊥
    go s fits same (inl here) =
        true≢false (sym fits.driven ∙ ap (λ net. is_input (get_or netlist.nets net no_net).part) here ∙ undriven)
    go s fits same (inr apart) =
        names-differ netlist.nets place fits.net distinct within fits.within apart (fits.named ∙ same)

-- no stimulus is past the last tick
in_time-at : (netlist : NetlistView) (stimuli : List NamedChange) (name : List ℕ) → All (IsStimulus netlist) stimuli →
    All (λ (change : Change). change.tick ≤ most_ticks) (stimuli_named stimuli name)
in_time-at netlist stimuli name each =
    All-map (λ (change : Change). change.tick ≤ most_ticks) (λ (s : NamedChange). s.change) (filter (λ (s : NamedChange). bytes_eq s.name name) stimuli)
    (All-filter (λ (s : NamedChange). bytes_eq s.name name) (λ (s : NamedChange). s.change.tick ≤ most_ticks) stimuli
    (All-weaker (IsStimulus netlist) (λ (s : NamedChange). s.change.tick ≤ most_ticks) (λ s fits. fits.in_time) stimuli each))

-- so each net has stimuli that its part may have
pub HasStimuli-stimuli_of : (netlist : NetlistView) (text : List ℕ) (stimuli : List NamedChange) → HasDistinctNames netlist.nets →
    stimuli_of netlist text ≡ Ok stimuli → All (λ (net : NetView). HasStimuli net.part (stimuli_named stimuli net.name)) netlist.nets
HasStimuli-stimuli_of netlist text stimuli distinct given =
    All-from_get_or (λ (net : NetView). HasStimuli net.part (stimuli_named stimuli net.name)) netlist.nets no_net
    (λ place within. at place within (get_or netlist.nets place no_net).part refl)
  where
    fit : AreStimuli netlist stimuli
    fit = stimuli_of-AreStimuli netlist text stimuli given

    at : (place : ℕ) → place < length netlist.nets → (part : Part) → (get_or netlist.nets place no_net).part ≡ part →
        HasStimuli part (stimuli_named stimuli (get_or netlist.nets place no_net).name)
    at place within Input is =
        let name = (get_or netlist.nets place no_net).name in
        (in_time-at netlist stimuli name fit.each, fit.rise name)
    at place within (Gate kind) is = none-at netlist stimuli place distinct fit.each within (ap is_input is)
    at place within Flop is = none-at netlist stimuli place distinct fit.each within (ap is_input is)
