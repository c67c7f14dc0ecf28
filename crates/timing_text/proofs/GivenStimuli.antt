-- The stimuli given so far, by net number.
use Rattle.std.proofs.Common.{◌≡◌, ℕ, ◌<◌, ◌≤◌, true, false, cond, not, List, [], ◌∷◌, ◌++◌, length, map, get_or, set, replicate, Ok, Err, refl, sym, ap, ◌∙◌, arith}
use Rattle.std.proofs.lemmas.List.{get_or-map, length-map}
use Rattle.logic3.specs.declared.change.Change.{Change}
use Rattle.logic3.specs.Rising.{TicksRise}
use Rattle.texts.specs.Text.{◌>>=◌, code_lines, longest_text}
use Rattle.texts.specs.Fold.{fold_lines, fold_text}
use Rattle.netlist.specs.Netlist.{NetView, NetlistView, net_at}
use Rattle.timing_text.specs.declared.fault.StimulusFault.TheVariants.{TooLong, NotRising}
use Rattle.timing_text.specs.Stimuli.{NamedChange, stimulus_or_fault, with_stimulus, stimuli_after, stimuli_of, net_stimuli, stimuli_named}
use Rattle.texts.proofs.CallerLemmas.{fold_lines-next, unless_too_long-short}
use Rattle.netlist.proofs.CallerLemmas.{HasDistinctNames, no_net, map-named}
use Rattle.timing_text.proofs.Rising.{is_reached, is_after_last, is_reached-last}
use Rattle.timing_text.proofs.StimuliNamed.{TicksRise-more, stimuli_named-own, stimuli_named-others}

-- earlier lines gave each net its stimuli, and some lines are left of all
pub record Given (netlist : NetlistView) (all left : List (ℕ × List ℕ)) (changes : List (List Change)) : Type 0 where
  pub earlier : List NamedChange
  pub rest : fold_lines (stimuli_after netlist) [] all ≡ fold_lines (stimuli_after netlist) earlier left
  pub held : changes ≡ net_stimuli netlist earlier
  pub rise : (name : List ℕ) → TicksRise (stimuli_named earlier name)

-- there are the changes of each net
pub Given-length : {netlist : NetlistView} {all left : List (ℕ × List ℕ)} {changes : List (List Change)} → Given netlist all left changes →
    length changes ≡ length netlist.nets
Given-length {netlist = netlist} given =
    ap length given.held ∙ length-map netlist.nets (λ (net : NetView). stimuli_named given.earlier net.name)

-- those of one net, where the code keeps them in another form
pub Given-had : {V : Type 0} (changes_of : V → List Change) (kept : List V) {netlist : NetlistView} {all left : List (ℕ × List ℕ)} {net : ℕ} {had : V} →
    Given netlist all left (map changes_of kept) → net < length netlist.nets → had ≡ get_or kept net had →
    changes_of had ≡ get_or (map changes_of kept) net (changes_of had)
Given-had changes_of kept {net = net} {had = had} given within here =
    let lengths = sym (length-map kept changes_of) ∙ Given-length given in
    let room : net < length kept = omega (arith, lengths) in
    ap changes_of here ∙ sym (get_or-map changes_of kept net had (changes_of had) room)

-- at first no net has stimuli
net_stimuli-none : (nets : List NetView) → map (λ (net : NetView). stimuli_named [] net.name) nets ≡ replicate (length nets) []
net_stimuli-none [] = refl
net_stimuli-none (net ∷ nets) = ap (λ changes. [] ∷ changes) (net_stimuli-none nets)

pub Given-first : (netlist : NetlistView) (all : List (ℕ × List ℕ)) (changes : List (List Change)) →
    changes ≡ replicate (length netlist.nets) [] → Given netlist all all changes
Given-first netlist all changes none = record {
  earlier = [];
  rest = refl;
  held = none ∙ sym (net_stimuli-none netlist.nets);
  rise = λ name i j d before within. absurd (omega arith);
}

-- the next line leaves the reading to the rest of the lines
next-after : {netlist : NetlistView} {all left rest : List (ℕ × List ℕ)} {changes : List (List Change)} {line : ℕ} {code : List ℕ} {s : NamedChange} →
    (given : Given netlist all left changes) → left ≡ (line, code) ∷ rest → Ok s ≡ stimulus_or_fault netlist (line, code) →
    fold_lines (stimuli_after netlist) [] all ≡ with_stimulus given.earlier line s >>= λ stimuli. fold_lines (stimuli_after netlist) stimuli rest
next-after {netlist = netlist} {line = line} {s = s} given turn gives =
    given.rest
    ∙ fold_lines-next (stimuli_after netlist) given.earlier (with_stimulus given.earlier line s) turn
    (ap (λ result. result >>= with_stimulus given.earlier line) (sym gives))

-- what a net holds is what earlier lines give its name
had-named : {netlist : NetlistView} {all left : List (ℕ × List ℕ)} {changes : List (List Change)} {net : ℕ} {had : List Change} →
    (given : Given netlist all left changes) → net < length netlist.nets → had ≡ get_or changes net had →
    stimuli_named given.earlier (net_at netlist net).name ≡ had
had-named {netlist = netlist} {net = net} {had = had} given within held =
    sym (held ∙ ap (λ changes. get_or changes net had) given.held
    ∙ get_or-map (λ (other : NetView). stimuli_named given.earlier other.name) netlist.nets net no_net had within)

-- so to look at the last change of a net is to look at all that earlier lines give it
is_reached-had : {netlist : NetlistView} {all left : List (ℕ × List ℕ)} {changes : List (List Change)} {net : ℕ} {had : List Change} (tick : ℕ) →
    (given : Given netlist all left changes) → net < length netlist.nets → had ≡ get_or changes net had →
    is_reached tick (stimuli_named given.earlier (net_at netlist net).name) ≡ not (is_after_last tick had)
is_reached-had {netlist = netlist} {net = net} tick given within held =
    is_reached-last tick (stimuli_named given.earlier (net_at netlist net).name) (given.rise (net_at netlist net).name)
    ∙ ap (λ changes. not (is_after_last tick changes)) (had-named given within held)

-- a change that isn't above the last one of its net stops the reading
pub Given-stops : {netlist : NetlistView} {all left rest : List (ℕ × List ℕ)} {changes : List (List Change)} {line net : ℕ} {code : List ℕ} {change : Change} {had : List Change} →
    Given netlist all left changes → left ≡ (line, code) ∷ rest → net < length netlist.nets →
    Ok (record { name = (net_at netlist net).name; change = change }) ≡ stimulus_or_fault netlist (line, code) →
    had ≡ get_or changes net had → is_after_last change.tick had ≡ false →
    fold_lines (stimuli_after netlist) [] all ≡ Err (NotRising line)
Given-stops {netlist = netlist} {rest = rest} {line = line} {net = net} {change = change} given turn within gives held early =
    next-after given turn gives
    ∙ ap (λ test. cond test (Err (NotRising line)) (Ok (given.earlier ++ record { name = (net_at netlist net).name; change = change } ∷ []))
    >>= λ stimuli. fold_lines (stimuli_after netlist) stimuli rest) (is_reached-had change.tick given within held ∙ ap not early)

-- another goes behind the others of its net
pub Given-more : {netlist : NetlistView} {all left rest : List (ℕ × List ℕ)} {changes : List (List Change)} {line net : ℕ} {code : List ℕ} {change : Change} {had : List Change} →
    HasDistinctNames netlist.nets → Given netlist all left changes → left ≡ (line, code) ∷ rest → net < length netlist.nets →
    Ok (record { name = (net_at netlist net).name; change = change }) ≡ stimulus_or_fault netlist (line, code) →
    had ≡ get_or changes net had → is_after_last change.tick had ≡ true →
    Given netlist all rest (set changes net (had ++ change ∷ []))
Given-more {netlist = netlist} {rest = rest} {line = line} {net = net} {change = change} {had = had} distinct given turn within gives held later =
    record {
      earlier = given.earlier ++ s ∷ [];
      rest = next-after given turn gives
          ∙ ap (λ test. cond test (Err (NotRising line)) (Ok (given.earlier ++ s ∷ [])) >>= λ stimuli. fold_lines (stimuli_after netlist) stimuli rest) unreached;
      held = ap (λ changes. set changes net (had ++ change ∷ [])) given.held
          ∙ ap (set (net_stimuli netlist given.earlier) net) (ap (λ changes. changes ++ change ∷ []) (sym (had-named given within held)) ∙ sym (stimuli_named-own given.earlier s))
          ∙ sym (map-named netlist.nets (stimuli_named given.earlier) (stimuli_named (given.earlier ++ s ∷ [])) net distinct within
          (stimuli_named-others given.earlier s));
      rise = TicksRise-more given.earlier s given.rise unreached;
    }
  where
    s : NamedChange
    s = record { name = (net_at netlist net).name; change = change }

    unreached : is_reached change.tick (stimuli_named given.earlier (net_at netlist net).name) ≡ false
    unreached = is_reached-had change.tick given within held ∙ ap not later

-- a text that isn't too long is read line by line
pub stimuli_of-lines : (netlist : NetlistView) (text : List ℕ) → length text ≤ longest_text →
    stimuli_of netlist text ≡ fold_lines (stimuli_after netlist) [] (code_lines text)
stimuli_of-lines netlist text short = unless_too_long-short TooLong (fold_text (stimuli_after netlist) []) text short
