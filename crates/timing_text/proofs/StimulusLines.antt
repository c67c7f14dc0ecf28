-- What a stimulus line gives.
use Rattle.std.proofs.Common.{◌≡◌, ℕ, ◌<◌, ◌≤◌, min, Bool, true, false, cond, not, ltb, List, option_map, Option, None, Some, Ok, Err, refl, sym, ap, ◌∙◌, arith}
use Rattle.std.specs.Option.{option_map_or}
use Rattle.std.proofs.lemmas.Bool.Decides.{nat_tests}
use Rattle.logic3.specs.declared.value.Value.{Value}
use Rattle.netlist.specs.Netlist.{NetView, NetlistView, net_named, net_at}
use Rattle.timing_text.specs.declared.fault.StimulusFault.TheVariants.{BadLine, NotAnInput, TickTooLarge, BadValue}
use Rattle.timing_text.specs.Ranges.{most_ticks}
use Rattle.netlist.specs.Part.{is_input}
use Rattle.timing_text.specs.Words.{find_net, value_of_word}
use Rattle.timing_text.specs.Stimuli.{StimulusLine, named_change, stimulus_in, stimulus_at, stimulus_or_fault}
use Rattle.netlist.proofs.CallerLemmas.{net_at-named}

-- a stimulus with its number cut to at most `top`
abbrev pub cut_to : ℕ → StimulusLine → StimulusLine
cut_to top s = record s { tick = min top s.tick }

-- a stimulus of an input with a tick in its limits and a value stands as it is
stimulus_at-Ok : (line : ℕ) (s : StimulusLine) (net : NetView) (value : Value) → is_input net.part ≡ true → s.tick ≤ most_ticks →
    value_of_word s.value ≡ Some value → stimulus_at line s (Some net) ≡ Ok (named_change s value)
stimulus_at-Ok line s net value driven low means = go (is_input net.part) (ltb most_ticks s.tick) (value_of_word s.value) driven (grind (arith, nat_tests)) means
  where
    go : (input late : Bool) (meant : Option Value) → input ≡ true → late ≡ false → meant ≡ Some value →
        cond (not input) (Err (NotAnInput line))
        (cond late (Err (TickTooLarge line)) (option_map_or (λ value. Ok (named_change s value)) meant (Err (BadValue line))))
        ≡ Ok (named_change s value)
    go input late meant driven in_time means = rw (driven, in_time, means) refl

-- a line whose number was cut to at most `top` gives its net the change that was read, where the tick is in its limits
pub stimulus_or_fault-Ok : (netlist : NetlistView) (line top : ℕ) (code name word : List ℕ) (net tick : ℕ) (value : Value) →
    Some (record { tick = tick; name = name; value = word }) ≡ option_map (cut_to top) (stimulus_in code) →
    net_named netlist name ≡ Some net → is_input (net_at netlist net).part ≡ true → tick ≤ most_ticks → tick < top →
    value_of_word word ≡ Some value →
    Ok (record { name = (net_at netlist net).name; change = record { tick = tick; value = value } }) ≡ stimulus_or_fault netlist (line, code)
stimulus_or_fault-Ok netlist line top code name word net tick value read found driven low below means = go (stimulus_in code) read
  where
    go : (given : Option StimulusLine) →
        Some (record { tick = tick; name = name; value = word }) ≡ option_map (cut_to top) given →
        Ok (record { name = (net_at netlist net).name; change = record { tick = tick; value = value } })
        ≡ option_map_or (λ (s : StimulusLine). stimulus_at line s (find_net netlist s.name)) given (Err (BadLine line))
    go None same = (cc)
    go (Some s) same =
        let names : name ≡ s.name = ap (λ o. option_map_or (λ (s : StimulusLine). s.name) o name) same in
        let words : word ≡ s.value = ap (λ o. option_map_or (λ (s : StimulusLine). s.value) o word) same in
        let cut : tick ≡ min top s.tick = ap (λ o. option_map_or (λ (s : StimulusLine). s.tick) o 0) same in
        let ticks : tick ≡ s.tick = omega arith in
        let named : (net_at netlist net).name ≡ s.name = (net_at-named netlist name net found).1 ∙ names in
        let net_found : find_net netlist s.name ≡ Some (net_at netlist net) = ap (find_net netlist) (sym names) ∙ ap (option_map (net_at netlist)) found in
        let ok = stimulus_at-Ok line s (net_at netlist net) value driven (omega arith) (ap value_of_word (sym words) ∙ means) in
        rw (net_found, ok, named, ticks)
