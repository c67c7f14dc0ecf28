-- What a stimulus text says about a netlist.
use Rattle.std.specs.Prelude.{ℕ, not, nat_lt, nat_le, if◌then◌else◌, List, [], ◌∷◌, ◌++◌, map, filter, option_map, Option, None, Some, Result, Ok, Err, bytes_eq}
use Rattle.std.specs.List.{list_any}
use Rattle.std.specs.Option.{option_map_or}
use Rattle.std.specs.Result.{result_map_both}
use Rattle.logic3.specs.declared.value.Value.{Value}
use Rattle.logic3.specs.declared.change.Change.{Change}
use Rattle.texts.specs.Text.{◌>>=◌, words_of, number_of, is_plain, unless_too_long}
use Rattle.texts.specs.Fold.{fold_text}
use Rattle.netlist.specs.Netlist.{NetView, NetlistView}
use Rattle.timing_text.specs.declared.fault.StimulusFault.{StimulusFault}
use Rattle.timing_text.specs.declared.fault.StimulusFault.TheVariants.{TooLong, BadLine, UnknownNet, NotAnInput, TickTooLarge, BadValue, NotRising}
use Rattle.timing_text.specs.Ranges.{most_ticks}
use Rattle.netlist.specs.Part.{is_input}
use Rattle.timing_text.specs.Words.{find_net, value_of_word}

-- a line's tick, name and word for a value
pub record StimulusLine : Type 0 where
  pub tick : ℕ
  pub name : List ℕ
  pub value : List ℕ

-- a line of a number, a name and a word for a value
abbrev pub stimulus_of_words : List (List ℕ) → Option StimulusLine
stimulus_of_words (tick ∷ name ∷ value ∷ []) =
    option_map (λ number. record { tick = number; name = name; value = value }) (number_of tick)
stimulus_of_words _ = None

abbrev pub stimulus_in : List ℕ → Option StimulusLine
stimulus_in code = if is_plain code then stimulus_of_words (words_of code) else None

-- a change of the net with this name
pub record NamedChange : Type 0 where
  pub name : List ℕ
  pub change : Change

abbrev pub named_change : StimulusLine → Value → NamedChange
named_change s value = record { name = s.name; change = record { tick = s.tick; value = value } }

-- the change on the line with this number, if the net may have it
abbrev pub stimulus_at : ℕ → StimulusLine → Option NetView → Result NamedChange StimulusFault
stimulus_at line s None = Err (UnknownNet line)
stimulus_at line s (Some net) =
    if not (is_input net.part) then Err (NotAnInput line)
    else if nat_lt most_ticks s.tick then Err (TickTooLarge line)
    else option_map_or (λ value. Ok (named_change s value)) (value_of_word s.value) (Err (BadValue line))

-- what a line gives regardless of the lines before it, or its first fault
abbrev pub stimulus_or_fault : NetlistView → ℕ × List ℕ → Result NamedChange StimulusFault
stimulus_or_fault netlist (line, code) =
    option_map_or (λ (s : StimulusLine). stimulus_at line s (find_net netlist s.name)) (stimulus_in code) (Err (BadLine line))

-- the changes that stimuli give the net with this name
abbrev pub stimuli_named : List NamedChange → List ℕ → List Change
stimuli_named stimuli name =
    map (λ (s : NamedChange). s.change) (filter (λ (s : NamedChange). bytes_eq s.name name) stimuli)

-- the stimuli of earlier lines and then that of the line with this number, unless one of the same net is at its tick or later
abbrev pub with_stimulus : List NamedChange → ℕ → NamedChange → Result (List NamedChange) StimulusFault
with_stimulus earlier line s =
    if list_any (λ (change : Change). nat_le s.change.tick change.tick) (stimuli_named earlier s.name) then Err (NotRising line)
    else Ok (earlier ++ s ∷ [])

-- the stimuli of earlier lines and then that of this line, or its first fault
abbrev pub stimuli_after : NetlistView → List NamedChange → ℕ × List ℕ → Result (List NamedChange) StimulusFault
stimuli_after netlist earlier line = stimulus_or_fault netlist line >>= with_stimulus earlier line.0

-- the stimuli that a text gives, line after line, or its first fault
abbrev pub stimuli_of : NetlistView → List ℕ → Result (List NamedChange) StimulusFault
stimuli_of netlist text = unless_too_long TooLong (fold_text (stimuli_after netlist) []) text

-- the stimuli of each net, in order
abbrev pub net_stimuli : NetlistView → List NamedChange → List (List Change)
net_stimuli netlist stimuli = map (λ (net : NetView). stimuli_named stimuli net.name) netlist.nets

-- the same by a stimulus text, or its first fault
abbrev pub stimuli_by_net : NetlistView → List ℕ → Result (List (List Change)) StimulusFault
stimuli_by_net netlist text = result_map_both (net_stimuli netlist) (λ fault. fault) (stimuli_of netlist text)
