-- Lines of texts that are accepted and look like mistakes.
use Rattle.std.specs.Prelude.{◌≡◌, ℕ, ◌+◌, ◌<◌, ◌==◌, ◌||◌, ◌&&◌, not, Bool, false, if◌then◌else◌, List, [], ◌∷◌, codes, filter, length, map, slice_get, slice_index_or, bytes_eq, Option, None, Some}
use Rattle.std.specs.List.{after_first, list_any, prefix_len, range_with_len}
use Rattle.std.specs.Option.{is_some, option_map_or}
use Rattle.texts.specs.Text.{code_of, is_empty, is_white, lines_of, number_of, words_of}
use Rattle.netlist.specs.Netlist.{net_named}
use Rattle.netlist.specs.Part.{is_input}
use Rattle.design.specs.Circuit.{Net}
use Rattle.design.specs.Design.{DesignView}
use Rattle.plain_runs.specs.declared.doubt.Doubt.{Doubt}
use Rattle.plain_runs.specs.declared.doubt.Doubt.TheVariants.{Delay, HiddenWord, Stimulus}
use Rattle.plain_runs.specs.Remarks.{is_undriven, net_is}

-- what follows the first such byte of a line
abbrev pub after_byte : ℕ → List ℕ → List ℕ
after_byte byte line = after_first (λ other. other == byte) line

-- what follows the first '#'
abbrev pub comment_of : List ℕ → List ℕ
comment_of line = after_byte 35 line

-- a word of a comment comes after a carriage return
abbrev pub hides_word : List ℕ → Bool
hides_word line = not (is_empty (words_of (after_byte 13 (comment_of line))))

-- ---- comments with stimuli

abbrev pub values : List (List ℕ)
values = codes "0" ∷ codes "1" ∷ codes "x" ∷ codes "X" ∷ []

-- the same, as other notations end a line
abbrev pub closed_values : List (List ℕ)
closed_values = codes "0;" ∷ codes "1;" ∷ codes "x;" ∷ codes "X;" ∷ []

abbrev pub is_among : List (List ℕ) → List ℕ → Bool
is_among words word = list_any (bytes_eq word) words

abbrev pub is_value : List ℕ → Bool
is_value word = is_among values word || is_among closed_values word

-- the words are a value, or '=' and a value
abbrev pub are_value : List (List ℕ) → Bool
are_value (value ∷ []) = is_value value
are_value (equals ∷ value ∷ []) = bytes_eq equals (codes "=") && is_value value
are_value words = false

-- the name in a number, a name and a value
abbrev pub stimulus_name : List (List ℕ) → Option (List ℕ)
stimulus_name (tick ∷ name ∷ words) = if is_some (number_of tick) && are_value words then Some name else None
stimulus_name words = None

-- the line is a comment, without white space after '#'
abbrev pub is_comment : List ℕ → Bool
is_comment line = is_empty (words_of (code_of line)) && (prefix_len is_white (comment_of line) == 0)

-- the name in the stimulus that is the comment of a line
abbrev pub name_in_comment : List ℕ → Option (List ℕ)
name_in_comment line = if is_comment line then stimulus_name (words_of (comment_of line)) else None

abbrev pub is_undriven_name : DesignView → List ℕ → Bool
is_undriven_name design name = option_map_or (net_is is_undriven design.circuit) (net_named design.netlist name) false

-- ---- comments with delays

-- the name in `delay NAME` or `NAME =`
abbrev pub name_beside : List ℕ → List ℕ → Option (List ℕ)
name_beside first second =
    if bytes_eq first (codes "delay") then Some second
    else if bytes_eq second (codes "=") then Some first
    else None

-- the name in `NAME TICKS`, `delay NAME TICKS` or `NAME = TICKS`
abbrev pub delay_name : List (List ℕ) → Option (List ℕ)
delay_name (name ∷ ticks ∷ []) = if is_some (number_of ticks) then Some name else None
delay_name (first ∷ second ∷ ticks ∷ []) = if is_some (number_of ticks) then name_beside first second else None
delay_name words = None

-- the name in the delay that is the comment of a line
abbrev pub delayed_in_comment : List ℕ → Option (List ℕ)
delayed_in_comment line = if is_comment line then delay_name (words_of (comment_of line)) else None

abbrev pub is_delayed : Net → Bool
is_delayed net = not (is_input net.part)

-- a line gives the net with this number a delay
abbrev pub gives_delay : DesignView → ℕ → List ℕ → Bool
gives_delay design net line = option_map_or is_its_name (delay_name (words_of (code_of line))) false
  where
    is_its_name : List ℕ → Bool
    is_its_name name = option_map_or (λ other. other == net) (net_named design.netlist name) false

-- the marks of the nets to which these lines give delays
pub record MarkDelayed (design : DesignView) (lines : List (List ℕ)) (marks : List Bool) : Type 0 where
  pub count : length marks ≡ length design.circuit
  pub marked : (net : ℕ) → net < length design.circuit → slice_get marks net ≡ Some (list_any (gives_delay design net) lines)

-- the name is that of a gate or a flip-flop to which none of these lines gives a delay
abbrev pub lacks_delay : DesignView → List (List ℕ) → List ℕ → Bool
lacks_delay design lines name = option_map_or undelayed (net_named design.netlist name) false
  where
    undelayed : ℕ → Bool
    undelayed net = net_is is_delayed design.circuit net && not (list_any (gives_delay design net) lines)

-- ---- lines

-- a line hides a word, or is a comment with a stimulus for an input that has none, or with a delay for a net that has none
abbrev pub is_doubtful : Doubt → DesignView → List (List ℕ) → List ℕ → Bool
is_doubtful HiddenWord design lines line = hides_word line
is_doubtful Stimulus design lines line = option_map_or (is_undriven_name design) (name_in_comment line) false
is_doubtful Delay design lines line = option_map_or (lacks_delay design lines) (delayed_in_comment line) false

abbrev pub is_doubtful_at : Doubt → DesignView → List (List ℕ) → ℕ → Bool
is_doubtful_at doubt design lines place = is_doubtful doubt design lines (slice_index_or lines place [])

-- the numbers of these lines, from 1
abbrev pub doubtful_numbers : Doubt → DesignView → List (List ℕ) → List ℕ
doubtful_numbers doubt design lines =
    map (λ place. place + 1) (filter (is_doubtful_at doubt design lines) (range_with_len 0 (length lines)))

abbrev pub doubtful_lines : Doubt → DesignView → List ℕ → List ℕ
doubtful_lines doubt design text = doubtful_numbers doubt design (lines_of text)
