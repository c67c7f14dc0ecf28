-- The message about the word at fault, as far as the lines of its text determine it.
use Rattle.std.specs.Prelude.{ℕ, ◌==◌, ◌&&◌, not, nat_lt, Bool, if◌then◌else◌, List, [], ◌∷◌, ◌++◌, drop, filter, slice_get, codes, bytes_eq, Option, None, Some, unwrap_or}
use Rattle.std.specs.List.{find, last_or, list_any, prefix_len}
use Rattle.std.specs.Option.{option_map_or}
use Rattle.mistakes.specs.declared.subject.Subject.{Subject}
use Rattle.mistakes.specs.BenchLines.{defined_by, defines, is_among, long_net, nth_name, used_by}
use Rattle.mistakes.specs.declared.subject.Subject.TheVariants.{Bench, Delays, Stimuli, Schedule}
use Rattle.mistakes.specs.Lines.{line_at}
use Rattle.explanations.specs.Excerpt.{line_told, shown_line}
use Rattle.texts.specs.Text.{code_lines, code_of, is_empty, is_plain, words_of}

-- ---- the words of a line without its comment

abbrev pub word_at : ℕ → List ℕ → Option (List ℕ)
word_at place code = slice_get (words_of code) place

-- ---- the topic of a line

-- its net; in a delay text of version 2 also its first word, and for wires the place of the pin. An absent part is empty
pub record Topic : Type 0 where
  pub net : List ℕ
  pub form : List ℕ
  pub pin : List ℕ

abbrev pub of_net : Option (List ℕ) → Topic
of_net net = record { net = unwrap_or net []; form = []; pin = [] }

-- 00 is the place 0
abbrev pub without_zeros : List ℕ → List ℕ
without_zeros digits = drop (prefix_len (λ digit. digit == 48) digits) digits

abbrev pub pin_of : List ℕ → List ℕ → List ℕ
pin_of form place = (if bytes_eq form (codes "wire") then without_zeros place else [])

-- `NAME TICKS`, or a form, a name and more
abbrev pub delay_topic : List (List ℕ) → Topic
delay_topic (net ∷ ticks ∷ []) = of_net (Some net)
delay_topic (form ∷ net ∷ third ∷ more) = record { net = net; form = form; pin = pin_of form third }
delay_topic _ = of_net None

abbrev pub topic_of : Subject → List ℕ → Topic
topic_of Bench code = of_net (defined_by code)
topic_of Delays code = delay_topic (words_of code)
topic_of Stimuli code = of_net (word_at 1 code)
topic_of Schedule code = of_net (word_at 1 code)
topic_of other code = of_net None

abbrev pub is_same : Topic → Topic → Bool
is_same one other = not (is_empty one.net) && (bytes_eq one.net other.net && (bytes_eq one.form other.form && bytes_eq one.pin other.pin))

-- ---- the earlier line with the same topic

abbrev pub is_above : Subject → ℕ → Topic → ℕ × List ℕ → Bool
is_above subject number topic line = nat_lt line.0 number && is_same topic (topic_of subject line.1)

-- the number of a line, or 0 for none
abbrev pub number_or_none : Option (ℕ × List ℕ) → ℕ
number_or_none line = option_map_or (λ (line : ℕ × List ℕ). line.0) line 0

-- the number of the last line before this one that has the same topic
abbrev pub line_above : Subject → ℕ → Topic → List ℕ → ℕ
line_above subject number topic text = number_or_none (last_or None (filter (is_above subject number topic) (code_lines text)))

-- the words for it
abbrev pub too : Subject → List ℕ
too Bench = codes " already defines it: "
too Stimuli = codes " is for the same input: "
too other = codes " already sets it: "

abbrev pub earlier_line : Subject → ℕ → Topic → List ℕ → List ℕ
earlier_line subject number topic text =
    let other = line_above subject number topic text in
    line_told (too subject) other (line_at other text)

-- ---- the name that no line defines

abbrev pub is_undefined : List ℕ → List ℕ → Bool
is_undefined text name = not (list_any (defines name) (code_lines text))

-- the first such name that the line uses
abbrev pub undefined_in : List ℕ → List ℕ → Option (List ℕ)
undefined_in code text = find (is_undefined text) (used_by code)

-- ---- the word at fault, by its place in the line

-- the faults about a net that doesn't exist, or isn't of the kind that is needed
abbrev pub of_nets : List (List ℕ)
of_nets = codes "UnknownNet" ∷ codes "IsInput" ∷ codes "NotAFlop" ∷ codes "NotAnInput" ∷ []

-- the faults about the third word
abbrev pub of_thirds : List (List ℕ)
of_thirds = codes "BadPin" ∷ codes "BadPeriod" ∷ codes "BadValue" ∷ []

abbrev pub is_unplain : List ℕ → Bool
is_unplain word = not (is_plain word)

-- for faults of .bench lines
abbrev pub bench_word : List ℕ → List ℕ → Option (List ℕ)
bench_word name code =
    if bytes_eq name (codes "UnknownGate") then nth_name 1 code
    else if bytes_eq name (codes "NameTooLong") then long_net code
    else if bytes_eq name (codes "BadByte") then find is_unplain (words_of code)
    else None

abbrev pub word_at_fault : Subject → List ℕ → List ℕ → Option (List ℕ)
word_at_fault subject name code =
    if is_among of_nets name then Some (topic_of subject code).net
    else if is_among of_thirds name then word_at 2 code
    else if bytes_eq name (codes "BadPhase") then word_at 3 code
    else if bytes_eq name (codes "BadTicks") then last_or None (words_of code)
    else if bytes_eq name (codes "TickTooLarge") then word_at 0 code
    else bench_word name code

-- ---- the message about it

abbrev pub word_told : List ℕ → Option (List ℕ) → List ℕ
word_told said None = []
word_told said (Some word) = said ++ shown_line word ++ codes "\n"

-- a name in quotes
abbrev pub quoted_told : List ℕ → List ℕ → List ℕ
quoted_told said name = said ++ codes "'" ++ shown_line name ++ codes "'\n"

abbrev pub undefined_told : Option (List ℕ) → List ℕ
undefined_told name = option_map_or (quoted_told (codes "no line defines ")) name []

-- the faults about a line with the same topic as an earlier one
abbrev pub of_repeats : List (List ℕ)
of_repeats = codes "DefinedTwice" ∷ codes "Twice" ∷ codes "NotRising" ∷ []

-- for a line without its comment, in a text
abbrev pub at_fault_in : Subject → List ℕ → ℕ → List ℕ → List ℕ → List ℕ
at_fault_in subject name number text code =
    if is_among of_repeats name then earlier_line subject number (topic_of subject code) text
    else if bytes_eq name (codes "Undefined") then undefined_told (undefined_in code text)
    else word_told (codes "given: ") (word_at_fault subject name code)

-- for the line with this number, if the text is known and has it
abbrev pub at_fault : Subject → List ℕ → ℕ → Option (List ℕ) → List ℕ
at_fault subject name number None = []
at_fault subject name number (Some text) =
    option_map_or (λ line. at_fault_in subject name number text (code_of line)) (line_at number text) []
