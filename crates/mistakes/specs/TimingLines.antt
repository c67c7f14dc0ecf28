-- Lines of delay, stimulus and schedule texts that a reader takes once a word is written otherwise, and what is said of others.
use Rattle.std.specs.Prelude.{ℕ, ◌==◌, ◌-◌, ◌||◌, ◌&&◌, not, nat_lt, Bool, false, if◌then◌else◌, List, [], ◌∷◌, ◌++◌, drop, flat_map, length, map, take, codes, bytes_eq, slice_index, Option, None, Some}
use Rattle.std.specs.Char.{is_ascii_digit}
use Rattle.std.specs.List.{find, prefix_len}
use Rattle.std.specs.Option.{is_none, is_some, option_map_or}
use Rattle.mistakes.specs.declared.subject.Subject.{Subject}
use Rattle.mistakes.specs.declared.subject.Subject.TheVariants.{Bench, Delays, Stimuli}
use Rattle.mistakes.specs.BenchLines.{defines, is_among, is_assignment, used_by}
use Rattle.mistakes.specs.BenchLists.{line_told, with_commas}
use Rattle.mistakes.specs.Corrections.{Refused, has_net, is_accepted, word_of, written_line}
use Rattle.mistakes.specs.Forms.{Slot, fixed, keyword}
use Rattle.mistakes.specs.Near.{near_among}
use Rattle.texts.specs.Text.{code_lines, is_empty, number_of}

-- ---- right lines

-- the place of the net: NAME TICKS, or else the second word
abbrev pub net_place : Subject → List (List ℕ) → ℕ
net_place Delays words = if nat_lt 2 (length words) then 1 else 0
net_place other words = 1

-- the reader takes the words, and the text may name their net
abbrev pub is_right : Refused → List (List ℕ) → Bool
is_right refused words = is_accepted refused words && has_net refused (word_of (net_place refused.subject words) words)

unfoldable pub right_told : Refused → List ℕ → List (List ℕ) → List ℕ
right_told refused said words = if is_right refused words then said ++ written_line words else []

-- ---- numbers with a unit

abbrev pub units : List (List ℕ)
units = codes "fs" ∷ codes "ps" ∷ codes "ns" ∷ codes "us" ∷ codes "ms" ∷ codes "s" ∷ []

-- 10ns as 10, and each other word unchanged
abbrev pub without_unit : List ℕ → List ℕ
without_unit word =
    let digits = prefix_len is_ascii_digit word in
    if nat_lt 0 digits && is_among units (drop digits word) then take digits word else word

unfoldable pub unit_told : Refused → List ℕ
unit_told refused = right_told refused (codes "ticks have no unit: write ") (map without_unit refused.words)

-- ---- numbers with a point

-- the word that is a number of ticks
abbrev pub ticks_word : Subject → List (List ℕ) → List ℕ
ticks_word Stimuli words = word_of 0 words
ticks_word Delays words = word_of (length words - 1) words
ticks_word other words = []

-- the digits after a point, and after one that follows digits
abbrev pub digits_after : List ℕ → List ℕ
digits_after [] = []
digits_after (mark ∷ digits) = if mark == 46 && is_some (number_of digits) then digits else []

abbrev pub after_point : List ℕ → List ℕ
after_point word =
    let whole = prefix_len is_ascii_digit word in
    if nat_lt 0 whole then digits_after (drop whole word) else []

unfoldable pub scale_rule : List ℕ
scale_rule = codes "a tick is a whole number: multiply all ticks and delays by 1"

abbrev pub zeros_line : List ℕ → List ℕ
zeros_line digits = map (λ digit. 48) digits ++ codes "\n"

-- by 10 for one such digit, by 100 for two
unfoldable pub scale_told : List ℕ → List ℕ
scale_told digits = if is_empty digits then [] else scale_rule ++ zeros_line digits

abbrev pub point_told : Refused → List ℕ
point_told refused = scale_told (after_point (ticks_word refused.subject refused.words))

-- ---- numbers with a sign

-- a sign, and then digits
abbrev pub is_signed : List ℕ → Bool
is_signed [] = false
is_signed (mark ∷ digits) = (mark == 45 || mark == 43) && is_some (number_of digits)

abbrev pub sign_rule : Subject → List ℕ
sign_rule Stimuli = codes "ticks begin at 0 and have no sign\n"
sign_rule other = codes "ticks have no sign\n"

unfoldable pub sign_told : Refused → List ℕ
sign_told refused = if is_signed (ticks_word refused.subject refused.words) then sign_rule refused.subject else []

-- ---- first words

abbrev pub first_word : List Slot → List (List ℕ)
first_word (fixed text ∷ row) = text ∷ []
first_word (keyword text ∷ row) = text ∷ []
first_word row = []

-- the words with which the forms begin
abbrev pub first_words : List (List Slot) → List (List ℕ)
first_words forms = flat_map first_word forms

-- a line with another first word, if there is one
abbrev pub with_first : List (List ℕ) → Option (List ℕ) → List (List ℕ)
with_first words None = []
with_first words (Some first) = first ∷ drop 1 words

-- with the only one of those that is near to its own
abbrev pub respelled : Refused → List (List ℕ)
respelled refused = with_first refused.words (near_among (word_of 0 refused.words) (first_words refused.forms))

unfoldable pub respelled_told : Refused → List ℕ
respelled_told refused = line_told refused (respelled refused)

unfoldable pub respelled_right : Refused → List ℕ
respelled_right refused = right_told refused (codes "write ") (respelled refused)

-- ---- a line of a trace

-- a word without its last byte, and that byte
abbrev pub front_of : List ℕ → List ℕ
front_of word = take (length word - 1) word

abbrev pub end_of_word : List ℕ → List ℕ
end_of_word word = drop (length word - 1) word

-- the step with which a line goes on: `advance NAME TICK -> ..`, or `deliver NAME PLACE: ..`
abbrev pub traced_step : List (List ℕ) → List (List ℕ)
traced_step words =
    if bytes_eq (word_of 3 words) (codes "->") then take 2 words
    else if bytes_eq (end_of_word (word_of 2 words)) (codes ":") then take 2 words ++ front_of (word_of 2 words) ∷ []
    else []

-- `round N`, or `events N changes ..`
abbrev pub is_of_rounds : List (List ℕ) → Bool
is_of_rounds words =
    (bytes_eq (word_of 0 words) (codes "round")
    || (bytes_eq (word_of 0 words) (codes "events") && bytes_eq (word_of 2 words) (codes "changes")))
    && is_some (number_of (word_of 1 words))

unfoldable pub trace_told : Refused → List ℕ
trace_told refused =
    if is_of_rounds refused.words then codes "a line of a trace that is no step: leave it out\n"
    else right_told refused (codes "a line of a trace has more than its step: write ") (traced_step refused.words)

-- ---- the pins of a net

abbrev pub is_of_gate : List ℕ → ℕ × List ℕ → Bool
is_of_gate net line = is_assignment line.1 && defines net line

-- by the first line that defines it by a gate or a flip-flop
abbrev pub pins_of : List ℕ → List ℕ → List (List ℕ)
pins_of net circuit = option_map_or (λ (line : ℕ × List ℕ). used_by line.1) (find (is_of_gate net) (code_lines circuit)) []

-- `deliver NAME` or `wire NAME`, without a number after it
abbrev pub lacks_place : Refused → Bool
lacks_place refused =
    is_among (codes "deliver" ∷ codes "wire" ∷ []) (word_of 0 refused.words)
    && (is_among (first_words refused.forms) (word_of 0 refused.words) && is_none (number_of (word_of 2 refused.words)))

unfoldable pub pins_rule : List ℕ
pins_rule = codes "the pins of the net, from place 0 on: "

unfoldable pub pins_listed : List (List ℕ) → List ℕ
pins_listed pins = if is_empty pins then [] else pins_rule ++ written_line (with_commas pins)

unfoldable pub pins_told : Refused → List ℕ
pins_told refused = if lacks_place refused then pins_listed (pins_of (word_of 1 refused.words) refused.circuit) else []

-- ---- markers

abbrev pub markers : List (List ℕ)
markers = codes "%bench" ∷ codes "%delays" ∷ codes "%stimuli" ∷ codes "%schedule" ∷ []

abbrev pub begins_with_percent : List ℕ → Bool
begins_with_percent word = slice_index word 0 == 37

-- a .bench line is one word that begins with %; another line begins with one that is no net which the text may name
abbrev pub is_like_marker : Refused → Bool
is_like_marker refused = by refused.subject refused.words
  where
    by : Subject → List (List ℕ) → Bool
    by Bench (word ∷ []) = begins_with_percent word
    by Bench words = false
    by other words = begins_with_percent (word_of 0 words) && not (has_net refused (word_of 0 words))

-- the marker that a word may mean: by its subject, or the only one near to it
abbrev pub meant_marker : List ℕ → Option (List ℕ)
meant_marker word =
    if bytes_eq word (codes "%stimulus") then Some (codes "%stimuli")
    else if bytes_eq word (codes "%timing") then Some (codes "%delays")
    else near_among word markers

unfoldable pub marker_rule : List ℕ
marker_rule = codes "a marker of a deck is %bench, %delays, %stimuli or %schedule, alone in its line\n"

unfoldable pub no_marker : List ℕ → List ℕ
no_marker word = codes "'" ++ word ++ codes "' is no marker of a deck; did you mean "

abbrev pub meant_told : List ℕ → List ℕ → List ℕ
meant_told word marker = no_marker word ++ marker ++ codes "?\n"

abbrev pub marker_hint : List ℕ → Option (List ℕ) → List ℕ
marker_hint word None = marker_rule
marker_hint word (Some marker) = meant_told word marker

unfoldable pub marker_told : Refused → List ℕ
marker_told refused =
    let word = word_of 0 refused.words in
    if is_like_marker refused then marker_hint word (meant_marker word) else []

-- a line of a deck before its first section, which is no marker
unfoldable pub deck_marker_told : Refused → List ℕ
deck_marker_told refused =
    if refused.line == 1 || is_among markers (word_of 0 refused.words) then [] else marker_told refused
