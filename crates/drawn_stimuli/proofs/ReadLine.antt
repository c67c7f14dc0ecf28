-- What the reader of stimuli makes of a line.
use Rattle.std.proofs.Common.{◌≡◌, ℕ, ◌+◌, ◌<◌, ◌≤◌, ◌==◌, ◌||◌, ◌&&◌, not, Bool, true, false, cond, IsTrue, List, [], ◌∷◌, ◌++◌, length, map, filter, codes, decimal, All, option_map, None, Some, Ok, Err, append_assoc, refl, ap, ◌∙◌, arith}
use Rattle.std.specs.List.{enumerate_from, slice_split}
use Rattle.std.specs.Char.{is_ascii_graphic}
use Rattle.std.specs.Option.{option_map_or}
use Rattle.std.specs.Str.Parse.{AllDigits}
use Rattle.std.proofs.lemmas.Bool.{le-ltb}
use Rattle.std.proofs.lemmas.Bool.Decides.{nat_tests}
use Rattle.std.proofs.lemmas.Fmt.{decimal_is_IsNumeral}
use Rattle.std.proofs.lemmas.List.Elements.{All-append, All-cons, All-nil, All-weaker}
use Rattle.std.proofs.lemmas.List.Splits.{slice_split_at, slice_split_none}
use Rattle.std.proofs.lemmas.List.Sums.{AllPass-from_list_all, list_all-from_AllPass}
use Rattle.std.proofs.lemmas.Str.Parse.{digit_from_value}
use Rattle.logic3.specs.declared.value.Value.{Value}
use Rattle.logic3.specs.declared.value.Value.TheVariants.{Zero, One, Unknown}
use Rattle.texts.specs.Text.{code_lines_from, code_of, is_empty, is_white, lines_of, words_of}
use Rattle.texts.proofs.CallerLemmas.{code_of-no_hash, number_of-decimal}
use Rattle.netlist.specs.Name.{IsName, is_name_byte}
use Rattle.netlist.specs.Netlist.{NetView, NetlistView}
use Rattle.timing_text.specs.declared.fault.StimulusFault.TheVariants.{BadLine}
use Rattle.timing_text.specs.Ranges.{most_ticks}
use Rattle.timing_text.specs.Stimuli.{NamedChange, StimulusLine, stimulus_at, stimulus_in, stimulus_of_words, stimulus_or_fault}
use Rattle.netlist.specs.Part.{is_input}
use Rattle.timing_text.specs.Words.{find_net, value_of_word}
use Rattle.logic3.specs.Value.{value_text}
use Rattle.drawn_stimuli.specs.StimulusText.{change_line}

-- ---- bytes

-- a byte of a word: printable, and no beginning of a comment
abbrev is_word_byte : ℕ → Bool
is_word_byte byte = is_ascii_graphic byte && not (byte == 35)

abbrev IsWord : List ℕ → Type 0
IsWord word = All (λ byte. is_word_byte byte ≡ true) word

-- a byte of a line
abbrev is_line_byte : ℕ → Bool
is_line_byte byte = is_word_byte byte || byte == 32

abbrev IsLine : List ℕ → Type 0
IsLine line = All (λ byte. is_line_byte byte ≡ true) line

word_byte-name_byte : (byte : ℕ) → is_name_byte byte ≡ true → is_word_byte byte ≡ true
word_byte-name_byte byte h = grind (arith, nat_tests)

line_byte-word_byte : (byte : ℕ) → is_word_byte byte ≡ true → is_line_byte byte ≡ true
line_byte-word_byte byte h = rw h refl

not_white : (byte : ℕ) → is_word_byte byte ≡ true → is_white byte ≡ false
not_white byte h = grind (arith, nat_tests)

plain_byte : (byte : ℕ) → is_line_byte byte ≡ true → (is_white byte || is_ascii_graphic byte) ≡ true
plain_byte byte h = grind (arith, nat_tests)

no_line_feed : (byte : ℕ) → is_line_byte byte ≡ true → (byte == 10) ≡ false
no_line_feed byte h = grind (arith, nat_tests)

no_hash : (byte : ℕ) → is_line_byte byte ≡ true → (byte == 35) ≡ false
no_hash byte h = grind (arith, nat_tests)

-- ---- the words of a line

IsWord-name : (name : List ℕ) → IsName name → IsWord name
IsWord-name name named =
    All-weaker (λ byte. IsTrue (is_name_byte byte)) (λ byte. is_word_byte byte ≡ true) word_byte-name_byte name named.bytes

IsWord-digits : (word : List ℕ) → AllDigits 10 word → IsWord word
IsWord-digits [] h = All-nil (λ byte. is_word_byte byte ≡ true)
IsWord-digits (c ∷ word) h =
    let range = digit_from_value c h.0 in
    All-cons (λ byte. is_word_byte byte ≡ true) c word (grind (arith, nat_tests, range)) (IsWord-digits word h.1)

IsWord-value : (value : Value) → IsWord (value_text value)
IsWord-value Zero = AllPass-from_list_all is_word_byte (codes "0") refl
IsWord-value One = AllPass-from_list_all is_word_byte (codes "1") refl
IsWord-value Unknown = AllPass-from_list_all is_word_byte (codes "x") refl

value_of_word-value : (value : Value) → value_of_word (value_text value) ≡ Some value
value_of_word-value Zero = refl
value_of_word-value One = refl
value_of_word-value Unknown = refl

-- a word that has bytes is not empty
is_empty-some : (word : List ℕ) → 0 < length word → is_empty word ≡ false
is_empty-some [] some = absurd (omega arith)
is_empty-some (byte ∷ word) some = refl

some_value : (value : Value) → 0 < length (value_text value)
some_value Zero = omega arith
some_value One = omega arith
some_value Unknown = omega arith

IsLine-word : (word : List ℕ) → IsWord word → IsLine word
IsLine-word word w = All-weaker (λ byte. is_word_byte byte ≡ true) (λ byte. is_line_byte byte ≡ true) line_byte-word_byte word w

-- three words of a line, with a space between
module _ (first second third : List ℕ) (a : IsWord first) (b : IsWord second) (c : IsWord third) where
  abbrev line : List ℕ
  line = first ++ codes " " ++ second ++ codes " " ++ third

  IsLine-line : IsLine line
  IsLine-line =
      All-append P (first ++ codes " " ++ second ++ codes " ") third
      (All-append P (first ++ codes " " ++ second) (codes " ")
      (All-append P (first ++ codes " ") second (All-append P first (codes " ") (IsLine-word first a) space) (IsLine-word second b)) space)
      (IsLine-word third c)
    where
      P : ℕ → Type 0
      P byte = is_line_byte byte ≡ true

      space : IsLine (codes " ")
      space = AllPass-from_list_all is_line_byte (codes " ") refl

  no_white : (word : List ℕ) → IsWord word → All (λ byte. is_white byte ≡ false) word
  no_white word w = All-weaker (λ byte. is_word_byte byte ≡ true) (λ byte. is_white byte ≡ false) not_white word w

  split-line : slice_split is_white line ≡ first ∷ second ∷ third ∷ []
  split-line =
      ap (slice_split is_white) regrouped
      ∙ slice_split_at is_white first 32 (second ++ 32 ∷ third) (no_white first a) refl
      ∙ ap (λ rest. first ∷ rest) (slice_split_at is_white second 32 third (no_white second b) refl)
      ∙ ap (λ rest. first ∷ second ∷ rest) (slice_split_none is_white third (no_white third c))
    where
      regrouped : line ≡ first ++ 32 ∷ (second ++ 32 ∷ third)
      regrouped =
          append_assoc (first ++ codes " " ++ second) (codes " ") third
          ∙ append_assoc (first ++ codes " ") second (32 ∷ third)
          ∙ append_assoc first (codes " ") (second ++ 32 ∷ third)

  words_of-line : 0 < length first → 0 < length second → 0 < length third → words_of line ≡ first ∷ second ∷ third ∷ []
  words_of-line i j k =
      ap (filter (λ word. not (is_empty word))) split-line
      ∙ rw (is_empty-some first i, is_empty-some second j, is_empty-some third k) refl

-- ---- the line of a change

abbrev code_of_change : NamedChange → List ℕ
code_of_change s = decimal s.change.tick ++ codes " " ++ s.name ++ codes " " ++ value_text s.change.value

-- a change that can stand in a text: of an input, and in time
pub record IsDrawnChange (netlist : NetlistView) (s : NamedChange) : Type 0 where
  pub named : IsName s.name
  pub in_time : s.change.tick ≤ most_ticks
  pub net : NetView
  pub found : find_net netlist s.name ≡ Some net
  pub driven : is_input net.part ≡ true

module _ (netlist : NetlistView) (s : NamedChange) (can : IsDrawnChange netlist s) where
  numeral : AllDigits 10 (decimal s.change.tick)
  numeral = let in_time = can.in_time in (decimal_is_IsNumeral s.change.tick (omega (arith, in_time))).0.1

  some_digit : 0 < length (decimal s.change.tick)
  some_digit = let in_time = can.in_time in (decimal_is_IsNumeral s.change.tick (omega (arith, in_time))).0.0

  bytes : IsLine (code_of_change s)
  bytes = IsLine-line (decimal s.change.tick) s.name (value_text s.change.value) (IsWord-digits (decimal s.change.tick) numeral) (IsWord-name s.name can.named) (IsWord-value s.change.value)

  words : words_of (code_of_change s) ≡ decimal s.change.tick ∷ s.name ∷ value_text s.change.value ∷ []
  words =
      words_of-line (decimal s.change.tick) s.name (value_text s.change.value) (IsWord-digits (decimal s.change.tick) numeral) (IsWord-name s.name can.named) (IsWord-value s.change.value)
      some_digit can.named.some (some_value s.change.value)

  -- it is the first line of the code
  pub code_lines_from-change : (number : ℕ) (rest : List ℕ) →
      code_lines_from number (change_line s ++ rest) ≡ (number, code_of_change s) ∷ code_lines_from (number + 1) rest
  code_lines_from-change number rest =
      let has_words : ℕ × List ℕ → Bool = λ (entry : ℕ × List ℕ). not (is_empty (words_of entry.1)) in
      let numbered : List (List ℕ) → List (ℕ × List ℕ) = λ (lines : List (List ℕ)). filter has_words (enumerate_from number (map code_of lines)) in
      let cut : lines_of (change_line s ++ rest) ≡ code_of_change s ∷ lines_of rest =
      ap lines_of (append_assoc (code_of_change s) (codes "\n") rest)
      ∙ slice_split_at (λ byte. byte == 10) (code_of_change s) 10 rest
      (All-weaker (λ byte. is_line_byte byte ≡ true) (λ byte. (byte == 10) ≡ false) no_line_feed (code_of_change s) bytes) refl in
      ap numbered cut
      ∙ ap (λ first. filter has_words ((number, first) ∷ enumerate_from (number + 1) (map code_of (lines_of rest)))) (code_of-no_hash (code_of_change s)
      (All-weaker (λ byte. is_line_byte byte ≡ true) (λ byte. (byte == 35) ≡ false) no_hash (code_of_change s) bytes))
      ∙ ap (λ words. cond (not (is_empty words)) ((number, code_of_change s) ∷ code_lines_from (number + 1) rest) (code_lines_from (number + 1) rest)) words

  stimulus_in-change : stimulus_in (code_of_change s) ≡ Some (record { tick = s.change.tick; name = s.name; value = value_text s.change.value })
  stimulus_in-change =
      let in_time = can.in_time in
      ap (λ plain. cond plain (stimulus_of_words (words_of (code_of_change s))) None)
      (list_all-from_AllPass (λ byte. is_white byte || is_ascii_graphic byte) (code_of_change s)
      (All-weaker (λ byte. is_line_byte byte ≡ true) (λ byte. (is_white byte || is_ascii_graphic byte) ≡ true) plain_byte (code_of_change s) bytes))
      ∙ ap stimulus_of_words words
      ∙ ap (λ number. option_map (λ number. record { tick = number; name = s.name; value = value_text s.change.value }) number) (number_of-decimal s.change.tick (omega (arith, in_time)))

  -- and it gives the change
  pub stimulus_or_fault-change : (number : ℕ) → stimulus_or_fault netlist (number, code_of_change s) ≡ Ok s
  stimulus_or_fault-change number =
      ap (λ read. option_map_or (λ (s : StimulusLine). stimulus_at number s (find_net netlist s.name)) read (Err (BadLine number))) stimulus_in-change
      ∙ ap (stimulus_at number (record { tick = s.change.tick; name = s.name; value = value_text s.change.value })) can.found
      ∙ rw (can.driven, le-ltb most_ticks s.change.tick can.in_time, value_of_word-value s.change.value) refl
