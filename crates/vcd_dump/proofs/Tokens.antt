-- The tokens of a text are those of its parts, end to end.
use Rattle.std.proofs.Common.{◌≡◌, ℕ, ◌==◌, ◌||◌, not, true, false, List, [], ◌∷◌, ◌++◌, refl, ap, sym, ◌∙◌, append_assoc, append-nil}
use Rattle.std.specs.List.{slice_split, filter, flat_map, AllByRecursion}
use Rattle.std.proofs.lemmas.List.Elements.{filter-append, All-from_recursion}
use Rattle.std.proofs.lemmas.List.Splits.{slice_split_none}
use Rattle.texts.specs.Text.{is_white, is_empty, lines_of, words_of}
use Rattle.texts.specs.Written.{line}
use Rattle.vcd_dump.specs.Shown.{dump_tokens}
use Rattle.vcd_dump.proofs.Lists.{slice_split-append, slice_split-either, filter-flat_map}

-- a byte that no token has parts the tokens on its left from those on its right
pub dump_tokens-append : (xs ys : List ℕ) (y : ℕ) → (is_white y || y == 10) ≡ true →
    dump_tokens (xs ++ y ∷ ys) ≡ dump_tokens xs ++ dump_tokens ys
dump_tokens-append xs ys y cut =
    rw (slice_split-append (λ byte. is_white byte || byte == 10) xs y ys cut)
    (filter-append (λ token. not (is_empty token)) (slice_split (λ byte. is_white byte || byte == 10) xs)
    (slice_split (λ byte. is_white byte || byte == 10) ys))

-- the tokens of a text are the words of its lines
pub dump_tokens-lines : (text : List ℕ) → dump_tokens text ≡ flat_map words_of (lines_of text)
dump_tokens-lines text =
    rw (slice_split-either is_white (λ byte. byte == 10) text)
    (filter-flat_map (λ token. not (is_empty token)) (slice_split is_white) (lines_of text))

-- ---- words

-- a byte of a word
abbrev pub IsWordByte : ℕ → Type 0
IsWordByte byte = (is_white byte || byte == 10) ≡ false

-- a word is one token
abbrev pub IsToken : List ℕ → Type 0
IsToken word = dump_tokens word ≡ word ∷ []

-- one or more bytes of a word are a word
pub IsToken-from_bytes : (byte : ℕ) (word : List ℕ) → AllByRecursion IsWordByte (byte ∷ word) → IsToken (byte ∷ word)
IsToken-from_bytes byte word bytes =
    ap (filter (λ token. not (is_empty token)))
    (slice_split_none (λ b. is_white b || b == 10) (byte ∷ word) (All-from_recursion IsWordByte (byte ∷ word) bytes))

-- a word that ends at such a byte is the first token
pub word_then : (word : List ℕ) (y : ℕ) (ys : List ℕ) → IsToken word → (is_white y || y == 10) ≡ true →
    dump_tokens (word ++ y ∷ ys) ≡ word ∷ dump_tokens ys
word_then word y ys token cut = dump_tokens-append word ys y cut ∙ rw token refl

-- ---- pieces of text

-- a piece of text that ends where a token ends, and its tokens
pub record Gives (text : List ℕ) (tokens : List (List ℕ)) : Type 0 where
  pub before : (rest : List ℕ) → dump_tokens (text ++ rest) ≡ tokens ++ dump_tokens rest

-- the empty piece gives none
pub Gives-none : Gives [] []
Gives-none = record { before = λ rest. refl }

-- a line gives its tokens
pub Gives-line : (text : List ℕ) {tokens : List (List ℕ)} → dump_tokens text ≡ tokens → Gives (line text) tokens
Gives-line text same = record { before = λ rest. rw append_assoc (dump_tokens-append text rest 10 refl ∙ rw same refl) }

-- one piece and then another give the tokens of both
infixl 10 ◌&◌
pub ◌&◌ : {xs ys : List ℕ} {us vs : List (List ℕ)} → Gives xs us → Gives ys vs → Gives (xs ++ ys) (us ++ vs)
◌&◌ {xs} {ys} {us} {vs} first second = record {
  before = λ rest.
      rw (append_assoc xs ys rest)
      (first.before (ys ++ rest) ∙ rw (second.before rest) (sym (append_assoc us vs (dump_tokens rest))));
}

-- a piece for each element of a list gives the tokens of each
pub Gives-flat_map : {A : Type 0} (f : A → List ℕ) (g : A → List (List ℕ)) (xs : List A) →
    AllByRecursion (λ x. Gives (f x) (g x)) xs → Gives (flat_map f xs) (flat_map g xs)
Gives-flat_map f g [] each = Gives-none
Gives-flat_map f g (x ∷ xs) each = each.0 & Gives-flat_map f g xs each.1

-- a piece that is a whole text gives all its tokens
pub Gives-whole : {text : List ℕ} {tokens : List (List ℕ)} → Gives text tokens → dump_tokens text ≡ tokens
Gives-whole {text} {tokens} piece = ap dump_tokens (sym (append-nil text)) ∙ piece.before [] ∙ append-nil tokens
