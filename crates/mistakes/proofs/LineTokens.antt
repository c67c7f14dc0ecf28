-- The tokens of a line, taken from its front.
use Rattle.std.proofs.Common.{◌≡◌, ℕ, suc, ◌+◌, ◌<◌, ◌≤◌, ◌||◌, ◌&&◌, not, max, Bool, true, false, cond, List, [], ◌∷◌, length, take, drop, refl, ap, sym, subst, ◌∙◌, arith, one-add}
use Rattle.std.specs.List.{prefix_len}
use Rattle.mistakes.specs.Tokens.{Token, is_word_byte, is_word_end, lengthened, tokens_from}
use Rattle.texts.specs.Text.{is_white}

-- a line of white space has none
pub tokens_from-none : (marked : Bool) (column : ℕ) (code : List ℕ) → length (drop (prefix_len is_white code) code) ≡ 0 → tokens_from marked column code ≡ []
tokens_from-none marked column [] = λ none. refl
tokens_from-none marked column (byte ∷ code) = go (is_white byte) refl (tokens_from-none marked (column + 1) code)
  where
    go : (white : Bool) → is_white byte ≡ white →
        (length (drop (prefix_len is_white code) code) ≡ 0 → tokens_from marked (column + 1) code ≡ []) →
        length (drop (prefix_len is_white (byte ∷ code)) (byte ∷ code)) ≡ 0 → tokens_from marked column (byte ∷ code) ≡ []
    go true w rest = rw (w, one-add) rest
    go false w rest = rw w (λ none. absurd (omega arith))

-- the number of tokens is at most that of the bytes
length-lengthened : (column byte : ℕ) (tokens : List Token) → length (lengthened column byte tokens) ≡ length tokens
length-lengthened column byte [] = refl
length-lengthened column byte (token ∷ tokens) = refl

pub length-tokens_from : (marked : Bool) (column : ℕ) (code : List ℕ) → length (tokens_from marked column code) ≤ length code
length-tokens_from marked column [] = omega arith
length-tokens_from marked column (byte ∷ code) =
    go (is_white byte) (not (is_word_byte marked byte) || is_word_end marked code) (tokens_from marked (column + 1) code) (length-tokens_from marked (column + 1) code)
  where
    go : (white single : Bool) (tokens : List Token) → length tokens ≤ length code →
        length (cond white tokens (cond single (record { column = column; bytes = byte ∷ [] } ∷ tokens) (lengthened column byte tokens))) ≤ suc (length code)
    go true single tokens few = omega arith
    go false true tokens few = omega arith
    go false false tokens few = omega (arith, length-lengthened column byte tokens)

-- a byte of a word isn't white space
not_white : (white marks : Bool) → (not white && marks) ≡ true → white ≡ false
not_white true marks e = sym e
not_white false marks e = refl

-- before a byte of a word nothing comes first
pick : (white word single : Bool) (tokens one long : List Token) → white ≡ false → word ≡ true →
    cond white tokens (cond (not word || single) one long) ≡ cond single one long
pick white word single tokens one long e f = rw (e, f) refl

-- what isn't white space and no byte of a word is a token
pick_one : (white word single : Bool) (tokens one long : List Token) → white ≡ false → word ≡ false →
    cond white tokens (cond (not word || single) one long) ≡ one
pick_one white word single tokens one long e f = rw (e, f) refl

pick_end : (word : Bool) (one long : List Token) → word ≡ false → cond (not word) one long ≡ one
pick_end word one long f = rw f refl

pick_more : (word : Bool) (one long : List Token) → word ≡ true → cond (not word) one long ≡ long
pick_more word one long f = rw f refl

-- a token of a word with this number of further bytes, and what follows it
module _ (marked : Bool) (column byte : ℕ) (code : List ℕ) where
  abbrev word_of : ℕ → List Token
  word_of size = record { column = column; bytes = byte ∷ take size code } ∷ tokens_from marked (column + 1 + size) (drop size code)

  word_of-none : record { column = column; bytes = byte ∷ [] } ∷ tokens_from marked (column + 1) code ≡ word_of 0
  word_of-none = ap (λ n. record { column = column; bytes = byte ∷ [] } ∷ tokens_from marked n code) (omega arith)

-- a word, where the column is that of its first byte
word_first : (marked : Bool) (column byte : ℕ) (code : List ℕ) → is_word_byte marked byte ≡ true →
    tokens_from marked column (byte ∷ code)
    ≡ record { column = column; bytes = byte ∷ take (prefix_len (is_word_byte marked) code) code }
    ∷ tokens_from marked (column + 1 + prefix_len (is_word_byte marked) code) (drop (prefix_len (is_word_byte marked) code) code)
word_first marked column byte [] w =
    pick (is_white byte) (is_word_byte marked byte) true [] (record { column = column; bytes = byte ∷ [] } ∷ []) [] (not_white (is_white byte) _ w) w
word_first marked column byte (other ∷ code) w =
    pick (is_white byte) (is_word_byte marked byte) (is_word_end marked (other ∷ code)) rest (record { column = column; bytes = byte ∷ [] } ∷ rest)
    (lengthened column byte rest) (not_white (is_white byte) _ w) w
    ∙ go (is_word_byte marked other) refl (λ follows. word_first marked (column + 1) other code follows)
  where
    rest : List Token
    rest = tokens_from marked (column + 1) (other ∷ code)

    go : (word : Bool) → is_word_byte marked other ≡ word →
        (is_word_byte marked other ≡ true → rest
        ≡ record { column = column + 1; bytes = other ∷ take (prefix_len (is_word_byte marked) code) code }
        ∷ tokens_from marked (column + 1 + 1 + prefix_len (is_word_byte marked) code) (drop (prefix_len (is_word_byte marked) code) code)) →
        cond (not (is_word_byte marked other)) (record { column = column; bytes = byte ∷ [] } ∷ rest) (lengthened column byte rest)
        ≡ record { column = column; bytes = byte ∷ take (prefix_len (is_word_byte marked) (other ∷ code)) (other ∷ code) }
        ∷ tokens_from marked (column + 1 + prefix_len (is_word_byte marked) (other ∷ code)) (drop (prefix_len (is_word_byte marked) (other ∷ code)) (other ∷ code))
    go true follows word =
        let same : column + 1 + 1 + prefix_len (is_word_byte marked) code ≡ column + 1 + suc (prefix_len (is_word_byte marked) code) = omega arith in
        let more : prefix_len (is_word_byte marked) (other ∷ code) ≡ suc (prefix_len (is_word_byte marked) code) = rw (follows, one-add) refl in
        pick_more (is_word_byte marked other) (record { column = column; bytes = byte ∷ [] } ∷ rest) (lengthened column byte rest) follows
        ∙ ap (lengthened column byte) (word follows)
        ∙ ap (λ n. record { column = column; bytes = byte ∷ other ∷ take (prefix_len (is_word_byte marked) code) code }
        ∷ tokens_from marked n (drop (prefix_len (is_word_byte marked) code) code)) same
        ∙ ap (word_of marked column byte (other ∷ code)) (sym more)
    go false follows word =
        let none : prefix_len (is_word_byte marked) (other ∷ code) ≡ 0 = rw follows refl in
        pick_end (is_word_byte marked other) (record { column = column; bytes = byte ∷ [] } ∷ rest) (lengthened column byte rest) follows
        ∙ word_of-none marked column byte (other ∷ code)
        ∙ ap (word_of marked column byte (other ∷ code)) (sym none)

-- the first token of a line that begins with one
split_here : (marked : Bool) (column byte : ℕ) (code : List ℕ) → is_white byte ≡ false →
    let size = max 1 (prefix_len (is_word_byte marked) (byte ∷ code)) in
    tokens_from marked column (byte ∷ code)
    ≡ record { column = column; bytes = take size (byte ∷ code) } ∷ tokens_from marked (column + size) (drop size (byte ∷ code))
split_here marked column byte code white = go (is_word_byte marked byte) refl
  where
    go : (word : Bool) → is_word_byte marked byte ≡ word →
        (let size = max 1 (prefix_len (is_word_byte marked) (byte ∷ code)) in
        tokens_from marked column (byte ∷ code)
        ≡ record { column = column; bytes = take size (byte ∷ code) } ∷ tokens_from marked (column + size) (drop size (byte ∷ code)))
    go true w =
        let size : max 1 (1 + prefix_len (is_word_byte marked) code) ≡ suc (prefix_len (is_word_byte marked) code) = omega arith in
        let same : column + 1 + prefix_len (is_word_byte marked) code ≡ column + suc (prefix_len (is_word_byte marked) code) = omega arith in
        word_first marked column byte code w
        ∙ ap (λ n. record { column = column; bytes = byte ∷ take (prefix_len (is_word_byte marked) code) code }
        ∷ tokens_from marked n (drop (prefix_len (is_word_byte marked) code) code)) same
        ∙ rw (w, size) refl
    go false w =
        pick_one (is_white byte) (is_word_byte marked byte) (is_word_end marked code) (tokens_from marked (column + 1) code)
        (record { column = column; bytes = byte ∷ [] } ∷ tokens_from marked (column + 1) code)
        (lengthened column byte (tokens_from marked (column + 1) code)) white w
        ∙ rw w refl

-- the first token of a line, after its white space
pub tokens_from-split : (marked : Bool) (column : ℕ) (code : List ℕ) →
    let begin = prefix_len is_white code in
    let size = max 1 (prefix_len (is_word_byte marked) (drop begin code)) in
    0 < length (drop begin code) →
    tokens_from marked column code
    ≡ record { column = column + begin; bytes = take size (drop begin code) } ∷ tokens_from marked (column + begin + size) (drop size (drop begin code))
tokens_from-split marked column [] = λ some. absurd (omega arith)
tokens_from-split marked column (byte ∷ code) = go (is_white byte) refl (tokens_from-split marked (column + 1) code)
  where
    At : ℕ → ℕ → Type 0
    At begin at =
        let size = max 1 (prefix_len (is_word_byte marked) (drop begin (byte ∷ code))) in
        0 < length (drop begin (byte ∷ code)) →
        tokens_from marked column (byte ∷ code)
        ≡ record { column = at; bytes = take size (drop begin (byte ∷ code)) } ∷ tokens_from marked (at + size) (drop size (drop begin (byte ∷ code)))

    go : (white : Bool) → is_white byte ≡ white →
        (let begin = prefix_len is_white code in
        let size = max 1 (prefix_len (is_word_byte marked) (drop begin code)) in
        0 < length (drop begin code) →
        tokens_from marked (column + 1) code
        ≡ record { column = column + 1 + begin; bytes = take size (drop begin code) } ∷ tokens_from marked (column + 1 + begin + size) (drop size (drop begin code))) →
        let begin = prefix_len is_white (byte ∷ code) in
        let size = max 1 (prefix_len (is_word_byte marked) (drop begin (byte ∷ code))) in
        0 < length (drop begin (byte ∷ code)) →
        tokens_from marked column (byte ∷ code)
        ≡ record { column = column + begin; bytes = take size (drop begin (byte ∷ code)) }
        ∷ tokens_from marked (column + begin + size) (drop size (drop begin (byte ∷ code)))
    go true w rest =
        let begin = prefix_len is_white code in
        let size = max 1 (prefix_len (is_word_byte marked) (drop begin code)) in
        let same : column + 1 + begin ≡ column + suc begin = omega arith in
        rw (w, one-add) (λ some. rest some
        ∙ ap (λ n. record { column = n; bytes = take size (drop begin code) } ∷ tokens_from marked (n + size) (drop size (drop begin code))) same)
    go false w rest =
        let none : prefix_len is_white (byte ∷ code) ≡ 0 = rw w refl in
        subst (λ begin. At begin (column + begin)) (sym none)
        (subst (At 0) (omega arith) (λ some. split_here marked column byte code w))
