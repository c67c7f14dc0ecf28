-- Lines with their newlines, taken from the front of a text.
use Rattle.std.proofs.Common.{◌≡◌, ℕ, ◌+◌, ◌-◌, ◌<◌, ◌≤◌, ◌==◌, Bool, true, false, cond, List, [], ◌∷◌, ◌++◌, length, take, drop, refl, sym, ap, ◌∙◌, arith, one-add, suc-add, append_assoc, length-append}
use Rattle.std.specs.List.{position_or_len, onto_first, concat}
use Rattle.std.proofs.Math.Seq.{take-append_seam}
use Rattle.std.proofs.lemmas.List.{take-append-drop, drop-drop}
use Rattle.prepared_runs.specs.Deck.{ended_lines}

abbrev is_newline : ℕ → Bool
is_newline byte = byte == 10

concat-onto_first : (byte : ℕ) (parts : List (List ℕ)) → concat (onto_first byte parts) ≡ byte ∷ concat parts
concat-onto_first byte [] = refl
concat-onto_first byte (part ∷ parts) = refl

-- end to end they are the text
pub concat-ended_lines : (text : List ℕ) → concat (ended_lines text) ≡ text
concat-ended_lines [] = refl
concat-ended_lines (byte ∷ text) = go (is_newline byte) (concat-ended_lines text)
  where
    go : (b : Bool) → concat (ended_lines text) ≡ text →
        concat (cond b ((byte ∷ []) ∷ ended_lines text) (onto_first byte (ended_lines text))) ≡ byte ∷ text
    go true rest = ap (λ bytes. byte ∷ bytes) rest
    go false rest = concat-onto_first byte (ended_lines text) ∙ ap (λ bytes. byte ∷ bytes) rest

-- lists of lists, end to end
concat-append : (xs ys : List (List ℕ)) → concat (xs ++ ys) ≡ concat xs ++ concat ys
concat-append [] ys = refl
concat-append (x ∷ xs) ys = ap (λ bytes. x ++ bytes) (concat-append xs ys) ∙ sym (append_assoc x (concat xs) (concat ys))

-- a list without its back
front-append : (whole front back : List ℕ) → whole ≡ front ++ back → take (length whole - length back) whole ≡ front
front-append whole front back e =
    let size : length whole - length back ≡ length front = omega (arith, ap length e ∙ length-append front back) in
    rw size (ap (take (length front)) e ∙ take-append_seam front back)

-- a text that has a newline: its first line ends there
pub ended_lines-cut : (text : List ℕ) → position_or_len is_newline text < length text →
    let end = position_or_len is_newline text + 1 in
    ended_lines text ≡ take end text ∷ ended_lines (drop end text)
ended_lines-cut [] within = absurd (omega arith)
ended_lines-cut (byte ∷ text) within = go (is_newline byte) refl within (ended_lines-cut text)
  where
    go : (b : Bool) → is_newline byte ≡ b → position_or_len is_newline (byte ∷ text) < length (byte ∷ text) →
        (position_or_len is_newline text < length text →
        ended_lines text ≡ take (position_or_len is_newline text + 1) text ∷ ended_lines (drop (position_or_len is_newline text + 1) text)) →
        ended_lines (byte ∷ text)
        ≡ take (position_or_len is_newline (byte ∷ text) + 1) (byte ∷ text)
        ∷ ended_lines (drop (position_or_len is_newline (byte ∷ text) + 1) (byte ∷ text))
    go true newline inside rest = rw newline refl
    go false none inside rest =
        let shorter = rw none at inside in
        rw (none, one-add, suc-add, rest (omega arith)) refl

-- a text without one is a line
pub ended_lines-uncut : (text : List ℕ) → length text ≤ position_or_len is_newline text → 0 < length text → ended_lines text ≡ text ∷ []
ended_lines-uncut [] past some = absurd (omega arith)
ended_lines-uncut (byte ∷ text) past some = go (is_newline byte) refl past (ended_lines-uncut text) text refl
  where
    go : (b : Bool) → is_newline byte ≡ b → length (byte ∷ text) ≤ position_or_len is_newline (byte ∷ text) →
        (length text ≤ position_or_len is_newline text → 0 < length text → ended_lines text ≡ text ∷ []) →
        (same : List ℕ) → same ≡ text → ended_lines (byte ∷ text) ≡ (byte ∷ text) ∷ []
    go true newline beyond rest same is = let none = rw newline at beyond in absurd (omega arith)
    go false none beyond rest [] is = rw (none, ← is) refl
    go false none beyond rest (next ∷ more) is =
        let beyond_next = rw none at beyond in
        rw (none, rest (omega arith) (rw (← is) (omega arith))) refl

-- the bytes of the first lines stand before those of the other lines
pub take-first_lines : (text rest : List ℕ) (count : ℕ) → ended_lines rest ≡ drop count (ended_lines text) →
    take (length text - length rest) text ≡ concat (take count (ended_lines text))
take-first_lines text rest count others =
    let lines = ended_lines text in
    let whole : text ≡ concat (take count lines) ++ rest =
    sym (concat-ended_lines text)
    ∙ ap concat (sym (take-append-drop count lines))
    ∙ concat-append (take count lines) (drop count lines)
    ∙ ap (λ bytes. concat (take count lines) ++ bytes) (ap concat (sym others) ∙ concat-ended_lines rest) in
    front-append text (concat (take count lines)) rest whole

-- one more of the first lines
pub drop-more : {X : Type 0} (count : ℕ) (xs : List X) (x : X) (rest : List X) → drop count xs ≡ x ∷ rest → drop (count + 1) xs ≡ rest
drop-more count xs x rest e = sym (drop-drop 1 count xs) ∙ ap (drop 1) e
