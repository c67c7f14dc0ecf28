use Rattle.std.proofs.Common.{◌≡◌, ℕ, ◌+◌, ◌-◌, ◌/◌, ◌%◌, ◌<◌, ◌≤◌, List, [], ◌∷◌, ◌++◌, ◌∙◌, length, take, set, ap, sym, append_assoc, length-append, length-set, arith}
use Rattle.std.proofs.lemmas.List.{take_more_set, take-set-le, length-take-le, get_or-set_same}
use Rattle.vcd_dump.specs.Codes.{code_at}
use Rattle.vcd_dump.proofs.CodeLemmas.{code_at-step, code_at-last, code_at-some, length-code_at}
use Rattle.vcd_dump.proofs.codes.Code.new.Goals as goal

-- one more character, of a code that goes on
more : (bytes : List ℕ) (len rest place : ℕ) → len < length bytes → 94 ≤ rest → take len bytes ++ code_at rest ≡ code_at place →
    take (len + 1) (set bytes len (33 + rest % 94)) ++ code_at (rest / 94 - 1) ≡ code_at place
more bytes len rest place within high so_far =
    let behind = code_at (rest / 94 - 1) in
    ap (λ xs. xs ++ behind) (take_more_set bytes len (33 + rest % 94) within)
    ∙ append_assoc (take len bytes) (_ ∷ []) behind
    ∙ ap (λ xs. take len bytes ++ xs) (sym (code_at-step rest high)) ∙ so_far

-- the last one
last : (bytes : List ℕ) (len rest place : ℕ) → len < length bytes → rest < 94 → take len bytes ++ code_at rest ≡ code_at place →
    take (len + 1) (set bytes len (33 + rest % 94)) ≡ code_at place
last bytes len rest place within low so_far =
    take_more_set bytes len (33 + rest % 94) within
    ∙ ap (λ xs. take len bytes ++ xs) (sym (code_at-last rest low)) ∙ so_far

-- so many characters leave room
fits : (bytes : List ℕ) (len rest place : ℕ) → len ≤ length bytes → place < 100_000 → take len bytes ++ code_at rest ≡ code_at place → len ≤ 2
fits bytes len rest place within few so_far =
    omega (
      arith,
      length-take-le len bytes within,
      code_at-some rest,
      length-code_at place few,
      ap length so_far,
      length-append (take len bytes) (code_at rest),
    )

pub invariant_of-result : goal.invariant_of-result
invariant_of-result c =
    let rest = c.loop-rest.rest in
    let len = c.loop-rest.len in
    let bytes = set c.loop-rest.bytes len (33 + rest % 94) in
    let many : length bytes ≡ 4 = length-set c.loop-rest.bytes len (33 + rest % 94) ∙ c.loop-rest.invariant.four in
    (omega (arith, c.loop-rest.invariant.room), get_or-set_same bytes (len + 1) 10 0 (omega (arith, many, c.loop-rest.invariant.room)))

pub returns-then-rest-lt-CHARACTERS : goal.returns-then-rest-lt-CHARACTERS
returns-then-rest-lt-CHARACTERS c =
    let rest = c.loop-rest.rest in
    let len = c.loop-rest.len in
    take-set-le (len + 1) (set c.loop-rest.bytes len (33 + rest % 94)) (len + 1) 10 (omega arith)
    ∙ last c.loop-rest.bytes len rest c.args.place (omega (arith, c.loop-rest.invariant.four, c.loop-rest.invariant.room))
    c.if-rest-lt-CHARACTERS.true c.loop-rest.invariant.so_far

pub loop-rest-preserved : goal.loop-rest-preserved
loop-rest-preserved c =
    let rest = c.loop-rest.rest in
    let len = c.loop-rest.len in
    let bytes = set c.loop-rest.bytes len (33 + rest % 94) in
    let many : length bytes ≡ 4 = length-set c.loop-rest.bytes len (33 + rest % 94) ∙ c.loop-rest.invariant.four in
    let so_far = more c.loop-rest.bytes len rest c.args.place (omega (arith, c.loop-rest.invariant.four, c.loop-rest.invariant.room))
    c.if-rest-lt-CHARACTERS.false c.loop-rest.invariant.so_far in
    record {
      four = many;
      room = fits bytes (len + 1) (rest / 94 - 1) c.args.place (omega (arith, many, c.loop-rest.invariant.room)) c.requires so_far;
      so_far = so_far;
    }
