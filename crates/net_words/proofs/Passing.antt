-- Last bytes of a name, by their number, and which of them pass.
use Rattle.std.proofs.Common.{◌≡◌, ◌≢◌, refl, sym, ap, subst, ◌∙◌, ℕ, zero, suc, ◌+◌, ◌-◌, ◌<◌, ◌≤◌, ◌==◌, ◌&&◌, ◌||◌, Bool, true, false, List, [], ◌∷◌, ◌++◌, drop, drop-cons, get_or, length, arith}
use Rattle.std.proofs.lemmas.Bool.Decides.{nat_tests}
use Rattle.std.proofs.lemmas.List.{drop_all}
use Rattle.std.proofs.lemmas.List.FromFn.{get_or-map-range_with_len, length-map-range_with_len, map-range_with_len_more}
use Rattle.texts.specs.Text.{is_empty}
use Rattle.net_words.specs.Pattern.{last_bytes, passing, takes, takes_any, takes_one}

-- no last bytes are none
pub last_bytes-none : (name : List ℕ) → last_bytes name 0 ≡ []
last_bytes-none name = drop_all (length name - 0) name (omega arith)

-- all of them are the name
pub last_bytes-all : (name : List ℕ) (count : ℕ) → count ≡ length name → last_bytes name count ≡ name
last_bytes-all name count all = let none : length name - count ≡ 0 = omega (arith, all) in ap (λ place. drop place name) none

-- one more begins with the byte before the others
pub last_bytes-more : (name : List ℕ) (left : ℕ) (d : ℕ) → left < length name →
    last_bytes name (left + 1) ≡ get_or name (length name - (left + 1)) d ∷ last_bytes name left
last_bytes-more name left d inside =
    let at : ℕ = length name - (left + 1) in
    let next : suc at ≡ length name - left = omega arith in
    drop-cons name at d (omega arith) ∙ ap (λ place. get_or name at d ∷ drop place name) next

last_bytes-at : (name : List ℕ) (left : ℕ) (d : ℕ) → 0 < left → left ≤ length name →
    last_bytes name left ≡ get_or name (length name - left) d ∷ last_bytes name (left - 1)
last_bytes-at name left d some within =
    let same : (left - 1) + 1 ≡ left = omega arith in
    subst (λ (n : ℕ). last_bytes name n ≡ get_or name (length name - n) d ∷ last_bytes name (left - 1)) same
    (last_bytes-more name (left - 1) d (omega arith))

-- the empty pattern takes no last bytes
pub none-at : (name : List ℕ) (left : ℕ) → left ≤ length name → (left == 0) ≡ is_empty (last_bytes name left)
none-at name zero within = rw (last_bytes-none name) refl
none-at name (suc left) within =
    let test : (suc left == 0) ≡ false = grind (arith, nat_tests) in
    rw (last_bytes-at name (suc left) 0 (omega arith) within) test

-- what is known of a number of last bytes
pub passing-at : (passes : List ℕ → Bool) (name : List ℕ) (count left : ℕ) (d : Bool) → left < count →
    get_or (passing passes name count) left d ≡ passes (last_bytes name left)
passing-at passes name count left d inside = get_or-map-range_with_len (λ left. passes (last_bytes name left)) 0 count left left d inside (omega arith)

-- one number more
pub passing-more : (passes : List ℕ → Bool) (name : List ℕ) (count : ℕ) →
    passing passes name (count + 1) ≡ passing passes name count ++ passes (last_bytes name count) ∷ []
passing-more passes name count = map-range_with_len_more (λ left. passes (last_bytes name left)) 0 count count (omega arith)

pub length-passing : (passes : List ℕ → Bool) (name : List ℕ) (count : ℕ) → length (passing passes name count) ≡ count
length-passing passes name count = length-map-range_with_len (λ left. passes (last_bytes name left)) 0 count

-- ---- one byte of a pattern more

takes_any-here : (passes : List ℕ → Bool) (name : List ℕ) → passes name ≡ true → takes_any passes name ≡ true
takes_any-here passes [] is = is
takes_any-here passes (byte ∷ rest) is = rw is refl

takes-star : (byte : ℕ) (passes : List ℕ → Bool) (name : List ℕ) → byte ≡ 42 → takes byte passes name ≡ takes_any passes name
takes-star byte passes name is = rw is refl

takes-itself : (byte : ℕ) (passes : List ℕ → Bool) (name : List ℕ) → byte ≢ 42 → takes byte passes name ≡ takes_one byte passes name
takes-itself byte passes name other =
    let test : (byte == 42) ≡ false = grind (arith, nat_tests) in
    rw test refl

module _ (byte : ℕ) (passes : List ℕ → Bool) (name : List ℕ) (ends : List Bool) (known : ends ≡ passing passes name (length name + 1)) (left : ℕ)
    (within : left ≤ length name) where
  value : (fewer : ℕ) → fewer ≤ length name → get_or ends fewer false ≡ passes (last_bytes name fewer)
  value fewer inside = ap (λ list. get_or list fewer false) known ∙ passing-at passes name (length name + 1) fewer false (omega arith)

  -- a `*` takes nothing, and the rest passes
  pub takes-nothing : byte ≡ 42 → get_or ends left false ≡ true → get_or ends left false ≡ takes byte passes (last_bytes name left)
  takes-nothing star here =
      here ∙ sym (takes-star byte passes (last_bytes name left) star ∙ takes_any-here passes (last_bytes name left) (sym (value left within) ∙ here))

  module _ (some : 0 < left) where
    -- a `*` that doesn't take nothing takes a byte, and then maybe more
    pub takes-more : byte ≡ 42 → get_or ends left false ≡ false → (more : List Bool) → more ≡ passing (takes byte passes) name left →
        get_or more (left - 1) false ≡ takes byte passes (last_bytes name left)
    takes-more star not_here more fewer =
        let at = last_bytes-at name left 0 some within in
        let none : passes (get_or name (length name - left) 0 ∷ last_bytes name (left - 1)) ≡ false = sym (ap passes at) ∙ sym (value left within) ∙ not_here in
        ap (λ list. get_or list (left - 1) false) fewer
        ∙ passing-at (takes byte passes) name left (left - 1) false (omega arith)
        ∙ takes-star byte passes (last_bytes name (left - 1)) star
        ∙ sym (takes-star byte passes (last_bytes name left) star ∙ ap (takes_any passes) at ∙ ap (λ first. first || takes_any passes (last_bytes name (left - 1))) none)

    -- another byte takes itself
    pub takes-first : byte ≢ 42 → (get_or name (length name - left) 0 == byte) ≡ true → get_or ends (left - 1) false ≡ takes byte passes (last_bytes name left)
    takes-first other same =
        value (left - 1) (omega arith)
        ∙ sym (takes-itself byte passes (last_bytes name left) other ∙ ap (takes_one byte passes) (last_bytes-at name left 0 some within)
        ∙ ap (λ first. first && passes (last_bytes name (left - 1))) same)
