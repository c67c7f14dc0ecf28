-- What stands before each net of a list.
use Rattle.std.proofs.Common.{◌≡◌, ℕ, zero, suc, ◌+◌, ◌-◌, ◌<◌, ◌≤◌, false, IsTrue, true≢false, List, [], ◌∷◌, ◌++◌, length, get_or, take, Some, None, slice_get, refl, sym, ap, ◌∙◌, subst, arith, All, Contains, ◌⊎◌, inl, inr, ⊎_elim, length-append}
use Rattle.std.proofs.lemmas.Bool.{cases_lt}
use Rattle.std.proofs.lemmas.List.{take-append-le, get_or_append_left, get_or-append-add, append-nil}
use Rattle.std.proofs.lemmas.List.Elements.{Contains-append_right}
use Rattle.std.proofs.lemmas.Option.{slice_get_within, get_or_from_slice_get, slice_get_cases}
use Rattle.netlist.specs.Netlist.{NetView}
use Rattle.netlist.specs.Flow.{is_gate_in, Feeds, FlowsTo, FollowsFlow}

-- what holds of each net of a list and those before it
abbrev pub AtEach : (List ℕ → ℕ → Type 0) → List ℕ → Type 0
AtEach P nets = (place d : ℕ) → place < length nets → P (take place nets) (get_or nets place d)

take-append_add : (xs ys : List ℕ) (n place : ℕ) → length xs + n ≡ place → take place (xs ++ ys) ≡ xs ++ take n ys
take-append_add [] ys n place e = let same : place ≡ n = omega (arith, e) in ap (λ k. take k ys) same
take-append_add (x ∷ xs) ys n zero e = absurd (omega (arith, e))
take-append_add (x ∷ xs) ys n (suc place) e = ap (λ rest. x ∷ rest) (take-append_add xs ys n place (omega (arith, e)))

pub AtEach-append : (P : List ℕ → ℕ → Type 0) (xs ys : List ℕ) → AtEach P xs → AtEach (λ before. P (xs ++ before)) ys → AtEach P (xs ++ ys)
AtEach-append P xs ys first second place d within = ⊎_elim
    (λ early. subst (λ before. P before (get_or (xs ++ ys) place d)) (sym (take-append-le place xs ys (omega (arith, early))))
    (subst (P (take place xs)) (sym (get_or_append_left xs ys d place early)) (first place d early)))
    (λ late.
    let n : ℕ = place - length xs in
    let same : length xs + n ≡ place = omega (arith, late) in
    subst (λ place. P (take place (xs ++ ys)) (get_or (xs ++ ys) place d)) same
    (subst (λ before. P before (get_or (xs ++ ys) (length xs + n) d)) (sym (take-append_add xs ys n (length xs + n) refl))
    (subst (P (xs ++ take n ys)) (sym (get_or-append-add xs ys n d))
    (second n d (omega (arith, late, within, length-append xs ys))))))
    (cases_lt place (length xs))

pub AtEach-push : (P : List ℕ → ℕ → Type 0) (xs : List ℕ) (x : ℕ) → AtEach P xs → P xs x → AtEach P (xs ++ x ∷ [])
AtEach-push P xs x first last = AtEach-append P xs (x ∷ []) first one
  where
    one : AtEach (λ before. P (xs ++ before)) (x ∷ [])
    one zero d within = subst (λ before. P before x) (sym (append-nil xs)) last
    one (suc place) d within = absurd (omega (arith, within))

-- each gate at the pins of a gate is among these, unless values flow back to it
abbrev pub Behind : List NetView → List ℕ → ℕ → Type 0
Behind nets before gate =
    (source : ℕ) → IsTrue (is_gate_in nets source) → Feeds nets source gate → Contains before source ⊎ FlowsTo nets gate source

module _ (nets : List NetView) (order : List ℕ) where
  pub follows_from_each : AtEach (Behind nets) order → FollowsFlow nets order
  follows_from_each each place gate source at =
      subst (Behind nets (take place order)) (get_or_from_slice_get order place gate gate at) (each place gate (slice_get_within order place gate at)) source

  pub each_from_follows : FollowsFlow nets order → AtEach (Behind nets) order
  each_from_follows follows place d within = go (slice_get_cases order place).1
    where
      go : ((net : ℕ) × (place < length order) × (slice_get order place ≡ Some net) × (get_or order place net ≡ net))
          ⊎ ((length order ≤ place) × (slice_get order place ≡ None)) → Behind nets (take place order) (get_or order place d)
      go (inl (net, below, at, is)) =
          subst (Behind nets (take place order)) (sym (get_or_from_slice_get order place net d at)) (λ source. follows place net source at)
      go (inr (past, none)) = absurd (omega arith)

module _ (nets : List NetView) where
  -- what is no gate has nothing to stand behind
  no_gates : (before others : List ℕ) → All (λ net. is_gate_in nets net ≡ false) others → AtEach (λ more. Behind nets (before ++ more)) others
  no_gates before others none place d within source gate feeds =
      absurd (true≢false (sym feeds.by_gate ∙ none place d within))

  -- gates in order are so between other nets too
  pub follows_between : (before gates after : List ℕ) → All (λ net. is_gate_in nets net ≡ false) before →
      All (λ net. is_gate_in nets net ≡ false) after → FollowsFlow nets gates → FollowsFlow nets (before ++ gates ++ after)
  follows_between before gates after none_before none_after follows =
      follows_from_each nets (before ++ gates ++ after)
      (AtEach-append (Behind nets) (before ++ gates) after
      (AtEach-append (Behind nets) before gates
      (no_gates [] before none_before)
      (λ place d within source gate feeds. ⊎_elim
      (λ at. inl (Contains-append_right before (take place gates) source at))
      (λ flows. inr flows)
      (each_from_follows nets gates follows place d within source gate feeds)))
      (no_gates (before ++ gates) after none_after))
