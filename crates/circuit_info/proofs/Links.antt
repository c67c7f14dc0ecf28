-- Lists of nets of which each but the last goes with the next one, by a relation.
use Rattle.std.proofs.Common.{◌≡◌, ℕ, ◌+◌, ◌<◌, List, [], ◌∷◌, ◌++◌, length, get_or, sym, subst, arith, ⊎_elim}
use Rattle.std.proofs.lemmas.Bool.{cases_lt}
use Rattle.std.proofs.lemmas.List.{length_push, get_or_push, get_or_append_left}

module _ (R : ℕ → ℕ → Type 0) where
  abbrev pub AreJoined : List ℕ → Type 0
  AreJoined nets = (place : ℕ) → place + 1 < length nets → R (get_or nets place 0) (get_or nets (place + 1) 0)

  pub AreJoined-front : (nets : List ℕ) (last : ℕ) → AreJoined (nets ++ last ∷ []) → AreJoined nets
  AreJoined-front nets last joined place within =
      subst (λ net. R net (get_or nets (place + 1) 0)) (get_or_append_left nets (last ∷ []) 0 place (omega (arith, within)))
      (subst (R (get_or (nets ++ last ∷ []) place 0)) (get_or_append_left nets (last ∷ []) 0 (place + 1) within)
      (joined place (omega (arith, within, length_push nets last))))

  pub AreJoined-push : (nets : List ℕ) (last next : ℕ) → AreJoined (nets ++ last ∷ []) → R last next → AreJoined (nets ++ last ∷ [] ++ next ∷ [])
  AreJoined-push nets last next joined link place within =
      let size = length_push (nets ++ last ∷ []) next in
      let here : place < length (nets ++ last ∷ []) = omega (arith, within, size) in
      subst (λ net. R net (get_or (nets ++ last ∷ [] ++ next ∷ []) (place + 1) 0)) (sym (get_or_append_left (nets ++ last ∷ []) (next ∷ []) 0 place here))
      (⊎_elim
      (λ less. subst (R (get_or (nets ++ last ∷ []) place 0)) (sym (get_or_append_left (nets ++ last ∷ []) (next ∷ []) 0 (place + 1) less)) (joined place less))
      (λ past.
      let at_end : length (nets ++ last ∷ []) ≡ place + 1 = omega (arith, past, here) in
      let at_last : length nets ≡ place = omega (arith, at_end, length_push nets last) in
      subst (λ net. R net (get_or (nets ++ last ∷ [] ++ next ∷ []) (place + 1) 0)) (sym (get_or_push nets last 0 place at_last))
      (subst (R last) (sym (get_or_push (nets ++ last ∷ []) next 0 (place + 1) at_end)) link))
      (cases_lt (place + 1) (length (nets ++ last ∷ []))))
