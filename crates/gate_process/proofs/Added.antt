-- Changes that messages tell of, added to a waveform one after another.
use Rattle.std.proofs.Common.{◌≡◌, ◌≢◌, ℕ, zero, suc, ◌+◌, ◌<◌, ◌≤◌, List, [], ◌∷◌, ◌++◌, All, length, take, drop, get_or, None, Some, refl, ap, sym, subst, ◌∙◌, arith, append-nil, append_assoc}
use Rattle.std.proofs.lemmas.List.{take_more}
use Rattle.std.proofs.lemmas.List.Elements.{All-nil, All-cons, filter_map-append}
use Rattle.logic3.specs.declared.value.Value.{Value}
use Rattle.logic3.specs.declared.change.Change.{Change}
use Rattle.logic3.specs.Wave.{Wave, IsWave, Alternates, joined, last_value, value_in_the_end}
use Rattle.cmb_channels.specs.declared.message.Message.{Message}
use Rattle.cmb_channels.specs.declared.message.Message.TheVariants.{Change as Changes, Null}
use Rattle.cmb_channels.specs.Packed.{change_said, changes_said}

-- one more message
pub said_more : (news : List Message) (at : ℕ) (d : Message) → at < length news →
    changes_said (take (at + 1) news) ≡ changes_said (take at news) ++ changes_said (get_or news at d ∷ [])
said_more news at d within =
    ap changes_said (take_more news at d within) ∙ filter_map-append change_said (take at news) (get_or news at d ∷ [])

-- where it tells of a change, or of none
pub said_change : (message : Message) (change : Change) → change_said message ≡ Some change → changes_said (message ∷ []) ≡ change ∷ []
said_change (Changes other) change is = cc
said_change (Null bound) change is = cc

pub said_nothing : (message : Message) → change_said message ≡ None → changes_said (message ∷ []) ≡ []
said_nothing (Changes other) is = cc
said_nothing (Null bound) is = refl

-- a change, and what comes after it
said_split : (news : List Message) (at : ℕ) (d : Message) (change : Change) → at < length news → change_said (get_or news at d) ≡ Some change →
    changes_said news ≡ changes_said (take at news) ++ change ∷ changes_said (drop (suc at) news)
said_split [] at d change within is = absurd (omega (arith, within))
said_split (Changes first ∷ news) zero d change within is = cc
said_split (Null bound ∷ news) zero d change within is = cc
said_split (Changes first ∷ news) (suc at) d change within is =
    ap (λ cs. first ∷ cs) (said_split news at d change (omega (arith, within)) is)
said_split (Null bound ∷ news) (suc at) d change within is = said_split news at d change (omega (arith, within)) is

-- a change stands after those before it, and shows another value
follows : (before : Value) (low : ℕ) (changes : List Change) (change : Change) (rest : List Change) →
    Alternates before low (changes ++ change ∷ rest) →
    (low ≤ change.tick) × All (λ (earlier : Change). earlier.tick < change.tick) changes × (change.value ≢ value_in_the_end before changes)
follows before low [] change rest rise = (rise.0, All-nil (λ (earlier : Change). earlier.tick < change.tick), rise.1)
follows before low (first ∷ changes) change rest rise =
    let more = follows first.value (first.tick + 1) changes change rest rise.2 in
    let later = more.0 in
    let begins = rise.0 in
    (omega (arith, later, begins), All-cons (λ (earlier : Change). earlier.tick < change.tick) first changes (omega (arith, later)) more.1, more.2)

module _ (wave : Wave) (news : List Message) (at : ℕ) (d : Message) (change : Change) (within : at < length news)
    (is : change_said (get_or news at d) ≡ Some change) (ok : IsWave (joined wave (changes_said news))) where
  next : Alternates wave.before 0 ((wave.changes ++ changes_said (take at news)) ++ change ∷ changes_said (drop (suc at) news))
  next =
      subst (Alternates wave.before 0) (ap (λ cs. wave.changes ++ cs) (said_split news at d change within is)
      ∙ sym (append_assoc wave.changes (changes_said (take at news)) (change ∷ changes_said (drop (suc at) news)))) ok

  -- so it can be pushed
  pub can_push : All (λ (earlier : Change). earlier.tick < change.tick) (joined wave (changes_said (take at news))).changes
      × (change.value ≢ last_value (joined wave (changes_said (take at news))))
  can_push =
      let all = follows wave.before 0 (wave.changes ++ changes_said (take at news)) change (changes_said (drop (suc at) news)) next in
      (all.1, all.2)

-- a list with a change more
pub added_change : (start : List Change) (news : List Message) (at : ℕ) (d : Message) (change : Change) → at < length news →
    change_said (get_or news at d) ≡ Some change →
    (start ++ changes_said (take at news)) ++ change ∷ [] ≡ start ++ changes_said (take (at + 1) news)
added_change start news at d change within is =
    append_assoc start (changes_said (take at news)) (change ∷ [])
    ∙ ap (λ cs. start ++ (changes_said (take at news) ++ cs)) (sym (said_change (get_or news at d) change is))
    ∙ ap (λ cs. start ++ cs) (sym (said_more news at d within))

-- a null message adds nothing
pub added_nothing : (start : List Change) (news : List Message) (at : ℕ) (d : Message) → at < length news →
    change_said (get_or news at d) ≡ None → start ++ changes_said (take at news) ≡ start ++ changes_said (take (at + 1) news)
added_nothing start news at d within is =
    ap (λ cs. start ++ cs) (sym (said_more news at d within
    ∙ ap (λ cs. changes_said (take at news) ++ cs) (said_nothing (get_or news at d) is) ∙ append-nil (changes_said (take at news))))
