-- Messages as text.
use Rattle.std.proofs.Common.{◌≡◌, ◌≢◌, ℕ, suc, ◌+◌, ◌-◌, ◌==◌, Bool, true, false, cond, List, [], ◌∷◌, ◌++◌, length, flat_map, slice_get, refl, ap, sym, ◌∙◌, arith, append_assoc, append-nil}
use Rattle.std.specs.Option.{option_map_or}
use Rattle.std.proofs.lemmas.Bool.{eqb-true}
use Rattle.std.proofs.lemmas.Bool.Decides.{nat_tests}
use Rattle.logic3.specs.declared.change.Change.{Change}
use Rattle.cmb_channels.specs.declared.message.Message.TheVariants.{Change as Changes, Null}
use Rattle.gate_process.specs.Knowledge.{news_of}
use Rattle.event_trace.specs.Lines.{spaced_text, messages_text}
use Rattle.event_trace.specs.Told.{told_by, told_to}

-- the text of some changes
abbrev pub changes_text : List Change → List ℕ
changes_text changes = flat_map (λ (change : Change). spaced_text (Changes change)) changes

-- the text of a null message, where one is due
abbrev pub null_text : Bool → ℕ → List ℕ
null_text all to = cond all [] (spaced_text (Null to))

-- news are some messages
some_news : (changes : List Change) (to : ℕ) → messages_text (news_of changes to) ≡ flat_map spaced_text (news_of changes to)
some_news [] to = refl
some_news (change ∷ []) to = refl
some_news (change ∷ next ∷ changes) to = refl

told_behind : (from : ℕ) (first next : Change) (changes : List Change) → told_to from (first ∷ next ∷ changes) ≡ told_to from (next ∷ changes)
told_behind from first next changes =
    let one : suc (suc (length changes)) - 1 ≡ suc (length changes) = omega arith in
    let other : suc (length changes) - 1 ≡ length changes = omega arith in
    ap (λ n. option_map_or (λ (change : Change). change.tick + 1) (slice_get (first ∷ next ∷ changes) n) from) one
    ∙ sym (ap (λ n. option_map_or (λ (change : Change). change.tick + 1) (slice_get (next ∷ changes) n) from) other)

news_spaced : (changes : List Change) (from to : ℕ) → from ≢ to →
    flat_map spaced_text (news_of changes to) ≡ changes_text changes ++ null_text (told_to from changes == to) to
news_spaced [] from to apart = go (from == to) refl
  where
    go : (all : Bool) → (from == to) ≡ all → spaced_text (Null to) ++ [] ≡ [] ++ null_text all to
    go true e = absurd (apart (eqb-true _ _ e))
    go false e = append-nil (spaced_text (Null to))
news_spaced (change ∷ []) from to apart = go (change.tick + 1 == to)
  where
    go : (all : Bool) → flat_map spaced_text (Changes change ∷ cond all [] (Null to ∷ [])) ≡ (spaced_text (Changes change) ++ []) ++ null_text all to
    go true = sym (append-nil (spaced_text (Changes change) ++ []))
    go false =
        ap (λ (text : List ℕ). spaced_text (Changes change) ++ text) (append-nil (spaced_text (Null to)))
        ∙ ap (λ (text : List ℕ). text ++ spaced_text (Null to)) (sym (append-nil (spaced_text (Changes change))))
news_spaced (change ∷ next ∷ changes) from to apart =
    ap (λ text. spaced_text (Changes change) ++ text)
    (news_spaced (next ∷ changes) from to apart ∙ ap (λ told. changes_text (next ∷ changes) ++ null_text (told == to) to) (sym (told_behind from change next changes)))
    ∙ sym (append_assoc (spaced_text (Changes change)) (changes_text (next ∷ changes)) (null_text (told_to from (change ∷ next ∷ changes) == to) to))

-- the text of news
pub news_text : (changes : List Change) (from to : ℕ) → from ≢ to →
    messages_text (news_of changes to) ≡ changes_text changes ++ null_text (told_to from changes == to) to
news_text changes from to apart = some_news changes to ∙ news_spaced changes from to apart

-- the text of what tells of a signal, after its changes and after a null message
module _ (changes : List Change) (from to : ℕ) (before after : List ℕ) (apart : to ≢ from) (pushed : after ≡ before ++ changes_text changes) where
  told_is : messages_text (told_by changes from to) ≡ changes_text changes ++ null_text (told_to from changes == to) to
  told_is =
      let differs : (to == from) ≡ false = grind (arith, nat_tests) in
      ap (λ same. messages_text (cond same [] (news_of changes to))) differs ∙ news_text changes from to (λ same. apart (sym same))

  pub told_all : told_to from changes ≡ to → after ≡ before ++ messages_text (told_by changes from to)
  told_all done =
      let all : (told_to from changes == to) ≡ true = grind (arith, nat_tests) in
      pushed ∙ ap (λ text. before ++ text)
      (sym (told_is ∙ ap (λ b. changes_text changes ++ null_text b to) all ∙ append-nil (changes_text changes)))

  pub told_more : (last : List ℕ) → told_to from changes ≢ to → last ≡ after ++ spaced_text (Null to) → last ≡ before ++ messages_text (told_by changes from to)
  told_more last more is =
      let not_all : (told_to from changes == to) ≡ false = grind (arith, nat_tests) in
      is ∙ ap (λ text. text ++ spaced_text (Null to)) pushed ∙ append_assoc before (changes_text changes) (spaced_text (Null to))
      ∙ ap (λ text. before ++ text) (sym (told_is ∙ ap (λ b. changes_text changes ++ null_text b to) not_all))
