-- A walk over the ticks at which a signal may change finds all of its changes.
use Rattle.std.proofs.Common.{◌≡◌, ◌≢◌, ℕ, zero, suc, ◌+◌, ◌<◌, ◌≤◌, ◌==◌, nat_lt, Bool, true, false, cond, List, [], ◌∷◌, ◌++◌, All, map, length, refl, ap, sym, ◌∙◌, arith, append-nil, Result, Ok, Err}
use Rattle.std.specs.Result.{IfOk}
use Rattle.std.proofs.lemmas.Bool.{lt-ltb, le-ltb, eqb-true, eqb-false}
use Rattle.std.proofs.lemmas.List.{map-append}
use Rattle.std.proofs.lemmas.List.Elements.{All-head, All-tail, filter_map-append}
use Rattle.logic3.specs.declared.value.Value.{Value}
use Rattle.logic3.specs.declared.value.Value.TheVariants.{Unknown}
use Rattle.logic3.specs.declared.change.Change.{Change}
use Rattle.logic3.specs.Value.{is_same, is_same_equiv}
use Rattle.logic3.specs.Wave.{Wave, value_at, value_before, change_at, changes_between, last_value}
use Rattle.logic3.proofs.CallerLemmas.{changes_between-same, changes_between-split, change_at-some, All-wave_of, one_change, quiet}
use Rattle.cmb_channels.specs.declared.message.Message.{Message}
use Rattle.cmb_channels.specs.declared.message.Message.TheVariants.{Change as Changes, Null}
use Rattle.cmb_channels.specs.Packed.{change_said, changes_said}
use Rattle.gate_process.specs.Knowledge.{news_of, news_between}
use Rattle.gate_process.specs.Step.{continued, always}
use Rattle.gate_process.proofs.Told.{no_change}

-- what some changes tell of: up to the last of them, else up to a tick
abbrev pub told_to : ℕ → List Change → ℕ
told_to from [] = from
told_to from (change ∷ changes) = told_to (change.tick + 1) changes

told_to-push : (from : ℕ) (changes : List Change) (change : Change) → told_to from (changes ++ change ∷ []) ≡ change.tick + 1
told_to-push from [] change = refl
told_to-push from (first ∷ changes) change = told_to-push (first.tick + 1) changes change

-- how far a walk over a signal has come: the value that it found last, the messages and how far they tell
pub record Walked (signal : ℕ → Value) (from to tick told : ℕ) (latest : Value) (messages : List Message) : Type 0 where
  pub after : from ≤ tick
  pub within : tick ≤ to
  pub latest_is : latest ≡ value_before signal tick
  pub messages_are : messages ≡ map Changes (changes_between signal from tick)
  pub told_is : told ≡ told_to from (changes_between signal from tick)

pub none_between : (signal : ℕ → Value) (at : ℕ) → changes_between signal at at ≡ []
none_between signal at = quiet signal at at (λ tick a b. absurd (omega arith))

-- from one tick to the next at which the signal may change
module _ (signal : ℕ → Value) (from tick next : ℕ) (after : from ≤ tick) (later : tick < next)
    (steady : (t : ℕ) → tick ≤ t → t < next → signal t ≡ signal tick) where
  one_look : changes_between signal from next ≡ changes_between signal from tick ++ change_at signal tick
  one_look =
      let rest : changes_between signal (tick + 1) next ≡ [] = quiet signal (tick + 1) next (λ t a b. still t a b) in
      changes_between-split signal from tick next after (omega arith)
      ∙ ap (λ cs. changes_between signal from tick ++ cs)
      (changes_between-split signal tick (tick + 1) next (omega arith) (omega arith)
      ∙ ap (λ cs. changes_between signal tick (tick + 1) ++ cs) rest ∙ append-nil (changes_between signal tick (tick + 1)) ∙ one_change signal tick)
    where
      still : (t : ℕ) → tick + 1 ≤ t → t < next → signal t ≡ value_before signal t
      still zero a b = absurd (omega arith)
      still (suc t) a b = steady (suc t) (omega arith) b ∙ sym (steady t (omega arith) (omega arith))

  shown_next : value_before signal next ≡ signal tick
  shown_next = go next refl
    where
      go : (n : ℕ) → next ≡ n → value_before signal n ≡ signal tick
      go zero e = absurd (omega arith)
      go (suc n) e = steady n (omega arith) (omega arith)

-- where the signal shows the latest value there is no change
pub walked_same : (signal : ℕ → Value) (from to tick told : ℕ) (latest : Value) (messages : List Message) (next : ℕ) (value : Value) →
    Walked signal from to tick told latest messages → tick < next → next ≤ to →
    ((t : ℕ) → tick ≤ t → t < next → signal t ≡ signal tick) → value ≡ signal tick → value ≡ latest →
    Walked signal from to next told latest messages
walked_same signal from to tick told latest messages next value walked later within steady shows same =
    let after = walked.after in
    let before : value_before signal tick ≡ signal tick = sym walked.latest_is ∙ sym same ∙ shows in
    let none : change_at signal tick ≡ [] =
    no_change signal tick (ap (is_same (signal tick)) before ∙ is_same_equiv.refl (signal tick)) in
    let changes : changes_between signal from next ≡ changes_between signal from tick =
    one_look signal from tick next after later steady ∙ ap (λ cs. changes_between signal from tick ++ cs) none
    ∙ append-nil (changes_between signal from tick) in
    record {
      after = omega arith;
      within = within;
      latest_is = sym same ∙ shows ∙ sym (shown_next signal from tick next after later steady);
      messages_are = walked.messages_are ∙ ap (map Changes) (sym changes);
      told_is = walked.told_is ∙ ap (told_to from) (sym changes);
    }

-- where it shows another value there is one
pub walked_change : (signal : ℕ → Value) (from to tick told : ℕ) (latest : Value) (messages : List Message) (next : ℕ) (value : Value)
    (added : List Message) →
    Walked signal from to tick told latest messages → tick < next → next ≤ to →
    ((t : ℕ) → tick ≤ t → t < next → signal t ≡ signal tick) → value ≡ signal tick → value ≢ latest →
    added ≡ messages ++ Changes (record { tick = tick; value = value }) ∷ [] →
    Walked signal from to next (tick + 1) value added
walked_change signal from to tick told latest messages next value added walked later within steady shows differs added_is =
    let after = walked.after in
    let change : Change = record { tick = tick; value = value } in
    let here : change_at signal tick ≡ change ∷ [] =
    change_at-some signal tick (λ same. differs (shows ∙ sym same ∙ sym walked.latest_is))
    ∙ ap (λ v. record { tick = tick; value = v } ∷ []) (sym shows) in
    let changes : changes_between signal from next ≡ changes_between signal from tick ++ change ∷ [] =
    one_look signal from tick next after later steady ∙ ap (λ cs. changes_between signal from tick ++ cs) here in
    record {
      after = omega arith;
      within = within;
      latest_is = shows ∙ sym (shown_next signal from tick next after later steady);
      messages_are = added_is ∙ ap (λ ms. ms ++ Changes change ∷ []) walked.messages_are
          ∙ sym (map-append Changes (changes_between signal from tick) (change ∷ []))
          ∙ ap (map Changes) (sym changes);
      told_is = sym (ap (told_to from) changes ∙ told_to-push from (changes_between signal from tick) change);
    }

-- ---- the news in the end

news_of-told : (from to : ℕ) (first : Change) (changes : List Change) → All (λ (change : Change). change.tick < to) (first ∷ changes) →
    news_of (first ∷ changes) to ≡ map Changes (first ∷ changes) ++ cond (nat_lt (told_to from (first ∷ changes)) to) (Null to ∷ []) []
news_of-told from to first [] past =
    let below : first.tick < to = All-head (λ (change : Change). change.tick < to) first [] past in
    ap (λ ms. Changes first ∷ ms) (go (first.tick + 1 == to) refl (omega arith))
  where
    go : (all : Bool) → (first.tick + 1 == to) ≡ all → first.tick + 1 ≤ to →
        cond all [] (Null to ∷ []) ≡ cond (nat_lt (first.tick + 1) to) (Null to ∷ []) []
    go true all below = let end : first.tick + 1 ≡ to = eqb-true _ _ all in rw (le-ltb (first.tick + 1) to (omega arith)) refl
    go false all below = let apart : first.tick + 1 ≡ to → ⊥ = eqb-false _ _ all in rw (lt-ltb (first.tick + 1) to (omega (arith, apart))) refl
news_of-told from to first (second ∷ changes) past =
    ap (λ ms. Changes first ∷ ms)
    (news_of-told (first.tick + 1) to second changes (All-tail (λ (change : Change). change.tick < to) first (second ∷ changes) past))

-- the messages for the changes, and one for the end where they don't tell up to there
pub news-told : (signal : ℕ → Value) (from to : ℕ) → from ≤ to →
    cond (to == from) [] (news_of (changes_between signal from to) to)
    ≡ map Changes (changes_between signal from to) ++ cond (nat_lt (told_to from (changes_between signal from to)) to) (Null to ∷ []) []
news-told signal from to ahead = go (to == from) refl
  where
    some : (changes : List Change) → from < to → All (λ (change : Change). change.tick < to) changes →
        news_of changes to ≡ map Changes changes ++ cond (nat_lt (told_to from changes) to) (Null to ∷ []) []
    some [] less past = rw (lt-ltb from to less) refl
    some (first ∷ changes) less past = news_of-told from to first changes past

    go : (same : Bool) → (to == from) ≡ same →
        cond same [] (news_of (changes_between signal from to) to)
        ≡ map Changes (changes_between signal from to) ++ cond (nat_lt (told_to from (changes_between signal from to)) to) (Null to ∷ []) []
    go true e =
        let here : to ≡ from = eqb-true _ _ e in
        let none : changes_between signal from to ≡ [] = ap (changes_between signal from) here ∙ none_between signal from in
        rw (none, le-ltb from to (omega arith)) refl
    go false e =
        let apart : to ≡ from → ⊥ = eqb-false _ _ e in
        some (changes_between signal from to) (omega (arith, apart, ahead)) (All-wave_of signal from to)

pub continued-late : (wave : Wave) (from : ℕ) (signal : ℕ → Value) (tick : ℕ) → from ≤ tick → continued wave from signal tick ≡ signal tick
continued-late wave from signal tick late = rw (le-ltb tick from late) refl

-- a walk begins at the value that was shown last
pub walk_begins : (last : Value) (from : ℕ) (signal : ℕ → Value) → (from ≡ 0 → last ≡ Unknown) →
    last ≡ value_before (continued (always last) from signal) from
walk_begins last zero signal none = none refl
walk_begins last (suc from) signal none = rw (lt-ltb from (suc from) (omega arith)) refl

-- what a waveform shows last is all that counts for the changes after it
pub steady_before : (wave : Wave) (from to : ℕ) (signal : ℕ → Value) → last_value wave ≡ value_before (value_at wave) from →
    changes_between (continued (always (last_value wave)) from signal) from to ≡ changes_between (continued wave from signal) from to
steady_before wave from to signal last =
    changes_between-same (continued (always (last_value wave)) from signal) (continued wave from signal) from to (before from last)
    (λ tick late early. continued-late (always (last_value wave)) from signal tick late ∙ sym (continued-late wave from signal tick late))
  where
    before : (at : ℕ) → last_value wave ≡ value_before (value_at wave) at →
        value_before (continued (always (last_value wave)) at signal) at ≡ value_before (continued wave at signal) at
    before zero e = refl
    before (suc at) e = rw (lt-ltb at (suc at) (omega arith)) e

-- changes tell of themselves
changes_back : (changes : List Change) → changes_said (map Changes changes) ≡ changes
changes_back [] = refl
changes_back (change ∷ changes) = ap (λ cs. change ∷ cs) (changes_back changes)

-- the news of a signal tell of its changes
pub news_said : (signal : ℕ → Value) (from to : ℕ) → from ≤ to → changes_said (news_between signal from to) ≡ changes_between signal from to
news_said signal from to ahead =
    let changes = changes_between signal from to in
    let more = nat_lt (told_to from changes) to in
    ap changes_said (news-told signal from to ahead)
    ∙ filter_map-append change_said (map Changes changes) (cond more (Null to ∷ []) [])
    ∙ (λ i. changes_back changes i ++ none more i)
    ∙ append-nil changes
  where
    none : (more : Bool) → changes_said (cond more (Null to ∷ []) []) ≡ []
    none true = refl
    none false = refl

-- there are some only if the frontier rises
pub news_rise : (signal : ℕ → Value) (from to : ℕ) → from ≤ to → 0 < length (news_between signal from to) → from < to
news_rise signal from to ahead some = go (to == from) refl some
  where
    go : (same : Bool) → (to == from) ≡ same → 0 < length (cond same [] (news_of (changes_between signal from to) to)) → from < to
    go true e none = absurd (omega (arith, none))
    go false e more = let apart = eqb-false _ _ e in omega (arith, apart, ahead)

-- so are those of a walk, once they tell up to its tick
pub walked_news : (signal : ℕ → Value) (from to tick told : ℕ) (latest : Value) (messages all : List Message) →
    Walked signal from to tick told latest messages → all ≡ messages ++ cond (nat_lt told tick) (Null tick ∷ []) [] →
    all ≡ cond (tick == from) [] (news_of (changes_between signal from tick) tick)
walked_news signal from to tick told latest messages all walked is =
    is ∙ (λ i. walked.messages_are i ++ cond (nat_lt (walked.told_is i) tick) (Null tick ∷ []) [])
    ∙ sym (news-told signal from tick walked.after)

-- what holds of a call's answer, by two things that hold of it
pub IfOk-both : {X E : Type 0} (result : Result X E) (P Q R : X → Type 0) → ((x : X) → P x → Q x → R x) → IfOk result P → IfOk result Q → IfOk result R
IfOk-both (Ok x) P Q R both p q = both x p q
IfOk-both (Err fault) P Q R both p q = tt
