-- A pin that hears messages one after another, as long as it is known to less than a tick.
use Rattle.std.proofs.Common.{◌≡◌, ℕ, zero, suc, ◌+◌, ◌<◌, ◌≤◌, nat_lt, ◌||◌, if◌then◌else◌, Bool, true, false, cond, List, [], ◌∷◌, length, take, drop, None, Some, slice_get, add-one, refl, ap, sym, subst, ◌∙◌, arith}
use Rattle.std.specs.List.{list_any}
use Rattle.std.proofs.Math.Seq.{drop-cons}
use Rattle.std.proofs.lemmas.Bool.{lt-ltb}
use Rattle.std.proofs.lemmas.List.{drop_all}
use Rattle.std.proofs.lemmas.List.Folds.{list_any_at}
use Rattle.std.proofs.lemmas.Option.{get_or_from_slice_get, none-some, slice_get_within}
use Rattle.timing_text.specs.Ranges.{most_ticks}
use Rattle.cmb_channels.specs.declared.message.Message.{Message}
use Rattle.cmb_channels.specs.declared.message.Message.TheVariants.{Change as Changes, Null}
use Rattle.cmb_channels.specs.Kinds.{is_change}
use Rattle.cmb_channels.specs.Logs.{tick_said}
use Rattle.cmb_channels.specs.Packed.{packed_ticks}
use Rattle.gate_process.specs.Knowledge.{Knowledge, told, told_all, known_after, wanted, Continues, ContinueAll}

pub known_after-told : (known : Knowledge) (message : Message) → known_after message ≡ (told known message).frontier
known_after-told known (Changes change) = refl
known_after-told known (Null bound) = refl

-- a message after which at most the ticks of a run are known fits in four bytes
pub told_fits : (known : Knowledge) (message : Message) → (told known message).frontier ≤ most_ticks + 1 → tick_said message < packed_ticks
told_fits known (Changes change) within = omega (arith, within)
told_fits known (Null bound) within = omega (arith, within)

-- ---- how many it takes

pub wanted-le : (tick known : ℕ) (messages : List Message) → wanted tick known messages ≤ length messages
wanted-le tick known [] = omega arith
wanted-le tick known (message ∷ messages) =
    go (nat_lt known tick) (wanted tick (known_after message) messages) (wanted-le tick (known_after message) messages)
  where
    go : (early : Bool) (rest : ℕ) → rest ≤ length messages → cond early (suc rest) 0 ≤ suc (length messages)
    go true rest le = omega arith
    go false rest le = omega arith

-- ---- a pin on its way

-- the messages that it still takes of these
abbrev pub taken : ℕ → Knowledge → List Message → List Message
taken tick known messages = take (wanted tick known.frontier messages) messages

-- it heard the first of the messages, and what it takes of the others leads where all leads
pub record Hears (tick : ℕ) (messages : List Message) (start : Knowledge) (heard : ℕ) (now : Knowledge) : Type 0 where
  pub count : heard + wanted tick now.frontier (drop heard messages) ≡ wanted tick start.frontier messages
  pub leads : told_all now (taken tick now (drop heard messages)) ≡ told_all start (taken tick start messages)
  pub continue : ContinueAll (most_ticks + 1) now (taken tick now (drop heard messages))
  pub changes : list_any is_change (taken tick now (drop heard messages)) ≡ true → list_any is_change (taken tick start messages) ≡ true

-- ---- a message more

past_all : {A : Type 0} (xs : List A) (place : ℕ) → slice_get xs place ≡ None → length xs ≤ place
past_all [] place none = omega arith
past_all (x ∷ xs) zero none = absurd (none-some x (sym none))
past_all (x ∷ xs) (suc place) none = omega (arith, past_all xs place none)

any_later : {A : Type 0} (test : A → Bool) (x : A) (xs : List A) → list_any test xs ≡ true → list_any test (x ∷ xs) ≡ true
any_later test x xs found = go (test x)
  where
    go : (first : Bool) → (first || list_any test xs) ≡ true
    go true = refl
    go false = found

module _ {tick : ℕ} {messages : List Message} {start : Knowledge} {heard : ℕ} {now : Knowledge} (so_far : Hears tick messages start heard now) where
  -- nothing more is taken where nothing is left
  pub heard_all : slice_get messages heard ≡ None → (heard ≡ wanted tick start.frontier messages) × (now ≡ told_all start (taken tick start messages))
  heard_all none =
      let left : drop heard messages ≡ [] = drop_all heard messages (past_all messages heard none) in (
        omega (arith, so_far.count, ap (wanted tick now.frontier) left),
        sym (λ i. told_all now (taken tick now (left i))) ∙ so_far.leads,
      )

  module _ (message : Message) (at : slice_get messages heard ≡ Some message) (early : now.frontier < tick) where
    abbrev later : List Message
    later = drop (heard + 1) messages

    left : drop heard messages ≡ message ∷ later
    left =
        drop-cons messages heard message (slice_get_within messages heard message at)
        ∙ (λ i. get_or_from_slice_get messages heard message message at i ∷ drop (sym (add-one heard) i) messages)

    is_early : nat_lt now.frontier tick ≡ true
    is_early = lt-ltb now.frontier tick early

    wants : wanted tick now.frontier (drop heard messages) ≡ suc (wanted tick (told now message).frontier later)
    wants =
        ap (wanted tick now.frontier) left
        ∙ (λ i. if is_early i then suc (wanted tick (known_after-told now message i) later) else 0)

    takes : taken tick now (drop heard messages) ≡ message ∷ taken tick (told now message) later
    takes = λ i. take (wants i) (left i)

    continues : ContinueAll (most_ticks + 1) now (message ∷ taken tick (told now message) later)
    continues = subst (ContinueAll (most_ticks + 1) now) takes so_far.continue

    pub hears_message : Continues (most_ticks + 1) now message
    hears_message = continues.0

    pub change_taken : is_change message ≡ true → list_any is_change (taken tick start messages) ≡ true
    change_taken change =
        so_far.changes (ap (list_any is_change) takes ∙ list_any_at is_change (message ∷ taken tick (told now message) later) 0 message (omega arith) change)

    pub hears_more : Hears tick messages start (heard + 1) (told now message)
    hears_more = record {
      count = omega (arith, so_far.count, wants);
      leads = sym (ap (told_all now) takes) ∙ so_far.leads;
      continue = continues.1;
      changes = λ change. so_far.changes (ap (list_any is_change) takes
          ∙ any_later is_change message (taken tick (told now message) later) change);
    }
