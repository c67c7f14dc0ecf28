-- A process that heard messages one after another, and one that forgot only after the last of them.
use Rattle.std.proofs.Common.{◌≡◌, ◌≢◌, ℕ, zero, suc, ◌+◌, ◌<◌, ◌≤◌, nat_lt, true, false, List, [], ◌∷◌, ◌++◌, length, take, drop, get_or, All, Some, slice_get, slice_set, ap, sym, subst, ◌∙◌, arith, ◌⊎◌, inl, inr}
use Rattle.std.proofs.lemmas.Bool.{cases_lt, le-ltb}
use Rattle.std.specs.Option.{option_map, option_map_or}
use Rattle.std.proofs.lemmas.List.{set-set, set-get_or, take-append-le, take-append-drop, drop-append-le, get_or_append_left, length-append}
use Rattle.std.proofs.lemmas.List.Elements.{All-nil, All-cons, All-append}
use Rattle.std.proofs.lemmas.Option.{get_or_from_slice_get, same_Some}
use Rattle.std.proofs.lemmas.List.Sums.{prefix_len-le-length}
use Rattle.std.proofs.Math.Seq.{get_or-append_seam}
use Rattle.timing_text.specs.Ranges.{most_ticks}
use Rattle.logic3.specs.declared.value.Value.{Value}
use Rattle.logic3.specs.declared.value.Value.TheVariants.{Unknown}
use Rattle.logic3.specs.declared.change.Change.{Change}
use Rattle.logic3.specs.Wave.{value_at, value_in_the_end, last_value, Alternates}
use Rattle.logic3.proofs.CallerLemmas.{IsCut, due_below, AllPairs-Alternates, Alternates-push, value_in_the_end-append}
use Rattle.cmb_channels.specs.declared.message.Message.{Message}
use Rattle.cmb_channels.specs.declared.message.Message.TheVariants.{Change as Changes, Null}
use Rattle.cmb_channels.proofs.CallerLemmas.{get_update_same, update-set}
use Rattle.gate_process.specs.Knowledge.{Knowledge, IsKnowledge, told, told_all, wanted, forgetting, Continues, ContinueAll, Tells}
use Rattle.gate_process.specs.Step.{ProcessState, kept_from, kept, heard, heard_all, wanted_at, wanted_messages, heard_below}
use Rattle.gate_process.specs.Truth.{Meets, KnowsTruth, IsProcess, CanHear, CanHearAll}
use Rattle.gate_process.proofs.Early.{early_cut}
use Rattle.gate_process.proofs.Forgets.{forgets}
use Rattle.gate_process.proofs.Events.{heard_is_process, heard_knows}
use Rattle.gate_process.proofs.Heard.{heard_at, nothing_forgotten, kept_known, told-before}
use Rattle.gate_process.proofs.Kept.{kept_later}
use Rattle.gate_process.proofs.Told.{forgetting_truth, HeardTruth, heard_truth, Tells-le}

-- ---- what is known, with and without what was forgotten

-- a change after a tick leaves which changes are before it
cut_push : (tick : ℕ) (changes : List Change) (count : ℕ) (change : Change) → tick ≤ change.tick → count ≤ length changes →
    IsCut tick changes count → IsCut tick (changes ++ change ∷ []) count
cut_push tick changes count change late inside cut = (
  (λ k d low high.
      subst (λ (c : Change). nat_lt c.tick tick ≡ true) (sym (get_or_append_left changes (change ∷ []) d k (omega arith))) (cut.0 k d low high)),
  λ k d low high. go k d low high (cases_lt k (length changes)),
)
  where
    go : (k : ℕ) (d : Change) → count ≤ k → k < length (changes ++ change ∷ []) → (k < length changes) ⊎ (length changes ≤ k) →
        nat_lt (get_or (changes ++ change ∷ []) k d).tick tick ≡ false
    go k d low high (inl within) =
        subst (λ (c : Change). nat_lt c.tick tick ≡ false) (sym (get_or_append_left changes (change ∷ []) d k within)) (cut.1 k d low within)
    go k d low high (inr past) =
        let long = length-append changes (change ∷ []) in
        let last : length changes ≡ k = omega (arith, long, high, past) in
        subst (λ (c : Change). nat_lt c.tick tick ≡ false) (sym (ap (λ n. get_or (changes ++ change ∷ []) n d) (sym last) ∙ get_or-append_seam changes change [] d))
        (le-ltb change.tick tick late)

-- the changes before a tick
early : ℕ → Knowledge → ℕ
early tick known = due_below tick known.wave.changes

early_is : (tick : ℕ) (known : Knowledge) → IsKnowledge known → IsCut tick known.wave.changes (early tick known)
unfolding early
early_is tick known ok = early_cut known.wave.changes tick (AllPairs-Alternates known.wave.before 0 known.wave.changes ok.wave)

early_within : (tick : ℕ) (known : Knowledge) → early tick known ≤ length known.wave.changes
unfolding early
early_within tick known = prefix_len-le-length (λ (change : Change). nat_lt change.tick tick) known.wave.changes

-- what is known, without the first of its changes
without : ℕ → Knowledge → Knowledge
without count known = record {
  wave = record { before = value_in_the_end known.wave.before (take count known.wave.changes); changes = drop count known.wave.changes };
  frontier = known.frontier;
}

forgotten : (tick : ℕ) (known : Knowledge) → IsKnowledge known → (tick ≡ 0 → known.wave.before ≡ Unknown) →
    without (early tick known) known ≡ forgetting tick known
unfolding without
forgotten tick known ok begins = forgets known tick (early tick known) ok (early_within tick known) (early_is tick known ok) begins

-- where the ticks before one were forgotten, the last value is known still
last_forgotten : (tick : ℕ) (known : Knowledge) → IsKnowledge known → (tick ≡ 0 → known.wave.before ≡ Unknown) →
    last_value (forgetting tick known).wave ≡ last_value known.wave
unfolding without
last_forgotten tick known ok begins =
    ap (λ (k : Knowledge). last_value k.wave) (sym (forgotten tick known ok begins))
    ∙ sym (value_in_the_end-append known.wave.before (take (early tick known) known.wave.changes) (drop (early tick known) known.wave.changes))
    ∙ ap (value_in_the_end known.wave.before) (take-append-drop (early tick known) known.wave.changes)

-- to forget before a message comes, and after it
told_forgotten : (tick limit : ℕ) (known : Knowledge) (message : Message) → IsKnowledge known → IsKnowledge (told known message) →
    (tick ≡ 0 → known.wave.before ≡ Unknown) → tick ≤ known.frontier → Continues limit known message →
    told (forgetting tick known) message ≡ forgetting tick (told known message)
unfolding without early
told_forgotten tick limit known (Null bound) ok after begins within continues =
    ap (λ (k : Knowledge). told k (Null bound)) (sym (forgotten tick known ok begins)) ∙ forgotten tick (told known (Null bound)) after begins
told_forgotten tick limit known (Changes change) ok after begins within continues =
    let count = early tick known in
    let inside = early_within tick known in
    let raised = continues.0 in
    let first : take count (known.wave.changes ++ change ∷ []) ≡ take count known.wave.changes =
    take-append-le count known.wave.changes (change ∷ []) inside in
    let rest : drop count (known.wave.changes ++ change ∷ []) ≡ drop count known.wave.changes ++ change ∷ [] =
    drop-append-le count known.wave.changes (change ∷ []) inside in
    ap (λ (k : Knowledge). told k (Changes change)) (sym (forgotten tick known ok begins))
    ∙ (λ i. record {
      wave = record { before = value_in_the_end known.wave.before (sym first i); changes = sym rest i };
      frontier = change.tick + 1;
    })
    ∙ forgets (told known (Changes change)) tick count after
    (let long = length-append known.wave.changes (change ∷ []) in omega (arith, long, inside))
    (cut_push tick known.wave.changes count change (omega arith) inside (early_is tick known ok)) begins

-- the last of the changes of a waveform changes its value
last_differs : (before : Value) (low : ℕ) (changes : List Change) (change : Change) → Alternates before low (changes ++ change ∷ []) →
    change.value ≢ value_in_the_end before changes
last_differs before low [] change alternates = alternates.1
last_differs before low (first ∷ changes) change alternates = last_differs first.value (first.tick + 1) changes change alternates.2

-- what continues what is kept continues all that was known
continues_all : (tick limit : ℕ) (known : Knowledge) (message : Message) → IsKnowledge known → (tick ≡ 0 → known.wave.before ≡ Unknown) →
    Continues limit (forgetting tick known) message → Continues limit known message
continues_all tick limit known (Null bound) ok begins continues = (continues.0, continues.1, ok.wave)
continues_all tick limit known (Changes change) ok begins continues =
    let raised = continues.0 in (
      continues.0,
      continues.1,
      Alternates-push known.wave.before 0 known.wave.changes change (omega arith) ok.wave
          (λ n d below. let past = ok.past n d below in omega arith)
          (λ equal. last_differs (forgetting tick known).wave.before 0 (forgetting tick known).wave.changes change continues.2
          (equal ∙ sym (last_forgotten tick known ok begins))),
    )

-- what is known after a message that continues it is a waveform, and past no frontier
told_is_known : (limit : ℕ) (known : Knowledge) (message : Message) → IsKnowledge known → Continues limit known message → IsKnowledge (told known message)
told_is_known limit known (Null bound) ok continues =
    let raised = continues.0 in
    record { wave = continues.2; past = λ n d below. let past = ok.past n d below in omega arith }
told_is_known limit known (Changes change) ok continues =
    let raised = continues.0 in
    let P : Change → Type 0 = λ earlier. earlier.tick < change.tick + 1 in
    let earlier : All P known.wave.changes = λ n d below. let past = ok.past n d below in omega arith in
    let last : change.tick < change.tick + 1 = omega arith in
    record { wave = continues.2; past = All-append P known.wave.changes (change ∷ []) earlier (All-cons P change [] last (All-nil P)) }

-- ---- a pin of a process

-- the process keeps what it must of this, which its pin has received
pub record Keeps (process : ProcessState) (place : ℕ) (known : Knowledge) : Type 0 where
  pub ok : IsProcess process
  pub is_known : IsKnowledge known
  pub begins : kept_from process place known.frontier ≡ 0 → known.wave.before ≡ Unknown
  pub at : slice_get process.received place ≡ Some (kept process place known)

pub keeps_so_far : (process : ProcessState) (place : ℕ) (known : Knowledge) → IsProcess process → slice_get process.received place ≡ Some known →
    Keeps process place known
keeps_so_far process place known ok at = record {
  ok = ok;
  is_known = kept_known process place known ok at;
  begins = nothing_forgotten process place known ok at;
  at = at ∙ ap (λ k. Some k) (ok.heard place known at);
}

module _ (process : ProcessState) (place : ℕ) (known : Knowledge) (keeps : Keeps process place known) (message : Message)
    (can : CanHear process place message) where
  -- the first tick that is kept
  from : ℕ
  from = kept_from process place known.frontier

  continues : Continues process.end known message
  continues =
      continues_all (kept_from process place known.frontier) process.end known message keeps.is_known keeps.begins (can (kept process place known) keeps.at)

  -- what the process keeps of the message too
  kept_told : kept process place (told (kept process place known) message) ≡ kept process place (told known message)
  kept_told =
      let raised = continues.0 in
      let later = kept_later process place known.frontier (told known message).frontier (omega (arith, raised)) in
      ap (kept process place)
      (told_forgotten (kept_from process place known.frontier) process.end known message keeps.is_known
      (told_is_known process.end known message keeps.is_known continues) keeps.begins (omega arith) continues)
      ∙ forgetting_truth (value_at (told known message).wave) (kept_from process place known.frontier)
      (kept_from process place (told known message).frontier) (told known message).frontier later (omega arith)

  keeps_more : Keeps (heard place message process) place (told known message)
  keeps_more = record {
    ok = heard_is_process process place message keeps.ok (λ k here. let raised = (can k here).0 in omega (arith, raised));
    is_known = told_is_known process.end known message keeps.is_known continues;
    begins = λ none.
        let raised = continues.0 in
        let later = kept_later process place known.frontier (told known message).frontier (omega (arith, raised)) in
        told-before known message ∙ keeps.begins (omega (arith, later, none));
    at = get_update_same (λ (k : Knowledge). kept process place (told k message)) place process.received (kept process place known) keeps.at
        ∙ ap (λ k. Some k) kept_told;
  }

-- a process that heard some messages is one that forgot once, after them
pub record HeardOnce (process : ProcessState) (place : ℕ) (known : Knowledge) (messages : List Message) : Type 0 where
  pub continue : ContinueAll process.end known messages
  pub begins : kept_from process place (told_all known messages).frontier ≡ 0 → (told_all known messages).wave.before ≡ Unknown
  pub keeps : Keeps (heard_all place messages process) place (told_all known messages)
  pub once : heard_all place messages process ≡ heard_at place (kept process place (told_all known messages)) process

pub heard_once : (place : ℕ) (messages : List Message) (process : ProcessState) (known : Knowledge) → Keeps process place known →
    CanHearAll process place messages → HeardOnce process place known messages
heard_once place [] process known keeps can = record {
  continue = tt;
  begins = keeps.begins;
  keeps = keeps;
  once =
      let here = kept process place known in
      let same : slice_set process.received place here ≡ process.received =
      ap (slice_set process.received place) (sym (get_or_from_slice_get process.received place here here keeps.at))
      ∙ set-get_or process.received place here in
      λ i. record process { received = sym same i };
}
heard_once place (message ∷ messages) process known keeps can =
    let first = continues process place known keeps message can.0 in
    let rest = heard_once place messages (heard place message process) (told known message) (keeps_more process place known keeps message can.0) can.1 in
    let last = kept process place (told_all (told known message) messages) in
    let twice : slice_set (heard place message process).received place last ≡ slice_set process.received place last =
    ap (λ received. slice_set received place last)
    (update-set (λ (k : Knowledge). kept process place (told k message)) place process.received (kept process place known) keeps.at)
    ∙ set-set process.received place _ last in
    record {
      continue = (first, rest.continue);
      begins = rest.begins;
      keeps = rest.keeps;
      once = rest.once ∙ (λ i. record process { received = twice i });
    }

-- up to a later limit too
pub continue_within : (limit later : ℕ) (known : Knowledge) (messages : List Message) → limit ≤ later → ContinueAll limit known messages →
    ContinueAll later known messages
continue_within limit later known [] within continue = tt
continue_within limit later known (message ∷ messages) within continue =
    let first = continue.0 in
    let high = first.1 in
    ((first.0, omega arith, first.2), continue_within limit later (told known message) messages within continue.1)

-- how many of some messages the pin at a place takes
pub wanted_there : (tick : ℕ) (process : ProcessState) (place : ℕ) (known : Knowledge) (messages : List Message) → slice_get process.received place ≡ Some known →
    wanted_at tick process place messages ≡ wanted tick known.frontier messages
wanted_there tick process place known messages at =
    ap (λ found. option_map_or (λ frontier. wanted tick frontier messages) (option_map (λ (k : Knowledge). k.frontier) found) 0) at

-- ---- messages that report a pin's source

-- a process that can receive some messages can receive the first of them
pub can_hear_first : (process : ProcessState) (place count : ℕ) (messages : List Message) → CanHearAll process place messages →
    CanHearAll process place (take count messages)
can_hear_first process place zero messages can = tt
can_hear_first process place (suc count) [] can = tt
can_hear_first process place (suc count) (message ∷ messages) can =
    (can.0, can_hear_first (heard place message process) place count messages can.1)

pub can_hear_all : (signals : ℕ → ℕ → Value) (number : ℕ) (process : ProcessState) (place source to : ℕ) (received : Knowledge)
    (messages : List Message) → Meets signals number process.net → KnowsTruth signals number process →
    slice_get process.net.pins place ≡ Some source → slice_get process.received place ≡ Some received →
    Tells (signals source) received.frontier to messages → to ≤ process.end → CanHearAll process place messages
can_hear_all signals number process place source to received [] meets knows pin at tells within = tt
can_hear_all signals number process place source to received (message ∷ messages) meets knows pin at tells within = (
  (λ known here.
      let same : received ≡ known = same_Some received known (sym at ∙ here) in
      subst (λ (k : Knowledge). Continues process.end k message) same (raised, omega (arith, last), truth.is_wave)),
  can_hear_all signals number (heard place message process) place source to (kept process place (told received message)) messages meets
      (heard_knows signals number process place source to received message messages meets knows pin at tells) pin
      (get_update_same (λ (k : Knowledge). kept process place (told k message)) place process.received received at) truth.rest_tells within,
)
  where
    truth : HeardTruth (signals source) process place to received (told received message) messages
    truth = heard_truth (signals source) process place to received message messages (knows.heard place source received pin at) tells

    raised : received.frontier < (told received message).frontier
    raised = truth.raised

    last : (told received message).frontier ≤ to
    last = Tells-le (signals source) (told received message).frontier to messages truth.rest_tells

-- ---- messages that a pin takes until it is known up to a tick

-- what a process comes to that hears the first of some messages, as long as the pin is known to less than a tick
pub record HeardBelow (process : ProcessState) (place tick : ℕ) (known : Knowledge) (messages : List Message) : Type 0 where
  pub count : wanted tick known.frontier messages ≡ wanted_at tick process place messages
  pub taken : take (wanted tick known.frontier messages) messages ≡ wanted_messages tick process place messages
  pub continue : ContinueAll (most_ticks + 1) known (take (wanted tick known.frontier messages) messages)
  pub begins : kept_from process place (told_all known (take (wanted tick known.frontier messages) messages)).frontier ≡ 0 →
      (told_all known (take (wanted tick known.frontier messages) messages)).wave.before ≡ Unknown
  pub once : heard_at place (kept process place (told_all known (take (wanted tick known.frontier messages) messages))) process
      ≡ heard_below tick place messages process
  pub ok : IsProcess (heard_below tick place messages process)

pub heard_below_at : (process : ProcessState) (place tick : ℕ) (known : Knowledge) (messages : List Message) → IsProcess process →
    slice_get process.received place ≡ Some known → CanHearAll process place (wanted_messages tick process place messages) →
    HeardBelow process place tick known messages
heard_below_at process place tick known messages ok at can =
    let count = sym (wanted_there tick process place known messages at) in
    let taken = ap (λ n. take n messages) count in
    let all = take (wanted tick known.frontier messages) messages in
    let once = heard_once place all process known (keeps_so_far process place known ok at) (subst (CanHearAll process place) (sym taken) can) in
    let same = ap (λ ms. heard_all place ms process) taken in
    record {
      count = count;
      taken = taken;
      continue = continue_within process.end (most_ticks + 1) known all ok.end once.continue;
      begins = once.begins;
      once = sym once.once ∙ same;
      ok = subst IsProcess same once.keeps.ok;
    }
