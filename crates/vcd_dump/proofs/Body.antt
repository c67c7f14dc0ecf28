-- What the body of a dump shows is what was dumped.
use Rattle.std.proofs.Common.{◌≡◌, ℕ, zero, suc, ◌+◌, ◌-◌, ◌<◌, ◌≤◌, ◌==◌, ◌&&◌, not, Bool, true, false, cond, List, [], ◌∷◌, ◌++◌, map, Option, None, Some, refl, ap, ◌∙◌, arith, ◌^◌, ◌⊎◌, inl, inr, if◌then◌else◌, codes}
use Rattle.std.specs.Prelude.{bytes_eq, decimal}
use Rattle.std.specs.List.{filter_map, flat_map, last_or, before_first, after_first, AllByRecursion, range_with_len}
use Rattle.std.proofs.lemmas.Bool.{cases_lt, le-ltb, lt-ltb}
use Rattle.std.proofs.lemmas.List.{map-append}
use Rattle.std.proofs.lemmas.List.Elements.{filter_map-append}
use Rattle.std.proofs.lemmas.Grind.{flat_map-append}
use Rattle.netlist.proofs.CallerLemmas.{bytes_eq-same}
use Rattle.logic3.specs.declared.value.Value.{Value}
use Rattle.logic3.specs.declared.value.Value.TheVariants.{Zero, One, Unknown}
use Rattle.logic3.specs.Value.{is_same, value_text}
use Rattle.logic3.proofs.CallerLemmas.{is_same-true}
use Rattle.texts.specs.Text.{is_empty}
use Rattle.vcd_dump.specs.Dump.{Variable, changes_at}
use Rattle.vcd_dump.specs.Shown.{is_time_above, change_of, value_of_byte, is_time, value_in_body}
use Rattle.vcd_dump.proofs.Lists.{before_first-append, before_first-cut, after_first-cut, last_or-append}
use Rattle.vcd_dump.proofs.Times.{time_token, is_time-time_token, is_time_above-time_token}

-- ---- the tokens of the body

-- the token of a change
abbrev pub change_token : ℕ → Variable → List ℕ
change_token tick v = value_text (v.signal tick) ++ v.code

-- the same, where the variable changes at the tick
abbrev pub changed_token : ℕ → Variable → List (List ℕ)
changed_token tick v = if is_same (v.signal (tick - 1)) (v.signal tick) then [] else change_token tick v ∷ []

-- the tokens of a tick's changes
abbrev pub tokens_at : List Variable → ℕ → List (List ℕ)
tokens_at variables tick = flat_map (changed_token tick) variables

-- the tokens of a tick's lines
abbrev pub section_tokens : List Variable → ℕ → ℕ → List (List ℕ)
section_tokens variables horizon tick =
    if is_empty (changes_at variables tick) && not (tick == horizon) then [] else time_token tick ∷ tokens_at variables tick

-- the tokens behind the declarations
abbrev pub body_tokens : List Variable → ℕ → List (List ℕ)
body_tokens variables horizon =
    time_token 0 ∷ codes "$dumpvars" ∷ map (change_token 0) variables
    ++ codes "$end" ∷ flat_map (section_tokens variables horizon) (range_with_len 1 horizon)

-- ---- changes and times

-- the value of the last change of a code among tokens, else the value before them
abbrev last_change : Option Value → List ℕ → List (List ℕ) → Option Value
last_change before code tokens = last_or before (filter_map (change_of code) tokens)

-- the same before any time above the tick
abbrev last_shown : Option Value → List ℕ → ℕ → List (List ℕ) → Option Value
last_shown before code tick tokens = last_change before code (before_first (is_time_above tick) tokens)

-- none of the tokens is a time above the tick
abbrev NoneAbove : ℕ → List (List ℕ) → Type 0
NoneAbove tick tokens = AllByRecursion (λ token. is_time_above tick token ≡ false) tokens

-- no variable has the code
abbrev pub OtherCodes : List ℕ → List Variable → Type 0
OtherCodes code variables = AllByRecursion (λ (v : Variable). bytes_eq v.code code ≡ false) variables

-- the last change in two lists of tokens
last_change-append : (before : Option Value) (code : List ℕ) (xs ys : List (List ℕ)) →
    last_change before code (xs ++ ys) ≡ last_change (last_change before code xs) code ys
last_change-append before code xs ys =
    rw (filter_map-append (change_of code) xs ys)
    (last_or-append before (filter_map (change_of code) xs) (filter_map (change_of code) ys))

-- tokens that are no later times count, and the search goes on behind them
last_shown-append : (before : Option Value) (code : List ℕ) (tick : ℕ) (xs ys : List (List ℕ)) → NoneAbove tick xs →
    last_shown before code tick (xs ++ ys) ≡ last_shown (last_change before code xs) code tick ys
last_shown-append before code tick xs ys none =
    rw (before_first-append (is_time_above tick) xs ys none)
    (last_change-append before code xs (before_first (is_time_above tick) ys))

-- a change of a code is one of no other
change_of-token : (value : Value) (own code : List ℕ) →
    change_of code (value_text value ++ own) ≡ cond (bytes_eq own code) (Some value) None
change_of-token Zero own code = refl
change_of-token One own code = refl
change_of-token Unknown own code = refl

-- a token whose first byte is no value is no change
change_of-no_value : (code rest : List ℕ) (byte : ℕ) → value_of_byte byte ≡ None → change_of code (byte ∷ rest) ≡ None
change_of-no_value code rest byte none = rw none (go (bytes_eq rest code))
  where
    go : (same : Bool) → cond {A = Option Value} same None None ≡ None
    go true = refl
    go false = refl

-- a change is no time
change-no_time : (tick : ℕ) (value : Value) (own : List ℕ) → is_time_above tick (value_text value ++ own) ≡ false
change-no_time tick Zero own = refl
change-no_time tick One own = refl
change-no_time tick Unknown own = refl

-- the changes of a tick are no times
changes-no_times : (tick at : ℕ) (variables : List Variable) → NoneAbove tick (tokens_at variables at)
changes-no_times tick at [] = tt
changes-no_times tick at (v ∷ variables) =
    go (is_same (v.signal (at - 1)) (v.signal at)) (changes-no_times tick at variables)
  where
    go : (same : Bool) → NoneAbove tick (tokens_at variables at) →
        NoneAbove tick (cond same [] (change_token at v ∷ []) ++ tokens_at variables at)
    go true rest = rest
    go false rest = (change-no_time tick (v.signal at) v.code, rest)

-- the values at tick 0 are no times
values-no_times : (tick : ℕ) (variables : List Variable) → NoneAbove tick (map (change_token 0) variables)
values-no_times tick [] = tt
values-no_times tick (v ∷ variables) = (change-no_time tick (v.signal 0) v.code, values-no_times tick variables)

-- where a tick has no lines of changes it has no tokens of changes
no_changes : (variables : List Variable) (at : ℕ) → is_empty (changes_at variables at) ≡ true → tokens_at variables at ≡ []
no_changes [] at none = refl
no_changes (v ∷ variables) at none =
    go (v.signal at) (is_same (v.signal (at - 1)) (v.signal at)) (no_changes variables at) none
  where
    go : (value : Value) (same : Bool) → (is_empty (changes_at variables at) ≡ true → tokens_at variables at ≡ []) →
        is_empty (cond same [] (value_text value ++ v.code ++ codes "\n") ++ changes_at variables at) ≡ true →
        cond same [] ((value_text value ++ v.code) ∷ []) ++ tokens_at variables at ≡ []
    go value true rest e = rest e
    go Zero false rest e = cc
    go One false rest e = cc
    go Unknown false rest e = cc

-- the changes of other codes don't count
other_changes : (before : Option Value) (code : List ℕ) (at : ℕ) (variables : List Variable) → OtherCodes code variables →
    last_change before code (tokens_at variables at) ≡ before
other_changes before code at [] other = refl
other_changes before code at (v ∷ variables) other =
    go (is_same (v.signal (at - 1)) (v.signal at)) (other_changes before code at variables other.1)
  where
    go : (same : Bool) → last_change before code (tokens_at variables at) ≡ before →
        last_change before code (cond same [] (change_token at v ∷ []) ++ tokens_at variables at) ≡ before
    go true rest = rest
    go false rest = rw (change_of-token (v.signal at) v.code code, other.0) rest

-- nor do the first values of other codes
other_values : (before : Option Value) (code : List ℕ) (variables : List Variable) → OtherCodes code variables →
    last_change before code (map (change_token 0) variables) ≡ before
other_values before code [] other = refl
other_values before code (v ∷ variables) other =
    rw (change_of-token (v.signal 0) v.code code, other.0) (other_values before code variables other.1)

-- ---- one variable of the shown ones, whose code no other has

module _ (us : List Variable) (v : Variable) (ws : List Variable)
    (before : OtherCodes v.code us) (after : OtherCodes v.code ws) where
  -- the shown ones
  abbrev all : List Variable
  all = us ++ v ∷ ws

  -- tokens bring the value at a tick, from the one before it
  abbrev Bring : ℕ → List (List ℕ) → Type 0
  Bring at tokens = last_change (Some (v.signal (at - 1))) v.code tokens ≡ Some (v.signal at)

  -- the changes of a tick bring its value
  changes_bring : (at : ℕ) → Bring at (tokens_at all at)
  changes_bring at =
      rw (flat_map-append (changed_token at) us (v ∷ ws))
      (last_change-append (Some (v.signal (at - 1))) v.code (tokens_at us at) (tokens_at (v ∷ ws) at)
      ∙ rw (other_changes (Some (v.signal (at - 1))) v.code at us before)
      (go (is_same (v.signal (at - 1)) (v.signal at)) refl))
    where
      go : (same : Bool) → is_same (v.signal (at - 1)) (v.signal at) ≡ same →
          Bring at (cond same [] (change_token at v ∷ []) ++ tokens_at ws at)
      go true e = other_changes (Some (v.signal (at - 1))) v.code at ws after ∙ ap Some (is_same-true _ _ e)
      go false e =
          rw (change_of-token (v.signal at) v.code v.code, bytes_eq-same v.code)
          (other_changes (Some (v.signal at)) v.code at ws after)

  -- the lines of a tick bring its value
  section_brings : (horizon at : ℕ) → Bring at (section_tokens all horizon at)
  section_brings horizon at = go (is_empty (changes_at all at)) refl (not (at == horizon))
    where
      no_change : change_of v.code (time_token at) ≡ None
      no_change = change_of-no_value v.code (decimal at) 35 refl

      go : (none : Bool) → is_empty (changes_at all at) ≡ none → (more : Bool) →
          Bring at (cond (none && more) [] (time_token at ∷ tokens_at all at))
      go true e true = rw (no_changes all at e) at (changes_bring at)
      go true e false = rw no_change (changes_bring at)
      go false e more = rw no_change (changes_bring at)

  -- the lines of a tick that isn't later have no later time
  section_early : (horizon tick at : ℕ) → is_time_above tick (time_token at) ≡ false →
      NoneAbove tick (section_tokens all horizon at)
  section_early horizon tick at early = go (is_empty (changes_at all at) && not (at == horizon))
    where
      go : (none : Bool) → NoneAbove tick (cond none [] (time_token at ∷ tokens_at all at))
      go true = tt
      go false = (early, changes-no_times tick at all)

  -- nothing counts from a later tick on
  sections_late : (horizon tick at ticks : ℕ) (old : Option Value) → tick < at → at + ticks ≤ 2 ^ 64 →
      last_shown old v.code tick (flat_map (section_tokens all horizon) (range_with_len at ticks)) ≡ old
  sections_late horizon tick at zero old late room = refl
  sections_late horizon tick at (suc ticks) old late room =
      go (is_empty (changes_at all at) && not (at == horizon))
      (sections_late horizon tick (at + 1) ticks old (omega arith) (omega arith))
    where
      rest : List (List ℕ)
      rest = flat_map (section_tokens all horizon) (range_with_len (at + 1) ticks)

      above : is_time_above tick (time_token at) ≡ true
      above = is_time_above-time_token tick at (omega arith) ∙ lt-ltb tick at late

      go : (none : Bool) → last_shown old v.code tick rest ≡ old →
          last_shown old v.code tick (cond none [] (time_token at ∷ tokens_at all at) ++ rest) ≡ old
      go true r = r
      go false r = rw (before_first-cut (is_time_above tick) (time_token at) (tokens_at all at ++ rest) above) refl

  -- the lines of the ticks from one on show the signal
  sections_show : (horizon tick at ticks : ℕ) → at ≤ tick + 1 → tick < at + ticks → at + ticks ≤ 2 ^ 64 →
      last_shown (Some (v.signal (at - 1))) v.code tick (flat_map (section_tokens all horizon) (range_with_len at ticks))
      ≡ Some (v.signal tick)
  sections_show horizon tick at zero a b room = ap (λ t. Some (v.signal t)) (omega arith)
  sections_show horizon tick at (suc ticks) a b room =
      go (cases_lt tick at) (λ due. sections_show horizon tick (at + 1) ticks (omega arith) (omega arith) (omega arith))
    where
      rest : List (List ℕ)
      rest = flat_map (section_tokens all horizon) (range_with_len (at + 1) ticks)

      go : (tick < at) ⊎ (at ≤ tick) →
          (at ≤ tick → last_shown (Some (v.signal ((at + 1) - 1))) v.code tick rest ≡ Some (v.signal tick)) →
          last_shown (Some (v.signal (at - 1))) v.code tick (section_tokens all horizon at ++ rest) ≡ Some (v.signal tick)
      go (inl late) r =
          sections_late horizon tick at (suc ticks) (Some (v.signal (at - 1))) late room
          ∙ ap (λ t. Some (v.signal t)) (omega arith)
      go (inr due) r =
          let here : (at + 1) - 1 ≡ at = omega arith in
          last_shown-append (Some (v.signal (at - 1))) v.code tick (section_tokens all horizon at) rest
          (section_early horizon tick at (is_time_above-time_token tick at (omega arith) ∙ le-ltb tick at due))
          ∙ rw (section_brings horizon at) (rw here at (r due))

  -- the first values bring the value at tick 0
  values_show : last_change None v.code (map (change_token 0) all) ≡ Some (v.signal 0)
  values_show =
      rw (map-append (change_token 0) us (v ∷ ws))
      (last_change-append None v.code (map (change_token 0) us) (map (change_token 0) (v ∷ ws))
      ∙ rw (other_values None v.code us before, change_of-token (v.signal 0) v.code v.code, bytes_eq-same v.code)
      (other_values (Some (v.signal 0)) v.code ws after))

  -- what the body shows for the code is the signal
  pub value_in_body-tokens : (horizon tick : ℕ) → horizon < 2 ^ 64 → tick ≤ horizon →
      value_in_body v.code tick (body_tokens all horizon) ≡ Some (v.signal tick)
  value_in_body-tokens horizon tick room h =
      ap (λ tokens. last_change None v.code (after_first is_time tokens))
      (before_first-append (is_time_above tick) (time_token 0 ∷ []) (values ++ codes "$end" ∷ sections)
      (is_time_above-time_token tick 0 (omega arith) ∙ le-ltb tick 0 (omega arith), tt))
      ∙ ap (last_change None v.code)
      (after_first-cut is_time (time_token 0) (before_first (is_time_above tick) (values ++ codes "$end" ∷ sections))
      (is_time-time_token 0 (omega arith)))
      ∙ last_shown-append None v.code tick values (codes "$end" ∷ sections) (refl, values-no_times tick all)
      ∙ ap (λ old. last_shown old v.code tick (codes "$end" ∷ sections))
      (rw (change_of-no_value v.code (codes "dumpvars") 36 refl) values_show)
      ∙ last_shown-append (Some (v.signal 0)) v.code tick (codes "$end" ∷ []) sections (refl, tt)
      ∙ ap (λ old. last_shown old v.code tick sections) (rw (change_of-no_value v.code (codes "end") 36 refl) refl)
      ∙ sections_show horizon tick 1 horizon (omega arith) (omega arith) (omega arith)
    where
      values : List (List ℕ)
      values = codes "$dumpvars" ∷ map (change_token 0) all

      sections : List (List ℕ)
      sections = flat_map (section_tokens all horizon) (range_with_len 1 horizon)
