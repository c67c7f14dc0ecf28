-- What is left out tells nothing of the nets whose events are shown.
use Rattle.std.proofs.Common.{◌≡◌, ℕ, ◌==◌, ◌&&◌, Bool, true, false, cond, List, [], ◌∷◌, ◌++◌, None, filter, flat_map, refl, ap, sym, ◌∙◌, eqb-true}
use Rattle.event_trace.specs.declared.shown_events.ShownEvents.{ShownEvents}
use Rattle.event_trace.specs.Lines.{Line, begins, advances, delivers, ends}
use Rattle.event_trace.specs.Counted.{told_in}
use Rattle.event_trace.specs.Shown.{changes_in, told_of}
use Rattle.event_trace.specs.ShownLines.{is_shown, shown_lines, shows_net}

-- elements that give nothing may be left out
kept : {X Y : Type 0} (test : X → Bool) (given : X → List Y) → ((x : X) → test x ≡ false → given x ≡ []) → (xs : List X) →
    flat_map given (filter test xs) ≡ flat_map given xs
kept test given nothing [] = refl
kept test given nothing (x ∷ xs) = go (test x) refl (kept test given nothing xs)
  where
    go : (passes : Bool) → test x ≡ passes → flat_map given (filter test xs) ≡ flat_map given xs →
        flat_map given (cond passes (x ∷ filter test xs) (filter test xs)) ≡ given x ++ flat_map given xs
    go true e rest = ap (λ ys. given x ++ ys) rest
    go false e rest = rest ∙ ap (λ ys. ys ++ flat_map given xs) (sym (nothing x e))

-- of a net whose events are shown
module _ (shown : ShownEvents) (net : ℕ) (shows : shows_net shown.net net ≡ true) where
  told_of-left_out : (line : Line) → is_shown shown line ≡ false → told_of net line ≡ []
  told_of-left_out (begins number) lacks = refl
  told_of-left_out (ends counts) lacks = refl
  told_of-left_out (delivers other place taken) lacks = refl
  told_of-left_out (advances other from to []) lacks = go (other == net)
    where
      go : (same : Bool) → cond same (changes_in []) [] ≡ []
      go true = refl
      go false = refl
  told_of-left_out (advances other from to (message ∷ messages)) lacks = go (other == net) refl
    where
      go : (same : Bool) → (other == net) ≡ same → cond same (changes_in (message ∷ messages)) [] ≡ []
      go true e =
          let holds : (shows_net shown.net other && true) ≡ true = ap (λ n. shows_net shown.net n && true) (eqb-true other net e) ∙ ap (λ b. b && true) shows in
          cc
      go false e = refl

  pub told_of-shown : (lines : List Line) → flat_map (told_of net) (shown_lines shown lines) ≡ flat_map (told_of net) lines
  told_of-shown lines = kept (is_shown shown) (told_of net) told_of-left_out lines

-- of any net, if the events of all nets are shown
module _ (idle : Bool) where
  abbrev of_all : ShownEvents
  of_all = record { idle = idle; net = None }

  told_in-left_out : (line : Line) → is_shown of_all line ≡ false → told_in line ≡ []
  told_in-left_out (begins number) lacks = refl
  told_in-left_out (ends counts) lacks = refl
  told_in-left_out (delivers net place taken) lacks = refl
  told_in-left_out (advances net from to []) lacks = refl
  told_in-left_out (advances net from to (message ∷ messages)) lacks = cc

  pub told_in-shown : (lines : List Line) → flat_map told_in (shown_lines of_all lines) ≡ flat_map told_in lines
  told_in-shown lines = kept (is_shown of_all) told_in told_in-left_out lines
