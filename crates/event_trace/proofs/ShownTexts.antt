-- The text of the lines that are shown, piece by piece, and which lines are shown.
use Rattle.std.proofs.Common.{◌≡◌, ℕ, ◌==◌, ◌&&◌, Bool, true, false, not, cond, List, [], ◌∷◌, ◌++◌, refl, ap, sym, ◌∙◌, append-nil}
use Rattle.std.proofs.lemmas.Grind.{flat_map-append}
use Rattle.std.proofs.lemmas.List.Elements.{filter-append}
use Rattle.logic3.specs.declared.change.Change.{Change}
use Rattle.design.specs.Circuit.{Circuit}
use Rattle.gate_process.specs.Knowledge.{news_of}
use Rattle.event_trace.specs.declared.shown_events.ShownEvents.{ShownEvents}
use Rattle.event_trace.specs.Lines.{Line, begins, advances, delivers, ends, line_text, lines_text}
use Rattle.event_trace.specs.ShownLines.{every_event, is_shown, shows_event, shows_messages, shows_net, shown_lines, shown_text}
use Rattle.event_trace.specs.Told.{told_by}

-- ---- the text

-- some lines and then others
pub shown_text-append : (shown : ShownEvents) (circuit : Circuit) (xs ys : List Line) →
    shown_text shown circuit (xs ++ ys) ≡ shown_text shown circuit xs ++ shown_text shown circuit ys
shown_text-append shown circuit xs ys =
    ap (lines_text circuit) (filter-append (is_shown shown) xs ys) ∙ flat_map-append (line_text circuit) (shown_lines shown xs) (shown_lines shown ys)

-- a line that is shown, and one that isn't
module _ (shown : ShownEvents) (circuit : Circuit) (line : Line) where
  pub shown_text-shown : is_shown shown line ≡ true → line_text circuit line ≡ shown_text shown circuit (line ∷ [])
  shown_text-shown holds = sym (ap (λ b. lines_text circuit (cond b (line ∷ []) [])) holds ∙ append-nil (line_text circuit line))

  pub shown_text-left_out : is_shown shown line ≡ false → [] ≡ shown_text shown circuit (line ∷ [])
  shown_text-left_out lacks = sym (ap (λ b. lines_text circuit (cond b (line ∷ []) [])) lacks)

-- ---- which lines are shown

-- news are some messages
some_news : (idle : Bool) (changes : List Change) (to : ℕ) → shows_messages idle (news_of changes to) ≡ true
some_news idle [] to = refl
some_news idle (change ∷ []) to = refl
some_news idle (change ∷ next ∷ changes) to = refl

-- what makes a signal known further
shows_told : (idle : Bool) (changes : List Change) (from to : ℕ) → shows_messages idle (told_by changes from to) ≡ cond (to == from) idle true
shows_told idle changes from to = go (to == from)
  where
    go : (same : Bool) → shows_messages idle (cond same [] (news_of changes to)) ≡ cond same idle true
    go true = refl
    go false = some_news idle changes to

turned : (same : Bool) → cond same false true ≡ not same
turned true = refl
turned false = refl

-- without idle events, those of a net that make a signal known further
pub shows_further : (shown : ShownEvents) (net : ℕ) (changes : List Change) (from to : ℕ) → shows_net shown.net net ≡ true → shown.idle ≡ false →
    not (to == from) ≡ shows_event shown net (told_by changes from to)
shows_further shown net changes from to own idle =
    sym ((λ i. own i && shows_told shown.idle changes from to i) ∙ ap (λ b. cond (to == from) b true) idle ∙ turned (to == from))

-- all, if all events are
every_line : (line : Line) → is_shown every_event line ≡ true
every_line (begins number) = refl
every_line (advances net from to []) = refl
every_line (advances net from to (message ∷ messages)) = refl
every_line (delivers net place []) = refl
every_line (delivers net place (message ∷ messages)) = refl
every_line (ends counts) = refl

every_shown : (lines : List Line) → shown_lines every_event lines ≡ lines
every_shown [] = refl
every_shown (line ∷ lines) =
    ap (λ b. cond b (line ∷ shown_lines every_event lines) (shown_lines every_event lines)) (every_line line)
    ∙ ap (λ ls. line ∷ ls) (every_shown lines)

pub shown_text-every : (circuit : Circuit) (lines : List Line) → shown_text every_event circuit lines ≡ lines_text circuit lines
shown_text-every circuit lines = ap (lines_text circuit) (every_shown lines)
