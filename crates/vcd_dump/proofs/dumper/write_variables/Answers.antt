use Rattle.std.proofs.Common.{◌≡◌, ℕ, ◌+◌, ◌<◌, List, ◌++◌, Some, slice_get, option_map, length, arith, ap, sym, subst, ◌∙◌, append_assoc, append-nil}
use Rattle.std.proofs.lemmas.Option.{slice_get-get_or}
use Rattle.logic3.proofs.CallerLemmas.{OnErr_always}
use Rattle.design.specs.Circuit.{Net, Circuit}
use Rattle.vcd_dump.specs.Codes.{code_at}
use Rattle.vcd_dump.specs.Dump.{declaration, declaration_text}
use Rattle.texts.specs.Written.{GoesOut, AppendsPrefix}
use Rattle.texts.proofs.CallerLemmas.{GoesOut-then, GoesOut-stopped, GoesOut-fault}
use Rattle.vcd_dump.proofs.Between.{between, between-first, between-none}
use Rattle.vcd_dump.proofs.Variables.{named_at, declaration-named_at, declarations-named}
use Rattle.vcd_dump.proofs.dumper.write_variables.Goals as goal

-- the declaration at a place
abbrev text : Circuit → List ℕ → ℕ → List ℕ
text circuit shown place = declaration (named_at circuit shown place)

-- a declaration that was pushed
pushed : (circuit : Circuit) (shown : List ℕ) (place net : ℕ) (code name waiting piece : List ℕ) → place < length shown →
    slice_get shown place ≡ Some net → option_map (λ (n : Net). n.name) (slice_get circuit net) ≡ Some name →
    code ≡ code_at place → piece ≡ waiting ++ declaration_text code name →
    waiting ++ between (text circuit shown) place (length shown) ≡ piece ++ between (text circuit shown) (place + 1) (length shown)
pushed circuit shown place net code name waiting piece within at named known is =
    let rest = between (text circuit shown) (place + 1) (length shown) in
    ap (λ xs. waiting ++ xs) (between-first (text circuit shown) place (length shown) within)
    ∙ sym (append_assoc waiting (text circuit shown place) rest)
    ∙ ap (λ xs. (waiting ++ xs) ++ rest) (declaration-named_at circuit shown place net name at named)
    ∙ ap (λ xs. xs ++ rest) (ap (λ xs. waiting ++ declaration_text xs name) (sym known) ∙ sym is)

pub returns-in_err-push_declaration-clause-err : goal.returns-in_err-push_declaration-clause-err
returns-in_err-push_declaration-clause-err g c =
    let held = g.W.Write.contents in
    OnErr_always c.from_residual.result
    (subst (λ xs. AppendsPrefix (held c.args.out.now) (held c.loop-place.out) (c.args.text.now.items ++ xs))
    (sym (declarations-named c.args.design.now.circuit c.args.shown.now))
    (GoesOut-stopped _ _ _ _ c.loop-place.invariant))

pub returns-in_err-send_long-clause-err : goal.returns-in_err-send_long-clause-err
returns-in_err-send_long-clause-err g c =
    let held = g.W.Write.contents in
    let circuit = c.args.design.now.circuit in
    let shown = c.args.shown.now in
    let place = c.loop-place.place in
    let is = pushed circuit shown place _ _ _ c.loop-place.text.items c.push_declaration.new.line.items (omega arith)
    (slice_get-get_or shown place 0 (omega arith)) c.name.ensures
    (c.index-codes-place.is ∙ c.requires.codes place _ (omega (arith, c.requires.one_code_each))) c.in_ok-push_declaration.ensures in
    OnErr_always c.from_residual-in_err-send_long.result
    (subst (λ xs. AppendsPrefix (held c.args.out.now) (held c.send_long.new.out) (c.args.text.now.items ++ xs))
    (sym (declarations-named circuit shown))
    (GoesOut-fault _ (held c.loop-place.out) _ _ c.push_declaration.new.line.items (between (text circuit shown) (place + 1) (length shown))
    (subst (GoesOut _ _ _) is c.loop-place.invariant) c.in_err-send_long.ensures.err))

pub loop-place-preserved : goal.loop-place-preserved
loop-place-preserved g c =
    let held = g.W.Write.contents in
    let circuit = c.args.design.now.circuit in
    let shown = c.args.shown.now in
    let place = c.loop-place.place in
    let is = pushed circuit shown place _ _ _ c.loop-place.text.items c.push_declaration.new.line.items (omega arith)
    (slice_get-get_or shown place 0 (omega arith)) c.name.ensures
    (c.index-codes-place.is ∙ c.requires.codes place _ (omega (arith, c.requires.one_code_each))) c.in_ok-push_declaration.ensures in
    GoesOut-then (held c.args.out.now) (held c.loop-place.out) (held c.send_long.new.out) _ c.push_declaration.new.line.items
    c.send_long.new.text.items (between (text circuit shown) (place + 1) (length shown))
    (subst (GoesOut _ _ _) is c.loop-place.invariant) c.in_ok-send_long.ensures.ok

pub returns-clause-ok : goal.returns-clause-ok
returns-clause-ok g c =
    let held = g.W.Write.contents in
    let circuit = c.args.design.now.circuit in
    let shown = c.args.shown.now in
    let all : c.loop-place.place ≡ length shown = omega arith in
    let none = ap (λ k. c.loop-place.text.items ++ between (text circuit shown) k (length shown)) all
    ∙ ap (λ xs. c.loop-place.text.items ++ xs) (between-none (text circuit shown) (length shown)) ∙ append-nil c.loop-place.text.items in
    subst (λ xs. GoesOut (held c.args.out.now) (held c.loop-place.out) (c.args.text.now.items ++ xs) c.loop-place.text.items)
    (sym (declarations-named circuit shown))
    (subst (GoesOut _ _ _) none c.loop-place.invariant)
