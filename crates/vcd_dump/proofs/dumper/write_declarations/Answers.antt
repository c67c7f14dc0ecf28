use Rattle.std.proofs.Common.{◌≡◌, ◌∙◌, ◌++◌, [], List, ℕ, ap, sym, subst, codes, append_assoc, flat_map}
use Rattle.std.specs.Io.KnownBytes.{Appends}
use Rattle.logic3.proofs.CallerLemmas.{OnErr_always}
use Rattle.vcd_dump.specs.declared.unit.TimeUnit.{TimeUnit}
use Rattle.texts.specs.Written.{AppendsPrefix, line}
use Rattle.texts.proofs.CallerLemmas.{AppendsPrefix-longer, GoesOut-behind, GoesOut-stopped, GoesOut-sent, GoesOut-broken}
use Rattle.vcd_dump.specs.Dump.{Variable, heading, declaration, declarations}
use Rattle.vcd_dump.specs.Traces.{named}
use Rattle.vcd_dump.proofs.dumper.write_declarations.Goals as goal

abbrev footing : List ℕ
footing = codes "$upscope $end\n$enddefinitions $end\n"

-- what was written in three pieces
three_pieces : (unit : TimeUnit) (variables : List Variable) (empty headed : List ℕ) → empty ≡ [] → headed ≡ empty ++ heading unit →
    (headed ++ flat_map declaration variables) ++ footing ≡ declarations unit variables
three_pieces unit variables empty headed none is =
    ap (λ xs. (xs ++ flat_map declaration variables) ++ footing) (is ∙ ap (λ xs. xs ++ heading unit) none)
    ∙ sym (append_assoc (heading unit ++ flat_map declaration variables) (line (codes "$upscope $end")) (line (codes "$enddefinitions $end")))

pub returns-in_err-write_variables-clause-err : goal.returns-in_err-write_variables-clause-err
returns-in_err-write_variables-clause-err g c =
    let held = g.W.Write.contents in
    let variables = named c.args.design.now.circuit c.args.shown.now in
    OnErr_always c.from_residual-in_err-write_variables.result
    (subst (AppendsPrefix (held c.args.out.now) (held c.write_variables.new.out))
    (three_pieces c.args.unit variables c.args.text.now.items _ c.requires.empty c.in_ok-push_heading.ensures)
    (AppendsPrefix-longer _ _ _ footing c.in_err-write_variables.ensures.err))

pub returns-in_err-extend_from_slice-clause-err : goal.returns-in_err-extend_from_slice-clause-err
returns-in_err-extend_from_slice-clause-err g c =
    let held = g.W.Write.contents in
    let variables = named c.args.design.now.circuit c.args.shown.now in
    OnErr_always c.from_residual-in_err-extend_from_slice.result
    (subst (AppendsPrefix (held c.args.out.now) (held c.write_variables.new.out))
    (three_pieces c.args.unit variables c.args.text.now.items _ c.requires.empty c.in_ok-push_heading.ensures)
    (AppendsPrefix-longer _ _ _ footing (GoesOut-stopped _ _ _ _ c.in_ok-write_variables.ensures.ok)))

pub returns-in_err-send-clause-err : goal.returns-in_err-send-clause-err
returns-in_err-send-clause-err g c =
    let held = g.W.Write.contents in
    let variables = named c.args.design.now.circuit c.args.shown.now in
    let waiting = c.write_variables.new.text.items in
    OnErr_always c.from_residual-in_err-send.result
    (subst (AppendsPrefix (held c.args.out.now) (held c.send.new.out))
    (three_pieces c.args.unit variables c.args.text.now.items _ c.requires.empty c.in_ok-push_heading.ensures)
    (GoesOut-broken _ (held c.write_variables.new.out) _ _ (waiting ++ footing)
    (GoesOut-behind _ _ _ waiting footing c.in_ok-write_variables.ensures.ok)
    (subst (AppendsPrefix (held c.write_variables.new.out) (held c.send.new.out)) c.in_ok-extend_from_slice.ensures.items c.in_err-send.ensures.err)))

pub returns-clause-ok : goal.returns-clause-ok
returns-clause-ok g c =
    let held = g.W.Write.contents in
    let variables = named c.args.design.now.circuit c.args.shown.now in
    let waiting = c.write_variables.new.text.items in
    subst (Appends (held c.args.out.now) (held c.send.new.out))
    (three_pieces c.args.unit variables c.args.text.now.items _ c.requires.empty c.in_ok-push_heading.ensures)
    (GoesOut-sent _ (held c.write_variables.new.out) _ _ (waiting ++ footing)
    (GoesOut-behind _ _ _ waiting footing c.in_ok-write_variables.ensures.ok)
    (subst (Appends (held c.write_variables.new.out) (held c.send.new.out)) c.in_ok-extend_from_slice.ensures.items c.in_ok-send.ensures.ok))
