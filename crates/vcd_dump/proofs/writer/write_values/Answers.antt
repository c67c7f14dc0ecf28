use Rattle.std.proofs.Common.{◌≡◌, ◌++◌, ◌∙◌, sym, List, ℕ, ap, subst, codes, arith, append_assoc}
use Rattle.std.specs.Fmt.{decimal}
use Rattle.std.proofs.lemmas.Fmt.{decimal_digit}
use Rattle.logic3.proofs.CallerLemmas.{OnErr_always}
use Rattle.texts.specs.Written.{AppendsPrefix, line, GoesOut}
use Rattle.texts.proofs.CallerLemmas.{AppendsPrefix-longer, GoesOut-stopped, GoesOut-behind}
use Rattle.vcd_dump.specs.Spans.{zero_text}
use Rattle.vcd_dump.specs.Written.{written_text}
use Rattle.vcd_dump.proofs.writer.write_values.Goals as goal

abbrev beginning : List ℕ
beginning = codes "#0\n$dumpvars\n"

abbrev end : List ℕ
end = codes "$end\n"

-- what was written in three pieces
three_pieces : (before values : List ℕ) → ((before ++ beginning) ++ values) ++ end ≡ before ++ zero_text values
three_pieces before values =
    regroup before beginning values end
    ∙ ap (λ (digits : List ℕ). before ++ (line (codes "#" ++ digits) ++ line (codes "$dumpvars") ++ values ++ end)) zero
  where
    regroup : (a b c d : List ℕ) → ((a ++ b) ++ c) ++ d ≡ a ++ (b ++ c ++ d)
    regroup a b c d = simp append_assoc

    zero : codes "0" ≡ decimal 0
    zero = sym (decimal_digit 0 (omega arith))

-- the values behind the beginning
values_are : (before begun values : List ℕ) → begun ≡ before ++ beginning → (begun ++ values) ++ end ≡ before ++ zero_text values
values_are before begun values is = ap (λ xs. (xs ++ values) ++ end) is ∙ three_pieces before values

pub returns-in_err-last-clause-err : goal.returns-in_err-last-clause-err
returns-in_err-last-clause-err g c =
    let held = g.W.Write.contents in
    let begun = c.extend_from_slice.new.self.items in
    let values = written_text c.args.time c.args.values.now in
    OnErr_always c.from_residual-in_err-last.result
    (subst (AppendsPrefix (held c.args.out.now) (held c.write_lines.new.out))
    (values_are c.args.text.now.items begun values c.in_ok-extend_from_slice.ensures.items)
    (AppendsPrefix-longer _ _ (begun ++ values) end c.in_err-last.ensures.err))

pub returns-in_err-extend_from_slice-2-clause-err : goal.returns-in_err-extend_from_slice-2-clause-err
returns-in_err-extend_from_slice-2-clause-err g c =
    let held = g.W.Write.contents in
    let begun = c.extend_from_slice.new.self.items in
    let values = written_text c.args.time c.args.values.now in
    OnErr_always c.from_residual-in_err-extend_from_slice-2.result
    (subst (AppendsPrefix (held c.args.out.now) (held c.write_lines.new.out))
    (values_are c.args.text.now.items begun values c.in_ok-extend_from_slice.ensures.items)
    (AppendsPrefix-longer _ _ (begun ++ values) end (GoesOut-stopped _ _ _ _ c.in_ok-last.ensures.ok)))

pub returns-clause-ok : goal.returns-clause-ok
returns-clause-ok g c =
    let held = g.W.Write.contents in
    let begun = c.extend_from_slice.new.self.items in
    let values = written_text c.args.time c.args.values.now in
    subst (λ text. GoesOut (held c.args.out.now) (held c.write_lines.new.out) text c.extend_from_slice-2.new.self.items)
    (values_are c.args.text.now.items begun values c.in_ok-extend_from_slice.ensures.items)
    (subst (GoesOut _ _ _) (sym {A = List ℕ} c.in_ok-extend_from_slice-2.ensures.items)
    (GoesOut-behind _ _ (begun ++ values) c.write_lines.new.text.items end c.in_ok-last.ensures.ok))
