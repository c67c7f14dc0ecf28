use Rattle.std.proofs.Common.{◌≡◌, ℕ, List, [], ◌∷◌, ◌++◌, Option, codes, decimal, ap, sym, subst, append_assoc, ◌∙◌}
use Rattle.std.specs.Io.KnownBytes.{Appends}
use Rattle.std.specs.List.{concat}
use Rattle.std.proofs.KnownBytes.{Appends-trans}
use Rattle.std.proofs.lemmas.List.{append-nil}
use Rattle.std.proofs.lemmas.Result.{on_err_weaker, on_ok_weaker}
use Rattle.logic3.proofs.CallerLemmas.{OnErr_always}
use Rattle.texts.specs.Written.{AppendsPrefix, line}
use Rattle.texts.proofs.CallerLemmas.{Appends-numbered, AppendsPrefix-after, AppendsPrefix-longer, AppendsPrefix-numbered}
use Rattle.program_io.proofs.fault_line.write_line_of.Goals as goal

-- the place and the number
abbrev head : List ℕ → ℕ → List ℕ
head place number = place ++ codes ":" ++ decimal number

-- three texts behind another one
joined : (text a b c : List ℕ) → text ++ concat (a ∷ b ∷ c ∷ []) ≡ text ++ a ++ b ++ c
joined text a b c =
    ap (λ (last : List ℕ). text ++ (a ++ (b ++ last))) (append-nil c) ∙ sym (append_assoc text a (b ++ c)) ∙ sym (append_assoc (text ++ a) b c)

-- a prefix of the place and the number is one of the line
broken : (old new : Option (List ℕ)) (place name : List ℕ) (number : ℕ) → AppendsPrefix old new (head place number) →
    AppendsPrefix old new (line (head place number ++ codes ": " ++ name))
broken old new place name number part =
    AppendsPrefix-longer old new (head place number ++ codes ": " ++ name) (codes "\n")
    (AppendsPrefix-longer old new (head place number ++ codes ": ") name (AppendsPrefix-longer old new (head place number) (codes ": ") part))

pub returns-in_err-write_all_bytes-clause-err : goal.returns-in_err-write_all_bytes-clause-err
returns-in_err-write_all_bytes-clause-err g c =
    let held = g.E.Write.contents in
    let place = c.args.place.now in
    let number = c.args.number in
    let part = subst (AppendsPrefix (held c.args.err.now) (held c.write_all_bytes.new.out)) c.as_bytes.ensures.value c.in_err-write_all_bytes.ensures.err in
    OnErr_always c.from_residual.result
    (broken (held c.args.err.now) (held c.write_all_bytes.new.out) place c.args.name.now number
    (AppendsPrefix-longer _ _ (place ++ codes ":") (decimal number) (AppendsPrefix-longer _ _ place (codes ":") part)))

pub returns-in_err-write_numbered-clause-err : goal.returns-in_err-write_numbered-clause-err
returns-in_err-write_numbered-clause-err g c =
    let held = g.E.Write.contents in
    let place = c.args.place.now in
    let number = c.args.number in
    let first = subst (Appends (held c.args.err.now) (held c.write_all_bytes.new.out)) c.as_bytes.ensures.value c.in_ok-write_all_bytes.ensures.ok in
    OnErr_always c.from_residual-in_err-write_numbered.result
    (broken (held c.args.err.now) (held c.write_numbered.new.out) place c.args.name.now number
    (AppendsPrefix-numbered (held c.args.err.now) (held c.write_all_bytes.new.out) (held c.write_numbered.new.out) place (codes ":") number first
    c.in_err-write_numbered.ensures.err))

pub returns-clause-ok : goal.returns-clause-ok
returns-clause-ok g c =
    let held = g.E.Write.contents in
    let place = c.args.place.now in
    let name = c.args.name.now in
    let number = c.args.number in
    let first = subst (Appends (held c.args.err.now) (held c.write_all_bytes.new.out)) c.as_bytes.ensures.value c.in_ok-write_all_bytes.ensures.ok in
    let second = Appends-numbered (held c.args.err.now) (held c.write_all_bytes.new.out) (held c.write_numbered.new.out) place (codes ":") number first
    c.in_ok-write_numbered.ensures.ok in
    on_ok_weaker c.write_pieces.result
    (λ rest. subst (Appends (held c.args.err.now) (held c.write_pieces.new.out)) (joined (head place number) (codes ": ") name (codes "\n"))
    (Appends-trans (held c.args.err.now) (held c.write_numbered.new.out) (held c.write_pieces.new.out) (head place number)
    (concat (codes ": " ∷ name ∷ codes "\n" ∷ [])) second rest))
    c.write_pieces.ensures.ok

pub returns-clause-err : goal.returns-clause-err
returns-clause-err g c =
    let held = g.E.Write.contents in
    let place = c.args.place.now in
    let name = c.args.name.now in
    let number = c.args.number in
    let first = subst (Appends (held c.args.err.now) (held c.write_all_bytes.new.out)) c.as_bytes.ensures.value c.in_ok-write_all_bytes.ensures.ok in
    let second = Appends-numbered (held c.args.err.now) (held c.write_all_bytes.new.out) (held c.write_numbered.new.out) place (codes ":") number first
    c.in_ok-write_numbered.ensures.ok in
    on_err_weaker c.write_pieces.result
    (λ part. subst (AppendsPrefix (held c.args.err.now) (held c.write_pieces.new.out)) (joined (head place number) (codes ": ") name (codes "\n"))
    (AppendsPrefix-after (held c.args.err.now) (held c.write_numbered.new.out) (held c.write_pieces.new.out) (head place number)
    (concat (codes ": " ∷ name ∷ codes "\n" ∷ [])) second part))
    c.write_pieces.ensures.err
