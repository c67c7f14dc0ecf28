use Rattle.std.proofs.Common.{arith, ◌≡◌, ◌+◌, ◌-◌, ◌≤◌, ◌++◌, ◌∙◌, length, take, drop, ap, subst, sym, length-drop}
use Rattle.std.proofs.Math.Seq.{take-add}
use Rattle.std.proofs.lemmas.List.{take_rest}
use Rattle.std.specs.Io.KnownBytes.{Appends}
use Rattle.std.proofs.KnownBytes.{Appends-trans}
use Rattle.texts.proofs.writing.bytes.write_all_bytes.Goals as goal

pub loop-at-preserved : goal.loop-at-preserved
loop-at-preserved g c =
    let n = c.in-Ok.n in
    let at = c.loop-at.at in
    let text = c.args.text.now in
    let rest : take (length text - at) (drop at text) ≡ drop at text = take_rest text at in
    let joined : take (at + n) text ≡ take at text ++ take n (take (length text - at) (drop at text)) =
    take-add at n text ∙ ap (λ l. take at text ++ take n l) (sym rest) in
    let within : n ≤ length (drop at text) = subst (λ l. n ≤ length l) rest c.in-Ok.ensures.bound in
    (omega (arith, length-drop at text), subst (Appends _ _) (sym joined) (Appends-trans _ _ _ _ _ c.loop-at.invariant.1 c.in-Ok.ensures.bytes))
