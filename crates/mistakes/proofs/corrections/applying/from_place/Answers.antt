use Rattle.std.proofs.Common.{ap, sym, ◌∙◌, drop}
use Rattle.std.proofs.Math.ListN.{take}
use Rattle.std.proofs.lemmas.List.{drop-map, length-drop}
use Rattle.std.proofs.Math.Seq.{take-length}
use Rattle.mistakes.specs.SeenCorrections.{seen_words}
use Rattle.mistakes.proofs.corrections.applying.from_place.Goals as goal

pub returns-then-place-words : goal.returns-then-place-words
returns-then-place-words c =
    let rest = drop c.args.place c.args.words.now in
    ap (λ n. seen_words (take n rest)) (sym (length-drop c.args.place c.args.words.now))
    ∙ ap seen_words (take-length rest)
    ∙ sym (drop-map (λ word. word.now) c.args.place c.args.words.now)
