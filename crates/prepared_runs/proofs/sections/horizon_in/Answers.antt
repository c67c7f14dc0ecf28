use Rattle.std.proofs.Common.{◌≡◌, ◌-◌, ◌^◌, ◌∙◌, ◌∷◌, min, true, false, option_map, bytes_eq, codes, sym, ap, rules}
use Rattle.texts.specs.Text.{is_empty, words_of}
use Rattle.prepared_runs.specs.Deck.{line_words}
use Rattle.prepared_runs.proofs.Words.{horizon_in-two, horizon_in-more, horizon_in-other}
use Rattle.prepared_runs.proofs.sections.horizon_in.Goals as goal
use Rattle.prepared_runs.proofs.sections.horizon_in.Goals.{else-eq-via-then-eq+else-not-has_words, else-eq-via-else-eq}

pub returns-then-not-has_words : goal.returns-then-not-has_words
returns-then-not-has_words c =
    let mark = c.in_ok-mark.mark.now in
    let words : line_words c.args.line.now ≡ mark ∷ c.in_ok-number.number.now ∷ words_of c.in_ok-number.rest.now =
    ap words_of (sym c.without_newline.ensures) ∙ c.in_ok-mark.ensures ∙ ap (λ more. mark ∷ more) c.in_ok-number.ensures in
    let none : is_empty (words_of c.in_ok-number.rest.now) ≡ true = search rules in
    let same : bytes_eq mark (codes "%nullsim") ≡ true = search rules in
    c.number.ensures
    ∙ ap (option_map (min (2 ^ 64 - 1))) (sym (horizon_in-two c.args.line.now mark c.in_ok-number.number.now _ words none same))

pub returns-else-eq : goal.returns-else-eq
returns-else-eq c =
    let mark = c.in_ok-mark.mark.now in
    let words : line_words c.args.line.now ≡ mark ∷ c.in_ok-number.number.now ∷ words_of c.in_ok-number.rest.now =
    ap words_of (sym c.without_newline.ensures) ∙ c.in_ok-mark.ensures ∙ ap (λ more. mark ∷ more) c.in_ok-number.ensures in
    elim c.else-eq.branch [
      | else-eq-via-then-eq+else-not-has_words w ↦
          (let some : is_empty (words_of c.in_ok-number.rest.now) ≡ false = search rules in
          ap (option_map (min (2 ^ 64 - 1))) (sym (horizon_in-more c.args.line.now mark c.in_ok-number.number.now _ words some)))
      | else-eq-via-else-eq w ↦
          (let other : bytes_eq mark (codes "%nullsim") ≡ false = search rules in
          ap (option_map (min (2 ^ 64 - 1))) (sym (horizon_in-other c.args.line.now mark c.in_ok-number.number.now _ words other)))
    ]
