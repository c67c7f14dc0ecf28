-- The corrections of the code, which borrow bytes, as those of the definitions.
use Rattle.std.specs.Prelude.{ℕ, List, map}
use denote.Ref.{Bor}
use Rattle.mistakes.specs.Corrections as corrections
use Rattle.mistakes.specs.Corrections.{at_place, from_place, own}
use Rattle.mistakes.specs.SeenForms.{seen_row, seen_rows}
use Rattle.mistakes.specs.declared.corrections.correction.Correction.{Correction}
use Rattle.mistakes.specs.declared.corrections.correction.Piece.{Piece}
use Rattle.mistakes.specs.declared.corrections.correction.Piece.TheVariants.{At, Since, Own}
use Rattle.mistakes.specs.declared.corrections.accepted.Refused.{Refused}

abbrev pub seen_words : List (Bor (List ℕ)) → List (List ℕ)
seen_words words = map (λ word. word.now) words

abbrev pub seen_piece : Piece → corrections.Piece
seen_piece (At place) = at_place place
seen_piece (Since place) = from_place place
seen_piece (Own word) = own word.now

abbrev pub seen_pieces : List Piece → List corrections.Piece
seen_pieces pieces = map seen_piece pieces

abbrev pub seen_lines : List (Bor (List Piece)) → List (List corrections.Piece)
seen_lines lines = map (λ pieces. seen_pieces pieces.now) lines

abbrev pub seen_correction : Correction → corrections.Correction
seen_correction one = record {
  wrong = seen_row one.wrong.now;
  nets = one.nets.now;
  unused = seen_words one.unused.now;
  said = one.said.now;
  lines = seen_lines one.lines.now;
}

abbrev pub seen_table : List Correction → List corrections.Correction
seen_table table = map seen_correction table

abbrev pub seen_refused : Refused → corrections.Refused
seen_refused refused = record {
  subject = refused.subject;
  line = refused.line;
  forms = seen_rows refused.forms.now;
  circuit = refused.circuit.now;
  words = seen_words refused.words.now;
}
