-- The characters so far and those of the rest are all.
use Rattle.std.proofs.Common.{◌≡◌, ◌++◌, drop, string_bytes}
use Rattle.std.specs.Prelude.{encode_utf8_all}
use Rattle.timing_diagram.proofs.json_text.text_of.Given as goal

abbrev pub invariant-loop-character : goal.invariant-loop-character
invariant-loop-character l = string_bytes l.text ++ encode_utf8_all (drop l.character-index l.characters) ≡ encode_utf8_all l.characters
