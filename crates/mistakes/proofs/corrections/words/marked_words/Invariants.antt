-- The words so far, and those of the tokens left, are those of the line.
use Rattle.std.proofs.Common.{◌≡◌, ◌++◌}
use Rattle.mistakes.specs.SeenCorrections.{seen_words}
use Rattle.mistakes.specs.Tokens.{bytes_of, tokens_of}
use Rattle.mistakes.specs.declared.subject.Subject.TheVariants.{Bench}
use Rattle.mistakes.proofs.corrections.words.marked_words.Given as goal

abbrev pub invariant-loop-token : goal.invariant-loop-token
invariant-loop-token l = seen_words l.words.items ++ bytes_of l.token-iterator ≡ bytes_of (tokens_of Bench l.code)
