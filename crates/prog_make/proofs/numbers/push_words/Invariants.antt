-- What is written, with the numbers still to come, is the whole.
use Rattle.std.proofs.Common.{◌≡◌, ◌++◌, drop}
use Rattle.prog_make.specs.Encoding.{words_bytes}
use Rattle.prog_make.proofs.numbers.push_words.Given as goal

abbrev pub invariant-words : goal.invariant-words
invariant-words l = l.out ++ words_bytes (drop l.word-index l.words) ≡ l.fn.out ++ words_bytes l.words
