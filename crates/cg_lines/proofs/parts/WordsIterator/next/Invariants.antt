use Rattle.std.proofs.Common.{◌≡◌, length, filter}
use Rattle.cg_lines.specs.Lines.{is_some_word}
use Rattle.cg_lines.proofs.parts.WordsIterator.next.Given as goal

abbrev pub invariant-parts : goal.invariant-parts
invariant-parts l = filter is_some_word l.self-inside.parts ≡ l.fn.self

abbrev pub decreases-parts : goal.decreases-parts
decreases-parts l = length l.self-inside.parts
