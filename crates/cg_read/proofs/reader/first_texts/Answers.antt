use Rattle.std.proofs.Common.{[]}
use Rattle.std.specs.Str.{bytes_eq}
use Rattle.cg_read.proofs.TextLemmas.{added_keeps}
use Rattle.cg_read.proofs.reader.first_texts.Goals as goal

pub returns-clause-empty : goal.returns-clause-empty
returns-clause-empty c =
    added_keeps bytes_eq c.number.new.self c.number-2.new.self c.new-2.result c.in_ok-unknown.ensures.keys
    c.in_ok-empty.empty [] (rw c.new.ensures at c.in_ok-empty.ensures.number)

pub returns-clause-unknown : goal.returns-clause-unknown
returns-clause-unknown c = rw c.new-2.ensures at c.in_ok-unknown.ensures.number
