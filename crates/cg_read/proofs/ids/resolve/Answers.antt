use Rattle.std.proofs.Common.{ℕ, Option, Some}
use Rattle.std.specs.Str.{bytes_eq}
use Rattle.cg_read.specs.inner.Ids.{number_in}
use Rattle.cg_read.proofs.TextLemmas.{added_keeps, means_kept, means_if}
use Rattle.cg_read.proofs.ids.resolve.Goals as goal

pub returns-in_ok-set-in-Named-clause-ids : goal.returns-in_ok-set-in-Named-clause-ids
returns-in_ok-set-in-Named-clause-ids c = λ meant tells q.
    let old : Option ℕ = number_in c.args.ids.now q in
    let keys = rw c.again-in-Named.ensures at c.in_ok-number-in-Named.ensures.keys in
    let number = rw c.again-in-Named.ensures at c.in_ok-number-in-Named.ensures.number in
    rw (c.in-Named.is, c.in_ok-set-in-Named.ensures q)
    (means_if c.number-in-Named.new.self (bytes_eq c.in-Named.id q) (Some c.in_ok-number-in-Named.number) old
    (Some c.in-Named.text) (meant q) number
    (means_kept c.args.texts.now c.number-in-Named.new.self
    (added_keeps bytes_eq c.args.texts.now c.number-in-Named.new.self c.in-Named.text keys) old (meant q) (tells q)))
