use Rattle.annotate.proofs.FileLemmas.{numbers_more}
use Rattle.annotate.proofs.sources.numbers_of.Goals as goal

pub files-preserved : goal.files-preserved
files-preserved c =
    numbers_more c.args.files.now c.files.number c.index-files-number.result c.files-test.true c.index-files-number.is
    c.files.numbers c.insert.new.self c.files.invariant (rw c.as_ref.ensures at c.in_ok-insert.ensures.updates.0)
