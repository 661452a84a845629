use Rattle.key_tables.proofs.MixedLemmas.{no_texts}
use Rattle.key_tables.proofs.table.Table.new.Goals as goal

pub invariant_of-result : goal.invariant_of-result
invariant_of-result c = rw c.new.ensures.items (no_texts c.new-2.result c.new-3.result)
