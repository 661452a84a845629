use Rattle.name_numbers.proofs.name_order.compare.Goals as goal

pub compare-requires-clause-first : goal.compare-requires-clause-first
compare-requires-clause-first c = c.tail_at-tail.ensures.in_file c.args.texts.now c.requires

pub compare-requires-clause-second : goal.compare-requires-clause-second
compare-requires-clause-second c = c.tail_at.ensures.in_file c.args.texts.now c.requires
