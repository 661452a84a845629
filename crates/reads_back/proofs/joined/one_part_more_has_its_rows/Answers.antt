use Rattle.reads_back.proofs.JoinedLemmas.{nothing_joined, one_more_part, stay_whole}
use Rattle.reads_back.proofs.joined.one_part_more_has_its_rows.Goals as goal

pub returns-clause-none : goal.returns-clause-none
returns-clause-none c = nothing_joined

pub returns-clause-more : goal.returns-clause-more
returns-clause-more c = one_more_part

pub returns-clause-whole : goal.returns-clause-whole
returns-clause-whole c = stay_whole
