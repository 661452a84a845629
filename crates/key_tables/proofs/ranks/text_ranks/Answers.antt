use Rattle.std.proofs.Common.{subst}
use Rattle.name_numbers.specs.Keys.{NumberEach}
use Rattle.key_tables.proofs.RankLemmas.{ranks_of_texts}
use Rattle.key_tables.proofs.ranks.text_ranks.Goals as goal

pub returns : goal.returns
returns c =
    let names = c.in_ok-rank_names.field-0.names in
    let ranks = c.in_ok-rank_names.field-0.ranks.items in
    ranks_of_texts c.args.texts.now names ranks c.in_ok-rank_names.ensures.rise
    (subst (NumberEach names ranks) c.in_ok-bytes.ensures.texts
    (rw c.deref.ensures.value at c.in_ok-rank_names.ensures.each))
