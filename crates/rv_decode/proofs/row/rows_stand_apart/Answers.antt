use Rattle.rv_decode.proofs.PairLemmas.{no_word_in_two, rows_differ}
use Rattle.rv_decode.proofs.row.rows_stand_apart.Goals as goal

pub returns-clause-rows : goal.returns-clause-rows
returns-clause-rows c = rows_differ

pub returns-clause-words : goal.returns-clause-words
returns-clause-words c = no_word_in_two
