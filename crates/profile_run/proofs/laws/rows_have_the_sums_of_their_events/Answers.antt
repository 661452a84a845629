use Rattle.recorder.proofs.RowSumLemmas.{all_sum_up, whole_arcs, whole_lines}
use Rattle.profile_run.proofs.laws.rows_have_the_sums_of_their_events.Goals as goal

pub returns-clause-sums : goal.returns-clause-sums
returns-clause-sums c syms xs whole = all_sum_up syms xs whole

pub returns-clause-lines : goal.returns-clause-lines
returns-clause-lines c syms xs = whole_lines syms xs

pub returns-clause-arcs : goal.returns-clause-arcs
returns-clause-arcs c syms xs = whole_arcs syms xs
