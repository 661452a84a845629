use Rattle.once_each.proofs.WrittenLemmas.{run_files, run_parts}
use Rattle.once_each.proofs.runs.files_have_the_parts_of_the_trace.Goals as goal

pub returns-clause-parts : goal.returns-clause-parts
returns-clause-parts c = λ rows_of syms asked steps stacks sums. run_parts syms asked steps rows_of stacks sums

pub returns-clause-files : goal.returns-clause-files
returns-clause-files c = λ rows_of head syms base asked steps. run_files rows_of head syms base asked steps
