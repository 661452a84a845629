use Rattle.recorder.proofs.TopLaws.{top_follows}
use Rattle.recorder.proofs.laws.the_top_is_of_the_pc.Goals as goal

pub returns-clause-next : goal.returns-clause-next
returns-clause-next c = λ syms s event goes_on. top_follows syms s event goes_on
