use Rattle.run_laws.proofs.PartLemmas.{are_parts, parts_of_trace, texts_same}
use Rattle.run_laws.proofs.SumLemmas.{arcs_sum, calls_sum, lines_sum, summary}
use Rattle.run_laws.proofs.parts.parts_of_a_run_have_the_sums_of_its_events.Goals as goal

pub returns-clause-parts : goal.returns-clause-parts
returns-clause-parts c = λ guest past can makes. parts_of_trace guest can past makes

pub returns-clause-texts : goal.returns-clause-texts
returns-clause-texts c = texts_same

pub returns-clause-written : goal.returns-clause-written
returns-clause-written c = λ guest past can makes. are_parts guest can past makes

pub returns-clause-summary : goal.returns-clause-summary
returns-clause-summary c = λ guest past thread segment can makes piece.
    summary guest can past makes thread segment piece

pub returns-clause-lines : goal.returns-clause-lines
returns-clause-lines c = λ guest past kind place can makes. lines_sum guest can past makes kind place

pub returns-clause-arcs : goal.returns-clause-arcs
returns-clause-arcs c = λ guest past kind arc can makes. arcs_sum guest can past makes kind arc

pub returns-clause-calls : goal.returns-clause-calls
returns-clause-calls c = λ guest past arc can makes. calls_sum guest can past makes arc
