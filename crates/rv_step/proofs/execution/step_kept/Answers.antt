use Rattle.rv_step.proofs.CauseLemmas.{left-ending}
use Rattle.rv_step.proofs.PromiseLemmas.{IsReady, IsLawful, left-lawful, left-within}
use Rattle.rv_step.specs.Causes.{flow_at}
use Rattle.rv_step.specs.Forms.{HartState, Outcome, outcome, hart_state}
use Rattle.rv_step.proofs.execution.step_kept.Goals as goal

abbrev before : (c : goal.After-execute_kept) → HartState
before c = hart_state c.args.regs.now c.args.mem.now c.args.held.now

abbrev left : (c : goal.After-execute_kept) → Outcome
left c = outcome c.execute_kept.result c.execute_kept.new.regs c.execute_kept.new.mem c.execute_kept.new.held

ready : (c : goal.After-execute_kept) → IsReady c.args.regs.now
ready c = record { aligned = c.requires.aligned; zero = c.requires.zero }

lawful : (c : goal.After-execute_kept) → IsLawful (before c) (flow_at (before c)) (left c)
lawful c = left-lawful (before c) (left c) c.execute_kept.ensures.outcome (ready c)

pub returns-clause-registers_stay : goal.returns-clause-registers_stay
returns-clause-registers_stay c = (lawful c).registers_stay

pub returns-clause-memory_stays : goal.returns-clause-memory_stays
returns-clause-memory_stays c = (lawful c).memory_stays

pub returns-clause-reservation_stays : goal.returns-clause-reservation_stays
returns-clause-reservation_stays c = (lawful c).reservation_stays

pub returns-clause-still_aligned : goal.returns-clause-still_aligned
returns-clause-still_aligned c = (lawful c).ready.aligned

pub returns-clause-still_zero : goal.returns-clause-still_zero
returns-clause-still_zero c = (lawful c).ready.zero

pub returns-clause-pc : goal.returns-clause-pc
returns-clause-pc c = (lawful c).pc

pub returns-clause-next : goal.returns-clause-next
returns-clause-next c = (lawful c).next

pub returns-clause-stack_pointer : goal.returns-clause-stack_pointer
returns-clause-stack_pointer c = (lawful c).stack_pointer

pub returns-clause-data_within : goal.returns-clause-data_within
returns-clause-data_within c = (lawful c).data_within

pub returns-clause-flow : goal.returns-clause-flow
returns-clause-flow c = (lawful c).of_flow

pub returns-clause-word_within : goal.returns-clause-word_within
returns-clause-word_within c = left-within (before c) (left c) c.execute_kept.ensures.outcome (ready c)

pub returns-clause-cause : goal.returns-clause-cause
returns-clause-cause c = left-ending (before c) (left c) c.execute_kept.ensures.outcome
