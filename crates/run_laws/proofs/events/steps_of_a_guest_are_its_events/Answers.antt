use Rattle.run_laws.proofs.EventLemmas.{go_on, have_stacks, sized, small_numbers, tops}
use Rattle.run_laws.proofs.events.steps_of_a_guest_are_its_events.Goals as goal

pub returns-clause-stacks : goal.returns-clause-stacks
returns-clause-stacks c = λ guest past can. have_stacks guest can past

pub returns-clause-order : goal.returns-clause-order
returns-clause-order c = λ guest past can. go_on guest can past

pub returns-clause-tops : goal.returns-clause-tops
returns-clause-tops c = λ guest past can. tops guest can past

pub returns-clause-size : goal.returns-clause-size
returns-clause-size c = λ guest past can. sized guest can past

pub returns-clause-threads : goal.returns-clause-threads
returns-clause-threads c = λ guest past can. small_numbers guest can past
