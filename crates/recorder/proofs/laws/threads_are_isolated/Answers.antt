use Rattle.std.proofs.Common.{List, ap}
use Rattle.shadow_stack.specs.Traces.{CountedEvent, stack_of}
use Rattle.recorder.proofs.LawLemmas.{events_in, same_alone}
use Rattle.recorder.proofs.laws.threads_are_isolated.Goals as goal

pub returns-clause-seen : goal.returns-clause-seen
returns-clause-seen c = λ syms thread xs ys same. same_alone syms thread xs ys same

pub returns-clause-stack : goal.returns-clause-stack
returns-clause-stack c = λ syms thread xs ys pc same. ap (λ (es : List CountedEvent). stack_of syms (events_in es) pc) same
