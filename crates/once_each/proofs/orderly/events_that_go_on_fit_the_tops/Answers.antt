use Rattle.std.proofs.lemmas.List.Elements.{All-from_recursion}
use Rattle.std.proofs.Common.{[]}
use Rattle.shadow_stack.specs.Traces.{events_on_stacks}
use Rattle.once_each.specs.Orderly.{FitsTop}
use Rattle.once_each.proofs.OrderLemmas.{fit_tops}
use Rattle.once_each.proofs.orderly.events_that_go_on_fit_the_tops.Goals as goal

pub returns : goal.returns
returns c = λ syms trace go. All-from_recursion (FitsTop syms) (events_on_stacks syms trace) (fit_tops syms [] trace go)
