-- The steps of a trace, and what each thread has done.
use Rattle.std.specs.Prelude.{◌≡◌, ℕ, suc, ◌==◌, max, not, List, ◌++◌, map, filter, fold, count_by, sum_by, Option}
use Rattle.event_costs.specs.declared.event.Event.{Event}
use Rattle.event_costs.specs.declared.numbers.ThreadNo.{ThreadNo}
use Rattle.sym_map.specs.SymbolMap.{SymbolMap}
use Rattle.shadow_stack.specs.Kinds.{is_root}
use Rattle.shadow_stack.specs.Stacks.{Stack}
use Rattle.shadow_stack.specs.Traces.{EventOnStack, stack_of}
use Rattle.cg_format.specs.Rows.{below}

-- A step: its event with what it cost and the stack of its thread before it, the address at which the thread began to
-- wait in it, if it did, and the threads that it woke.
pub record Step : Type 0 where
  pub on_stack : EventOnStack
  pub wait : Option ℕ
  pub woken : List ThreadNo

abbrev pub event_of : Step → Event
event_of x = x.on_stack.event

abbrev pub thread_of : Step → ℕ
thread_of x = x.on_stack.event.thread.0

-- the steps of a thread, in their order
abbrev pub steps_of_thread : ℕ → List Step → List Step
steps_of_thread thread xs = filter (λ x. thread_of x == thread) xs

abbrev pub events_on_stack_of : ℕ → List Step → List EventOnStack
events_on_stack_of thread xs = map (λ x. x.on_stack) (steps_of_thread thread xs)

abbrev pub events_of_thread : ℕ → List Step → List Event
events_of_thread thread xs = map event_of (steps_of_thread thread xs)

-- the greatest number of a thread of these steps
abbrev pub greatest : List Step → ℕ
greatest xs = fold (λ most x. max most (thread_of x)) 0 xs

-- the numbers up to it
abbrev pub threads : List Step → List ℕ
threads xs = below (suc (greatest xs))

-- the stack of a thread after these steps of all threads, which begins at this pc where it has no step among them
abbrev pub stack_at : SymbolMap → List Step → ℕ → ℕ → Stack
stack_at syms earlier thread pc = stack_of syms (events_of_thread thread earlier) pc

-- the frames of a stack that are no roots
abbrev pub frames_in : Stack → ℕ
frames_in s = count_by (λ a. not (is_root a.kind)) s

-- the frames of all threads after these steps that are no roots
abbrev pub live : SymbolMap → List Step → ℕ
live syms xs = sum_by (λ thread. frames_in (stack_at syms xs thread 0)) (threads xs)

-- steps that follow one another among others
pub record IsPiece (steps segment : List Step) : Type 0 where
  pub before : List Step
  pub after : List Step
  pub whole : before ++ (segment ++ after) ≡ steps
