-- The steps of a run with the stacks that another map makes of them.
use Rattle.std.specs.Prelude.{◌≡◌, ℕ, ◌++◌, ◌==◌, List, [], ◌∷◌, if◌then◌else◌}
use Rattle.sym_map.specs.SymbolMap.{SymbolMap}
use Rattle.shadow_stack.specs.Traces.{EventOnStack}
use Rattle.part_dump.specs.Calls.{Call, Readies, Sees, Writes}
use Rattle.part_dump.specs.Steps.{Step, event_of, stack_at, thread_of}

-- a step that follows these steps
abbrev pub with_stack_of : SymbolMap → List Step → Step → Step
with_stack_of m earlier x = record {
  on_stack = record {
    event = event_of x;
    cost = x.on_stack.cost;
    stack = stack_at m earlier (thread_of x) (event_of x).done.pc;
  };
  wait = x.wait;
  woken = x.woken;
}

-- steps that follow these steps
abbrev pub with_stacks_of : SymbolMap → List Step → List Step → List Step
with_stacks_of m earlier [] = []
with_stacks_of m earlier (x ∷ xs) = with_stack_of m earlier x ∷ with_stacks_of m (earlier ++ x ∷ []) xs

-- each step that follows these has the stack of its thread
abbrev pub AreOn : SymbolMap → List Step → List Step → Type 0
AreOn m earlier [] = Unit {0}
AreOn m earlier (x ∷ xs) =
    (x.on_stack.stack ≡ stack_at m earlier (thread_of x) (event_of x).done.pc) × AreOn m (earlier ++ x ∷ []) xs

-- the steps once a call is made
abbrev pub steps_by : Call → List Step → List Step
steps_by (Readies thread pc) steps = steps
steps_by (Sees x) steps = steps ++ x ∷ []
steps_by (Writes head rows) steps = steps

-- The events of a thread once a call is made after these steps, where it had these since its last part.
abbrev pub since_by : SymbolMap → ℕ → List Step → Call → List EventOnStack → List EventOnStack
since_by m thread steps (Readies t pc) before = before
since_by m thread steps (Sees x) before =
    if thread_of x == thread then before ++ (with_stack_of m steps x).on_stack ∷ [] else before
since_by m thread steps (Writes head rows) before = if head.thread.0 == thread then [] else before

abbrev pub since_after : SymbolMap → ℕ → List Step → List EventOnStack → List Call → List EventOnStack
since_after m thread steps before [] = before
since_after m thread steps before (c ∷ cs) =
    since_after m thread (steps_by c steps) (since_by m thread steps c before) cs

-- the events of a thread since its last part, among these calls
abbrev pub since : SymbolMap → ℕ → List Call → List EventOnStack
since m thread cs = since_after m thread [] [] cs
