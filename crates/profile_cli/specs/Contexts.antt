-- What functions cost by their callers, where it is counted.
use Rattle.std.specs.Prelude.{◌≡◌, ℕ, List}
use Rattle.arc_costs.specs.Contents.{Listed}
use Rattle.outside.specs.Outside.{Outside}
use Rattle.sym_map.specs.SymbolMap.{SymbolMap}
use Rattle.recorder.specs.Laws.{IsIn}
use Rattle.part_dump.specs.Steps.{Step, events_on_stack_of, IsPiece}
use Rattle.recorder.specs.Rows.{rows_of}
use Rattle.profile_run.specs.Trace.{steps_of}
use Rattle.ctx_rows.specs.Folding.{AreSumsOf, plain}
use Rattle.ctx_rows.specs.Rows.{ctx_rows_of}
use Rattle.run_laws.specs.Contexts.{MayBeFolded}
use Rattle.command_status.specs.declared.status.Status.{Status}
use Rattle.command_words.specs.Request.{Request, Contexts}
use Rattle.profile_cli.specs.HasRun.{OfRuns}

-- The rows by context of a thread's events in a piece of a run meet the conditions of `fold`, and their sums over the
-- contexts of a function are the plain rows of that thread and piece.
abbrev pub MayFold : ℕ → SymbolMap → List Step → Type 0
MayFold callers syms steps =
    (thread : ℕ) (segment : List Step) → IsPiece steps segment
    → MayBeFolded (ctx_rows_of callers syms (events_on_stack_of thread segment))
    × AreSumsOf (plain (ctx_rows_of callers syms (events_on_stack_of thread segment))) (rows_of syms (events_on_stack_of thread segment))

-- They fold back to these alone.
abbrev pub FoldBack : ℕ → SymbolMap → List Step → Type 0
FoldBack callers syms steps =
    (thread : ℕ) (segment : List Step) (rows : Listed) → ((x : Step) → IsIn segment x → IsIn steps x)
    → AreSumsOf (plain (ctx_rows_of callers syms (events_on_stack_of thread segment))) rows
    → rows ≡ rows_of syms (events_on_stack_of thread segment)

-- The parts of the run have the rows by contexts of so many callers of each thread in each segment (`files_asked`). They
-- can be folded, and folded they are the plain rows.
abbrev pub IsContexts : Outside → Request → Status → Outside → Type 0
IsContexts =
    OfRuns (λ job watching guest trace. (callers : ℕ) → watching ≡ Contexts callers
    → MayFold callers guest.syms (steps_of trace) × FoldBack callers guest.syms (steps_of trace))
