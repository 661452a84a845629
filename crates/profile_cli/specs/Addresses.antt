-- What instructions cost by their addresses, where it is counted.
use Rattle.std.specs.Prelude.{◌≡◌, ℕ, List}
use Rattle.arc_costs.specs.Contents.{Listed}
use Rattle.outside.specs.Outside.{Outside}
use Rattle.sym_map.specs.SymbolMap.{SymbolMap}
use Rattle.part_dump.specs.Steps.{Step, events_on_stack_of, IsPiece}
use Rattle.recorder.specs.Rows.{rows_of}
use Rattle.profile_run.specs.Trace.{steps_of}
use Rattle.ctx_rows.specs.Folding.{AreSumsOf}
use Rattle.addr_rows.specs.Plain.{plain}
use Rattle.addr_rows.specs.Files.{addr_rows_in}
use Rattle.run_laws.specs.Addresses.{MayBeFolded}
use Rattle.command_status.specs.declared.status.Status.{Status}
use Rattle.command_words.specs.Request.{Addresses, Request}
use Rattle.profile_cli.specs.HasRun.{OfRuns}

-- The rows by address of a thread's events in a piece of a run meet the conditions of `fold`, and their sums over the
-- addresses of a line are the plain rows of that thread and piece.
abbrev pub MayFold : SymbolMap → List Step → Type 0
MayFold syms steps =
    (thread : ℕ) (segment : List Step) (piece : IsPiece steps segment)
    → MayBeFolded (addr_rows_in syms thread piece.before segment)
    × AreSumsOf (plain (addr_rows_in syms thread piece.before segment)) (rows_of syms (events_on_stack_of thread segment))

-- They fold back to these alone.
abbrev pub FoldBack : SymbolMap → List Step → Type 0
FoldBack syms steps =
    (thread : ℕ) (segment : List Step) (rows : Listed) (piece : IsPiece steps segment)
    → AreSumsOf (plain (addr_rows_in syms thread piece.before segment)) rows
    → rows ≡ rows_of syms (events_on_stack_of thread segment)

-- The parts of the run have the rows by address of each thread in each segment (`files_asked`). They can be folded, and
-- folded they are the plain rows.
abbrev pub IsAddresses : Outside → Request → Status → Outside → Type 0
IsAddresses =
    OfRuns (λ job watching guest trace. watching ≡ Addresses
    → MayFold guest.syms (steps_of trace) × FoldBack guest.syms (steps_of trace))
