-- What a run that is watched by address answers.
use Rattle.std.proofs.Common.{◌≡◌, ℕ, Option, Result, List}
use Rattle.outside.specs.Outside.{Log, Outside, Output}
use Rattle.event_costs.specs.declared.numbers.ThreadNo.{ThreadNo}
use Rattle.part_dump.specs.Steps.{Step}
use Rattle.recorder.specs.Rows.{rows_of}
use Rattle.profile_run.specs.Program.{Program, head_of_run, CanRun}
use Rattle.profile_run.specs.Parts.{watched_parts}
use Rattle.profile_run.specs.Runs.{Does, RunEnd, Runs}
use Rattle.profile_run.specs.Trace.{IsTraceOf, Stop, RunStep, steps_of}
use Rattle.profile_run.specs.declared.run_fault.RunFault.{RunFault}
use Rattle.once_each.specs.Runs.{AreOrderly}
use Rattle.addr_rows.specs.States.{AddrState}
use Rattle.addr_rows.specs.Watching.{IsFresh, by_address}
use Rattle.addr_rows.proofs.PutLemmas.{cut_puts, run_puts}
use Rattle.run_laws.specs.Addresses.{addr_parts}
use Rattle.run_laws.proofs.AnswerLemmas.{threads_are_known, same_does, same_runs, same_whole}
use Rattle.run_laws.proofs.WatchedLemmas.{run_watched, so_far_watched}

module _ (guest : Program) (can : CanRun guest) where
  -- steps as a run of the guest makes them
  module _ (steps : List Step) (order : AreOrderly guest.syms steps) where
    module _ (first : AddrState) (fresh : IsFresh first) where
      pub cut_files : (watched_parts by_address first guest).at_cuts steps
          ≡ (addr_parts guest).at_cuts steps
      cut_files =
          cut_puts (rows_of guest.syms) (head_of_run guest) guest.syms guest.options.base
          guest.options.dump_points steps first
          fresh
          (so_far_watched guest.syms (rows_of guest.syms) (head_of_run guest) guest.options.dump_points
          steps (threads_are_known guest can steps order) order)

      pub run_files : (tried : Option (ThreadNo × ℕ)) → (watched_parts by_address first guest).whole steps tried
          ≡ (addr_parts guest).whole steps tried
      run_files tried =
          run_puts (rows_of guest.syms) (head_of_run guest) guest.syms guest.options.base
          guest.options.dump_points steps first
          fresh tried
          (run_watched guest.syms (rows_of guest.syms) (head_of_run guest) guest.options.dump_points steps
          (threads_are_known guest can steps order) order tried)

  module _ (first : AddrState) (fresh : IsFresh first) where
    pub wholes : (trace : List RunStep) (stop : Stop) → IsTraceOf guest trace stop
        → (watched_parts by_address first guest).whole (steps_of trace) stop.tried
        ≡ (addr_parts guest).whole (steps_of trace) stop.tried
    wholes =
        same_whole guest can (watched_parts by_address first guest) (addr_parts guest)
        (λ steps order. cut_files steps order first fresh) (λ steps order. run_files steps order first fresh)

    pub does : (answer : Result RunEnd RunFault) (log : Log)
        → Does (watched_parts by_address first guest) guest answer log
        → Does (addr_parts guest) guest answer log
    does =
        same_does guest can (watched_parts by_address first guest) (addr_parts guest)
        (λ steps order. cut_files steps order first fresh) (λ steps order. run_files steps order first fresh)

    pub runs : (old : Outside) (answer : Result RunEnd RunFault) (output : Output) (new : Outside)
        → Runs (watched_parts by_address first guest) guest old answer output new
        → Runs (addr_parts guest) guest old answer output new
    runs =
        same_runs guest can (watched_parts by_address first guest) (addr_parts guest)
        (λ steps order. cut_files steps order first fresh) (λ steps order. run_files steps order first fresh)
