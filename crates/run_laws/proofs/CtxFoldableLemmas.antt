-- The rows by context of a run can be folded, and the plain rows are their sums.
use Rattle.std.proofs.Common.{ℕ, List}
use Rattle.std.specs.List.{AllByRecursion}
use Rattle.shadow_stack.specs.Traces.{EventOnStack}
use Rattle.part_dump.specs.Steps.{Step, events_on_stack_of, IsPiece}
use Rattle.recorder.specs.Rows.{rows_of}
use Rattle.profile_run.specs.Program.{Program, CanRun}
use Rattle.profile_run.specs.Trace.{Makes, RunStep, steps_of}
use Rattle.ctx_rows.specs.Folding.{AreSumsOf, HaveContexts, plain}
use Rattle.ctx_rows.specs.Known.{AreKnown}
use Rattle.ctx_rows.specs.Rows.{CtxListed, ctx_rows_of}
use Rattle.ctx_rows.specs.Since.{StandsOn}
use Rattle.run_laws.proofs.Others.{folded_sums}
use Rattle.ctx_rows.proofs.KnownRowLemmas.{rows_known}
use Rattle.run_laws.proofs.Others.{HaveSums}
use Rattle.run_laws.proofs.PieceLemmas as piece_of_run
use Rattle.run_laws.specs.Contexts.{MayBeFolded}

module _ (guest : Program) (past : List RunStep) (callers thread : ℕ) (segment : List Step) (can : CanRun guest)
    (makes : Makes guest past) (piece : IsPiece (steps_of past) segment) where
  abbrev events : List EventOnStack
  events = events_on_stack_of thread segment

  abbrev by_context : CtxListed
  by_context = ctx_rows_of callers guest.syms events

  on : AllByRecursion (StandsOn guest.syms) events
  on = piece_of_run.on guest past thread segment can makes piece

  pub known : AreKnown guest.syms by_context
  known =
      rows_known guest.syms can.sound callers events on (piece_of_run.reached guest past thread segment can makes piece)

  have_contexts : HaveContexts by_context
  have_contexts = record {
    lines = λ k d less. (known.lines k d less).ctx.0;
    callers = λ k d less. (known.arcs k d less).caller.0;
    callees = λ k d less. (known.arcs k d less).callee.0;
  }

  sums : HaveSums guest.syms events (plain by_context)
  sums = folded_sums callers guest.syms events on

  pub may_fold : MayBeFolded by_context
  may_fold = record {
    contexts = have_contexts;
    lines = piece_of_run.lines_within guest past thread segment can makes piece (plain by_context) sums;
    arcs = piece_of_run.arcs_within guest past thread segment can makes piece (plain by_context) sums;
    calls = piece_of_run.calls_within guest past thread segment can makes piece (plain by_context) sums;
  }

  pub plain_sums : AreSumsOf (plain by_context) (rows_of guest.syms events)
  plain_sums = piece_of_run.sums_of guest past thread segment can makes piece (plain by_context) sums
