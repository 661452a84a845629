-- The files of a run that is watched by calling context: those of a run that nobody watches, with the texts of the rows
-- by context.
use Rattle.std.specs.Prelude.{ℕ, ◌+◌, List, [], ◌∷◌, ◌++◌, flat_map, length}
use Rattle.std.specs.List.{enumerate_from}
use Rattle.outside.specs.Outside.{Named}
use Rattle.cg_format.specs.declared.trigger.Trigger.{Trigger}
use Rattle.cg_format.specs.declared.trigger.Trigger.TheVariants.{Termination}
use Rattle.sym_map.specs.SymbolMap.{SymbolMap}
use Rattle.shadow_stack.specs.Traces.{EventOnStack}
use Rattle.cg_format.specs.declared.head.PartHead.{PartHead}
use Rattle.part_dump.specs.Calls.{head_of}
use Rattle.part_dump.specs.Cuts.{DumpPoints, cuts}
use Rattle.part_dump.specs.Files.{part_name}
use Rattle.part_dump.specs.Steps.{Step, events_on_stack_of, threads}
use Rattle.ctx_rows.specs.Rows.{ctx_rows_of}
use Rattle.ctx_rows.specs.Texts.{ctx_text}

-- How many callers a context has at most is given.
module _ (callers : ℕ) (head : PartHead) (syms : SymbolMap) (base : List ℕ) where
  -- the part of a thread; there is none where it has no event in the segment
  abbrev pub thread_files : ℕ → Trigger → ℕ → List EventOnStack → List Named
  thread_files part trigger thread [] = []
  thread_files part trigger thread (x ∷ xs) = (
    part_name base part thread,
    ctx_text (head_of head part trigger thread) (ctx_rows_of callers syms (x ∷ xs)) syms,
  ) ∷ []

  abbrev pub segment_files : ℕ → List Step → Trigger → List Named
  segment_files part segment trigger =
      flat_map (λ thread. thread_files part trigger thread (events_on_stack_of thread segment)) (threads segment)

  abbrev pub closed_files : List (List Step × Trigger) → List Named
  closed_files segments = flat_map (λ s. segment_files s.0 s.1.0 s.1.1) (enumerate_from 1 segments)

  unfoldable pub ctx_files : DumpPoints → List Step → List Named
  ctx_files asked trace =
      closed_files (cuts syms asked trace).closed
      ++ segment_files (length (cuts syms asked trace).closed + 1) (cuts syms asked trace).recent Termination
