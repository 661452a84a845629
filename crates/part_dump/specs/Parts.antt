-- The files of a run: for each segment, by rising number, and each thread with an event in it, by rising number, the
-- text of its part.
use Rattle.std.specs.Prelude.{ℕ, ◌+◌, List, [], ◌∷◌, ◌++◌, flat_map, length}
use Rattle.std.specs.List.{enumerate_from}
use Rattle.cg_format.specs.declared.trigger.Trigger.{Trigger}
use Rattle.cg_format.specs.declared.trigger.Trigger.TheVariants.{Termination}
use Rattle.sym_map.specs.SymbolMap.{SymbolMap}
use Rattle.shadow_stack.specs.Traces.{EventOnStack}
use Rattle.arc_costs.specs.Contents.{Listed}
use Rattle.cg_format.specs.Part.{part_text}
use Rattle.cg_format.specs.declared.head.PartHead.{PartHead}
use Rattle.part_dump.specs.Calls.{head_of}
use Rattle.part_dump.specs.Cuts.{DumpPoints, cuts}
use Rattle.outside.specs.Outside.{Named}
use Rattle.part_dump.specs.Files.{part_name}
use Rattle.part_dump.specs.Steps.{Step, events_on_stack_of, threads}

-- How the events of a thread in a segment are summed up in rows is given.
module _ (rows_of : List EventOnStack → Listed) (head : PartHead) (syms : SymbolMap) (base : List ℕ) where
  -- the part of a thread; there is none where it has no event in the segment
  abbrev pub thread_files : ℕ → Trigger → ℕ → List EventOnStack → List Named
  thread_files part trigger thread [] = []
  thread_files part trigger thread (x ∷ xs) =
      (part_name base part thread, part_text (head_of head part trigger thread) (rows_of (x ∷ xs)) syms) ∷ []

  abbrev pub segment_files : ℕ → List Step → Trigger → List Named
  segment_files part segment trigger =
      flat_map (λ thread. thread_files part trigger thread (events_on_stack_of thread segment)) (threads segment)

  -- of the segments that cuts end, which count from 1
  abbrev pub closed_files : List (List Step × Trigger) → List Named
  closed_files segments = flat_map (λ s. segment_files s.0 s.1.0 s.1.1) (enumerate_from 1 segments)

  -- the last segment ends with the program
  unfoldable pub files : DumpPoints → List Step → List Named
  files asked trace =
      closed_files (cuts syms asked trace).closed
      ++ segment_files (length (cuts syms asked trace).closed + 1) (cuts syms asked trace).recent Termination
