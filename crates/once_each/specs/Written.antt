-- The parts that a run writes: the rows of each thread in each segment between its cuts, and their files.
use Rattle.std.specs.Prelude.{ℕ, List, [], ◌∷◌, ◌++◌, All, Contains, flat_map, map}
use Rattle.std.specs.List.{enumerate_from}
use Rattle.outside.specs.Outside.{Named}
use Rattle.cg_format.specs.declared.trigger.Trigger.{Trigger}
use Rattle.cg_format.specs.declared.trigger.Trigger.TheVariants.{Termination}
use Rattle.sym_map.specs.SymbolMap.{SymbolMap}
use Rattle.shadow_stack.specs.Traces.{EventOnStack}
use Rattle.arc_costs.specs.Contents.{Listed}
use Rattle.recorder.specs.Standing.{AreRowsOf}
use Rattle.cg_format.specs.Part.{part_text}
use Rattle.cg_format.specs.declared.head.PartHead.{PartHead}
use Rattle.part_dump.specs.Calls.{head_of}
use Rattle.part_dump.specs.Cuts.{DumpPoints, cuts}
use Rattle.part_dump.specs.Files.{part_name}
use Rattle.part_dump.specs.Steps.{Step, events_on_stack_of, threads}
use Rattle.once_each.specs.Parts.{ThreadRows}

-- the segments of a run, each with its trigger; the last one ends with the program
abbrev pub segments_of : SymbolMap → DumpPoints → List Step → List (List Step × Trigger)
segments_of syms asked steps = (cuts syms asked steps).closed ++ ((cuts syms asked steps).recent, Termination) ∷ []

-- Any of these events are summed up in their rows.
abbrev pub SumsUp : SymbolMap → (List EventOnStack → Listed) → List EventOnStack → Type 0
SumsUp syms rows_of all = (xs : List EventOnStack) → All (Contains all) xs → AreRowsOf syms xs (rows_of xs)

-- How the events of a thread in a segment are summed up in rows is given.
module _ (rows_of : List EventOnStack → Listed) where
  -- a thread without an event in the segment has no part
  abbrev pub thread_part : ℕ → List EventOnStack → List ThreadRows
  thread_part thread [] = []
  thread_part thread (x ∷ xs) = record { thread = record { 0 = thread }; rows = rows_of (x ∷ xs) } ∷ []

  -- the parts of a segment, by rising thread
  abbrev pub segment_parts : List Step → List ThreadRows
  segment_parts segment = flat_map (λ thread. thread_part thread (events_on_stack_of thread segment)) (threads segment)

  -- the parts of a run
  abbrev pub parts_of : SymbolMap → DumpPoints → List Step → List (List ThreadRows)
  parts_of syms asked steps = map (λ s. segment_parts s.0) (segments_of syms asked steps)

-- The file of a part: its name, and the text of its rows.
module _ (head : PartHead) (syms : SymbolMap) (base : List ℕ) where
  abbrev pub file_of : ℕ → Trigger → ThreadRows → Named
  file_of number trigger part = (
    part_name base number part.thread.0,
    part_text (head_of head number trigger part.thread.0) part.rows syms,
  )

  -- the files of segments, which count from 1, with these parts
  abbrev pub files_of : (List EventOnStack → Listed) → List (List Step × Trigger) → List Named
  files_of rows_of segments =
      flat_map (λ s. map (file_of s.0 s.1.1) (segment_parts rows_of s.1.0)) (enumerate_from 1 segments)
