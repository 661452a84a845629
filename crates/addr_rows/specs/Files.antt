-- The files of a run that is watched by address: those of a run that nobody watches, with the texts of the rows by
-- address.
use Rattle.std.specs.Prelude.{ℕ, ◌+◌, List, [], ◌∷◌, ◌++◌, flat_map, length}
use Rattle.outside.specs.Outside.{Named}
use Rattle.cg_format.specs.declared.trigger.Trigger.{Trigger}
use Rattle.cg_format.specs.declared.trigger.Trigger.TheVariants.{Termination}
use Rattle.sym_map.specs.SymbolMap.{SymbolMap}
use Rattle.shadow_stack.specs.Traces.{EventOnStack}
use Rattle.cg_format.specs.declared.head.PartHead.{PartHead}
use Rattle.part_dump.specs.Calls.{head_of}
use Rattle.part_dump.specs.Cuts.{DumpPoints, cuts}
use Rattle.part_dump.specs.Files.{part_name}
use Rattle.part_dump.specs.Steps.{Step, events_on_stack_of, threads}
use Rattle.sym_map.specs.AddressMap.{address_map}
use Rattle.addr_rows.specs.EventRows.{addr_rows_of}
use Rattle.addr_rows.specs.Rows.{AddrListed}
use Rattle.addr_rows.specs.Texts.{addr_text}
use Rattle.addr_rows.specs.Stacked.{with_stacks_of}

-- the rows of a thread's events in a segment that follows these steps
abbrev pub addr_rows_in : SymbolMap → ℕ → List Step → List Step → AddrListed
addr_rows_in m thread earlier segment =
    addr_rows_of m (events_on_stack_of thread (with_stacks_of (address_map m) earlier segment))

module _ (head : PartHead) (m : SymbolMap) (base : List ℕ) where
  -- the part of a thread with these rows; there is none where it has no event in the segment
  abbrev pub thread_files : ℕ → Trigger → ℕ → AddrListed → List EventOnStack → List Named
  thread_files part trigger thread rows [] = []
  thread_files part trigger thread rows (x ∷ xs) =
      (part_name base part thread, addr_text (head_of head part trigger thread) rows m) ∷ []

  -- the parts of a segment that follows these steps, by rising thread
  abbrev pub segment_files : List Step → ℕ → List Step → Trigger → List Named
  segment_files earlier part segment trigger =
      flat_map (λ thread. thread_files part trigger thread (addr_rows_in m thread earlier segment)
      (events_on_stack_of thread segment)) (threads segment)

  -- of the segments that cuts end, from this number on
  abbrev pub files_from : List Step → ℕ → List (List Step × Trigger) → List Named
  files_from earlier part [] = []
  files_from earlier part (s ∷ segments) =
      segment_files earlier part s.0 s.1 ++ files_from (earlier ++ s.0) (part + 1) segments

  abbrev pub closed_files : List (List Step × Trigger) → List Named
  closed_files segments = files_from [] 1 segments

  abbrev pub steps_of : List (List Step × Trigger) → List Step
  steps_of segments = flat_map (λ s. s.0) segments

  -- the last segment ends with the program
  unfoldable pub addr_files : DumpPoints → List Step → List Named
  addr_files asked trace =
      closed_files (cuts m asked trace).closed
      ++ segment_files (steps_of (cuts m asked trace).closed) (length (cuts m asked trace).closed + 1)
      (cuts m asked trace).recent Termination
