-- Some of the parts of a run, chosen by their numbers and their threads: all of them, or those of one thread, or of some
-- segments.
use Rattle.std.specs.Prelude.{ℕ, Bool, List, [], filter, flat_map, if◌then◌else◌}
use Rattle.std.specs.List.{enumerate_from}
use Rattle.outside.specs.Outside.{Named}
use Rattle.shadow_stack.specs.Traces.{EventOnStack}
use Rattle.cg_format.specs.Part.{part_text}
use Rattle.cg_read.specs.Profiles.{Contents, IsProfile}
use Rattle.part_dump.specs.Files.{part_name}
use Rattle.part_dump.specs.Steps.{events_on_stack_of, threads}
use Rattle.profile_run.specs.Program.{Program, head_of_run}
use Rattle.profile_run.specs.Trace.{RunStep, steps_of}
use Rattle.once_each.specs.Written.{segments_of}
use Rattle.reads_back.specs.Joined.{WrittenPart, first_command, rows_of_all}
use Rattle.reads_back.specs.Rows.{IsOfRows}
use Rattle.run_laws.specs.Runs.{parts_written}

-- the file of a part
abbrev pub file_written : Program → WrittenPart → Named
file_written guest part = (
  part_name guest.options.base part.head.part part.head.thread.0,
  part_text part.head part.rows guest.syms,
)

-- the chosen parts, in the order in which they are put
abbrev pub parts_chosen : Program → (ℕ → ℕ → Bool) → List RunStep → List WrittenPart
parts_chosen guest chosen trace =
    filter (λ part. chosen part.head.part part.head.thread.0) (parts_written guest trace)

-- what there is of the events of each chosen thread in each chosen segment; segments count from 1
abbrev pub each_chosen : {X : Type 0} → (List EventOnStack → List X) → Program → (ℕ → ℕ → Bool) → List RunStep → List X
each_chosen what guest chosen trace =
    flat_map (λ s. flat_map (λ thread. if chosen s.0 thread then what (events_on_stack_of thread s.1.0) else [])
    (threads s.1.0)) (enumerate_from 1 (segments_of guest.syms guest.options.dump_points (steps_of trace)))

-- these events
abbrev pub events_chosen : Program → (ℕ → ℕ → Bool) → List RunStep → List EventOnStack
events_chosen guest chosen trace = each_chosen (λ xs. xs) guest chosen trace

-- a profile of the rows of the chosen parts
pub record IsProfileOfParts (guest : Program) (chosen : ℕ → ℕ → Bool) (trace : List RunStep) (p : Contents) : Type 0 where
  pub profile : IsProfile p
  pub rows : IsOfRows (head_of_run guest) (first_command (parts_chosen guest chosen trace))
      (rows_of_all (parts_chosen guest chosen trace)) guest.syms p
