-- The parts of a run, as files.
use Rattle.std.specs.Prelude.{◌≡◌, ℕ, List, ◌++◌, length, map, Option}
use Rattle.outside.specs.Outside.{Named}
use Rattle.event_costs.specs.declared.numbers.ThreadNo.{ThreadNo}
use Rattle.part_dump.specs.Calls.{Call, calls, closed_calls, steps_calls}
use Rattle.part_dump.specs.Cuts.{cuts}
use Rattle.part_dump.specs.Files.{part_name}
use Rattle.part_dump.specs.Parts.{closed_files, files}
use Rattle.part_dump.specs.Steps.{Step}
use Rattle.part_dump.specs.Watching.{Meaning, puts}
use Rattle.profile_run.specs.Program.{Program, head_of_run}
use Rattle.recorder.specs.Rows.{rows_of}
use Rattle.profile_run.specs.declared.run_end.PartFile.{PartFile}

-- What a run puts: the files of the cuts after some steps; and those of all steps, where this was tried after them.
pub record Writing : Type 0 where
  pub at_cuts : List Step → List Named
  pub whole : List Step → Option (ThreadNo × ℕ) → List Named

-- nobody watches: the files are those of the segments
abbrev pub plain_parts : Program → Writing
plain_parts guest = record {
  at_cuts = λ steps. closed_files (rows_of guest.syms) (head_of_run guest) guest.syms guest.options.base
      (cuts guest.syms guest.options.dump_points steps).closed;
  whole = λ steps tried. files (rows_of guest.syms) (head_of_run guest) guest.syms guest.options.base
      guest.options.dump_points steps;
}

-- ---- a watched run

-- what a watch is told in a run up to some steps
abbrev pub calls_so_far : Program → List Step → List Call
calls_so_far guest steps =
    closed_calls (rows_of guest.syms) (head_of_run guest) (cuts guest.syms guest.options.dump_points steps).closed
    ++ steps_calls (cuts guest.syms guest.options.dump_points steps).recent

-- and in a whole run, where this was tried last
abbrev pub calls_of : Program → List Step → Option (ThreadNo × ℕ) → List Call
calls_of guest steps tried =
    calls (rows_of guest.syms) (head_of_run guest) guest.syms guest.options.dump_points steps tried

-- the files have the texts that a watch answers, whose first state is this
abbrev pub watched_parts : {W : Type 0} → Meaning W → W → Program → Writing
watched_parts meaning watch guest = record {
  at_cuts = λ steps. puts meaning guest.syms guest.options.base watch (calls_so_far guest steps);
  whole = λ steps tried. puts meaning guest.syms guest.options.base watch (calls_of guest steps tried);
}

-- ---- the list of parts

-- these are the parts of the files: their names and lengths, in order
abbrev pub ArePartsOf : List ℕ → List Named → List PartFile → Type 0
ArePartsOf base put parts =
    map {B = List ℕ × ℕ} (λ p. (part_name base p.part p.thread.0, p.len)) parts
    ≡ map {B = List ℕ × ℕ} (λ f. (f.0, length f.1)) put
