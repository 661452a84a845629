-- The work of `demo`: the demonstration program of a size runs, its own parts are read again and joined, and a summary
-- is written.
use Rattle.std.specs.Prelude.{◌≡◌, ℕ, false, IfOk, IfSome, List, [], ◌∷◌, codes, length, Result, Ok, Err}
use Rattle.event_costs.specs.Costs.{event_names, events_shown}
use Rattle.outside.specs.Outside.{Outside}
use Rattle.event_costs.specs.declared.outcome.End.{End}
use Rattle.event_costs.specs.declared.outcome.End.TheVariants as end
use Rattle.elf_read.specs.Image.{image_of}
use Rattle.sym_map.specs.SymbolMap.{IsSound, SymbolMap}
use Rattle.cg_read.specs.Profiles.{IsProfile}
use Rattle.demo_make.specs.Program.{IsFileOf, demo}
use Rattle.profile_files.specs.Joined.{no_rows}
use Rattle.profile_files.specs.Reading.{IsReading}
use Rattle.profile_run.specs.Program.{Program}
use Rattle.profile_run.specs.Parts.{plain_parts}
use Rattle.profile_run.specs.Runs.{RunEnd, Runs}
use Rattle.profile_run.specs.declared.run_fault.RunFault.{RunFault}
use Rattle.command_words.specs.Request.{Job, job}
use Rattle.profile_cli.specs.Course.{Course, RunOutcome}
use Rattle.profile_cli.specs.OwnReport.{parts_to_read}
use Rattle.profile_cli.specs.Program.{IsMapOf, guest_of}
use Rattle.command_steps.specs.declared.summary.Figures.{Figures}
use Rattle.command_steps.specs.Summary.{IsSummed}

-- its run has no arguments and no input, and each option's default but for what the names of its files begin with
abbrev pub demo_job : Job
demo_job = record (job (λ _. []) (codes "demo" ∷ [])) { base = codes "demo.out" }

-- the guest of the run, from the bytes of the program's file
abbrev pub demo_guest : List ℕ → SymbolMap → Program
demo_guest file syms = guest_of demo_job (image_of file) [] syms

-- what is told of a run that exited with a code, where the program's file has so many bytes
abbrev pub figures_of : ℕ → ℕ → ℕ → RunEnd → Figures
figures_of size len code run = record {
  size = size;
  len = len;
  code = code;
  steps = run.steps;
  threads = run.threads;
  files = length run.parts;
}

-- the summary of a run that exited
abbrev pub IsSummedEnd : Outside → ℕ → List ℕ → Course → Outside → RunEnd → End → Type 0
IsSummedEnd old size file met new run (end.Exited code) =
    IfSome met.summary (λ s. IfOk met.profile (λ p. IsSummed old (figures_of size (length file) code run) p new s))
IsSummedEnd old size file met new run stop = Unit {0}

abbrev pub IsSummedStop : Outside → ℕ → List ℕ → Course → Outside → Result RunEnd RunFault → Type 0
IsSummedStop old size file met new (Ok run) = IsSummedEnd old size file met new run run.end
IsSummedStop old size file met new (Err fault) = Unit {0}

-- The run may go so: the program is that of the size, and it puts out what fits how it stopped. Its parts may read as
-- the profile that was found, and the summary may go so.
pub record IsDemoRan (old : Outside) (size : ℕ) (met : Course) (new : Outside) (ran : RunOutcome) : Type 0 where
  pub file : List ℕ
  pub loaded : met.program ≡ Ok file
  pub made : IsFileOf (demo size) file
  pub symbols : IsMapOf (image_of file) ran.syms
  -- as every map of symbols is
  pub sound : IsSound ran.syms
  pub runs : Runs (plain_parts (demo_guest file ran.syms)) (demo_guest file ran.syms) old ran.stop ran.output new
  -- from what the folder holds once they were put
  pub reading : IsReading new.files old.load_faults new.load_faults (no_rows (events_shown false event_names))
      (parts_to_read demo_job ran.stop) met.profile
  -- as every profile is
  pub profile : IfOk met.profile IsProfile
  pub summary : IsSummedStop old size file met new ran.stop
