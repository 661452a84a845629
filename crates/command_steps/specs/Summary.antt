-- The summary of a demonstration.
use Rattle.std.specs.Prelude.{◌≡◌, ℕ, List, [], Option, Some, None, Result, Ok, Err, ◌++◌, EachIndex, IfSome, ◌∷◌}
use Rattle.std.specs.Prelude.{codes, decimal, length, slice_index, take, ◌⊎◌}
use Rattle.outside.specs.Outside.{Output, Outside, nothing, Log, Leaves}
use Rattle.outside.specs.declared.sink.WriteError.{WriteError}
use Rattle.cg_read.specs.Profiles.{Contents}
use Rattle.cg_read.specs.declared.error.SumError.{SumError}
use Rattle.byte_text.specs.Memory.{memory}
use Rattle.std.specs.List.{flat_map}
use Rattle.cg_read.specs.Totals.{IsFirstOver, total}
use Rattle.cg_read.specs.declared.error.SumError.TheVariants as sum
use Rattle.command_status.specs.declared.status.Status.{Status}
use Rattle.command_status.specs.declared.status.Status.TheVariants.{SumLimit, OutOfMemory}
use Rattle.command_steps.specs.Annotate.{IsTaken, write_fault}
use Rattle.command_steps.specs.Gates.{Gate, check, gates_outcome}
use Rattle.command_steps.specs.declared.summary.Figures.{Figures}
use Rattle.command_steps.specs.Stages.{Quiet, Then, WritesText}
use Rattle.command_steps.specs.ReportStages.{report_status}

-- The summary of a demonstration: the totals of its parts, how writing it went, and how many of its bytes were taken.
pub record SummaryOutcome : Type 0 where
  pub totals : Result (List ℕ) SumError
  pub written : Result (Unit {0}) WriteError
  pub count : ℕ

-- ---- the summary

-- a number between two texts
abbrev pub figure : List ℕ → ℕ → List ℕ → List ℕ
figure before number behind = before ++ decimal number ++ behind

-- six lines: the size, the bytes of the program's file, the code that it exited with, its steps, its threads and its
-- files
abbrev pub figure_lines : Figures → List ℕ
figure_lines f =
    figure (codes "demo ") f.size (codes "\n")
    ++ figure (codes "elf ") f.len (codes " bytes\n")
    ++ figure (codes "end exited ") f.code (codes "\n")
    ++ figure (codes "steps ") f.steps (codes "\n")
    ++ figure (codes "threads ") f.threads (codes "\n")
    ++ figure (codes "files ") f.files (codes "\n")

-- seven lines: these, and the totals over all files
abbrev pub summary : Figures → List ℕ → List ℕ
summary f totals =
    figure_lines f ++ codes "totals" ++ flat_map (λ total. codes " " ++ decimal total) totals ++ codes "\n"

-- ---- the gates

abbrev pub totals_fault : Result (List ℕ) SumError → Option Status
totals_fault (Ok totals) = None
totals_fault (Err (sum.SumLimit event)) = Some (SumLimit event)
totals_fault (Err (sum.OutOfMemory _)) = Some (OutOfMemory memory)

abbrev pub summary_of : Figures → Result (List ℕ) SumError → List ℕ
summary_of f (Ok totals) = summary f totals
summary_of f (Err error) = []

-- the totals are made, and the summary is written; where the work didn't come to it, memory was wanting
abbrev pub summing : Figures → Option SummaryOutcome → List Gate
summing f None = check (Some (OutOfMemory memory)) ∷ []
summing f (Some s) =
    check (totals_fault s.totals)
    ∷ record {
      stops = write_fault s.written;
      output = record nothing { out = take s.count (summary_of f s.totals) };
    }
    ∷ []

-- ---- what is so of it

-- the totals of a profile, or the first of its events whose total is too large
abbrev pub AreTotals : Contents → Result (List ℕ) SumError → Type 0
AreTotals p (Ok totals) =
    (length totals ≡ length p.events) × EachIndex totals (λ event. slice_index totals event ≡ total p event)
AreTotals p (Err (sum.SumLimit event)) = IsFirstOver p.self_rows (length p.events) event
AreTotals p (Err (sum.OutOfMemory _)) = Unit {0}

-- the totals are made
abbrev pub MakesTotals : Contents → Result (List ℕ) Status → Type 0
MakesTotals p (Ok totals) = AreTotals p (Ok totals)
MakesTotals p (Err status) =
    (error : SumError) × AreTotals p (Err error) × (totals_fault (Err error) ≡ Some status)

pub record IsSummed (old : Outside) (f : Figures) (p : Contents) (new : Outside) (summed : SummaryOutcome) : Type 0 where
  pub totals : AreTotals p summed.totals
  pub written : IsTaken (summary_of f summed.totals) old.out.faults new.out.faults summed.count summed.written

-- the totals of a profile are made, and the summary is written
abbrev pub WritesSummary : Figures → Contents → Log → Result (Unit {0}) Status → Type 0
WritesSummary figures p = Then (Quiet (MakesTotals p)) (λ totals. WritesText (summary figures totals))

-- The summary is made and written, or something stops it. Nothing is put.
pub record ShowsSummary (old : Outside) (f : Figures) (p : Contents) (result : Result (Unit {0}) Status)
    (new : Outside) : Type 0 where
  pub summary : Option SummaryOutcome
  pub output : Output
  pub is : IfSome summary (IsSummed old f p new)
  pub comes : (last : Status) → gates_outcome (summing f summary) last
      ≡ record { status = report_status last result; output = output }
  pub puts : output.files ≡ []
  pub refused : output.refused ≡ None
  pub same_files : new.files ≡ old.files
  pub leaves : Leaves old output new
