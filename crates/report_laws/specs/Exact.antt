-- What a run leaves whose own parts were read again and reported.
use Rattle.std.specs.Prelude.{◌≡◌, ℕ, List, map, option_map}
use Rattle.outside.specs.Outside.{Outside, with_files}
use Rattle.outside.specs.Write.{taken_more}
use Rattle.part_dump.specs.Files.{part_name}
use Rattle.profile_files.specs.WantedFile.{WantedFile}
use Rattle.annotate.specs.Report.{SourceTexts}
use Rattle.report_rows.specs.declared.options.ReportOptions.{ReportOptions}
use Rattle.profile_run.specs.Program.{Program}
use Rattle.profile_run.specs.Runs.{RunEnd}
use Rattle.profile_run.specs.Trace.{IsTraceOf, Stop, RunStep, sent_bytes}
use Rattle.profile_run.specs.declared.run_end.PartFile.{PartFile}
use Rattle.run_laws.specs.OwnParts.{files_of_run}
use Rattle.report_laws.specs.Reports.{IsReportOfRun}

-- the file of a part that a run lists, with its length as the limit
abbrev pub part_wanted : List ℕ → PartFile → WantedFile
part_wanted base part = record { name = part_name base part.part part.thread.0; limit = part.len }

abbrev pub parts_wanted : List ℕ → List PartFile → List WantedFile
parts_wanted base parts = map (part_wanted base) parts

-- the files of a run's parts, in the order of their puts
abbrev pub own_parts : Program → RunEnd → List WantedFile
own_parts guest run = parts_wanted guest.options.base run.parts

-- The part files are those of the guest's trace and nothing else in the folder has changed, the sinks have taken the
-- guest's bytes, and the report is on that trace.
pub record IsExact (guest : Program) (old : Outside) (run : RunEnd) (new : Outside) (options : ReportOptions)
    (texts : SourceTexts) (text : List ℕ) : Type 0 where
  pub trace : List RunStep
  pub stop : Stop
  pub is : IsTraceOf guest trace stop
  pub end : run.end ≡ stop.end
  pub files : new.files ≡ option_map (with_files (files_of_run guest trace stop)) old.files
  pub out : new.out.taken ≡ taken_more old.out.taken (sent_bytes 1 trace)
  pub err : new.err.taken ≡ taken_more old.err.taken (sent_bytes 2 trace)
  pub report : IsReportOfRun guest trace options texts text
