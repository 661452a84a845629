-- A run, its own parts read again, and the report on them.
use Rattle.std.proofs.Common.{◌≡◌, ℕ, List, [], ◌∷◌, length, map, Some, Ok, Err, option_map, refl, ap, subst, ◌∙◌}
use Rattle.outside.specs.Files.{Files}
use Rattle.outside.specs.Outside.{Leaves, Named, Output, Outside, with_files}
use Rattle.cg_read.specs.Profiles.{Contents, IsProfile}
use Rattle.part_dump.specs.Files.{part_name}
use Rattle.annotate.specs.Report.{IsReportOf, SourceTexts}
use Rattle.report_rows.specs.declared.options.ReportOptions.{ReportOptions}
use Rattle.profile_files.specs.Reading.{IsReading}
use Rattle.profile_files.specs.WantedFile.{WantedFile}
use Rattle.profile_files.specs.declared.fault.ReadFault.{ReadFault}
use Rattle.profile_run.specs.Program.{Program, head_of_run, CanRun}
use Rattle.profile_run.specs.Parts.{ArePartsOf, plain_parts}
use Rattle.profile_run.specs.Runs.{Answers, RunEnd, IsWhole, whole_output}
use Rattle.profile_run.specs.Trace.{Makes, RunStep}
use Rattle.profile_run.specs.declared.run_end.PartFile.{PartFile}
use Rattle.reads_back.specs.Joined.{no_rows_of}
use Rattle.run_laws.specs.OwnParts.{IsOwnFault, files_of_run, with_their_lengths}
use Rattle.report_laws.proofs.Others.{read_is_run, refused_is_own}
use Rattle.report_laws.specs.Exact.{IsExact, own_parts, part_wanted}
use Rattle.report_laws.proofs.ReportLemmas.{report_of_run}

-- the parts that a run lists are those of the files that it has put
made_wanted : List ℕ × ℕ → WantedFile
made_wanted named = record { name = named.0; limit = named.1 }

listed_parts : (base : List ℕ) (parts : List PartFile)
    → map (part_wanted base) parts ≡ map made_wanted (map (λ p. (part_name base p.part p.thread.0, p.len)) parts)
unfolding made_wanted
listed_parts base [] = refl
listed_parts base (part ∷ parts) = ap (λ (ws : List WantedFile). part_wanted base part ∷ ws) (listed_parts base parts)

put_parts : (put : List Named) → map made_wanted (map (λ f. (f.0, length f.1)) put) ≡ with_their_lengths put
unfolding made_wanted
put_parts [] = refl
put_parts (f ∷ put) =
    ap (λ (ws : List WantedFile). record { name = f.0; limit = length f.1 } ∷ ws) (put_parts put)

pub same_parts : (base : List ℕ) (put : List Named) (parts : List PartFile) → ArePartsOf base put parts
    → map (part_wanted base) parts ≡ with_their_lengths put
same_parts base put parts are = listed_parts base parts ∙ ap (map made_wanted) are ∙ put_parts put

module _ (guest : Program) (can : CanRun guest) (old : Outside) (run : RunEnd) (new : Outside) (contents : Files)
    (told : old.files ≡ Some contents) (answers : Answers (plain_parts guest) guest old (Ok run) new) where
  ended : IsWhole (plain_parts guest) guest run answers.output
  ended = answers.runs.1

  abbrev trace : List RunStep
  trace = ended.trace

  abbrev put : List Named
  put = files_of_run guest ended.trace ended.stop

  makes : Makes guest ended.trace
  makes = record { last = ended.is.last; run = ended.is.run }

  left : Leaves old (whole_output (plain_parts guest) ended.trace ended.stop) new
  left = subst (λ (o : Output). Leaves old o new) ended.output answers.leaves

  holds : new.files ≡ Some (with_files put contents)
  holds = left.files ∙ ap (option_map (with_files put)) told

  parts_are : own_parts guest run ≡ with_their_lengths put
  parts_are =
      same_parts guest.options.base put run.parts
      (subst (λ (o : Output). ArePartsOf guest.options.base o.files run.parts) ended.output ended.parts)

  pub is_exact : (before now : ℕ) (p : Contents) (options : ReportOptions) (texts : SourceTexts) (text : List ℕ)
      → IsProfile p
      → IsReading new.files before now (no_rows_of (head_of_run guest)) (own_parts guest run) (Ok p)
      → IsReportOf p options texts text → IsExact guest old run new options texts text
  is_exact before now p options texts text profile reading reports =
      let from_put =
      subst (λ (wanted : List WantedFile).
      IsReading (Some (with_files put contents)) before now (no_rows_of (head_of_run guest)) wanted (Ok p)) parts_are
      (subst (λ files. IsReading files before now (no_rows_of (head_of_run guest)) (own_parts guest run) (Ok p)) holds
      reading) in
      record {
        trace = ended.trace;
        stop = ended.stop;
        is = ended.is;
        end = ended.end;
        files = left.files;
        out = left.out;
        err = left.err;
        report = report_of_run guest can ended.trace makes p
            (read_is_run guest can ended.trace makes ended.stop contents before now p profile from_put) options texts
            text reports;
      }

  pub own_fault : (before now : ℕ) (fault : ReadFault)
      → IsReading new.files before now (no_rows_of (head_of_run guest)) (own_parts guest run) (Err fault)
      → IsOwnFault before now fault
  own_fault before now fault reading =
      refused_is_own guest can ended.trace makes ended.stop contents before now fault
      (subst (λ (wanted : List WantedFile).
      IsReading (Some (with_files put contents)) before now (no_rows_of (head_of_run guest)) wanted (Err fault))
      parts_are
      (subst (λ files. IsReading files before now (no_rows_of (head_of_run guest)) (own_parts guest run) (Err fault))
      holds reading))
