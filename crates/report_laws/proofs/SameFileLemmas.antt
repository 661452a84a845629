-- A guest whose code another map tells the same puts the same files, and has the same report.
use Rattle.std.proofs.Common.{◌≡◌, ◌∙◌, ℕ, List, [], ◌∷◌, ap, map, refl, sym}
use Rattle.std.specs.List.{AllByRecursion}
use Rattle.std.proofs.lemmas.List.Elements.{recursion_from_All}
use Rattle.annotate.specs.Report.{SourceTexts}
use Rattle.report_rows.specs.declared.options.ReportOptions.{ReportOptions}
use Rattle.sym_map.specs.SymbolMap.{SymbolMap}
use Rattle.part_dump.specs.Files.{part_name}
use Rattle.profile_run.specs.Program.{Program, CanRun}
use Rattle.profile_run.specs.Trace.{Makes, RunStep, Stop}
use Rattle.reads_back.specs.Joined.{WrittenPart}
use Rattle.reads_back.specs.Rows.{AreWritable}
use Rattle.run_laws.specs.Maps.{TellTheSame, with_map}
use Rattle.run_laws.specs.OwnParts.{files_of_run}
use Rattle.run_laws.specs.Runs.{parts_written}
use Rattle.report_laws.specs.Chosen.{file_written}
use Rattle.report_laws.specs.Reports.{IsReportOfRun}
use Rattle.report_laws.proofs.Others.{are_parts, makes_same, one_profile, parts_same, profile_same}
use Rattle.report_laws.proofs.ChosenLemmas.{files_written}
use Rattle.report_laws.proofs.RenumberLemmas.{one_report}
use Rattle.report_laws.proofs.RunReportLemmas.{as_counted}
use Rattle.report_laws.proofs.SameTextLemmas.{part_same}

module _ (guest : Program) (can : CanRun guest) (syms : SymbolMap) (same : TellTheSame guest.syms syms)
    (past : List RunStep) (makes : Makes guest past) where
  abbrev other : Program
  other = with_map syms guest

  texts_same : (ps : List WrittenPart) → AllByRecursion (λ (p : WrittenPart). AreWritable guest.syms p.rows) ps
      → map (file_written guest) ps ≡ map (file_written other) ps
  texts_same [] all = refl
  texts_same (p ∷ ps) all = λ i.
      (part_name guest.options.base p.head.part p.head.thread.0, part_same guest.syms syms same p.head p.rows all.0.of_map i)
      ∷ texts_same ps all.1 i

  pub plain_files : (stop : Stop) → files_of_run guest past stop ≡ files_of_run other past stop
  plain_files stop =
      files_written guest past stop
      ∙ texts_same (parts_written guest past)
      (recursion_from_All (λ (p : WrittenPart). AreWritable guest.syms p.rows) (parts_written guest past)
      (are_parts guest can past makes).writable)
      ∙ ap (map (file_written other)) (parts_same guest can syms same past makes)
      ∙ sym (files_written other past stop)

  pub same_report : CanRun other → (options : ReportOptions) (texts : SourceTexts) (text others : List ℕ)
      → IsReportOfRun guest past options texts text → IsReportOfRun other past options texts others → text ≡ others
  same_report could options texts text others first second =
      let made = makes_same guest can syms same past makes in
      let of_run = profile_same guest can syms same past first.profile makes first.of_run in
      one_report first.profile second.profile first.of_run.profile second.of_run.profile
      (one_profile other past first.profile second.profile of_run second.of_run) options texts text others
      (as_counted guest can past makes options texts text first)
      (as_counted other could past made options texts others second)
