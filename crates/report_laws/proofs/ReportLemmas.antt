-- A report on the profile of a run is one on the run.
use Rattle.std.proofs.Common.{ℕ, List, arith}
use Rattle.call_graph.specs.Groups.{Grouping}
use Rattle.cg_read.specs.Profiles.{Contents}
use Rattle.cycles.specs.Costs.{IsGroupsOf}
use Rattle.cycles.specs.Limits.{IsFirstOver}
use Rattle.annotate.specs.Report.{IsReportOf, SourceTexts}
use Rattle.report_rows.specs.declared.options.ReportOptions.{ReportOptions}
use Rattle.profile_run.specs.Program.{Program, CanRun}
use Rattle.profile_run.specs.Trace.{Makes, RunStep}
use Rattle.run_laws.specs.Profiles.{IsProfileOfRun, number_in}
use Rattle.report_laws.proofs.Others.{groups_are, inclusive_is, none_over, pair_is}
use Rattle.report_laws.specs.Reports.{AreGroupsOfRun, CallsCount, IsReportOfRun}

module _ (guest : Program) (can : CanRun guest) (past : List RunStep) (makes : Makes guest past) (p : Contents)
    (is : IsProfileOfRun guest past p) where
  as_in_run : (groups : Grouping) → IsGroupsOf p groups → AreGroupsOfRun guest past p groups
  as_in_run groups of_profile f g known_f known_g there_f there_g =
      let same = of_profile.numbered.same (number_in guest p f) (number_in guest p g) there_f there_g in
      let reach = groups_are guest can past makes p is f g known_f known_g there_f in
      ((λ one. reach.1 (same.0 one)), (λ one. same.1 (reach.0 one)))

  abbrev pub report_of_run : (options : ReportOptions) (texts : SourceTexts) (text : List ℕ)
      → IsReportOf p options texts text
      → IsReportOfRun guest past options texts text
  report_of_run options texts text reports = record {
    profile = p;
    of_run = is;
    groups = reports.groups;
    grouped = reports.grouped;
    costs = reports.costs;
    once = inclusive_is guest can past makes p is reports.groups reports.costs reports.grouped reports.inclusive;
    report = reports.report;
  }

  pub calls_count : (groups : Grouping) → IsGroupsOf p groups → CallsCount guest past p groups
  calls_count groups grouped = record {
    as_in_run = as_in_run groups grouped;
    pairs_once = λ caller callee kind within from to apart.
        pair_is guest can past makes p is groups caller callee kind grouped within from to apart;
  }

  pub no_limit : (position : ℕ) → IsFirstOver p position → ⊥
  no_limit position first =
      let small = none_over guest can past makes p is position first.too_large.sum first.too_large.of_profile in
      let large = first.too_large.too_large in
      omega (arith, small, large)
