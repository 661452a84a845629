-- A run has one report, wherever it is cut, and whether its parts have addresses or not.
use Rattle.std.proofs.Common.{◌≡◌, ℕ, List, [], ◌∷◌, map, refl, sym, ap, subst, ◌∙◌}
use Rattle.std.specs.List.{AllByRecursion}
use Rattle.event_costs.specs.Runs.{Run}
use Rattle.call_graph.specs.Groups.{is_member}
use Rattle.report_laws.proofs.Others.{is_group, arcs_within, group_is, joined_is, one_profile, rows_same}
use Rattle.cg_read.specs.Profiles.{Contents, IsProfile}
use Rattle.annotate.specs.Report.{IsReportOf, SourceTexts}
use Rattle.report_rows.specs.declared.options.ReportOptions.{ReportOptions}
use Rattle.part_dump.specs.Cuts.{DumpPoints}
use Rattle.profile_files.specs.Joined.{Joins}
use Rattle.profile_run.specs.Program.{Program, head_of_run, CanRun}
use Rattle.profile_run.specs.Trace.{Makes, Stop, RunStep, next_step, start, steps_of}
use Rattle.recorder.specs.Rows.{rows_of}
use Rattle.reads_back.specs.Joined.{no_rows_of, rows_of_all}
use Rattle.reads_back.specs.Rows.{IsOfRows}
use Rattle.run_laws.specs.Addresses.{addr_parts}
use Rattle.run_laws.specs.OwnParts.{files_of_run, texts_of_files}
use Rattle.run_laws.specs.Profiles.{IsProfileOfRun}
use Rattle.run_laws.specs.Runs.{command_of_run, rows_of_run}
use Rattle.run_laws.proofs.SumLemmas.{arcs_sum, calls_sum, lines_sum}
use Rattle.report_laws.specs.Reports.{IsReportOfRun, cut_at}
use Rattle.report_laws.specs.Rows.{AreEntriesSmall}
use Rattle.report_laws.specs.Sums.{AreCounted, HaveEqualSums, StandsFor}
use Rattle.report_laws.proofs.AddrOwnLemmas.{joined_stands}
use Rattle.report_laws.proofs.AddrOwnPartLemmas.{AddrPart, each_part, parts_by_address, plain_parts_are}
use Rattle.report_laws.proofs.RenumberLemmas.{one_report}
use Rattle.report_laws.proofs.RunRowLemmas.{rows_equal_sums}
use Rattle.report_laws.proofs.StandLemmas.{stands_for}
use Rattle.report_laws.proofs.SumLemmas.{both_counted, none_counted}

-- ---- what is said of the report on a run says all of it

module _ (guest : Program) (can : CanRun guest) (past : List RunStep) (makes : Makes guest past)
    (options : ReportOptions) (texts : SourceTexts) where
  pub as_counted : (text : List ℕ) (is : IsReportOfRun guest past options texts text)
      → IsReportOf is.profile options texts text
  as_counted text is = record {
    groups = is.groups;
    grouped = is.grouped;
    costs = is.costs;
    inclusive = record {
      count = is.once.count;
      width = is.once.width;
      exact = λ group kind within shown. is.once.exact group kind within shown
          ∙ sym (group_is guest can past makes is.profile is.of_run (is_member is.groups group) kind shown
          (is_group is.grouped (arcs_within is.profile is.of_run.profile) group));
    };
    report = is.report;
  }

  -- a profile in whose place one of the run stands has its report
  one_of_run : (p q : Contents) (text other : List ℕ) → IsProfileOfRun guest past p
      → StandsFor (head_of_run guest) (command_of_run guest past) (rows_of_run guest past) guest.syms q
      → IsReportOf p options texts text → IsReportOf q options texts other → text ≡ other
  one_of_run p q text other is stands first second =
      let of_run : IsProfileOfRun guest past stands.profile
      = record { profile = stands.is; rows = stands.of_rows } in
      one_report p stands.profile is.profile stands.is (one_profile guest past p stands.profile is of_run) options texts
      text other first (stands.report options texts other second)

  pub one_of_trace : (text other : List ℕ) → IsReportOfRun guest past options texts text
      → IsReportOfRun guest past options texts other → text ≡ other
  one_of_trace text other first second =
      one_report first.profile second.profile first.of_run.profile second.of_run.profile
      (one_profile guest past first.profile second.profile first.of_run second.of_run) options texts text other
      (as_counted text first) (as_counted other second)

  pub one_by_address : (stop : Stop) (p q : Contents) (text other : List ℕ) → AreEntriesSmall guest.syms
      → IsProfile p → Joins (no_rows_of (head_of_run guest)) (texts_of_files (files_of_run guest past stop)) p
      → IsProfile q → Joins (no_rows_of (head_of_run guest))
      (texts_of_files ((addr_parts guest).whole (steps_of past) stop.tried)) q
      → IsReportOf p options texts text → IsReportOf q options texts other → text ≡ other
  one_by_address stop p q text other entries profile joins also joined =
      one_of_run p q text other (joined_is guest can past makes stop p profile joins)
      (joined_stands guest can past makes stop entries q also joined)

-- ---- no row of a run is all 0

all_counted : (parts : List AddrPart) → AllByRecursion (λ (p : AddrPart). AreCounted p.part.rows) parts
    → AreCounted (rows_of_all (map (λ (p : AddrPart). p.part) parts))
all_counted [] all = none_counted
all_counted (p ∷ parts) all =
    both_counted p.part.rows (rows_of_all (map (λ (q : AddrPart). q.part) parts)) all.0 (all_counted parts all.1)

counted : (guest : Program) (past : List RunStep) → CanRun guest → Makes guest past → AreCounted (rows_of_run guest past)
counted guest past can makes =
    let head = head_of_run guest in
    let rows = rows_of guest.syms in
    let base = guest.options.base in
    let asked = guest.options.dump_points in
    subst AreCounted
    (ap rows_of_all (plain_parts_are rows head guest.syms base asked (steps_of past)) ∙ rows_same guest past)
    (all_counted (parts_by_address rows head guest.syms base asked (steps_of past))
    (each_part rows head guest.syms base (λ (p : AddrPart). AreCounted p.part.rows) (steps_of past)
    (λ number trigger thread segment piece.
    (rows_equal_sums guest past thread segment can makes piece).counted) asked))

-- ---- wherever it is cut

module _ (guest : Program) (can : CanRun guest) (past : List RunStep) (makes : Makes guest past) (asked : DumpPoints) where
  abbrev cut : Program
  cut = cut_at asked guest

  goes_on : next_step guest ≡ next_step cut
  unfolding next_step
  goes_on = refl

  also_makes : Makes cut past
  also_makes = record {
    last = makes.last;
    run = subst (λ go. Run go (start guest) past makes.last) goes_on makes.run;
  }

  also_can : CanRun cut
  also_can = record { accepted = can.accepted; image = can.image; sound = can.sound; budget = can.budget }

  same_sums : HaveEqualSums (rows_of_run guest past) (rows_of_run cut past)
  same_sums = record {
    lines = λ kind place. lines_sum guest can past makes kind place
        ∙ sym (lines_sum cut also_can past also_makes kind place);
    arcs = record {
      calls = λ arc. calls_sum guest can past makes arc ∙ sym (calls_sum cut also_can past also_makes arc);
      costs = λ kind arc. arcs_sum guest can past makes kind arc
          ∙ sym (arcs_sum cut also_can past also_makes kind arc);
    };
    counted = counted guest past can makes;
    others_counted = counted cut past also_can also_makes;
  }

  same_command : command_of_run cut past ≡ command_of_run guest past
  same_command = by past
    where
      by : (xs : List RunStep) → command_of_run cut xs ≡ command_of_run guest xs
      by [] = refl
      by (x ∷ xs) = refl

  pub one_of_cut : (options : ReportOptions) (texts : SourceTexts) (text other : List ℕ)
      → IsReportOfRun guest past options texts text → IsReportOfRun cut past options texts other → text ≡ other
  one_of_cut options texts text other first second =
      one_of_run guest can past makes options texts first.profile second.profile text other first.of_run
      (stands_for (head_of_run guest) (command_of_run guest past) (rows_of_run guest past) (rows_of_run cut past)
      guest.syms second.profile same_sums second.of_run.profile
      (subst (λ command. IsOfRows (head_of_run guest) command (rows_of_run cut past) guest.syms second.profile)
      same_command second.of_run.rows))
      (as_counted guest can past makes options texts text first)
      (as_counted cut also_can past also_makes options texts other second)
