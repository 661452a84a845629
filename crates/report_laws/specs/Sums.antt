-- Rows with equal sums, and the profiles of such rows.
use Rattle.std.specs.Prelude.{◌≡◌, ℕ, true, All, List, Option}
use Rattle.arc_costs.specs.Arcs.{ArcsStandFor, is_some_arc}
use Rattle.arc_costs.specs.Contents.{Listed}
use Rattle.arc_costs.specs.Lines.{LinesStandFor, is_some_line}
use Rattle.arc_costs.specs.Rows.{ArcRow, LineRow}
use Rattle.sym_map.specs.SymbolMap.{SymbolMap}
use Rattle.cg_format.specs.declared.head.PartHead.{PartHead}
use Rattle.cg_read.specs.Profiles.{Contents, IsProfile}
use Rattle.cycles.specs.Limits.{AreAllWithin}
use Rattle.annotate.specs.Files.{AreFilesShown}
use Rattle.annotate.specs.Report.{IsReportOf, SourceTexts}
use Rattle.report_rows.specs.declared.options.ReportOptions.{ReportOptions}
use Rattle.reads_back.specs.Joined.{AreWhole}
use Rattle.reads_back.specs.Rows.{IsOfRows}

-- each row has a number for each kind of event, and none is all 0
pub record AreCounted (rows : Listed) : Type 0 where
  pub lines : All (λ (row : LineRow). is_some_line row ≡ true) rows.lines
  pub arcs : All (λ (row : ArcRow). is_some_arc row ≡ true) rows.arcs
  pub whole : AreWhole rows

-- such rows, and others with the same sums at each place and under each arc
pub record HaveEqualSums (rows others : Listed) : Type 0 where
  pub lines : LinesStandFor rows.lines others.lines
  pub arcs : ArcsStandFor rows.arcs others.arcs
  pub counted : AreCounted rows
  pub others_counted : AreCounted others

-- A profile of these rows says in a report whatever q says there: it shows the same events and the same source files,
-- and each report on q is one on it. No sum of q is too large where none of its own is.
pub record StandsFor (head : PartHead) (command : Option (List ℕ)) (rows : Listed) (m : SymbolMap)
    (q : Contents) : Type 0
  where
    pub profile : Contents
    pub is : IsProfile profile
    pub of_rows : IsOfRows head command rows m profile
    pub events : profile.events ≡ q.events
    pub files : (names : List (List ℕ)) → AreFilesShown q names → AreFilesShown profile names
    pub report : (options : ReportOptions) (texts : SourceTexts) (text : List ℕ)
        → IsReportOf q options texts text → IsReportOf profile options texts text
    pub within : AreAllWithin profile → AreAllWithin q
