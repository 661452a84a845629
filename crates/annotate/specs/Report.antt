-- The text of a report.
use Rattle.std.specs.Prelude.{◌≡◌, ℕ, Bool, true, if◌then◌else◌, List, [], ◌++◌, length, map, filter, flat_map}
use Rattle.call_graph.specs.Groups.{Grouping}
use Rattle.cg_read.specs.Profiles.{Contents}
use Rattle.cycles.specs.Costs.{IsGroupsOf, IsInclusive}
use Rattle.report_rows.specs.Orders.{AreInOrder, IsArranged, group_order, is_shown, numbers}
use Rattle.annotate.specs.Files.{AreFilesShown}
use Rattle.annotate.specs.Functions.{functions_text, heading}
use Rattle.annotate.specs.Calls.{calls_text}
use Rattle.annotate.specs.Sources.{source_text}
use Rattle.report_rows.specs.declared.options.ReportOptions.{ReportOptions}
use Rattle.annotate.specs.declared.source.Source.{Source}

-- files by name, with what is known of their texts
abbrev pub SourceTexts : Type 0
SourceTexts = List (List ℕ × Source)

-- the text, where the functions stand in this order and these are the groups that are shown
abbrev pub text_with : Contents → Grouping → List (List ℕ) → ReportOptions → SourceTexts → List ℕ → List ℕ → List ℕ
text_with p groups costs options texts functions shown =
    heading p options ++ functions_text p groups costs functions shown
    ++ calls_text p groups functions shown options.tree
    ++ (if options.auto then flat_map (λ t. source_text p t.0 t.1) texts else [])

-- The report on a profile with these groups, where this is the cost of each group, by its number.
pub record IsReport (p : Contents) (groups : Grouping) (costs : List (List ℕ)) (options : ReportOptions)
    (texts : SourceTexts) (text : List ℕ) : Type 0 where
  -- all functions, and all groups, in their orders
  pub functions : List ℕ
  pub in_order : AreInOrder p functions
  pub ranked : List ℕ
  pub falling : IsArranged (group_order groups functions costs options.sort) (numbers (length groups.cyclic)) ranked
  -- the texts are those of the files to be shown
  pub files : options.auto ≡ true → AreFilesShown p (map (λ t. t.0) texts)
  pub is : text ≡ text_with p groups costs options texts functions (filter (is_shown p costs options) ranked)

-- The report on a profile, where each group's cost is what was counted in its functions and under their calls of
-- others.
pub record IsReportOf (p : Contents) (options : ReportOptions) (texts : SourceTexts) (text : List ℕ) : Type 0 where
  pub groups : Grouping
  pub grouped : IsGroupsOf p groups
  pub costs : List (List ℕ)
  pub inclusive : IsInclusive p groups costs
  pub report : IsReport p groups costs options texts text
