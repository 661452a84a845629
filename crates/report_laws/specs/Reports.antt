-- The report on a run, in the run's own words.
use Rattle.std.specs.Prelude.{◌≡◌, ◌≢◌, ◌↔◌, ◌<◌, ℕ, List, ◌++◌, length}
use Rattle.call_graph.specs.Groups.{Grouping}
use Rattle.call_graph.specs.Reach.{SameGroup, Steps}
use Rattle.cg_read.specs.Profiles.{Contents}
use Rattle.cycles.specs.Costs.{IsGroupsOf, group_at}
use Rattle.cycles.specs.Limits.{pair_cost}
use Rattle.part_dump.specs.Cuts.{DumpPoints}
use Rattle.annotate.specs.Functions.{command_line}
use Rattle.annotate.specs.Report.{IsReport, SourceTexts}
use Rattle.report_rows.specs.declared.options.ReportOptions.{ReportOptions}
use Rattle.profile_run.specs.Program.{Program}
use Rattle.profile_run.specs.Trace.{RunStep}
use Rattle.run_laws.specs.Profiles.{CountOnce, IsProfileOfRun, graph_of_run, number_in, pair_once}

-- Two functions of the map that stand in the profile are in one group exactly where each reaches the other by calls of
-- the run, or they are one.
abbrev pub AreGroupsOfRun : Program → List RunStep → Contents → Grouping → Type 0
AreGroupsOfRun guest trace p groups =
    (f g : ℕ) → f < length guest.syms.functions → g < length guest.syms.functions
    → number_in guest p f < length p.functions → number_in guest p g < length p.functions
    → (group_at groups (number_in guest p f) ≡ group_at groups (number_in guest p g))
    ↔ SameGroup (Steps (graph_of_run guest trace)) f g

-- What is told of the calls of one function by another, of different groups, is what the events cost on whose thread's
-- stack the one stands directly on the other, each counted once.
abbrev pub PairsCountOnce : Program → List RunStep → Contents → Grouping → Type 0
PairsCountOnce guest trace p groups =
    (caller callee kind : ℕ) → kind < length p.events → caller < length p.functions → callee < length p.functions
    → group_at groups caller ≢ group_at groups callee
    → pair_cost caller callee p.call_rows kind ≡ pair_once guest trace p caller callee kind

-- the same guest, whose run is cut elsewhere
abbrev pub cut_at : DumpPoints → Program → Program
cut_at asked guest = record guest { options = record guest.options { dump_points = asked } }

-- The report on a run is that on a profile of all its rows. The cost of a group is what the events cost during which one
-- of its functions stands on their thread's stack, each counted once.
pub record IsReportOfRun (guest : Program) (trace : List RunStep) (options : ReportOptions) (texts : SourceTexts)
    (text : List ℕ) : Type 0 where
  pub profile : Contents
  pub of_run : IsProfileOfRun guest trace profile
  pub groups : Grouping
  pub grouped : IsGroupsOf profile groups
  pub costs : List (List ℕ)
  pub once : CountOnce guest trace profile groups costs
  pub report : IsReport profile groups costs options texts text

-- Calls count as in the run, in a report on it.
pub record CallsCount (guest : Program) (trace : List RunStep) (p : Contents) (groups : Grouping) : Type 0 where
  pub as_in_run : AreGroupsOfRun guest trace p groups
  pub pairs_once : PairsCountOnce guest trace p groups

-- The texts of the reports on two profiles are the same behind their first lines, which show the commands.
pub record DifferByCommand (p q : Contents) (text other : List ℕ) : Type 0 where
  pub rest : List ℕ
  pub text_is : text ≡ command_line p ++ rest
  pub other_is : other ≡ command_line q ++ rest
