-- What a report is made on where a run's own parts are read again: a profile of the run's rows, or one
-- that stands for it.
use Rattle.std.proofs.Common.{◌≡◌, ◌<◌, ◌^◌, ℕ, Bool, true, false, IfSome, List, map, Option, Some, None, Ok, Err}
use Rattle.std.proofs.Common.{refl, subst, sym, arith}
use Rattle.std.specs.Prelude.{slice_get}
use Rattle.outside.specs.Files.{Files}
use Rattle.outside.specs.Outside.{with_files}
use Rattle.elf_read.specs.Image.{Image}
use Rattle.sym_map.specs.Places.{IsEntryOf}
use Rattle.sym_map.specs.SymbolMap.{SymbolMap, entry_of, identity_of}
use Rattle.cg_read.specs.Profiles.{Contents, IsProfile}
use Rattle.cycles.specs.Limits.{AreAllWithin, IsFirstOver}
use Rattle.annotate.specs.Files.{AreFilesShown}
use Rattle.annotate.specs.Report.{IsReportOf, SourceTexts}
use Rattle.report_rows.specs.declared.options.ReportOptions.{ReportOptions}
use Rattle.profile_files.specs.Reading.{IsReading}
use Rattle.profile_files.specs.declared.fault.ReadFault.{ReadFault}
use Rattle.profile_run.specs.Program.{Program, head_of_run, CanRun}
use Rattle.profile_run.specs.Parts.{Writing, plain_parts}
use Rattle.profile_run.specs.Trace.{Makes, Stop, RunStep, steps_of}
use Rattle.reads_back.specs.Joined.{no_rows_of}
use Rattle.run_laws.specs.OwnParts.{IsOwnFault, with_their_lengths}
use Rattle.run_laws.specs.Profiles.{IsProfileOfRun}
use Rattle.profile_cli.proofs.Others.{read_is_run, refused_is_own, read_stands}
use Rattle.run_laws.specs.Addresses.{addr_parts}
use Rattle.report_laws.specs.Rows.{AreEntriesSmall}
use Rattle.report_laws.proofs.AddrOwnLemmas as addresses
use Rattle.report_laws.proofs.ReportLemmas.{calls_count, report_of_run}
use Rattle.command_words.specs.Request.{AddressAndLine, Line, Positions, View, watching_at}
use Rattle.command_steps.specs.Annotate.{AreTextsFor, IsSortPlace, report_options}
use Rattle.profile_cli.specs.Headline.{ReportOn}
use Rattle.profile_cli.specs.Counts.{Counts}
use Rattle.profile_cli.specs.Program.{IsMapOf, lines_of}
use Rattle.profile_cli.specs.Watching.{files_at, parts_asked}
use Rattle.profile_cli.proofs.CountLemmas.{counts_of}

-- Reports on it are reports on a profile of all rows of the run, which shows the same events and source files.
pub record IsReadAs (guest : Program) (trace : List RunStep) (q : Contents) : Type 0 where
  pub profile : Contents
  pub of_run : IsProfileOfRun guest trace profile
  pub events : profile.events ≡ q.events
  pub files : (names : List (List ℕ)) → AreFilesShown q names → AreFilesShown profile names
  pub report : (options : ReportOptions) (texts : SourceTexts) (text : List ℕ)
      → IsReportOf q options texts text → IsReportOf profile options texts text
  pub within : AreAllWithin profile → AreAllWithin q

-- From a folder into which they were put, the parts of a run are read as such a profile, or a load fails or memory is
-- wanting.
pub record CanBeReadBack (parts : Program → Writing) : Type 0 where
  pub read : (guest : Program) → CanRun guest → AreEntriesSmall guest.syms → (trace : List RunStep) → Makes guest trace
      → (stop : Stop)
      (contents : Files) (before now : ℕ) (q : Contents) → IsProfile q
      → IsReading (Some (with_files ((parts guest).whole (steps_of trace) stop.tried) contents)) before now
      (no_rows_of (head_of_run guest)) (with_their_lengths ((parts guest).whole (steps_of trace) stop.tried)) (Ok q)
      → IsReadAs guest trace q
  pub refused : (guest : Program) → CanRun guest → AreEntriesSmall guest.syms → (trace : List RunStep) → Makes guest trace
      → (stop : Stop)
      (contents : Files) (before now : ℕ) (fault : ReadFault)
      → IsReading (Some (with_files ((parts guest).whole (steps_of trace) stop.tried) contents)) before now
      (no_rows_of (head_of_run guest)) (with_their_lengths ((parts guest).whole (steps_of trace) stop.tried))
      (Err fault)
      → IsOwnFault before now fault

plain_read : CanBeReadBack plain_parts
plain_read = record {
  read = λ guest can entries trace makes stop contents before now q profile reading. record {
    profile = q;
    of_run = read_is_run guest can trace makes stop contents before now q profile reading;
    events = refl;
    files = λ names are. are;
    report = λ options texts text is. is;
    within = λ all. all;
  };
  refused = λ guest can entries trace makes stop contents before now fault reading.
      refused_is_own guest can trace makes stop contents before now fault reading;
}

-- the entries of a program's functions have 32 bits
pub entries_small : (image : Image) (map : SymbolMap) → IsMapOf image map → AreEntriesSmall map
entries_small image map symbols func known = by (entry_of map func) (symbols.entries func known)
  where
    by : (entry : Option ℕ) → IsEntryOf image (lines_of image) (identity_of map func) entry
        → IfSome entry (λ e. e < 2 ^ 32)
    by None is = tt
    by (Some entry) is = is.0.in_range

addr_read : CanBeReadBack addr_parts
addr_read = record {
  read = λ guest can entries trace makes stop contents before now q profile reading.
      let stands = read_stands guest can trace makes stop entries contents before now q profile reading in record {
        profile = stands.profile;
        of_run = record { profile = stands.is; rows = stands.of_rows };
        events = stands.events;
        files = stands.files;
        report = stands.report;
        within = stands.within;
      };
  refused = λ guest can entries trace makes stop contents before now fault reading.
      addresses.refused_is_own guest can trace makes stop entries contents before now fault reading;
}

-- those that `report` may have
pub own_read : (positions : Positions) → CanBeReadBack (parts_asked (watching_at positions))
own_read Line = plain_read
own_read AddressAndLine = addr_read

-- are all of its files
pub own_files : (positions : Positions) (guest : Program) (trace : List RunStep) (stop : Stop)
    → (parts_asked (watching_at positions) guest).whole (steps_of trace) stop.tried
    ≡ files_at positions guest trace stop
own_files Line guest trace stop = refl
own_files AddressAndLine guest trace stop = refl

-- ---- what is said of the one is said of the other

pub sort_over : (event : Option (List ℕ)) (q p : Contents) (place : ℕ) → q.events ≡ p.events
    → IsSortPlace event q place → IsSortPlace event p place
sort_over None q p place same is = is
sort_over (Some event) q p place same is = subst (λ names. slice_get names place ≡ Some event) same is

pub texts_over : (asked : Bool) (told : Option Files) (before now : ℕ) (q p : Contents) (texts : SourceTexts)
    → ((names : List (List ℕ)) → AreFilesShown q names → AreFilesShown p names)
    → AreTextsFor asked told before now q texts → AreTextsFor asked told before now p texts
texts_over true told before now q p texts over are = (over (map (λ t. t.0) texts) are.0, are.1)
texts_over false told before now q p texts over are = are

-- the report that is made on it
abbrev pub report_on : (guest : Program) → CanRun guest → (trace : List RunStep) → Makes guest trace → (view : View)
    (p : Contents) → IsReadAs guest trace p → (sort : ℕ) (texts : SourceTexts) (text : List ℕ)
    → IsReportOf p (report_options view sort) texts text → IsSortPlace view.sort p sort → ReportOn guest trace view
report_on guest can trace makes view p is sort texts text reports sorted = record {
  sort = sort;
  texts = texts;
  text = text;
  report = report_of_run guest can trace makes is.profile is.of_run (report_options view sort) texts text
      (is.report (report_options view sort) texts text reports);
  sorted = sort_over view.sort p is.profile sort (sym is.events) sorted;
}

-- and its numbers count
pub counts_on : (guest : Program) → CanRun guest → (trace : List RunStep) → Makes guest trace → (view : View)
    (shown : ReportOn guest trace view) → Counts guest trace view shown
counts_on guest can trace makes view shown =
    let report = shown.report in
    record {
      calls = calls_count guest can trace makes report.profile report.of_run report.groups report.grouped;
      events = counts_of guest can trace makes report.profile report.of_run;
    }

-- no sum is too large, so none is the first
pub none_first : (p : Contents) (position : ℕ) → AreAllWithin p → IsFirstOver p position → ⊥
none_first p position all first =
    let small = all position first.too_large.sum first.too_large.of_profile in
    let large = first.too_large.too_large in omega (arith, small, large)
