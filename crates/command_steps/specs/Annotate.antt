-- The work of `annotate`: profiles are read and joined, and reported.
use Rattle.std.specs.Prelude.{◌≡◌, ℕ, Bool, true, List, [], Option, Some, None, Result, Ok, Err, ◌<◌, false}
use Rattle.std.specs.Prelude.{if◌then◌else◌, IfOk, IfSome, ◌∷◌, length, map, slice_get, take}
use Rattle.outside.specs.Files.{Files, Rose}
use Rattle.outside.specs.Limits.{file_limit}
use Rattle.outside.specs.declared.sink.WriteError.{WriteError}
use Rattle.cg_read.specs.Profiles.{Contents, has_text}
use Rattle.profile_files.specs.declared.fault.ReadFault.{ReadFault}
use Rattle.profile_files.specs.declared.fault.ReadFault.TheVariants as read
use Rattle.annotate.specs.Report.{SourceTexts, IsReportOf}
use Rattle.annotate.specs.declared.error.ReportError.{ReportError}
use Rattle.byte_text.specs.Memory.{memory}
use Rattle.outside.specs.Outside.{Leaves, Outside, nothing}
use Rattle.outside.specs.declared.sink.WriteError.TheVariants as write
use Rattle.cycles.specs.Limits.{AreAllWithin, IsFirstOver}
use Rattle.annotate.specs.Files.{AreFilesShown}
use Rattle.annotate.specs.declared.error.ReportError.TheVariants as report
use Rattle.report_rows.specs.declared.options.ReportOptions.{ReportOptions}
use Rattle.report_rows.specs.declared.options.Tree.{Tree}
use Rattle.report_rows.specs.declared.options.Tree.TheVariants as tree
use Rattle.profile_files.specs.Joined.{no_rows}
use Rattle.profile_files.specs.Reading.{IsReading}
use Rattle.profile_files.specs.WantedFile.{with_limit}
use Rattle.source_files.specs.Sources.{AreSources}
use Rattle.command_status.specs.declared.status.Status.{Status}
use Rattle.command_status.specs.declared.status.Status.TheVariants.{Done, Usage, LoadFault, TooLong, FormatRefused}
use Rattle.command_status.specs.declared.status.Status.TheVariants.{EventsDiffer, SumLimit, OutFault, OutOfMemory}
use Rattle.command_words.specs.Request.{View}
use Rattle.command_words.specs.Request as view
use Rattle.command_steps.specs.Gates.{Gate, check, gates_outcome}

-- A report: the place of the event that it is sorted by, the source texts that were loaded for it, its text, how
-- writing that went, and how many of its bytes were taken.
pub record ReportOutcome : Type 0 where
  pub sort : ℕ
  pub texts : SourceTexts
  pub report : Result (List ℕ) ReportError
  pub written : Result (Unit {0}) WriteError
  pub count : ℕ

-- ---- the status at each gate

abbrev pub read_status : ReadFault → Status
read_status (read.LoadFault name) = LoadFault name
read_status (read.TooLong name len) = TooLong name len
read_status (read.FormatRefused name error) = FormatRefused name error
read_status (read.EventsDiffer name) = EventsDiffer name
read_status (read.OutOfMemory _) = OutOfMemory memory

-- the files can't be read and joined
abbrev pub read_fault : Result Contents ReadFault → Option Status
read_fault (Ok joined) = None
read_fault (Err fault) = Some (read_status fault)

-- the event to sort by isn't in the joined profile
abbrev pub sort_fault : Option (List ℕ) → Result Contents ReadFault → Option Status
sort_fault (Some event) (Ok joined) = if has_text joined.events event then None else Some Usage
sort_fault (Some event) (Err fault) = None
sort_fault None found = None

-- a sum is above 2^64 - 1
abbrev pub report_fault : Result (List ℕ) ReportError → Option Status
report_fault (Ok text) = None
report_fault (Err (report.SumLimit position)) = Some (SumLimit position)
report_fault (Err (report.OutOfMemory _)) = Some (OutOfMemory memory)

abbrev pub write_fault : {U : Type 0} → Result U WriteError → Option Status
write_fault (Ok _) = None
write_fault (Err write.Failed) = Some OutFault
write_fault (Err (write.OutOfMemory _)) = Some (OutOfMemory memory)

-- ---- the gates, in their order

abbrev pub text_of : Result (List ℕ) ReportError → List ℕ
text_of (Ok text) = text
text_of (Err error) = []

-- the report is made and written; where the work didn't come to it, memory was wanting
abbrev pub reporting : Option ReportOutcome → List Gate
reporting None = check (Some (OutOfMemory memory)) ∷ []
reporting (Some shown) =
    check (report_fault shown.report)
    ∷ record {
      stops = write_fault shown.written;
      output = record nothing { out = take shown.count (text_of shown.report) };
    }
    ∷ []

-- The files are read and joined, the event to sort by is looked up, and the report is made and written.
abbrev pub annotating : View → Result Contents ReadFault → Option ReportOutcome → List Gate
annotating view found shown = check (read_fault found) ∷ check (sort_fault view.sort found) ∷ reporting shown

-- ---- what is so of it

-- the most bytes that a profile file may have
abbrev pub profile_limit : ℕ
profile_limit = file_limit

abbrev pub tree_of : view.Tree → Tree
tree_of view.Off = tree.Off
tree_of view.Caller = tree.Caller
tree_of view.Calling = tree.Calling
tree_of view.Both = tree.Both

-- the place of the event to sort by; the first, where none is named
abbrev pub IsSortPlace : Option (List ℕ) → Contents → ℕ → Type 0
IsSortPlace None p place = place ≡ 0
IsSortPlace (Some event) p place = slice_get p.events place ≡ Some event

abbrev pub report_options : View → ℕ → ReportOptions
report_options view place =
    record { sort = place; threshold = view.threshold; tree = tree_of view.tree; auto = view.auto }

-- source texts are loaded where they are asked for
abbrev pub AreTextsFor : Bool → Option Files → ℕ → ℕ → Contents → SourceTexts → Type 0
AreTextsFor true told before now p texts =
    AreFilesShown p (map (λ t. t.0) texts) × AreSources told before now (map (λ t. t.0) texts) texts
AreTextsFor false told before now p texts = texts ≡ []

abbrev pub AreTextsOf : Outside → View → Contents → Outside → SourceTexts → Type 0
AreTextsOf old view p new texts = AreTextsFor view.auto old.files old.load_faults new.load_faults p texts

-- the report can be made, as no sum is too large; or the first one that is
abbrev pub IsMade : Contents → ReportOptions → SourceTexts → Result (List ℕ) ReportError → Type 0
IsMade p options texts (Ok text) = AreAllWithin p × IsReportOf p options texts text
IsMade p options texts (Err (report.SumLimit position)) = IsFirstOver p position
IsMade p options texts (Err (report.OutOfMemory _)) = Unit {0}

-- what a report shows is settled
abbrev pub SettlesOptions : View → Contents → Result ReportOptions Status → Type 0
SettlesOptions view p (Ok options) =
    (sort_fault view.sort (Ok p) ≡ None) × IsSortPlace view.sort p options.sort
    × (options ≡ report_options view options.sort)
SettlesOptions view p (Err status) = sort_fault view.sort (Ok p) ≡ Some status

-- a report is made
abbrev pub MakesReport : Contents → ReportOptions → SourceTexts → Result (List ℕ) Status → Type 0
MakesReport p options texts (Ok text) = IsMade p options texts (Ok text)
MakesReport p options texts (Err status) =
    (error : ReportError) × IsMade p options texts (Err error) × (report_fault (Err error) ≡ Some status)

-- all of the bytes were taken, or after a refusal a front that is not the whole
abbrev pub IsTaken : {U : Type 0} → List ℕ → ℕ → ℕ → ℕ → Result U WriteError → Type 0
IsTaken bytes before now count (Ok _) = count ≡ length bytes
IsTaken bytes before now count (Err write.Failed) = Rose before now × (count < length bytes)
IsTaken bytes before now count (Err (write.OutOfMemory _)) = count < length bytes

pub record IsShown (old : Outside) (view : View) (p : Contents) (new : Outside) (shown : ReportOutcome) : Type 0 where
  pub sort : IsSortPlace view.sort p shown.sort
  pub texts : AreTextsOf old view p new shown.texts
  pub report : IsMade p (report_options view shown.sort) shown.texts shown.report
  pub written : IsTaken (text_of shown.report) old.out.faults new.out.faults shown.count shown.written

-- The files may read as this, and the report may go so.
pub record IsAnnotated (old : Outside) (names : List (List ℕ)) (view : View) (found : Result Contents ReadFault)
    (shown : Option ReportOutcome) (new : Outside) : Type 0 where
  pub reading : IsReading old.files old.load_faults new.load_faults (no_rows [])
      (map (with_limit profile_limit) names) found
  pub report : IfSome shown (λ s. IfOk found (λ p. IsShown old view p new s))

-- They may have gone so; the work came to the status to which its gates come with that, and has left what they put out.
pub record Annotates (old : Outside) (names : List (List ℕ)) (view : View) (status : Status)
    (new : Outside) : Type 0 where
  pub found : Result Contents ReadFault
  pub report : Option ReportOutcome
  pub met : IsAnnotated old names view found report new
  pub status_is : status ≡ (gates_outcome (annotating view found report) Done).status
  pub leaves : Leaves old (gates_outcome (annotating view found report) Done).output new
