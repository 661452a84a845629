-- What a command does, call by call. Its work is in stages: each leaves a log of what it did, and comes to something, or
-- to the status with which it stops the work.
use Rattle.std.specs.Prelude.{◌≡◌, ◌⊎◌, ℕ, ◌++◌, Bool, true, false, IfOk, List, [], ◌∷◌, map, Option, Some, None}
use Rattle.std.specs.Prelude.{Result, Ok, Err}
use Rattle.outside.specs.Load.{Load}
use Rattle.outside.specs.Outside.{Log, Outside, Tells, done_then, nothing_done}
use Rattle.outside.specs.Journal.{AreWritesOf, Call, Loaded, Wrote}
use Rattle.outside.specs.declared.sink.WriteError.{WriteError}
use Rattle.outside.specs.declared.sink.WriteError.TheVariants as write
use Rattle.cg_read.specs.Profiles.{Contents, IsProfile}
use Rattle.profile_files.specs.Calls.{Reads}
use Rattle.profile_files.specs.WantedFile.{WantedFile, with_limit}
use Rattle.profile_files.specs.declared.fault.ReadFault.{ReadFault}
use Rattle.annotate.specs.Files.{AreFilesShown}
use Rattle.annotate.specs.Report.{SourceTexts}
use Rattle.source_files.specs.Sources.{AreUnloaded, loads_of}
use Rattle.command_status.specs.declared.status.Status.{Status}
use Rattle.command_status.specs.declared.status.Status.TheVariants.{OutOfMemory, Done}
use Rattle.command_words.specs.Request.{View}
use Rattle.command_steps.specs.Annotate.{MakesReport, SettlesOptions, read_status, write_fault, profile_limit}
use Rattle.outside.specs.Limits.{text_limit}
use Rattle.command_steps.specs.Loading.{HasStatus, load_fault}
use Rattle.byte_text.specs.Memory.{memory}
use Rattle.profile_files.specs.Joined.{no_rows}

-- ---- stages

-- one stage, and then another with what it came to; where the one stops the work, the other isn't come to
pub data Then {A B : Type 0} (First : Log → Result A Status → Type 0) (Next : A → Log → Result B Status → Type 0)
    (log : Log) (result : Result B Status) : Type 0 where
  Stops : (status : Status) → result ≡ Err status → First log (Err status) → Then First Next log result
  Goes : (came : A) (before behind : Log) → log ≡ done_then before behind → First before (Ok came)
      → Next came behind result → Then First Next log result

-- nothing is done outside
pub record Quiet {A : Type 0} (Comes : Result A Status → Type 0) (log : Log) (result : Result A Status) : Type 0 where
  pub nothing : log ≡ nothing_done
  pub comes : Comes result

-- it comes to this
abbrev pub Gives : {A : Type 0} → A → Log → Result A Status → Type 0
Gives x = Quiet (λ result. result ≡ Ok x)

-- it comes to want of memory
abbrev pub Wants : {A : Type 0} → Log → Result A Status → Type 0
Wants = Quiet (λ result. result ≡ Err (OutOfMemory memory))

-- a gate: it is passed, or stops the work with this status
abbrev pub IsGate : Option Status → Result (Unit {0}) Status → Type 0
IsGate stops (Ok _) = stops ≡ None
IsGate stops (Err status) = stops ≡ Some status

-- or else for want of memory
abbrev pub Passes : Option Status → Result (Unit {0}) Status → Type 0
Passes stops (Ok _) = stops ≡ None
Passes stops (Err status) = HasStatus stops status

-- the calls of a folder, and the writes to a sink
abbrev pub asking : List Call → Log
asking calls = record nothing_done { calls = calls }

abbrev pub writing : List Wrote → Log
writing writes = record nothing_done { out = writes }

-- ---- the run

-- a file is loaded
abbrev pub Loads : List ℕ → ℕ → Log → Result (List ℕ) Status → Type 0
Loads name limit log (Ok bytes) = log ≡ asking (Loaded name limit (Ok bytes) ∷ [])
Loads name limit log (Err status) =
    (found : Load) × (log ≡ asking (Loaded name limit found ∷ [])) × HasStatus (load_fault name found) status

-- where one is named; else it is empty
abbrev pub LoadsIf : Option (List ℕ) → Log → Result (List ℕ) Status → Type 0
LoadsIf None = Gives []
LoadsIf (Some name) = Loads name text_limit

-- ---- a report

-- what files read as, joined
abbrev pub read_as : Result Contents ReadFault → Result Contents Status
read_as (Ok p) = Ok p
read_as (Err fault) = Err (read_status fault)

-- files are loaded, read and joined, one after another
pub record ReadsAll (first : Contents) (files : List WantedFile) (log : Log) (result : Result Contents Status) : Type 0 where
  pub calls : List Call
  pub found : Result Contents ReadFault
  pub reads : Reads first files calls found
  -- as every profile is
  pub profile : IfOk found IsProfile
  pub log_is : log ≡ asking calls
  pub result_is : result ≡ read_as found

-- some first of the source texts of a profile were loaded, and then memory was wanting
pub record HasLoadedSome (p : Contents) (log : Log) : Type 0 where
  pub texts : SourceTexts
  pub rest : List (List ℕ)
  pub files : AreFilesShown p (map (λ text. text.0) texts ++ rest)
  pub last : List Call
  pub unloaded : AreUnloaded rest last
  pub log_is : log ≡ asking (loads_of texts ++ last)

-- the source texts of a profile are loaded, where they are asked for
abbrev pub LoadsTexts : Bool → Contents → Log → Result SourceTexts Status → Type 0
LoadsTexts false p log result = Gives [] log result
LoadsTexts true p log (Ok texts) = AreFilesShown p (map (λ text. text.0) texts) × (log ≡ asking (loads_of texts))
LoadsTexts true p log (Err status) =
    (status ≡ OutOfMemory memory) × ((log ≡ nothing_done) ⊎ HasLoadedSome p log)

-- bytes are written, or memory was wanting before that
abbrev pub AreWritesOrWants : List ℕ → List Wrote → Result (Unit {0}) WriteError → Type 0
AreWritesOrWants bytes writes answer =
    AreWritesOf bytes writes answer ⊎ ((writes ≡ []) × (answer ≡ Err (write.OutOfMemory memory)))

-- bytes are written to the sink of output
pub record WritesText (bytes : List ℕ) (log : Log) (result : Result (Unit {0}) Status) : Type 0 where
  pub writes : List Wrote
  pub answer : Result (Unit {0}) WriteError
  pub are : AreWritesOrWants bytes writes answer
  pub log_is : log ≡ writing writes
  pub gate : IsGate (write_fault answer) result

-- The event to sort by is looked up, the source texts are loaded, and the report is made and written.
abbrev pub Reports : View → Contents → Log → Result (Unit {0}) Status → Type 0
Reports view p =
    Then (Quiet (SettlesOptions view p)) (λ options.
    Then (LoadsTexts view.auto p) (λ texts.
    Then (Quiet (MakesReport p options texts)) WritesText))

-- `annotate`: the files are loaded in the order in which they are named, and they are reported.
abbrev pub DoesAnnotate : List (List ℕ) → View → Log → Result Status Status → Type 0
DoesAnnotate names view =
    Then (ReadsAll (no_rows []) (map (with_limit profile_limit) names)) (λ p.
    Then (Reports view p) (λ shown.
    Gives Done))

-- the status at which the work ended, or with which a stage stopped it
abbrev pub final_status : Result Status Status → Status
final_status (Ok status) = status
final_status (Err status) = status

-- ---- as it is told

-- The stage was gone through, and nothing else was done, where it is still told afterwards.
pub record Did {A : Type 0} (Stage : Log → Result A Status → Type 0) (old : Outside) (result : Result A Status)
    (new : Outside) : Type 0 where
  pub log : Log
  pub stage : Stage log result
  pub tells : Tells old log new

-- So was a whole command, which ended with this status.
pub record CameTo (Stage : Log → Result Status Status → Type 0) (old : Outside) (status : Status)
    (new : Outside) : Type 0 where
  pub comes : Result Status Status
  pub did : Did Stage old comes new
  pub status_is : status ≡ final_status comes
