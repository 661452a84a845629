-- The report on a profile, and the work of `annotate`, by how far they came.
use Rattle.std.proofs.Common.{◌≡◌, ℕ, ◌≤◌, Bool, true, false, IfSome, List, [], ◌∷◌, length, map, take, Option, Some}
use Rattle.std.proofs.Common.{None, Result, Ok, Err, refl, sym, ap, subst, ◌∙◌, arith}
use Rattle.std.proofs.Math.Seq.{take-length}
use Rattle.std.specs.Result.{IsErrAnd}
use Rattle.outside.specs.Files.{Files}
use Rattle.outside.specs.Outside.{Leaves, Output, Outside, Stream, and_then, nothing}
use Rattle.outside.specs.Write.{taken_more}
use Rattle.outside.specs.declared.sink.WriteError.{WriteError}
use Rattle.outside.specs.declared.sink.WriteError.TheVariants as write
use Rattle.cg_read.specs.Profiles.{Contents}
use Rattle.profile_files.specs.Joined.{no_rows}
use Rattle.profile_files.specs.WantedFile.{WantedFile, with_limit}
use Rattle.profile_files.specs.declared.fault.ReadFault.TheVariants as read
use Rattle.profile_files.proofs.ReadingLemmas.{IsReading-wanting, IsReading-within}
use Rattle.annotate.specs.Report.{SourceTexts}
use Rattle.annotate.specs.declared.error.ReportError.{ReportError}
use Rattle.report_rows.specs.declared.options.ReportOptions.{ReportOptions}
use Rattle.source_files.specs.Sources.{AreSources}
use Rattle.source_files.proofs.SourceLemmas.{AreSources-within}
use Rattle.command_status.specs.declared.status.Status.{Status}
use Rattle.command_status.specs.declared.status.Status.TheVariants as wanted
use Rattle.command_words.specs.Request.{View}
use Rattle.command_steps.specs.Annotate.{AreTextsFor, AreTextsOf, IsMade, IsShown, IsSortPlace, IsTaken, annotating}
use Rattle.command_steps.specs.Annotate.{MakesReport, SettlesOptions, profile_limit, report_options, reporting}
use Rattle.command_steps.specs.Annotate.{Annotates, ReportOutcome, sort_fault, text_of}
use Rattle.command_steps.specs.Gates.{Outcome, check, gates_outcome}
use Rattle.command_steps.specs.ReportStages.{ReadsFiles, ShowsReport, report_status}
use Rattle.command_steps.specs.inner.ReportStages.{WritesReport}
use Rattle.command_steps.proofs.OutsideLemmas.{Leaves-and_nothing, Leaves-earlier, Leaves-out}
use Rattle.byte_text.specs.Memory.{memory}

-- ---- the report on a profile

-- it is not come to
not_shown : (old new : Outside) (view : View) (p : Contents) (status : Status)
    → ((last : Status) → gates_outcome (check (sort_fault view.sort (Ok p)) ∷ reporting None) last
    ≡ record { status = status; output = nothing })
    → new.files ≡ old.files → Leaves old nothing new → ShowsReport old view p (Err status) new
not_shown old new view p status comes same leaves = record {
  report = None;
  output = nothing;
  is = tt;
  comes = comes;
  puts = refl;
  refused = refl;
  same_files = same;
  leaves = leaves;
}

-- the event to sort by was not found
pub ShowsReport-unsettled : (old new : Outside) (view : View) (p : Contents) (status : Status)
    → SettlesOptions view p (Err status) → new.files ≡ old.files → Leaves old nothing new
    → ShowsReport old view p (Err status) new
ShowsReport-unsettled old new view p status stop same leaves =
    not_shown old new view p status
    (λ last. ap (λ s. gates_outcome (check s ∷ check (Some (wanted.OutOfMemory memory)) ∷ []) last) stop) same leaves

-- memory was wanting for the source texts
pub ShowsReport-wanting : (old new : Outside) (view : View) (p : Contents) (options : ReportOptions)
    → SettlesOptions view p (Ok options) → new.files ≡ old.files → Leaves old nothing new
    → ShowsReport old view p (Err (wanted.OutOfMemory memory)) new
ShowsReport-wanting old new view p options settled same leaves =
    not_shown old new view p (wanted.OutOfMemory memory)
    (λ last. ap (λ s. gates_outcome (check s ∷ check (Some (wanted.OutOfMemory memory)) ∷ []) last) settled.0) same leaves

-- What is known once the options were settled and the source texts loaded.
pub record Known (old new : Outside) (view : View) (p : Contents) (options : ReportOptions)
    (texts : SourceTexts) : Type 0 where
  pub settled : SettlesOptions view p (Ok options)
  pub sources : AreTextsOf old view p new texts
  pub same_files : new.files ≡ old.files

pub texts_within : (asked : Bool) (told seen : Option Files) (before from to now : ℕ) (p : Contents)
    (texts : SourceTexts)
    → seen ≡ told → before ≤ from → to ≤ now
    → AreTextsFor asked seen from to p texts → AreTextsFor asked told before now p texts
texts_within true told seen before from to now p texts same early late are = (
  are.0,
  AreSources-within told before from to now (map (λ t. t.0) texts) texts early late
      (subst (λ f. AreSources f from to (map (λ t. t.0) texts) texts) same are.1),
)
texts_within false told seen before from to now p texts same early late are = are

settles : (p : Contents) (options settled : ReportOptions) (texts : SourceTexts) (report : Result (List ℕ) ReportError)
    → options ≡ settled → IsMade p options texts report → IsMade p settled texts report
settles p options settled texts report is made = subst (λ o. IsMade p o texts report) is made

-- a report, made or not, and written or not
shows : (old new : Outside) (view : View) (p : Contents) (options : ReportOptions) (shown : ReportOutcome)
    (result : Result (Unit {0}) Status) (output : Output)
    → Known old new view p options shown.texts → shown.sort ≡ options.sort
    → IsMade p options shown.texts shown.report
    → IsTaken (text_of shown.report) old.out.faults new.out.faults shown.count shown.written
    → ((last : Status) → gates_outcome (reporting (Some shown)) last
    ≡ record { status = report_status last result; output = output })
    → output.files ≡ [] → output.refused ≡ None → Leaves old output new
    → ShowsReport old view p result new
shows old new view p options shown result output known place made_so taken comes puts refused leaves = record {
  report = Some shown;
  output = output;
  is = record {
    sort = subst (λ n. IsSortPlace view.sort p n) (sym place) known.settled.1;
    texts = known.sources;
    report = settles p options (report_options view shown.sort) shown.texts shown.report
        (known.settled.2 ∙ ap (report_options view) (sym place)) made_so;
    written = taken;
  };
  comes = λ last.
      ap (λ s. gates_outcome (check s ∷ reporting (Some shown)) last) known.settled.0 ∙ comes last;
  puts = puts;
  refused = refused;
  same_files = known.same_files;
  leaves = leaves;
}

-- the outcome of a report whose making, or whose writing, stops so
abbrev pub stopping : Option Status → Option Status → List ℕ → Status → Outcome
stopping unmade unwritten taken last =
    gates_outcome (check unmade ∷ record { stops = unwritten; output = record nothing { out = taken } } ∷ []) last

-- it was not made
pub ShowsReport-unmade : (old new : Outside) (view : View) (p : Contents) (options : ReportOptions)
    (texts : SourceTexts) (status : Status)
    → Known old new view p options texts → MakesReport p options texts (Err status) → Leaves old nothing new
    → ShowsReport old view p (Err status) new
ShowsReport-unmade old new view p options texts status known (error, is, stop) leaves =
    let shown : ReportOutcome = record { sort = options.sort; texts = texts; report = Err error; written = Ok tt; count = 0 } in
    shows old new view p options shown (Err status) nothing known refl is refl
    (λ last. ap (λ s. stopping s None (take 0 []) last) stop) refl refl leaves

abbrev shown_with : ReportOptions → SourceTexts → List ℕ → Result (Unit {0}) WriteError → ℕ → ReportOutcome
shown_with options texts text written count =
    record { sort = options.sort; texts = texts; report = Ok text; written = written; count = count }

-- It was made, and then written or not.
pub ShowsReport-made : (old new : Outside) (view : View) (p : Contents) (options : ReportOptions)
    (texts : SourceTexts) (text : List ℕ) (result : Result (Unit {0}) Status)
    → Known old new view p options texts → MakesReport p options texts (Ok text) → new.err.taken ≡ old.err.taken
    → WritesReport old.out.taken text old.out.faults new.out.faults result new.out.taken
    → ShowsReport old view p result new
ShowsReport-made old new view p options texts text (Ok done) known made err out =
    let output : Output = record nothing { out = take (length text) text } in
    shows old new view p options (shown_with options texts text (Ok tt) (length text)) (Ok done)
    (and_then output nothing) known refl made refl (λ last. refl) refl refl
    (Leaves-and_nothing old new output refl
    (Leaves-out old new (take (length text) text) known.same_files err
    (out ∙ ap (taken_more old.out.taken) (sym (take-length text)))))
ShowsReport-made old new view p options texts text (Err status) known made err (write.Failed, (stop, out)) =
    shows old new view p options (shown_with options texts text (Err write.Failed) out.1.0) (Err status)
    (record nothing { out = take out.1.0 text }) known refl made (out.0, out.1.1)
    (λ last. ap (λ s. stopping None s (take out.1.0 text) last) stop) refl refl
    (Leaves-out old new (take out.1.0 text) known.same_files err out.1.2)
ShowsReport-made old new view p options texts text (Err status) known made err ((write.OutOfMemory memory), (stop, out)) =
    shows old new view p options (shown_with options texts text (Err (write.OutOfMemory memory)) out.0) (Err status)
    (record nothing { out = take out.0 text }) known refl made out.1
    (λ last. ap (λ s. stopping None s (take out.0 text) last) stop) refl refl
    (Leaves-out old new (take out.0 text) known.same_files err out.2)

-- a stage stopped the report
pub ShowsReport-stopped : (old new : Outside) (view : View) (p : Contents) (stop : Status)
    (result : Result (Unit {0}) Status)
    → IsErrAnd result (λ status. status ≡ stop) → ShowsReport old view p (Err stop) new
    → ShowsReport old view p result new
ShowsReport-stopped old new view p stop (Ok done) none shows = absurd none
ShowsReport-stopped old new view p stop (Err status) is shows =
    subst (λ s. ShowsReport old view p (Err s) new) (sym is) shows

-- ---- the files of `annotate`

-- the files were not read for want of memory
pub ReadsFiles-wanting : (told : Option Files) (before now : ℕ) (events : List (List ℕ)) (files : List WantedFile)
    (result : Result Contents Status)
    → IsErrAnd result (λ status. status ≡ (wanted.OutOfMemory memory)) → ReadsFiles told before now events files result
ReadsFiles-wanting told before now events files (Ok p) none = absurd none
ReadsFiles-wanting told before now events files (Err status) is =
    ((read.OutOfMemory memory), IsReading-wanting told before now (no_rows events) files (read.OutOfMemory memory) refl, is)

-- the files of these names
abbrev files_of : List (List ℕ) → List WantedFile
files_of names = map (with_limit profile_limit) names

-- they were not read
pub Annotates-unread : (old new : Outside) (names : List (List ℕ)) (view : View) (status : Status)
    → ReadsFiles old.files old.load_faults new.load_faults [] (files_of names) (Err status) → Leaves old nothing new
    → Annotates old names view status new
Annotates-unread old new names view status (fault, reading, is) leaves =
    let comes : gates_outcome (annotating view (Err fault) None) wanted.Done ≡ record { status = status; output = nothing }
    = ap (λ s. let o : Outcome = record { status = s; output = nothing } in o) (sym is) in record {
      found = Err fault;
      report = None;
      met = record { reading = reading; report = tt };
      status_is = sym (ap (λ o. o.status) comes);
      leaves = subst (λ (o : Outcome). Leaves old o.output new) (sym comes) leaves;
    }

-- the report that was made later, seen from the outside before the files were loaded
pub shown_within : (old mid new : Outside) (view : View) (p : Contents) (shown : Option ReportOutcome)
    → mid.files ≡ old.files → old.load_faults ≤ mid.load_faults → mid.out.faults ≡ old.out.faults
    → IfSome shown (IsShown mid view p new) → IfSome shown (IsShown old view p new)
shown_within old mid new view p None same early out is = tt
shown_within old mid new view p (Some shown) same early out is = record {
  sort = is.sort;
  texts = texts_within view.auto old.files mid.files old.load_faults mid.load_faults new.load_faults new.load_faults p
      shown.texts same early (omega arith) is.texts;
  report = is.report;
  written = subst (λ n. IsTaken (text_of shown.report) n new.out.faults shown.count shown.written) out is.written;
}

-- they were read, and then the report on them was shown or not
pub Annotates-shown : (old mid new : Outside) (names : List (List ℕ)) (view : View) (p : Contents)
    (result : Result (Unit {0}) Status)
    → ReadsFiles old.files old.load_faults mid.load_faults [] (files_of names) (Ok p)
    → mid.files ≡ old.files → old.load_faults ≤ mid.load_faults → mid.load_faults ≤ new.load_faults
    → mid.out ≡ old.out → mid.err ≡ old.err → ShowsReport mid view p result new
    → Annotates old names view (report_status wanted.Done result) new
Annotates-shown old mid new names view p result reading same early late out err shows =
    let comes = shows.comes wanted.Done in record {
      found = Ok p;
      report = shows.report;
      met = record {
        reading = IsReading-within old.files old.load_faults old.load_faults mid.load_faults
            new.load_faults (no_rows [])
            (files_of names) (Ok p) (omega arith) late reading;
        report = shown_within old mid new view p shows.report same early (ap (λ (s : Stream). s.faults) out) shows.is;
      };
      status_is = sym (ap (λ o. o.status) comes);
      leaves = subst (λ (o : Outcome). Leaves old o.output new) (sym comes)
          (Leaves-earlier old mid new shows.output same out err shows.leaves);
    }

-- a stage stopped the work
pub Annotates-stopped : (old new : Outside) (names : List (List ℕ)) (view : View) (stop : Status)
    (result : Result (Unit {0}) Status)
    → IsErrAnd result (λ status. status ≡ stop) → Annotates old names view stop new
    → Annotates old names view (report_status wanted.Done result) new
Annotates-stopped old new names view stop (Ok done) none works = absurd none
Annotates-stopped old new names view stop (Err status) is works =
    subst (λ s. Annotates old names view s new) (sym is) works
