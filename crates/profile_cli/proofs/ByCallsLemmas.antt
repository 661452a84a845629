-- What `report` did, call by call, is a report on the guest's trace, where the folder gave back what was put into it.
use Rattle.std.proofs.Common.{◌≡◌, ◌⊎◌, ℕ, ◌++◌, Bool, true, false, if◌then◌else◌, IfOk, Contains, List, [], ◌∷◌}
use Rattle.std.proofs.Common.{length, map, Option, Some, None, Result, Ok, Err, inl, inr, refl, sym, ap, subst, ◌∙◌}
use Rattle.std.proofs.Common.{append_assoc, append-nil, arith, option_map}
use Rattle.std.specs.List.{AllByRecursion}
use Rattle.std.proofs.lemmas.List.Elements.{Contains-append_left, Contains-append_right}
use Rattle.std.proofs.lemmas.Option.{same_Some}
use Rattle.event_costs.specs.Costs.{event_names, events_shown}
use Rattle.byte_text.specs.Memory.{memory}
use Rattle.event_costs.proofs.RunLemmas.{IsTrace-same}
use Rattle.outside.specs.Load.{Load}
use Rattle.outside.specs.Outside.{Log, Named, Outside, done_then, nothing_done, puts_of}
use Rattle.outside.specs.Journal.{AreWritesOf, AreWritten, Call, Loaded, Put, Wrote}
use Rattle.outside.specs.declared.folder.LoadError.TheVariants as load
use Rattle.outside.specs.declared.sink.WriteError.{WriteError}
use Rattle.outside.specs.declared.sink.WriteError.TheVariants as write
use Rattle.elf_read.specs.Image.{image_of}
use Rattle.elf_read.specs.Refusal.{refusal}
use Rattle.sym_map.specs.SymbolMap.{IsSound, SymbolMap}
use Rattle.cg_format.specs.declared.head.PartHead.{PartHead}
use Rattle.cg_read.specs.AddressReading.{ReadsLines, first_bad_of}
use Rattle.cg_read.specs.Meaning.{or_else}
use Rattle.cg_read.specs.Merge.{longer}
use Rattle.cg_read.specs.Profiles.{Contents, IsProfile}
use Rattle.cycles.specs.Limits.{IsFirstOver}
use Rattle.report_rows.specs.declared.options.ReportOptions.{ReportOptions}
use Rattle.annotate.specs.Files.{AreFilesShown}
use Rattle.annotate.specs.Report.{IsReportOf, SourceTexts}
use Rattle.source_files.specs.Sources.{loads_of}
use Rattle.profile_files.specs.Calls.{IsAsked, HasFault, Reads}
use Rattle.profile_files.specs.Joined.{Joins, no_rows}
use Rattle.profile_files.specs.Reading as reading
use Rattle.profile_files.specs.WantedFile.{WantedFile}
use Rattle.profile_files.specs.declared.fault.ReadFault.{ReadFault}
use Rattle.profile_files.specs.declared.fault.ReadFault.TheVariants as read
use Rattle.profile_cli.proofs.Others.{events_read, IsPartText, events_agree, none_over}
use Rattle.profile_run.specs.Program.{CanRun, Program, head_of_run}
use Rattle.profile_run.specs.Parts.{ArePartsOf, Writing}
use Rattle.profile_run.specs.Runs.{Does, RunEnd}
use Rattle.profile_run.specs.Trace.{IsTraceOf, Makes, Stop, RunStep, next_step, pieces, start, steps_of}
use Rattle.profile_run.specs.declared.run_fault.RunFault.{RunFault}
use Rattle.reads_back.specs.Joined.{events_in}
use Rattle.reads_back.proofs.JoinedLemmas.{longer_same}
use Rattle.run_laws.specs.OwnParts.{texts_of_files, with_their_lengths}
use Rattle.report_laws.specs.Exact.{parts_wanted}
use Rattle.profile_cli.proofs.Others.{same_parts}
use Rattle.report_laws.specs.Rows.{AreEntriesSmall}
use Rattle.command_status.specs.Ends.{end_status}
use Rattle.command_status.specs.Lines.{message_of}
use Rattle.command_status.specs.Numbers.{is_finished, is_short}
use Rattle.command_status.specs.declared.status.Status.{Status}
use Rattle.command_status.specs.declared.status.Status.TheVariants.{OutFault, OutOfMemory}
use Rattle.command_words.specs.Request.{Request, Job, Positions, View, watching_at}
use Rattle.command_words.specs.Within.{IsJob, IsWithin}
use Rattle.command_steps.specs.Annotate.{IsSortPlace, read_status, report_options, write_fault}
use Rattle.profile_cli.specs.ByCalls.{AreShown, GivesBack, IsFed, IsHeadlineByCalls, IsReportByCalls, loads_back}
use Rattle.profile_cli.specs.Calls.{DoesAsked, DoesReport, MakesCalls}
use Rattle.command_steps.specs.Stages.{final_status, AreWritesOrWants, Gives, Goes, LoadsIf, LoadsTexts, ReadsAll, Reports}
use Rattle.command_steps.specs.Stages.{Stops, Then, asking, read_as}
use Rattle.outside.specs.Limits.{text_limit, file_limit}
use Rattle.profile_cli.specs.Program.{IsMapOf, guest_of}
use Rattle.command_steps.specs.Saying.{after_line}
use Rattle.profile_cli.specs.Stages as stage
use Rattle.profile_cli.specs.Stages.{IsEndOf, LoadsAndRuns, ComesTo}
use Rattle.profile_cli.specs.Watching.{parts_asked}
use Rattle.profile_cli.specs.Words.{program_of}
use Rattle.profile_cli.proofs.OwnTextLemmas.{own_again}
use Rattle.profile_cli.proofs.PastRunLemmas.{accepted_is}
use Rattle.profile_cli.proofs.ReadBackLemmas.{IsReadAs, counts_on, entries_small, none_first, own_files, report_on}
use Rattle.profile_cli.proofs.ShortLemmas.{IsShort, StopsShort, elf_short, fault_short, load_stops, none_stops}
use Rattle.profile_cli.proofs.ShortLemmas.{some_stops}
use Rattle.profile_cli.proofs.SortLemmas.{IsSort, job_such, report_such}
use Rattle.profile_cli.proofs.WalkLemmas.{end_finishes, not_short, short_line}

-- ---- answers

abbrev value : {X E : Type 0} → X → Result X E → X
value other (Ok x) = x
value other (Err e) = other

abbrev error : {X E : Type 0} → E → Result X E → E
error other (Ok x) = other
error other (Err e) = e

in_ok : {X E : Type 0} (x y : X) → ◌≡◌ {A = Result X E} (Ok x) (Ok y) → x ≡ y
in_ok x y is = ap (value x) is

in_err : {X E : Type 0} (e f : E) → ◌≡◌ {A = Result X E} (Err e) (Err f) → e ≡ f
in_err e f is = ap (error e) is

-- ---- what loads give back

-- every load of the file gave what was put
abbrev IsBack : List Call → Named → Type 0
IsBack calls file =
    (limit : ℕ) (given : List ℕ) → Contains calls (Loaded file.0 limit (Ok given)) → given ≡ file.1

-- the calls stand among these
abbrev AreAmong : List Call → List Call → Type 0
AreAmong calls later = (call : Call) → Contains calls call → Contains later call

given_back : (before : List Call) (put : List Named) (later all : List Call) → GivesBack all
    → all ≡ before ++ (puts_of put ++ later) → AllByRecursion (IsBack later) put
given_back before [] later all gives is = tt
given_back before (file ∷ put) later all gives is = (
  λ limit given has.
      gives before (puts_of put ++ later) file.0 file.1 limit given is
      (Contains-append_right (puts_of put) later (Loaded file.0 limit (Ok given)) has),
  given_back (before ++ Put file.0 file.1 (Ok tt) ∷ []) put later all gives
      (is ∙ sym (append_assoc before (Put file.0 file.1 (Ok tt) ∷ []) (puts_of put ++ later))),
)

first_given : (later calls rest : List Call) (file : Named) (limit : ℕ) (bytes : List ℕ) → IsBack later file
    → AreAmong calls later → calls ≡ Loaded file.0 limit (Ok bytes) ∷ rest → bytes ≡ file.1
first_given later calls rest file limit bytes back among is =
    back limit bytes (among (Loaded file.0 limit (Ok bytes))
    (subst (λ cs. Contains cs (Loaded file.0 limit (Ok bytes))) (sym is) (0, omega arith, refl)))

rest_among : (later calls rest : List Call) (call : Call) → AreAmong calls later → calls ≡ call ∷ rest
    → AreAmong rest later
rest_among later calls rest call among is = λ c has.
    among c (subst (λ cs. Contains cs c) (sym is) (Contains-append_right (call ∷ []) rest c has))

-- each file was loaded once, in its order, and they read as what is joined of what was put
loaded_back : (later : List Call) (first : Contents) (files : List Named) (calls : List Call) (p : Contents)
    → AllByRecursion (IsBack later) files → AreAmong calls later
    → Reads first (with_their_lengths files) calls (Ok p)
    → (calls ≡ loads_back files) × Joins first (texts_of_files files) p
loaded_back later first [] calls p back among (none, inl is) = (none, in_ok p first is)
loaded_back later first [] calls p back among (none, inr wants) = absurd (cc wants)
loaded_back later first (file ∷ files) calls p back among (inl at) = absurd (cc at.result_is)
loaded_back later first (file ∷ files) calls p back among (inr (next, rest, goes, more)) =
    let here = first_given later calls rest file (length file.1) goes.bytes back.0 among goes.calls_are in
    let behind = loaded_back later next files rest p back.1 (rest_among later calls rest _ among goes.calls_are) more in (
      goes.calls_are ∙ (λ i. Loaded file.0 (length file.1) (Ok (here i)) ∷ behind.0 i),
      (goes.read, next, subst (λ bytes. ReadsLines bytes goes.read) here goes.reads, goes.joins, behind.1),
    )

-- Where one stops the reading, it is not for its lines or its events.
stops_short : (head : PartHead) (later : List Call) (names : List (List ℕ)) (file : Named) (calls : List Call)
    (fault : ReadFault) → names ≡ events_in head → IsPartText head file.1 → IsBack later file → AreAmong calls later
    → (found : Load) → IsAsked (record { name = file.0; limit = length file.1 }) found calls
    → HasFault (reading.file_fault (record { name = file.0; limit = length file.1 }) names found) fault
    → IsShort (read_status fault)
stops_short head later names file calls fault named text back among (Ok bytes) (inr (none, wants)) (inr stops) =
    absurd (cc wants)
stops_short head later names file calls fault named text back among (Ok bytes) (inl is) (inr stops) =
    absurd (none_some (sym none ∙ stops))
  where
    here : bytes ≡ file.1
    here = first_given later calls [] file (length file.1) bytes back among is

    none : reading.file_fault (record { name = file.0; limit = length file.1 }) names (Ok bytes) ≡ None
    none =
        (λ i. or_else (option_map (reading.refusal_of file.0) ((ap first_bad_of here ∙ text.0) i))
        (reading.events_fault file.0 (named i) ((ap reading.events_of here ∙ text.1) i)))
        ∙ ap (λ (b : Bool). if b then None else Some (read.EventsDiffer file.0)) (events_agree head)

    none_some : None ≡ Some fault → ⊥
    none_some e = cc
stops_short head later names file calls fault named text back among (Err load.Failed) is (inr stops) =
    subst (λ f. IsShort (read_status f)) (same_Some _ _ stops) refl
stops_short head later names file calls fault named text back among (Err (load.TooLong len)) is (inr stops) =
    subst (λ f. IsShort (read_status f)) (same_Some _ _ stops) refl
stops_short head later names file calls fault named text back among (Err (load.OutOfMemory _)) is (inr stops) =
    subst (λ f. IsShort (read_status f)) (same_Some _ _ stops) refl
stops_short head later names file calls fault named text back among found is (inl wants) =
    subst (λ f. IsShort (read_status f)) (sym wants) refl

refused_short : (head : PartHead) (later : List Call) (first : Contents) (files : List Named) (calls : List Call)
    (fault : ReadFault) → first.events ≡ events_in head → AllByRecursion (IsPartText head) (texts_of_files files)
    → AllByRecursion (IsBack later) files → AreAmong calls later
    → Reads first (with_their_lengths files) calls (Err fault) → IsShort (read_status fault)
refused_short head later first [] calls fault named texts back among (none, inl is) = absurd (cc is)
refused_short head later first [] calls fault named texts back among (none, inr wants) =
    subst (λ f. IsShort (read_status f)) (sym (in_err fault (read.OutOfMemory memory) wants)) refl
refused_short head later first (file ∷ files) calls fault named texts back among (inl at) =
    subst (λ f. IsShort (read_status f)) (sym (in_err fault at.fault at.result_is))
    (stops_short head later first.events file calls at.fault named texts.0 back.0 among at.found at.calls_are at.why)
refused_short head later first (file ∷ files) calls fault named texts back among (inr (next, rest, goes, more)) =
    let here = first_given later calls rest file (length file.1) goes.bytes back.0 among goes.calls_are in
    let own : goes.read.events ≡ events_in head
    = sym (events_read goes.bytes goes.read goes.reads) ∙ ap reading.events_of here ∙ texts.0.1 in
    refused_short head later next files rest fault
    (goes.joins.events ∙ (λ i. longer (named i) (own i)) ∙ longer_same (events_in head)) texts.1 back.1
    (rest_among later calls rest _ among goes.calls_are) more

-- ---- stages that stop the work do so with short statuses

abbrev Short : Status → Log → Type 0
Short s log = IsShort s

shorts : IsSort Short
shorts = record {
  later = λ s before log short. short;
  wants = λ log. refl;
  usage = λ log. refl;
  elf = λ error log. elf_short error;
  load = λ name limit found. load_stops name found;
  run = λ parts guest refused log does. fault_short guest.options.base refused;
  write = λ bytes writes answer are. write_stops answer;
}
  where
    write_stops : (answer : Result (Unit {0}) WriteError) → StopsShort (write_fault answer)
    write_stops (Ok done) = none_stops IsShort
    write_stops (Err write.Failed) = some_stops IsShort OutFault refl
    write_stops (Err (write.OutOfMemory _)) = some_stops IsShort (OutOfMemory memory) refl

-- ---- the run

-- what a run did that came to this end
record RunsOn (parts : Program → Writing) (job : Job) (program input : List ℕ) (log : Log) (run : RunEnd) : Type 0 where
  syms : SymbolMap
  symbols : IsMapOf (image_of program) syms
  sound : IsSound syms
  trace : List RunStep
  stop : Stop
  is : IsTraceOf (guest_of job (image_of program) input syms) trace stop
  end : run.end ≡ stop.end
  listed : ArePartsOf job.base
      ((parts (guest_of job (image_of program) input syms)).whole (steps_of trace) stop.tried) run.parts
  calls : log.calls
      ≡ puts_of ((parts (guest_of job (image_of program) input syms)).whole (steps_of trace) stop.tried)
  out : AreWritten (pieces 1 trace) log.out
  err : AreWritten (pieces 2 trace) log.err

module _ (parts : Program → Writing) (job : Job) (program input : List ℕ) (log : Log) (ran : Program × RunEnd) where
  abbrev guest_with : SymbolMap → Program
  guest_with syms = guest_of job (image_of program) input syms

  runs_on : stage.Runs parts job program input log (Ok ran) → RunsOn parts job program input log ran.1
  runs_on (inl wants) = absurd (cc wants.comes)
  runs_on (inr has) = by has.stop has.ended has.does has.comes
    where
      by : (stop : Result RunEnd RunFault)
          → IfOk stop (IsEndOf (parts (guest_with has.syms)) (guest_with has.syms))
          → Does (parts (guest_with has.syms)) (guest_with has.syms) stop log
          → ComesTo job.base (guest_with has.syms) stop (Ok ran) → RunsOn parts job program input log ran.1
      by (Err refused) ended does is = absurd is
      by (Ok run) ended does is =
          let same = IsTrace-same (next_step (guest_with has.syms)) (start (guest_with has.syms)) ended.trace does.trace
          ended.stop does.stop ended.is does.is in
          let came : ran.1 ≡ run = ap (λ (r : Program × RunEnd). r.1) (in_ok ran (guest_with has.syms, run) is) in
          record {
            syms = has.syms;
            symbols = has.symbols;
            sound = has.sound;
            trace = does.trace;
            stop = does.stop;
            is = does.is;
            end = ap (λ (r : RunEnd). r.end) came ∙ ended.end ∙ ap (λ (s : Stop). s.end) same.1;
            listed = subst (λ (r : RunEnd). ArePartsOf job.base
                ((parts (guest_with has.syms)).whole (steps_of does.trace) does.stop.tried) r.parts) (sym came)
                (subst (λ (files : List Named). ArePartsOf job.base files run.parts)
                (λ i. (parts (guest_with has.syms)).whole (steps_of (same.0 i)) (same.1 i).tried) ended.parts_are);
            calls = does.calls;
            out = does.out;
            err = does.err;
          }

-- what was done up to its end
record Began (parts : Program → Writing) (job : Job) (log : Log) (run : RunEnd) : Type 0 where
  program : List ℕ
  accepted : refusal program ≡ None
  input : List ℕ
  feeding : List Call
  fed : IsFed job.input input feeding
  running : Log
  on : RunsOn parts job program input running run
  whole : log ≡ done_then (asking (Loaded (program_of job.args) file_limit (Ok program) ∷ feeding)) running

feeds : (name : Option (List ℕ)) (log : Log) (input : List ℕ) → LoadsIf name log (Ok input)
    → (feeding : List Call) × IsFed name input feeding × (log ≡ asking feeding)
feeds None log input given = ([], (in_ok input [] given.comes, refl), given.nothing)
feeds (Some name) log input loaded = (Loaded name text_limit (Ok input) ∷ [], refl, loaded)

began : (parts : Program → Writing) (job : Job) (log : Log) (ran : Program × RunEnd)
    → LoadsAndRuns parts job log (Ok ran) → Began parts job log ran.1
began parts job log ran (Stops s is stops) = absurd (cc is)
began parts job log ran (Goes program first rest is loaded (Stops s stop stops)) = absurd (cc stop)
began parts job log ran (Goes program first rest is loaded (Goes accepted second more next passed (Stops s stop stops))) =
    absurd (cc stop)
began parts job log ran
    (Goes program first rest is loaded (Goes accepted second more next passed (Goes input third running last fed runs))) =
    let fed_by = feeds job.input third input fed in
    record {
      program = program;
      accepted = accepted_is (refusal program) passed.comes;
      input = input;
      feeding = fed_by.0;
      fed = fed_by.1;
      running = running;
      on = runs_on parts job program input running ran runs;
      whole = is ∙ (λ i. done_then (loaded i) ((next ∙ (λ j. done_then (passed.nothing j)
          ((last ∙ (λ k. done_then (fed_by.2 k) running)) j))) i));
    }

-- ---- the parts are read

record IsReadBack (first : Contents) (files : List Named) (log : Log) (p : Contents) : Type 0 where
  log_is : log ≡ asking (loads_back files)
  profile : IsProfile p
  joins : Joins first (texts_of_files files) p

module _ (first : Contents) (files : List Named) (wanted : List WantedFile) (listed : wanted ≡ with_their_lengths files)
    (later : List Call) (back : AllByRecursion (IsBack later) files) (log : Log) (among : AreAmong log.calls later) where
  asked_among : (calls : List Call) → log ≡ asking calls → AreAmong calls later
  asked_among calls is = subst (λ (l : Log). AreAmong l.calls later) is among

  read_back : (p : Contents) → ReadsAll first wanted log (Ok p) → IsReadBack first files log p
  read_back p all = by all.found all.reads all.profile all.result_is
    where
      by : (found : Result Contents ReadFault) → Reads first wanted all.calls found → IfOk found IsProfile
          → Ok p ≡ read_as found → IsReadBack first files log p
      by (Err fault) reads profile is = absurd (cc is)
      by (Ok q) reads profile is =
          let same : q ≡ p = sym (in_ok p q is) in
          let found = loaded_back later first files all.calls q back (asked_among all.calls all.log_is)
          (subst (λ ws. Reads first ws all.calls (Ok q)) listed reads) in
          record {
            log_is = all.log_is ∙ ap asking found.0;
            profile = subst IsProfile same profile;
            joins = subst (Joins first (texts_of_files files)) same found.1;
          }

  read_short : (head : PartHead) → first.events ≡ events_in head
      → AllByRecursion (IsPartText head) (texts_of_files files) → (s : Status) → ReadsAll first wanted log (Err s)
      → IsShort s
  read_short head named texts s all = by all.found all.reads all.result_is
    where
      by : (found : Result Contents ReadFault) → Reads first wanted all.calls found → Err s ≡ read_as found
          → IsShort s
      by (Ok q) reads is = absurd (cc is)
      by (Err fault) reads is =
          subst IsShort (sym (in_err s (read_status fault) is))
          (refused_short head later first files all.calls fault named texts back
          (asked_among all.calls all.log_is) (subst (λ ws. Reads first ws all.calls (Err fault)) listed reads))

-- ---- the report on them

abbrev log_of : List Call → List Wrote → Log
log_of calls out = record { calls = calls; out = out; err = [] }

record HasShown (view : View) (p : Contents) (log : Log) : Type 0 where
  sort : ℕ
  texts : SourceTexts
  text : List ℕ
  writes : List Wrote
  sorted : IsSortPlace view.sort p sort
  files : AreShown view.auto p texts
  report : IsReportOf p (report_options view sort) texts text
  written : AreWritesOf {U = Unit {0}} text writes (Ok tt)
  whole : log ≡ log_of (loads_of texts) writes

texts_loaded : (auto : Bool) (p : Contents) (log : Log) (texts : SourceTexts) → LoadsTexts auto p log (Ok texts)
    → AreShown auto p texts × (log ≡ asking (loads_of texts))
texts_loaded true p log texts loaded = (loaded.0, loaded.1)
texts_loaded false p log texts given =
    let none : texts ≡ [] = in_ok texts [] given.comes in
    (none, given.nothing ∙ ap (λ (ts : SourceTexts). asking (loads_of ts)) (sym none))

whole_write : (text : List ℕ) (writes : List Wrote) (answer : Result (Unit {0}) WriteError)
    → AreWritesOrWants text writes answer → write_fault answer ≡ None
    → AreWritesOf {U = Unit {0}} text writes (Ok tt)
whole_write text writes (Ok done) (inl are) none = are
whole_write text writes (Ok done) (inr wants) none = absurd (cc wants.1)
whole_write text writes (Err write.Failed) are none = absurd (cc none)
whole_write text writes (Err (write.OutOfMemory _)) are none = absurd (cc none)

has_shown : (view : View) (p : Contents) (log : Log) (done : Unit {0}) → Reports view p log (Ok done)
    → HasShown view p log
has_shown view p log done (Stops s is stops) = absurd (cc is)
has_shown view p log done (Goes options first rest is settled (Stops s stop stops)) = absurd (cc stop)
has_shown view p log done (Goes options first rest is settled (Goes texts second more next loaded (Stops s stop stops))) =
    absurd (cc stop)
has_shown view p log done
    (Goes options first rest is settled (Goes texts second more next loaded (Goes text third end last made writes))) =
    let loads = texts_loaded view.auto p second texts loaded in
    record {
      sort = options.sort;
      texts = texts;
      text = text;
      writes = writes.writes;
      sorted = settled.comes.1;
      files = loads.0;
      report = subst (λ (o : ReportOptions). IsReportOf p o texts text) settled.comes.2 made.comes.1;
      written = whole_write text writes.writes writes.answer writes.are writes.gate;
      whole = is ∙ (λ i. done_then (settled.nothing i) ((next ∙ (λ j. done_then (loads.1 j)
          ((last ∙ (λ k. done_then (made.nothing k) (writes.log_is k))) j))) i))
          ∙ ap (λ (calls : List Call). log_of calls writes.writes) (append-nil (loads_of texts));
    }

shown_over : (auto : Bool) (q p : Contents) (texts : SourceTexts)
    → ((names : List (List ℕ)) → AreFilesShown q names → AreFilesShown p names) → AreShown auto q texts
    → AreShown auto p texts
shown_over true q p texts over are = over (map (λ text. text.0) texts) are
shown_over false q p texts over are = are

-- ---- the work, and the line behind it

abbrev with_line : Log → List Wrote → Log
with_line work line = done_then work (record nothing_done { err = line })

-- the work came to an end, and once the line on it is written whole, all is as it is to be
abbrev IsReported : Job → Positions → View → Log → Status → Type 0
IsReported job positions view work found =
    (is_finished found ≡ true)
    × ((status : Status) (line : List Wrote) → status ≡ found
    → AreWritesOf {U = Unit {0}} (message_of status) line (Ok tt)
    → IsReportByCalls job positions view status (with_line work line))

-- behind a run that came to its end
module _ (job : Job) (positions : Positions) (view : View) (within : IsJob job) (work before later : Log)
    (run : RunEnd) (b : Began (parts_asked (watching_at positions)) job before run) (is : work ≡ done_then before later)
    (gives : GivesBack (work.calls ++ [])) where
  abbrev guest : Program
  guest = guest_of job (image_of b.program) b.input b.on.syms

  abbrev put : List Named
  put = (parts_asked (watching_at positions) guest).whole (steps_of b.on.trace) b.on.stop.tried

  abbrev opening : List Call
  opening = Loaded (program_of job.args) file_limit (Ok b.program) ∷ b.feeding

  abbrev first : Contents
  first = no_rows (events_shown job.branches event_names)

  can : CanRun guest
  can = record { accepted = b.accepted; image = refl; sound = b.on.sound; budget = within.budget.most_of }

  makes : Makes guest b.on.trace
  makes = record { last = b.on.is.last; run = b.on.is.run }

  entries : AreEntriesSmall guest.syms
  entries = entries_small (image_of b.program) b.on.syms b.on.symbols

  put_calls : work.calls ≡ opening ++ puts_of put ++ later.calls
  put_calls =
      ap (λ (l : Log). l.calls) is ∙ (λ i. (b.whole i).calls ++ later.calls)
      ∙ ap (λ (calls : List Call). opening ++ calls ++ later.calls) b.on.calls

  back : AllByRecursion (IsBack later.calls) put
  back =
      given_back opening put later.calls (work.calls ++ []) gives
      (append-nil work.calls ∙ put_calls ∙ append_assoc opening (puts_of put) later.calls)

  listed : parts_wanted job.base run.parts ≡ with_their_lengths put
  listed = same_parts job.base put run.parts b.on.listed

  -- the parts were read
  module _ (p : Contents) (loading rest : Log) (read_then : later ≡ done_then loading rest)
      (all : ReadsAll first (parts_wanted job.base run.parts) loading (Ok p)) where
    among : AreAmong loading.calls later.calls
    among call has =
        subst (λ (l : Log). Contains l.calls call) (sym read_then)
        (Contains-append_left loading.calls rest.calls call has)

    read_as_put : IsReadBack first put loading p
    read_as_put = read_back first put (parts_wanted job.base run.parts) listed later.calls back loading among p all

    own_is : IsReadAs guest b.on.trace p
    own_is =
        (own_again positions).read guest can entries b.on.trace makes b.on.stop p read_as_put.profile
        read_as_put.joins

    none_too_large : (position : ℕ) → IsFirstOver p position → ⊥
    none_too_large position over =
        none_first p position
        (own_is.within (λ place sum of_sum.
        none_over guest can b.on.trace makes own_is.profile own_is.of_run place sum of_sum)) over

    worked : (showing last : Log) → rest ≡ done_then showing last → HasShown view p showing → last ≡ nothing_done
        → (found : Status) → found ≡ end_status run.end → IsReported job positions view work found
    worked showing last show_then s nothing found found_is = (
      ap is_finished found_is ∙ end_finishes run.end,
      λ status line same are. record {
        program = b.program;
        input = b.input;
        feeding = b.feeding;
        fed = b.fed;
        run = record {
          syms = b.on.syms;
          symbols = b.on.symbols;
          guest = guest;
          guest_is = refl;
          trace = b.on.trace;
          stop = b.on.stop;
          is = b.on.is;
        };
        status_is = same ∙ found_is ∙ ap end_status b.on.end;
        report_on = report_on guest can b.on.trace makes view p own_is s.sort s.texts s.text s.report s.sorted;
        counts = counts_on guest can b.on.trace makes view
            (report_on guest can b.on.trace makes view p own_is s.sort s.texts s.text s.report s.sorted);
        sources = shown_over view.auto p own_is.profile s.texts own_is.files s.files;
        calls = append-nil work.calls ∙ put_calls
            ∙ ap (λ (l : Log). opening ++ puts_of put ++ l.calls) later_is
            ∙ sym (append_assoc (opening ++ puts_of put) (loads_back put) (loads_of s.texts))
            ∙ ap (λ (files : List Named). opening ++ puts_of files ++ loads_back files ++ loads_of s.texts)
            (own_files positions guest b.on.trace b.on.stop);
        out = (
          b.running.out,
          s.writes,
          append-nil work.out ∙ ap (λ (l : Log). l.out) is ∙ (λ i. (b.whole i).out ++ (later_is i).out),
          b.on.out,
          s.written,
        );
        err = (
          b.running.err,
          line,
          ap (λ (l : Log). l.err ++ line) is ∙ (λ i. (b.whole i).err ++ (later_is i).err ++ line)
              ∙ ap (λ (writes : List Wrote). writes ++ line) (append-nil b.running.err),
          b.on.err,
          are,
        );
      },
    )
      where
        rest_is : rest ≡ log_of (loads_of s.texts) s.writes
        rest_is =
            show_then ∙ (λ i. done_then (s.whole i) (nothing i))
            ∙ (λ i. log_of (append-nil (loads_of s.texts) i) (append-nil s.writes i))

        later_is : later ≡ log_of (loads_back put ++ loads_of s.texts) s.writes
        later_is = read_then ∙ (λ i. done_then (read_as_put.log_is i) (rest_is i))

    shown_on : (comes : Result Status Status)
        → Then (Reports view p) (λ shown. Gives (end_status run.end)) rest comes
        → IsShort (final_status comes) ⊎ IsReported job positions view work (final_status comes)
    shown_on comes (Stops s stop stops) =
        inl (subst (λ r. IsShort (final_status r)) (sym stop)
        (report_such Short shorts view p (λ position log over. absurd (none_too_large position over)) rest s stops))
    shown_on comes (Goes done showing last show_then shows given) =
        inr (worked showing last show_then (has_shown view p showing done shows) given.nothing (final_status comes)
        (ap final_status given.comes))

  read_on : (comes : Result Status Status)
      → Then (ReadsAll first (parts_wanted job.base run.parts)) (λ p.
      Then (Reports view p) (λ shown. Gives (end_status run.end))) later comes
      → IsShort (final_status comes) ⊎ IsReported job positions view work (final_status comes)
  read_on comes (Stops s stop stops) =
      inl (subst (λ r. IsShort (final_status r)) (sym stop)
      (read_short first put (parts_wanted job.base run.parts) listed later.calls back later (λ call has. has)
      (head_of_run guest) refl
      ((own_again positions).texts guest can entries b.on.trace makes b.on.stop) s stops))
  read_on comes (Goes p loading rest read_then all shows) = shown_on p loading rest read_then all comes shows

work_on : (job : Job) (positions : Positions) (view : View) → IsJob job → (work : Log)
    (comes : Result Status Status)
    → DoesReport job positions view work comes ⊎ ((work ≡ nothing_done) × (comes ≡ Err (OutOfMemory memory)))
    → GivesBack (work.calls ++ []) → IsShort (final_status comes) ⊎ IsReported job positions view work (final_status comes)
work_on job positions view within work comes (inr (none, wants)) gives =
    inl (subst (λ r. IsShort (final_status r)) (sym wants) refl)
work_on job positions view within work comes (inl (Stops s stop stops)) gives =
    inl (subst (λ r. IsShort (final_status r)) (sym stop) (job_such Short shorts (parts_asked (watching_at positions)) job work s stops))
work_on job positions view within work comes (inl (Goes ran before later is runs reads)) gives =
    read_on job positions view within work before later ran.1
    (began (parts_asked (watching_at positions)) job before ran runs) is gives comes reads

-- the line is written
line_whole : (found status : Status) (line : List Wrote) (answer : Result (Unit {0}) WriteError)
    → AreWritesOrWants (message_of found) line answer → status ≡ after_line found answer → is_finished found ≡ true
    → is_short status ≡ false → (status ≡ found) × AreWritesOf {U = Unit {0}} (message_of status) line (Ok tt)
line_whole found status line (Ok done) (inr wants) same finished long = absurd (cc wants.1)
line_whole found status line (Ok done) (inl are) same finished long =
    (same, subst (λ (s : Status). AreWritesOf {U = Unit {0}} (message_of s) line (Ok tt)) (sym same) are)
line_whole found status line (Err (write.OutOfMemory _)) are same finished long =
    absurd (not_short status (subst IsShort (sym same) refl) long)
line_whole found status line (Err write.Failed) are same finished long =
    absurd (not_short status
    (subst IsShort (sym (same ∙ ap (λ (b : Bool). if b then OutFault else found) finished)) refl) long)

by_calls : (job : Job) (positions : Positions) (view : View) (found status : Status) (work : Log) (line : List Wrote)
    (answer : Result (Unit {0}) WriteError) → AreWritesOrWants (message_of found) line answer
    → status ≡ after_line found answer → is_short status ≡ false → IsShort found ⊎ IsReported job positions view work found
    → IsReportByCalls job positions view status (with_line work line)
by_calls job positions view found status work line answer are is long (inl short) =
    absurd (not_short status (subst IsShort (sym is) (short_line found answer short)) long)
by_calls job positions view found status work line answer are is long (inr (finished, reports)) =
    let said = line_whole found status line answer are is finished long in reports status line said.0 said.1

pub IsHeadlineByCalls-told : (old new : Outside) (asked : Request) (status : Status) → IsWithin asked
    → MakesCalls old asked status new → IsHeadlineByCalls old asked status new
IsHeadlineByCalls-told old new asked status within told = λ job positions view is long. (
  with_line told.work told.line,
  told.tells,
  λ gives. by_calls job positions view (final_status told.comes) status told.work told.line told.answer told.writes told.status_is long
      (work_on job positions view (subst IsWithin is within).0 told.work told.comes
      (subst (λ (a : Request). DoesAsked a told.work told.comes
      ⊎ ((told.work ≡ nothing_done) × (told.comes ≡ Err (OutOfMemory memory)))) is told.does) gives),
)
