-- The work of `demo`, by how far it came.
use Rattle.std.proofs.Common.{◌≡◌, ℕ, ◌≤◌, List, [], ◌∷◌, length, false, IfOk, IfSome, Option, Some, None, Result, Ok}
use Rattle.std.proofs.Common.{Err, inl, inr, refl, sym, ap, subst, ◌∙◌, arith, option_map, lit≤, lit<}
use Rattle.std.proofs.lemmas.Option.{none-some, same_Some}
use Rattle.std.specs.Result.{IsErrAnd}
use Rattle.event_costs.specs.Costs.{event_names, events_shown}
use Rattle.outside.specs.Outside.{Leaves, Outside, Output, Stream, and_then, nothing}
use Rattle.event_costs.specs.declared.outcome.End.{End}
use Rattle.event_costs.specs.declared.outcome.End.TheVariants as end
use Rattle.elf_read.specs.Image.{Image, image_of}
use Rattle.elf_read.specs.Refusal.{refusal}
use Rattle.sym_map.specs.SymbolMap.{IsSound, SymbolMap}
use Rattle.cg_read.specs.Profiles.{Contents, IsProfile}
use Rattle.demo_make.specs.Program.{IsFileOf, demo}
use Rattle.profile_files.specs.Joined.{no_rows}
use Rattle.profile_files.specs.Reading.{IsReading}
use Rattle.profile_files.specs.declared.fault.ReadFault.{ReadFault}
use Rattle.profile_files.specs.declared.fault.ReadFault.TheVariants as read
use Rattle.profile_cli.proofs.Others.{IsReading-wanting, IsReading-within}
use Rattle.profile_run.specs.Program.{Program}
use Rattle.profile_run.specs.Parts.{Writing, plain_parts}
use Rattle.profile_run.specs.Runs.{RunEnd, Runs}
use Rattle.profile_run.specs.declared.run_fault.RunFault.{RunFault}
use Rattle.profile_run.specs.declared.run_end.PartFile.{PartFile}
use Rattle.report_laws.specs.Exact.{parts_wanted}
use Rattle.command_status.specs.Ends.{end_status}
use Rattle.command_status.specs.declared.status.Status.{Status}
use Rattle.command_status.specs.declared.status.Status.TheVariants as wanted
use Rattle.command_words.specs.Request as words
use Rattle.command_words.specs.Request.{Job}
use Rattle.command_words.specs.Within.{IsJob}
use Rattle.command_steps.specs.Stages.{final_status}
use Rattle.profile_cli.specs.Course.{Course, RunOutcome, no_course}
use Rattle.command_steps.specs.Summary.{SummaryOutcome, IsSummed, summary_of, ShowsSummary}
use Rattle.profile_cli.specs.Demo.{IsDemoRan, IsSummedEnd, IsSummedStop, demo_guest, demo_job, figures_of}
use Rattle.command_steps.specs.Gates.{Outcome, at_gate, gates_outcome}
use Rattle.command_steps.specs.Loading.{HasStatus}
use Rattle.profile_cli.specs.Order.{behind_demo, behind_end, elf_fault, elf_status, fault_status, reading}
use Rattle.profile_cli.specs.OwnReport.{parts_to_read}
use Rattle.profile_cli.specs.Program.{IsMapOf}
use Rattle.profile_cli.specs.Reply.{Works}
use Rattle.command_steps.specs.declared.summary.Figures.{Figures}
use Rattle.profile_cli.specs.inner.DemoStages.{DemoEnded, DemoStopped, IsRanSo, RunsDemo, SumsUp, code_of}
use Rattle.command_steps.specs.ReportStages.{ReadsFiles, report_status}
use Rattle.profile_cli.specs.inner.RunStages.{RunsElf, RunsGuest}
use Rattle.profile_cli.proofs.OutsideLemmas.{Leaves-and_nothing, Leaves-earlier, Leaves-nothing}
use Rattle.profile_cli.proofs.OwnReportLemmas.{Leaves-then, taken_within}
use Rattle.profile_cli.proofs.WorkLemmas.{whole_refused}
use Rattle.byte_text.specs.Memory.{memory}

-- ---- the job

pub demo_is_job : IsJob demo_job
demo_is_job = record {
  base = record { least_of = lit≤ tt; most_of = lit≤ tt };
  input = tt;
  budget = record { least_of = lit≤ tt; most_of = lit≤ tt };
  quantum = record { least_of = lit≤ tt; most_of = lit≤ tt };
  every = tt;
  program = lit< tt;
}

pub job_is_job : (job : Job) → job ≡ demo_job → IsJob job
job_is_job job is = subst IsJob (sym is) demo_is_job

-- ---- the run

-- memory was wanting before it
pub DemoStopped-wanting : (old new : Outside) (file : List ℕ) (status : Status) → status ≡ wanted.OutOfMemory memory
    → Leaves old nothing new → DemoStopped old file status new
DemoStopped-wanting old new file status is leaves = record {
  run = None;
  output = nothing;
  is = tt;
  comes = λ gates last. ap (λ s. let o : Outcome = record { status = s; output = nothing } in o) (sym is);
  leaves = leaves;
}

-- a program that is accepted is refused only for want of memory
pub only_wanting : (file : List ℕ) (status : Status) → refusal file ≡ None → HasStatus (elf_fault file) status
    → status ≡ wanted.OutOfMemory memory
only_wanting file status accepted (inl is) = is
only_wanting file status accepted (inr stop) = absurd (none_is_some (sym (ap (option_map elf_status) accepted) ∙ stop))
  where
    none_is_some : let n : Option Status = None in n ≡ Some status → ⊥
    none_is_some e = cc

-- the guest was run
RunsDemo-ran : (old new : Outside) (job : Job) (file input : List ℕ) (image : Image) (syms : SymbolMap)
    (result : Result RunEnd Status)
    → job ≡ demo_job → input ≡ [] → image ≡ image_of file → IsMapOf image syms → IsSound syms
    → RunsGuest plain_parts job image syms input old result new → RunsDemo old file result new
RunsDemo-ran old new job file input image syms result is_job empty is_image symbols sound ran =
    by result (subst (λ (j : Job). RunsGuest plain_parts j (image_of file) syms [] old result new) is_job
    (subst (λ (i : List ℕ). RunsGuest plain_parts job (image_of file) syms i old result new) empty
    (subst (λ (i : Image). RunsGuest plain_parts job i syms input old result new) is_image ran)))
  where
    symbols_of : IsMapOf (image_of file) syms
    symbols_of = subst (λ i. IsMapOf i syms) is_image symbols

    stopped : (refused : RunFault) (stop : Result RunEnd RunFault) (output : Output) → stop ≡ Err refused
        → Runs (plain_parts (demo_guest file syms)) (demo_guest file syms) old stop output new → Leaves old output new
        → DemoStopped old file (fault_status demo_job.base refused) new
    stopped refused stop output is runs leaves = record {
      run = Some (record { syms = syms; stop = Err refused; output = output });
      output = output;
      is = record {
        symbols = symbols_of;
        sound = sound;
        runs = subst (λ s. Runs (plain_parts (demo_guest file syms)) (demo_guest file syms) old s output new) is runs;
      };
      comes = λ gates last. refl;
      leaves = leaves;
    }

    by : (result : Result RunEnd Status) → RunsGuest plain_parts demo_job (image_of file) syms [] old result new
        → RunsDemo old file result new
    by (Ok run) answers =
        let whole = subst (λ s. Runs (plain_parts (demo_guest file syms)) (demo_guest file syms) old s
        answers.output new) answers.answered answers.runs in record {
          syms = syms;
          output = answers.output;
          symbols = symbols_of;
          sound = sound;
          fits = whole.0;
          whole = whole.1;
          leaves = answers.leaves;
        }
    by (Err status) answers =
        let answered = answers.answered in
        subst (λ s. DemoStopped old file s new) (sym answered.2)
        (stopped answered.0 answers.stop answers.output answered.1 answers.runs answers.leaves)

-- a stage stopped the run
pub RunsDemo-exit : (old new : Outside) (file : List ℕ) (stop : Status) (result : Result RunEnd Status)
    → IsErrAnd result (λ status. status ≡ stop) → DemoStopped old file stop new → RunsDemo old file result new
RunsDemo-exit old new file stop (Ok run) none stops = absurd none
RunsDemo-exit old new file stop (Err status) is stops = subst (λ s. DemoStopped old file s new) (sym is) stops

-- the guest of the program was run or not
pub RunsDemo-elf : (parts : Program → Writing) (IsSo : Program → Type 0) → parts ≡ plain_parts → (old new : Outside)
    (job : Job) (file input : List ℕ) (image : Image) (result : Result RunEnd Status)
    → job ≡ demo_job → input ≡ [] → image ≡ image_of file → RunsElf parts IsSo job image input old result new
    → RunsDemo old file result new
RunsDemo-elf parts IsSo plain old new job file input image result is_job empty is_image (inl (wants, same)) =
    RunsDemo-exit old new file (wanted.OutOfMemory memory) result wants
    (DemoStopped-wanting old new file (wanted.OutOfMemory memory) refl
    (subst (λ o. Leaves old nothing o) (sym same) (Leaves-nothing old old refl refl refl)))
RunsDemo-elf parts IsSo plain old new job file input image result is_job empty is_image (inr with) =
    RunsDemo-ran old new job file input image with.syms result is_job empty is_image with.symbols with.sound
    (subst (λ p. RunsGuest p job image with.syms input old result new) plain with.run)

-- ---- the work

-- memory was wanting for the program
pub Works-no_program : (old new : Outside) (size : ℕ) → Leaves old nothing new
    → Works old (words.Demo size) (wanted.OutOfMemory memory) new
Works-no_program old new size leaves =
    record { course = no_course; met = tt; status_is = refl; leaves = leaves }

abbrev met_stopped : List ℕ → Option RunOutcome → Course
met_stopped file ran = record no_course { program = Ok file; run = ran }

unsummed : (old : Outside) (size : ℕ) (file : List ℕ) (met : Course) (new : Outside) (run : RunEnd) (stop : End)
    → met.summary ≡ None → IsSummedEnd old size file met new run stop
unsummed old size file met new run (end.Exited code) none =
    subst (λ s. IfSome s (λ s. IfOk met.profile (λ p. IsSummed old (figures_of size (length file) code run) p new s)))
    (sym none) tt
unsummed old size file met new run _ none = tt

unsummed_stop : (old : Outside) (size : ℕ) (file : List ℕ) (met : Course) (new : Outside)
    (stop : Result RunEnd RunFault) → met.summary ≡ None → IsSummedStop old size file met new stop
unsummed_stop old size file met new (Ok run) none = unsummed old size file met new run run.end none
unsummed_stop old size file met new (Err fault) none = tt

-- the parts were not read
unread : (old new : Outside) (size : ℕ) (file : List ℕ) (ran : Option RunOutcome) (all : Option RunOutcome)
    → IsFileOf (demo size) file → IfSome ran (IsRanSo old file new)
    → IfSome ran (IsDemoRan old size (met_stopped file all) new)
unread old new size file None all made is = tt
unread old new size file (Some ran) all made is = record {
  file = file;
  loaded = refl;
  made = made;
  symbols = is.symbols;
  sound = is.sound;
  runs = is.runs;
  reading = IsReading-wanting new.files old.load_faults new.load_faults (no_rows (events_shown false event_names))
      (parts_to_read demo_job ran.stop) (read.OutOfMemory memory) refl;
  profile = tt;
  summary = unsummed_stop old size file (met_stopped file all) new ran.stop refl;
}

-- it stopped before the end of the run
pub Works-stopped_demo : (old new : Outside) (size : ℕ) (file : List ℕ) (status : Status)
    → IsFileOf (demo size) file → DemoStopped old file status new → Works old (words.Demo size) status new
Works-stopped_demo old new size file status made stops =
    let met = met_stopped file stops.run in
    let comes = stops.comes (behind_demo size met stops.run).gates (behind_demo size met stops.run).last in record {
      course = met;
      met = unread old new size file stops.run stops.run made stops.is;
      status_is = sym (ap (λ (o : Outcome). o.status) comes);
      leaves = subst (λ (o : Outcome). Leaves old o.output new) (sym comes) stops.leaves;
    }

-- an end that is no exit is the status
other_end : (size : ℕ) (met : Course) (run : RunEnd) (stop : End) → ((code : ℕ) → stop ≡ end.Exited code → ⊥)
    → gates_outcome (behind_end size met run stop).gates (behind_end size met run stop).last
    ≡ record { status = end_status stop; output = nothing }
other_end size met run (end.Exited code) none = absurd (none code refl)
other_end size met run _ none = refl

-- what a code tells of an end
not_exited : (stop : End) → code_of stop ≡ None → (code : ℕ) → stop ≡ end.Exited code → ⊥
not_exited stop none code is = none-some code (sym none ∙ ap code_of is)

pub exited_with : (stop : End) (code : ℕ) → code_of stop ≡ Some code → stop ≡ end.Exited code
exited_with (end.Exited other) code is = ap (λ n. end.Exited n) (same_Some other code is)
exited_with _ code is = absurd (none-some code is)

summed_with : (old mid new : Outside) (f : Figures) (read : Result Contents ReadFault) (s : SummaryOutcome)
    → old.out.faults ≤ mid.out.faults
    → IfOk read (λ p. IsSummed mid f p new s) → IfOk read (λ p. IsSummed old f p new s)
summed_with old mid new f (Ok p) s early is = record {
  totals = is.totals;
  written = taken_within (summary_of f s.totals) old.out.faults mid.out.faults new.out.faults s.count s.written early
      is.written;
}
summed_with old mid new f (Err fault) s early is = tt

summed_since : (old mid new : Outside) (f : Figures) (read : Result Contents ReadFault) (summed : Option SummaryOutcome)
    → old.out.faults ≤ mid.out.faults
    → IfSome summed (λ s. IfOk read (λ p. IsSummed mid f p new s))
    → IfSome summed (λ s. IfOk read (λ p. IsSummed old f p new s))
summed_since old mid new f read None early is = tt
summed_since old mid new f read (Some s) early is = summed_with old mid new f read s early is

-- ---- the parts

-- they could not be read and joined
pub SumsUp-unread : (old new : Outside) (f : Figures) (parts : List PartFile) (status : Status)
    → ReadsFiles old.files old.load_faults new.load_faults (events_shown false event_names)
    (parts_wanted demo_job.base parts) (Err status)
    → new.files ≡ old.files → Leaves old nothing new → SumsUp old f parts (Err status) new
SumsUp-unread old new f parts status (refused, reading, is) same leaves = record {
  read = Err refused;
  summary = None;
  output = nothing;
  reading = reading;
  profile = tt;
  is = tt;
  comes = λ last. ap (λ s. let o : Outcome = record { status = s; output = nothing } in o) (sym is);
  puts = refl;
  refused = refl;
  same_files = same;
  leaves = leaves;
}

summed_of : (f : Figures) (p : Contents) (old new : Outside) (summed : Option SummaryOutcome)
    → IfSome summed (IsSummed old f p new)
    → (read : Result Contents ReadFault) → read ≡ Ok p → IfSome summed (λ s. IfOk read (λ p. IsSummed old f p new s))
summed_of f p old new None is read same = tt
summed_of f p old new (Some s) is read same = subst (λ r. IfOk r (λ p. IsSummed old f p new s)) (sym same) is

-- they were, and the summary was written or not
pub SumsUp-shown : (old mid new : Outside) (f told : Figures) (parts : List PartFile) (p : Contents)
    (result : Result (Unit {0}) Status)
    → ReadsFiles old.files old.load_faults mid.load_faults (events_shown false event_names)
    (parts_wanted demo_job.base parts) (Ok p)
    → IsProfile p → mid.files ≡ old.files → mid.out ≡ old.out → mid.err ≡ old.err → mid.load_faults ≡ new.load_faults
    → told ≡ f → ShowsSummary mid told p result new → SumsUp old f parts result new
SumsUp-shown old mid new f told parts p result reading profile same out err loads is_f shows =
    by (subst (λ t. ShowsSummary mid t p result new) is_f shows)
  where
    by : ShowsSummary mid f p result new → SumsUp old f parts result new
    by up = record {
      read = Ok p;
      summary = up.summary;
      output = up.output;
      reading = subst (λ n. IsReading old.files old.load_faults n (no_rows (events_shown false event_names))
          (parts_wanted demo_job.base parts) (Ok p)) loads reading;
      profile = profile;
      is = summed_since old mid new f (Ok p) up.summary
          (subst (λ (s : Stream). old.out.faults ≤ s.faults) (sym out) (omega arith))
          (summed_of f p mid new up.summary up.is (Ok p) refl);
      comes = up.comes;
      puts = up.puts;
      refused = up.refused;
      same_files = up.same_files ∙ same;
      leaves = Leaves-earlier old mid new up.output same out err up.leaves;
    }

-- a stage stopped this
pub SumsUp-stopped : (old new : Outside) (f : Figures) (parts : List PartFile) (stop : Status)
    (result : Result (Unit {0}) Status)
    → IsErrAnd result (λ status. status ≡ stop) → SumsUp old f parts (Err stop) new → SumsUp old f parts result new
SumsUp-stopped old new f parts stop (Ok done) none sums = absurd none
SumsUp-stopped old new f parts stop (Err status) is sums =
    subst (λ s. SumsUp old f parts (Err s) new) (sym is) sums

module _ (old mid : Outside) (size : ℕ) (file : List ℕ) (made : IsFileOf (demo size) file) (run : RunEnd)
    (ended : DemoEnded old file run mid) where
  abbrev ran : RunOutcome
  ran = record { syms = ended.syms; stop = Ok run; output = ended.output }

  abbrev met_with : Result Contents ReadFault → Option SummaryOutcome → Course
  met_with read summed = record (met_stopped file (Some ran)) { profile = read; summary = summed }

  no_put_refused : ended.output.refused ≡ None
  no_put_refused = whole_refused (demo_guest file ended.syms) run ended.output ended.whole

  works_on : (new : Outside) (read : Result Contents ReadFault) (summed : Option SummaryOutcome) (status : Status)
      (next : Output)
      → IsReading new.files old.load_faults new.load_faults (no_rows (events_shown false event_names))
      (parts_to_read demo_job (Ok run)) read
      → IfOk read IsProfile → IsSummedEnd old size file (met_with read summed) new run run.end
      → gates_outcome (behind_end size (met_with read summed) run run.end).gates
      (behind_end size (met_with read summed) run run.end).last ≡ record { status = status; output = next }
      → Leaves old (and_then ended.output next) new → Works old (words.Demo size) status new
  works_on new read summed status next reading profile sums comes leaves =
      let all = ap (λ o. at_gate None ended.output o) comes in record {
        course = met_with read summed;
        met = record {
          file = file;
          loaded = refl;
          made = made;
          symbols = ended.symbols;
          sound = ended.sound;
          runs = (ended.fits, ended.whole);
          reading = reading;
          profile = profile;
          summary = sums;
        };
        status_is = sym (ap (λ (o : Outcome). o.status) all);
        leaves = subst (λ (o : Outcome). Leaves old o.output new) (sym all) leaves;
      }

  -- the run ended in another way
  pub Works-other_end : ((code : ℕ) → run.end ≡ end.Exited code → ⊥)
      → Works old (words.Demo size) (end_status run.end) mid
  Works-other_end none =
      works_on mid (Err (read.OutOfMemory memory)) None (end_status run.end) nothing
      (IsReading-wanting mid.files old.load_faults mid.load_faults (no_rows (events_shown false event_names))
      (parts_to_read demo_job (Ok run)) (read.OutOfMemory memory) refl)
      tt (unsummed old size file (met_with (Err (read.OutOfMemory memory)) None) mid run run.end refl)
      (other_end size (met_with (Err (read.OutOfMemory memory)) None) run run.end none)
      (Leaves-and_nothing old mid ended.output no_put_refused ended.leaves)

  -- as its fields have it
  pub Works-other_as : (inside : RunEnd) (status : Status) → status ≡ end_status inside.end → inside ≡ run
      → code_of inside.end ≡ None → Works old (words.Demo size) status mid
  Works-other_as inside status is same none =
      subst (λ s. Works old (words.Demo size) s mid) (sym (is ∙ ap (λ (r : RunEnd). end_status r.end) same))
      (Works-other_end (not_exited run.end (ap (λ (r : RunEnd). code_of r.end) (sym same) ∙ none)))

  still_read : (later new : Outside) (answer : Result Contents ReadFault)
      → IsReading mid.files mid.load_faults later.load_faults (no_rows (events_shown false event_names))
      (parts_wanted demo_job.base run.parts) answer
      → new.files ≡ mid.files → old.load_faults ≤ mid.load_faults → later.load_faults ≤ new.load_faults
      → IsReading new.files old.load_faults new.load_faults (no_rows (events_shown false event_names))
      (parts_to_read demo_job (Ok run)) answer
  still_read later new answer reading same early late =
      subst (λ files. IsReading files old.load_faults new.load_faults (no_rows (events_shown false event_names))
      (parts_wanted demo_job.base run.parts) answer) (sym same)
      (IsReading-within mid.files old.load_faults mid.load_faults later.load_faults new.load_faults
      (no_rows (events_shown false event_names)) (parts_wanted demo_job.base run.parts) answer early late reading)

  -- it exited, and its parts were read and its summary written, or not
  pub Works-summed : (code : ℕ) → run.end ≡ end.Exited code → (len : ℕ) → len ≡ length file → (new : Outside)
      (result : Result (Unit {0}) Status)
      → SumsUp mid (figures_of size len code run) run.parts result new
      → old.load_faults ≤ mid.load_faults → old.out.faults ≤ mid.out.faults
      → Works old (words.Demo size) (report_status wanted.Done result) new
  Works-summed code exited len is_len new result sums early faults =
      by (subst (λ n. SumsUp mid (figures_of size n code run) run.parts result new) is_len sums)
    where
      by : SumsUp mid (figures_of size (length file) code run) run.parts result new
          → Works old (words.Demo size) (report_status wanted.Done result) new
      by up =
          works_on new up.read up.summary (report_status wanted.Done result) up.output
          (still_read new new up.read up.reading up.same_files early (omega arith)) up.profile
          (subst (λ e. IsSummedEnd old size file (met_with up.read up.summary) new run e) (sym exited)
          (summed_since old mid new (figures_of size (length file) code run) up.read up.summary faults up.is))
          (ap (λ e. gates_outcome (behind_end size (met_with up.read up.summary) run e).gates
          (behind_end size (met_with up.read up.summary) run e).last) exited ∙ up.comes wanted.Done)
          (Leaves-then old mid new ended.output up.output no_put_refused up.puts up.refused ended.leaves up.leaves
          up.same_files)

  -- the same, where the summary is told of the run as its fields have it
  pub Works-summed_as : (inside told : RunEnd) (code : ℕ) → inside ≡ run → told ≡ run → code_of inside.end ≡ Some code
      → (len : ℕ) → len ≡ length file → (new : Outside) (result : Result (Unit {0}) Status)
      → SumsUp mid (figures_of size len code told) told.parts result new
      → old.load_faults ≤ mid.load_faults → old.out.faults ≤ mid.out.faults
      → Works old (words.Demo size) (report_status wanted.Done result) new
  Works-summed_as inside told code same also exited len is_len new result sums =
      Works-summed code (exited_with run.end code (ap (λ (r : RunEnd). code_of r.end) (sym same) ∙ exited))
      len is_len new
      result (subst (λ (r : RunEnd). SumsUp mid (figures_of size len code r) r.parts result new) also sums)

-- a stage stopped the work
pub Works-demo_exit : (old new : Outside) (size : ℕ) (stop : Status) (result : Result Status Status)
    → IsErrAnd result (λ status. status ≡ stop) → Works old (words.Demo size) stop new
    → Works old (words.Demo size) (final_status result) new
Works-demo_exit old new size stop (Ok status) none works = absurd none
Works-demo_exit old new size stop (Err status) is works =
    subst (λ s. Works old (words.Demo size) s new) (sym is) works

-- the file of a size, as it was handed on
pub made_of : (size : ℕ) (file items : List ℕ) → file ≡ items → IsFileOf (demo size) items → IsFileOf (demo size) file
made_of size file items same made = subst (λ f. IsFileOf (demo size) f) (sym same) made

-- what is told of a run, by the fields of what it answered
pub told_of : (size len code files : ℕ) (inside run : RunEnd) → inside ≡ run → files ≡ length inside.parts
    → (let told : Figures = record {
      size = size;
      len = len;
      code = code;
      steps = inside.steps;
      threads = inside.threads;
      files = files;
    } in told) ≡ figures_of size len code run
told_of size len code files inside run same count =
    ap (λ (n : ℕ). let told : Figures = record {
      size = size;
      len = len;
      code = code;
      steps = inside.steps;
      threads = inside.threads;
      files = n;
    } in told) count ∙ ap (figures_of size len code) same
