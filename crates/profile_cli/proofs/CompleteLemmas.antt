-- Where the folder tells its contents, a reply is the one that its files give.
use Rattle.std.proofs.Common.{◌≡◌, ◌≢◌, ◌⊎◌, ℕ, ◌≤◌, ◌-◌, ◌^◌, min, if◌then◌else◌, Bool, true, false, List, [], ◌∷◌}
use Rattle.std.proofs.Common.{◌++◌, Option, Some, None, Result, Ok, Err, inl, inr, refl, sym, ap, subst, ◌∙◌, IfSome}
use Rattle.std.proofs.Common.{option_map, nat_lt}
use Rattle.guest_load.specs.Arguments.{arguments_len}
use Rattle.guest_load.specs.Segments.{pages_of}
use Rattle.outside.specs.Files.{Files, Rose, file}
use Rattle.outside.specs.Outside.{Holds, Leaves, Output, Outside, Stream, nothing}
use Rattle.outside.specs.Write.{taken_more}
use Rattle.outside.specs.declared.folder.LoadError.TheVariants as load
use Rattle.outside.specs.declared.sink.WriteError.{WriteError}
use Rattle.elf_read.specs.Image.{image_of}
use Rattle.elf_read.specs.Refusal.{refusal}
use Rattle.elf_read.specs.declared.error.ElfError.{ElfError}
use Rattle.elf_read.specs.declared.error.ElfError.TheVariants as elf
use Rattle.profile_run.specs.Program.{Program}
use Rattle.profile_run.specs.Parts.{Writing}
use Rattle.command_status.specs.Lines.{message_of}
use Rattle.command_status.specs.Numbers.{is_finished}
use Rattle.command_status.specs.declared.status.Status.{Status}
use Rattle.command_status.specs.declared.status.Status.TheVariants.{Done, OutOfMemory, Usage}
use Rattle.command_status.specs.declared.status.Status.TheVariants as wanted
use Rattle.command_words.specs.Request as words
use Rattle.command_words.specs.Request.{Request, Job, Positions, View, Watching, watching_at}
use Rattle.command_words.specs.Within.{IsJob, IsWithin}
use Rattle.profile_files.specs.Loads.{faultless_load}
use Rattle.outside.specs.Load.{Load, bytes_of}
use Rattle.profile_files.proofs.CompleteLemmas.{held_load}
use Rattle.command_steps.specs.Annotate.{Annotates, annotating}
use Rattle.command_steps.specs.Certain.{Decides, IsCalm}
use Rattle.profile_cli.specs.Complete.{Ends, IsCertain, IsComplete, faultless_course, faultless_load_if}
use Rattle.profile_cli.specs.Course.{Course, no_course}
use Rattle.outside.specs.Limits.{text_limit, file_limit}
use Rattle.command_steps.specs.Loading.{IsLoadIf, input_fault, load_fault}
use Rattle.command_steps.specs.Gates.{Gate, Outcome, check, first_stop, or_next, outcome, gates_outcome}
use Rattle.profile_cli.specs.Headline.{IsExactReport}
use Rattle.profile_cli.specs.Order.{arguments_fault, elf_fault, elf_status, last_status, loading, pages_fault}
use Rattle.profile_cli.specs.Order.{reading, run_gate, work}
use Rattle.profile_cli.specs.OwnReport.{IsReported, reporting_own}
use Rattle.profile_cli.specs.Reply.{IsRun, IsWaitedIn, Replies}
use Rattle.command_steps.specs.Saying.{Says, after_line}
use Rattle.profile_cli.specs.Watching.{files_at, output_asked, parts_asked, watch_gates}
use Rattle.profile_cli.specs.Words.{program_of}
use Rattle.std.specs.List.{AllByRecursion}
use Rattle.profile_cli.proofs.Others.{IsRefusal, before_line, calm_before, never_wanting, line_is_written, stays}
use Rattle.profile_cli.proofs.Others.{more_taken, rose_from}
use Rattle.profile_cli.proofs.AnswerLemmas.{only_wants}
use Rattle.profile_cli.proofs.CompleteDemoLemmas.{certain_demo}
use Rattle.command_steps.proofs.CompleteReportLemmas.{certain_report}
use Rattle.profile_cli.proofs.GateLemmas.{all_pass, third_stops, unless_stopped}
use Rattle.profile_cli.proofs.PastRunLemmas.{IsWorked, exact_of, run_on}
use Rattle.profile_cli.proofs.EveryRunLemmas.{IsWhole, ran_on}
use Rattle.profile_cli.proofs.WorkLemmas.{by_loading}
use Rattle.std.proofs.lemmas.List.{append-nil}
use Rattle.byte_text.specs.Memory.{memory}

-- the input is what the folder holds, where it has a name, or memory was wanting
held_input : (told : Option Files) (files : Files) (name : Option (List ℕ)) (before now : ℕ) (found : Load)
    → told ≡ Some files
    → (Rose before now → ⊥) → IsLoadIf told name text_limit before now found
    → (found ≡ faultless_load_if files name text_limit) ⊎ (input_fault name found ≡ Some (OutOfMemory memory))
held_input told files None before now found is calm loads = inl loads
held_input told files (Some name) before now found is calm loads =
    by (held_load told files name text_limit before now found is calm loads)
  where
    by : (found ≡ faultless_load (file files name) text_limit) ⊎ (found ≡ Err (load.OutOfMemory memory))
        → (found ≡ faultless_load_if files (Some name) text_limit) ⊎ (input_fault (Some name) found ≡ Some (OutOfMemory memory))
    by (inl same) = inl same
    by (inr none) = inr (ap (load_fault name) none)

-- ---- no gate of the loading stops with a status of work that came to its end

load_refuses : (name : List ℕ) (found : Load) → IsRefusal (load_fault name found)
load_refuses name (Ok bytes) = tt
load_refuses name (Err load.Failed) = refl
load_refuses name (Err (load.TooLong len)) = refl
load_refuses name (Err (load.OutOfMemory _)) = refl

input_refuses : (name : Option (List ℕ)) (found : Load) → IsRefusal (input_fault name found)
input_refuses None found = tt
input_refuses (Some name) found = load_refuses name found

elf_refuses : (error : Option ElfError) → IsRefusal (option_map elf_status error)
elf_refuses None = tt
elf_refuses (Some error) = by error
  where
    by : (error : ElfError) → is_finished (elf_status error) ≡ false
    by (elf.OutOfMemory _) = refl
    by _ = refl

limit_refuses : (above : Bool) (status : Status) → is_finished status ≡ false
    → IsRefusal (if above then Some status else None)
limit_refuses true status is = is
limit_refuses false status is = tt

either_refuses : (first next : Option Status) → IsRefusal first → IsRefusal next → IsRefusal (or_next first next)
either_refuses None next one other = other
either_refuses (Some status) next one other = one

all_refuse : (gates : List Gate) → AllByRecursion (λ (gate : Gate). IsRefusal gate.stops) gates
    → IsRefusal (first_stop gates)
all_refuse [] all = tt
all_refuse (gate ∷ gates) all = either_refuses gate.stops (first_stop gates) all.0 (all_refuse gates all.1)

loading_refuses : (job : Job) (met : Course) → IsRefusal (first_stop (loading job met))
loading_refuses job met =
    all_refuse (loading job met) (
      load_refuses (program_of job.args) met.program,
      (
        elf_refuses (refusal (bytes_of met.program)),
        (
          input_refuses job.input met.input,
          (
            limit_refuses (nat_lt 65536 (arguments_len job.args))
                (wanted.ArgsTooLong (min (arguments_len job.args) (2 ^ 64 - 1))) refl,
            (limit_refuses (nat_lt 65536 (pages_of (image_of (bytes_of met.program)))) wanted.GuestFull refl, tt),
          ),
        ),
      ),
    )

-- ---- the gate of the loading that stops decides, and else the run does

decides : (stop : Option Status) (after : Outcome) (otherwise : Type 0) (old mid : Outside) (output : Output)
    (found status : Status)
    → (stop ≡ None → found ≡ after.status → Leaves old after.output mid → otherwise)
    → ((s : Status) → stop ≡ Some s → found ≡ s → status ≡ s)
    → found ≡ (unless_stopped stop after).status → Leaves old (unless_stopped stop after).output mid
    → Decides stop otherwise status
decides (Some stop) after otherwise old mid output found status ends refused is leaves = refused stop refl is
decides None after otherwise old mid output found status ends refused is leaves = ends refl is leaves

refusal_stays : (stop : Option Status) (s found status : Status) (answer : Result (Unit {0}) WriteError)
    → IsRefusal stop → stop ≡ Some s
    → found ≡ s → status ≢ (OutOfMemory memory) → status ≡ after_line found answer → status ≡ s
refusal_stays stop s found status answer refuses is same known status_is =
    stays found status answer (ap is_finished same ∙ subst IsRefusal is refuses) known status_is ∙ same

-- ---- a reply to `run` or `report`

-- What is known of a reply whose words were read: the gates behind the run are those of the command.
record IsReplied (parts : Program → Writing) (old new : Outside) (job : Job) (gates : Course → List Gate)
    (status : Status) : Type 0 where
  met : Course
  read : met.words_read ≡ true
  found : Status
  err : Stream
  is : IsRun parts old job met (before_line new err)
  status_is : found
      ≡ (gates_outcome (reading met ++ loading job met ++ run_gate job met.run ∷ gates met) (last_status job met.run)).status
  leaves : Leaves old
      (gates_outcome (reading met ++ loading job met ++ run_gate job met.run ∷ gates met) (last_status job met.run)).output
      (before_line new err)
  rises : old.err.faults ≤ err.faults
  says : Says found err status new.err
  known : status ≢ OutOfMemory memory

module _ {parts : Program → Writing} (old new : Outside) (job : Job) (gates : Course → List Gate) (status : Status)
    (reply : IsReplied parts old new job gates status) where
  abbrev met_then : Course
  met_then = reply.met

  -- what the run and the gates behind it come to
  abbrev behind : Outcome
  behind = gates_outcome (run_gate job met_then.run ∷ gates met_then) (last_status job met_then.run)

  comes : (stop : Option Status) → first_stop (loading job met_then) ≡ stop
      → gates_outcome (reading met_then ++ loading job met_then ++ run_gate job met_then.run ∷ gates met_then)
      (last_status job met_then.run)
      ≡ unless_stopped stop behind
  comes stop is = by_loading job met_then stop (gates met_then) (last_status job met_then.run) reply.read is

  -- memory was not wanting
  never : reply.found ≡ (OutOfMemory memory) → ⊥
  never is = never_wanting reply.found status reply.says.answer reply.known reply.says.status_is is

  -- where no write failed, the line was written, and the status is what was found
  line_said : IsCalm old new
      → (status ≡ reply.found) × (new.err.taken ≡ taken_more reply.err.taken (message_of reply.found))
  line_said calm =
      line_is_written reply.found status reply.says.answer reply.err new.err (message_of reply.found)
      (λ rose. calm.err (rose_from old.err.faults reply.err.faults new.err.faults reply.rises rose)) reply.known
      reply.says.status_is reply.says.written

  -- a gate of the loading stops what was met
  early : (s : Status) → first_stop (loading job met_then) ≡ Some s → status ≡ s
  early s stop =
      refusal_stays (first_stop (loading job met_then)) s reply.found status reply.says.answer
      (loading_refuses job met_then) stop (reply.status_is ∙ ap (λ (o : Outcome). o.status) (comes (Some s) stop))
      reply.known reply.says.status_is

  module _ (files : Files) (otherwise : Type 0) where
    abbrev over : Course
    over = faultless_course files job

    -- what is decided by what the folder holds
    abbrev Decided : Type 0
    Decided = Decides (first_stop (loading job over)) otherwise status

    -- a gate of the loading stops both what was met and what the folder holds
    both_stop : (s : Status) → first_stop (loading job met_then) ≡ Some s → first_stop (loading job over) ≡ Some s
        → Decided
    both_stop s stop other =
        subst (λ o. Decides o otherwise status) (sym other) (early s stop)

    -- the input was not loaded for want of memory, or the work didn't come to it
    without_input : met_then.program ≡ faultless_load (file files (program_of job.args)) file_limit
        → input_fault job.input met_then.input ≡ Some (OutOfMemory memory) → Decided
    without_input program wants =
        by (third_stops (load_fault (program_of job.args) met_then.program) (elf_fault (bytes_of met_then.program))
        (input_fault job.input met_then.input) (arguments_fault job.args)
        (pages_fault (image_of (bytes_of met_then.program)))
        (input_fault job.input (faultless_load_if files job.input text_limit))
        (OutOfMemory memory) wants)
      where
        by : (first_stop (loading job met_then) ≡ Some (OutOfMemory memory))
            ⊎ ((earlier : Status) × (first_stop (loading job met_then) ≡ Some earlier)
            × (first_stop (loading job (record met_then { input = faultless_load_if files job.input text_limit }))
            ≡ Some earlier))
            → Decided
        by (inl stop) = absurd (reply.known (early (OutOfMemory memory) stop))
        by (inr (earlier, stop, other)) =
            both_stop earlier stop
            (subst (λ p. first_stop (loading job
            (record no_course { program = p; input = faultless_load_if files job.input text_limit })) ≡ Some earlier)
            program other)

    -- the program was not loaded for want of memory
    without_program : met_then.program ≡ Err (load.OutOfMemory memory) → Decided
    without_program none =
        absurd (reply.known (early (OutOfMemory memory)
        (ap (λ p. first_stop (loading job (record no_course { program = p; input = met_then.input }))) none)))

    -- what was met in the loading is what the folder holds
    as_held : met_then.program ≡ faultless_load (file files (program_of job.args)) file_limit
        → met_then.input ≡ faultless_load_if files job.input text_limit
        → ((first_stop (loading job met_then) ≡ None) → met_then.program ≡ over.program → met_then.input ≡ over.input
        → reply.found ≡ behind.status → Leaves old behind.output (before_line new reply.err) → otherwise)
        → Decided
    as_held program input on =
        let same = ap (λ p. first_stop (loading job (record no_course { program = p; input = met_then.input }))) program
        ∙ ap (λ i. first_stop (loading job (record over { input = i }))) input in
        let all = comes (first_stop (loading job over)) same in
        decides (first_stop (loading job over)) behind otherwise old (before_line new reply.err) nothing reply.found
        status (λ passes found_is left. on (same ∙ passes) program input found_is left)
        (λ s is found_is.
        refusal_stays (first_stop (loading job over)) s reply.found status reply.says.answer
        (loading_refuses job over) is
        found_is reply.known reply.says.status_is)
        (reply.status_is ∙ ap (λ (o : Outcome). o.status) all)
        (subst (λ (o : Outcome). Leaves old o.output (before_line new reply.err)) all reply.leaves)

    decided : old.files ≡ Some files → (Rose old.load_faults new.load_faults → ⊥)
        → ((first_stop (loading job met_then) ≡ None) → met_then.program ≡ over.program → met_then.input ≡ over.input
        → reply.found ≡ behind.status → Leaves old behind.output (before_line new reply.err) → otherwise)
        → Decided
    decided told calm on =
        by (held_load old.files files (program_of job.args) file_limit old.load_faults new.load_faults
        met_then.program told calm reply.is.program)
        (held_input old.files files job.input old.load_faults new.load_faults met_then.input told calm reply.is.input)
      where
        by : (met_then.program ≡ faultless_load (file files (program_of job.args)) file_limit)
            ⊎ (met_then.program ≡ Err (load.OutOfMemory memory))
            → (met_then.input ≡ faultless_load_if files job.input text_limit)
            ⊎ (input_fault job.input met_then.input ≡ Some (OutOfMemory memory))
            → Decided
        by (inl program) (inl input) = as_held program input on
        by (inl program) (inr wants) = without_input program wants
        by (inr none) input = without_program none

-- ---- the reply to `run`

abbrev gates_of : Job → Watching → Course → List Gate
gates_of job watching met = watch_gates watching job.base met.waits

module _ (old new : Outside) (files : Files) (job : Job) (watching : Watching) (status : Status) (within : IsJob job)
    (reply : IsReplied (parts_asked watching) old new job (gates_of job watching) status)
    (told : old.files ≡ Some files) (calm : Rose old.load_faults new.load_faults → ⊥) where
  abbrev after_run : Outside
  after_run = before_line new reply.err

  abbrev loaded : Load → Load → Course
  loaded program input = record no_course { program = program; input = input }

  -- all that the run puts out, and the line
  ends : IsWhole old job watching (bytes_of reply.met.program) (bytes_of reply.met.input) reply.found after_run → IsCalm old new
      → Ends old job watching (loaded reply.met.program reply.met.input) status new
  ends w still =
      let all = output_asked watching w.run.guest w.run.trace w.run.stop in
      let line = line_said old new job (gates_of job watching) status reply still in record {
        run = w.run;
        status_is = line.0 ∙ w.status_is;
        leaves = record {
          files = subst (λ files. Holds files None old.files new.files) (sym (append-nil all.files)) w.leaves.files;
          out = w.leaves.out ∙ ap (taken_more old.out.taken) (sym (append-nil all.out));
          err = line.1 ∙ ap (λ taken. taken_more taken (message_of reply.found)) w.leaves.err
              ∙ more_taken old.err.taken all.err (message_of reply.found)
              ∙ ap (λ s. taken_more old.err.taken (all.err ++ message_of s)) (sym line.0);
        };
      }

  certain_run : IfSome reply.met.run (IsWaitedIn old job reply.met after_run)
      → IsCertain old files (words.Run job watching) status new
  certain_run waits =
      decided old new job (gates_of job watching) status reply files
      (IsCalm old new → Ends old job watching (faultless_course files job) status new) told calm
      (λ passes program input found_is left still.
      let all = all_pass (loading job reply.met) passes in
      subst (λ p. Ends old job watching (loaded p (faultless_course files job).input) status new) program
      (subst (λ i. Ends old job watching (loaded reply.met.program i) status new) input
      (by still (ran_on old job watching within reply.found after_run (λ s. s ≡ OutOfMemory memory) refl
      (λ name rose. absurd (still.puts rose)) reply.met all.1.0
      (λ syms refused output runs.
      only_wants (parts_asked watching) old after_run job (image_of (bytes_of reply.met.program))
      (bytes_of reply.met.input) syms all.1.1.1.0 all.1.1.1.1.0 (calm_before old new reply.err reply.says.never_falls still) refused
      output runs)
      reply.met.run reply.is.run waits (record { status_is = found_is; leaves = left })))))
    where
      by : IsCalm old new
          → (reply.found ≡ OutOfMemory memory)
          ⊎ IsWhole old job watching (bytes_of reply.met.program) (bytes_of reply.met.input) reply.found after_run
          → Ends old job watching (loaded reply.met.program reply.met.input) status new
      by still (inl none) = absurd (never old new job (gates_of job watching) status reply none)
      by still (inr w) = ends w still

-- ---- the reply to `report`

module _ (old new : Outside) (files : Files) (job : Job) (positions : Positions) (view : View) (status : Status)
    (reply : IsReplied (parts_asked (watching_at positions)) old new job (λ met. reporting_own met.profile met.report)
    status) (told : old.files ≡ Some files) (calm : Rose old.load_faults new.load_faults → ⊥)
    (within : IsJob job) where
  abbrev mid : Outside
  mid = before_line new reply.err

  abbrev gates : Course → List Gate
  gates met = reporting_own met.profile met.report

  certain_own : IfSome reply.met.run (IsReported old job view reply.met mid)
      → IsCertain old files (words.Report job positions view) status new
  certain_own reported =
      decided old new job gates status reply files (IsCalm old new → IsExactReport old job (files_at positions) view status new)
      told calm
      (λ passes program input found_is left still.
      let all = all_pass (loading job reply.met) passes in
      by still (run_on old job positions view files told within reply.found
      mid (λ s. s ≡ (OutOfMemory memory)) refl
      (λ name rose. absurd (calm rose)) (λ rose. absurd (still.out rose)) reply.met all.0 all.1.0 all.1.1.0
      (λ syms refused output runs.
      only_wants (parts_asked (watching_at positions)) old mid job (image_of (bytes_of reply.met.program))
      (bytes_of reply.met.input) syms all.1.1.1.0 all.1.1.1.1.0 (calm_before old new reply.err reply.says.never_falls still) refused
      output runs)
      reply.is reported (record { status_is = found_is; leaves = left })))
    where
      by : IsCalm old new → (reply.found ≡ (OutOfMemory memory)) ⊎ IsWorked old job positions view reply.found mid
          → IsExactReport old job (files_at positions) view status new
      by still (inl none) = absurd (never old new job gates status reply none)
      by still (inr worked) =
          let line = line_said old new job gates status reply still in
          exact_of old new job positions view reply.found status reply.err worked line.0 line.1

-- ---- want of memory

-- the work came to want of memory
found_wanting : (old new : Outside) (asked : Request) (status : Status) (reply : Replies old asked status new)
    → (outcome (work asked reply.works.course)).status ≡ (OutOfMemory memory) → status ≢ (OutOfMemory memory) → ⊥
found_wanting old new asked status reply is known =
    never_wanting reply.found status reply.says.answer known reply.says.status_is (reply.works.status_is ∙ is)

-- where the words were not read, memory was wanting
unread : (request : Request) (met : Course) → met.words_read ≡ false → (outcome (work request met)).status ≡ OutOfMemory memory
unread request met none =
    subst (λ b. (outcome (work request (record met { words_read = b }))).status ≡ OutOfMemory memory) (sym none)
    (by request)
  where
    by : (request : Request) → (outcome (work request (record met { words_read = false }))).status ≡ OutOfMemory memory
    by (words.Run job watching) = refl
    by (words.Report job positions view) = refl
    by (words.Annotate names view) = refl
    by (words.Demo size) = refl
    by words.Usage = refl

was_read : (old new : Outside) (request : Request) (status : Status) (reply : Replies old request status new)
    → status ≢ OutOfMemory memory
    → reply.works.course.words_read ≡ true
was_read old new request status reply known = go reply.works.course.words_read refl
  where
    go : (b : Bool) → reply.works.course.words_read ≡ b → b ≡ true
    go true e = refl
    go false e = absurd (found_wanting old new request status reply (unread request reply.works.course e) known)

-- ---- every reply

usage_stays : (old new : Outside) (asked : Request) (status : Status) (reply : Replies old asked status new)
    → reply.works.course.words_read ≡ true → status ≢ OutOfMemory memory
    → (outcome (work asked reply.works.course)).status
    ≡ (gates_outcome (check (if reply.works.course.words_read then None else Some (OutOfMemory memory)) ∷ []) Usage).status
    → status ≡ Usage
usage_stays old new asked status reply read known is =
    let found = reply.works.status_is ∙ is
    ∙ ap (λ (b : Bool). (gates_outcome (check (if b then None else Some (OutOfMemory memory)) ∷ []) Usage).status) read in
    stays reply.found status reply.says.answer (ap is_finished found) known reply.says.status_is ∙ found

abbrev replied_run : (old new : Outside) (job : Job) (watching : Watching) (status : Status)
    → Replies old (words.Run job watching) status new → status ≢ (OutOfMemory memory)
    → IsReplied (parts_asked watching) old new job (gates_of job watching) status
replied_run old new job watching status reply known = record {
  met = reply.works.course;
  read = was_read old new (words.Run job watching) status reply known;
  found = reply.found;
  err = reply.err;
  is = reply.works.met.0;
  status_is = reply.works.status_is;
  leaves = reply.works.leaves;
  rises = reply.never_falls;
  says = reply.says;
  known = known;
}

abbrev replied_report : (old new : Outside) (job : Job) (positions : Positions) (view : View) (status : Status)
    → Replies old (words.Report job positions view) status new
    → status ≢ (OutOfMemory memory) → IsReplied (parts_asked (watching_at positions)) old new job
    (λ met. reporting_own met.profile met.report) status
replied_report old new job positions view status reply known = record {
  met = reply.works.course;
  read = was_read old new (words.Report job positions view) status reply known;
  found = reply.found;
  err = reply.err;
  is = reply.works.met.0;
  status_is = reply.works.status_is;
  leaves = reply.works.leaves;
  rises = reply.never_falls;
  says = reply.says;
  known = known;
}

-- what `annotate` comes to where the words were read
by_words : (names : List (List ℕ)) (view : View) (met : Course) → met.words_read ≡ true
    → outcome (work (words.Annotate names view) met) ≡ gates_outcome (annotating view met.profile met.report) Done
by_words names view met read =
    ap (λ (b : Bool). gates_outcome (check (if b then None else Some (OutOfMemory memory)) ∷ annotating view met.profile met.report) Done)
    read

annotated : (old new : Outside) (names : List (List ℕ)) (view : View) (status : Status)
    (reply : Replies old (words.Annotate names view) status new) → reply.works.course.words_read ≡ true
    → Annotates old names view reply.found (before_line new reply.err)
annotated old new names view status reply read =
    let met = reply.works.course in
    let comes = by_words names view met read in record {
      found = met.profile;
      report = met.report;
      met = reply.works.met;
      status_is = reply.works.status_is ∙ ap (λ (o : Outcome). o.status) comes;
      leaves = subst (λ (o : Outcome). Leaves old o.output (before_line new reply.err)) comes reply.works.leaves;
    }

pub IsComplete-replies : (old new : Outside) (asked : Request) (status : Status) → IsWithin asked
    → Replies old asked status new → IsComplete old asked status new
IsComplete-replies old new (words.Run job watching) status within reply = λ files told calm known.
    certain_run old new files job watching status within.0 (replied_run old new job watching status reply known) told
    calm reply.works.met.1
IsComplete-replies old new (words.Report job positions view) status within reply = λ files told calm known.
    certain_own old new files job positions view status (replied_report old new job positions view status reply known)
    told calm within.0 reply.works.met.1
IsComplete-replies old new (words.Annotate names view) status within reply = λ files told calm known.
    certain_report old new reply.err files names view reply.found status
    (annotated old new names view status reply (was_read old new (words.Annotate names view) status reply known))
    reply.says told calm known
IsComplete-replies old new (words.Demo size) status within reply = λ files told calm known still.
    certain_demo old new files size status reply (was_read old new (words.Demo size) status reply known) told calm known
    still
IsComplete-replies old new words.Usage status within reply = λ files told calm known.
    usage_stays old new words.Usage status reply (was_read old new words.Usage status reply known) known refl
