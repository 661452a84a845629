-- Whose fault each stage says it was.
use Rattle.std.proofs.Common.{length, ◌≤◌, ◌≡◌, ◌⊎◌, ℕ, ◌<◌, ◌++◌, Bool, true, false, if◌then◌else◌, List, [], ◌∷◌}
use Rattle.std.proofs.Common.{drop, Option, Some, None, option_map, Result, Ok, Err, inl, inr, refl, sym, ap, subst}
use Rattle.std.proofs.Common.{◌∙◌, append_assoc, append-nil, arith, zero, suc}
use Rattle.std.proofs.lemmas.Option.{same_Some}
use Rattle.byte_text.specs.Memory.{memory}
use Rattle.event_costs.specs.declared.outcome.End.{End}
use Rattle.event_costs.specs.declared.outcome.End.TheVariants as end
use Rattle.outside.specs.Load.{Load}
use Rattle.outside.specs.Outside.{Log, done_then, nothing_done, puts_of}
use Rattle.std.proofs.lemmas.Bool.{eq-eqb}
use Rattle.outside.specs.Journal.{AreRefusedOf, AreWritesOf, AreWrittenTo, Call, Loaded, OnAnswer, Put, Wrote}
use Rattle.outside.specs.declared.folder.LoadError.TheVariants as load
use Rattle.outside.specs.declared.folder.PutError.{PutError}
use Rattle.outside.specs.declared.folder.PutError.TheVariants as put
use Rattle.outside.specs.declared.sink.WriteError.{WriteError}
use Rattle.outside.specs.declared.sink.WriteError.TheVariants as write
use Rattle.elf_read.specs.declared.error.ElfError.{ElfError}
use Rattle.elf_read.specs.declared.error.ElfError.TheVariants as elf
use Rattle.cg_read.specs.AddressReading.{first_bad_of}
use Rattle.cg_read.specs.Meaning.{or_else}
use Rattle.cg_read.specs.Merge.{agree}
use Rattle.cg_read.specs.Profiles.{Contents}
use Rattle.cg_read.specs.declared.error.FormatError.{FormatError}
use Rattle.cg_read.specs.declared.error.FormatError.TheVariants as format
use Rattle.cg_read.specs.declared.error.SumError.{SumError}
use Rattle.cg_read.specs.declared.error.SumError.TheVariants as sum
use Rattle.profile_files.specs.Calls.{IsAsked, HasFault, Reads}
use Rattle.profile_files.specs.Reading as reading
use Rattle.profile_files.specs.WantedFile.{WantedFile}
use Rattle.profile_files.specs.declared.fault.ReadFault.{ReadFault}
use Rattle.profile_files.specs.declared.fault.ReadFault.TheVariants as read
use Rattle.profile_run.specs.Program.{Program}
use Rattle.profile_run.specs.Parts.{Writing}
use Rattle.profile_run.specs.Runs.{Does, RunEnd, HasFailedBehind}
use Rattle.profile_run.specs.Trace.{piece_to}
use Rattle.profile_run.specs.declared.run_fault.RunFault.{RunFault}
use Rattle.profile_run.specs.declared.run_fault.RunFault.TheVariants as fault
use Rattle.command_status.specs.Ends.{end_status}
use Rattle.command_status.specs.Lines.{message_of}
use Rattle.command_status.specs.Numbers.{is_finished}
use Rattle.command_status.specs.declared.status.Status.{Status}
use Rattle.command_status.specs.declared.status.Status.TheVariants as status
use Rattle.command_words.specs.Request as words
use Rattle.command_words.specs.Request.{Addresses, Request, Contexts, Nothing, Waits, Watching}
use Rattle.command_steps.specs.Annotate.{read_status, write_fault}
use Rattle.profile_cli.specs.Blame.{EndsWith, IsToBlame, LastWrite}
use Rattle.profile_cli.specs.Calls.{DoesAsked, MakesDemo, SumsUp, SumsUpIf}
use Rattle.command_steps.specs.Stages.{final_status, AreWritesOrWants, Gives, Goes, Quiet, ReadsAll, Stops, Then, asking}
use Rattle.command_steps.specs.Stages.{read_as, writing}
use Rattle.command_steps.specs.Summary.{MakesTotals, totals_fault}
use Rattle.profile_cli.specs.Order.{elf_status, fault_status}
use Rattle.command_steps.specs.Loading.{load_fault}
use Rattle.command_steps.specs.Saying.{after_line}
use Rattle.profile_cli.specs.Stages.{PutsWaits}
use Rattle.profile_cli.specs.Watching.{put_fault, waits_name}
use Rattle.profile_cli.proofs.ShortLemmas.{StopsSo, none_stops, some_stops}
use Rattle.profile_cli.proofs.SortLemmas.{AllSuch, IsSort, gives_such, has_such, in_err, job_such, report_such}
use Rattle.profile_cli.proofs.SortLemmas.{run_such, then_such, wanting, writes_such}

-- ---- what is behind something else

behind : {X : Type 0} (before xs : List X) (x : X) → EndsWith xs x → EndsWith (before ++ xs) x
behind before xs x (front, is) = (before ++ front, ap (λ ys. before ++ ys) is ∙ sym (append_assoc before front (x ∷ [])))

-- The one to blame stays so behind other calls; a write that failed, where a write is to blame.
blame_as : (s : Status) (old new : Log)
    → ((call : Call) → EndsWith old.calls call → EndsWith new.calls call)
    → (s ≡ status.OutFault → LastWrite old.out ⊎ LastWrite old.err → LastWrite new.out ⊎ LastWrite new.err)
    → IsToBlame s old → IsToBlame s new
blame_as (status.LoadFault name) old new calls writes (limit, is) = (limit, calls _ is)
blame_as (status.PutFault name) old new calls writes (bytes, is) = (bytes, calls _ is)
blame_as status.OutFault old new calls writes is = writes refl is
blame_as (status.TooLong name len) old new calls writes (limit, is) = (limit, calls _ is)
blame_as _ old new calls writes is = tt

last_behind : (before writes : List Wrote) → LastWrite writes → LastWrite (before ++ writes)
last_behind before writes (piece, is) = (piece, behind before writes _ is)

pub to_blame : (s : Status) (before log : Log) → IsToBlame s log → IsToBlame s (done_then before log)
to_blame s before log =
    blame_as s log (done_then before log) (λ call. behind before.calls log.calls call) (λ _. by)
  where
    by : LastWrite log.out ⊎ LastWrite log.err
        → LastWrite (before.out ++ log.out) ⊎ LastWrite (before.err ++ log.err)
    by (inl out) = inl (last_behind before.out log.out out)
    by (inr err) = inr (last_behind before.err log.err err)

-- ---- calls and gates

refused_load : (name : List ℕ) (limit : ℕ) (found : Load)
    → StopsSo (λ s. IsToBlame s (asking (Loaded name limit found ∷ []))) (load_fault name found)
refused_load name limit (Ok bytes) = none_stops _
refused_load name limit (Err load.Failed) = some_stops _ _ (limit, ([], refl))
refused_load name limit (Err (load.TooLong len)) = some_stops _ _ (limit, ([], refl))
refused_load name limit (Err (load.OutOfMemory _)) = some_stops _ _ tt

refused_elf : (error : ElfError) (log : Log) → IsToBlame (elf_status error) log
refused_elf (elf.OutOfMemory _) log = tt
refused_elf _ log = tt

-- the writes of a piece that failed
failed_write : (left : List ℕ) (writes : List Wrote) → AreWritesOf {U = Unit {0}} left writes (Err write.Failed)
    → LastWrite writes
failed_write left [] are = absurd (cc are.1)
failed_write left (wrote ∷ writes) are =
    by (λ count rest. failed_write (drop count left) writes rest) wrote.answer refl are.1
  where
    by : ((count : ℕ) → AreWritesOf {U = Unit {0}} (drop count left) writes (Err write.Failed) → LastWrite writes)
        → (answer : Result ℕ WriteError) → wrote.answer ≡ answer
        → OnAnswer answer
        (λ count. (0 < count) × (count ≤ length left)
        × AreWritesOf {U = Unit {0}} (drop count left) writes (Err write.Failed))
        (λ error. (writes ≡ []) × (write.Failed ≡ error)) → LastWrite (wrote ∷ writes)
    by more (Ok count) is next = last_behind (wrote ∷ []) writes (more count next.2)
    by more (Err error) is next = (
      wrote.piece,
      ([], λ i. record { piece = wrote.piece; answer = (is ∙ ap (λ e. Err e) (sym next.1)) i } ∷ next.0 i),
    )

not_failed : {U : Type 0} → ◌≡◌ {A = Result U WriteError} (Err write.Failed) (Err (write.OutOfMemory memory)) → ⊥
not_failed e = cc

refused_write : (bytes : List ℕ) (writes : List Wrote) (answer : Result (Unit {0}) WriteError)
    → AreWritesOrWants bytes writes answer → StopsSo (λ s. IsToBlame s (writing writes)) (write_fault answer)
refused_write bytes writes (Ok done) are = none_stops _
refused_write bytes writes (Err write.Failed) (inl are) = some_stops _ _ (inl (failed_write bytes writes are))
refused_write bytes writes (Err write.Failed) (inr wants) = absurd (not_failed wants.1)
refused_write bytes writes (Err (write.OutOfMemory _)) are = some_stops _ _ tt

-- ---- the run

-- the sink of the piece that failed
failed_to : (descriptor : ℕ) (piece : ℕ × List ℕ) (output : Option (ℕ × List ℕ)) (writes : List Wrote)
    → output ≡ Some piece → piece.0 ≡ descriptor
    → AreRefusedOf write.Failed (piece_to descriptor output) writes → LastWrite writes
failed_to descriptor piece output writes is to refused =
    failed_write piece.1 writes
    (subst (λ ps. AreRefusedOf write.Failed ps writes)
    (ap (piece_to descriptor) is
    ∙ ap (λ (b : Bool). if b then piece.1 ∷ [] else []) (eq-eqb piece.0 descriptor to)) refused)

last_of : (error : WriteError) (pieces next : List (List ℕ)) (writes : List Wrote)
    (are : AreWrittenTo error pieces next writes) → LastWrite are.last → LastWrite writes
last_of error pieces next writes are last =
    subst LastWrite (sym are.together) (last_behind are.before are.last last)

failed_behind : (writing : Writing) (guest : Program) (log : Log) → HasFailedBehind writing guest log
    → LastWrite log.out ⊎ LastWrite log.err
failed_behind writing guest log f = by f.to
  where
    by : (f.piece.0 ≡ 1) ⊎ (f.piece.0 ≡ 2) → LastWrite log.out ⊎ LastWrite log.err
    by (inl one) = inl (last_of _ _ _ log.out f.out (failed_to 1 f.piece f.last.output f.out.last f.is_piece one
        f.out.refused))
    by (inr two) = inr (last_of _ _ _ log.err f.err (failed_to 2 f.piece f.last.output f.err.last f.is_piece two
        f.err.refused))

stopped_run : (writing : Writing) (guest : Program) (refused : RunFault) (log : Log)
    → Does writing guest (Err refused) log → IsToBlame (fault_status guest.options.base refused) log
stopped_run writing guest fault.GuestFull log does = tt
stopped_run writing guest (fault.ArgsTooLong len) log does = tt
stopped_run writing guest (fault.PutFault part thread) log does = (does.text, (puts_of does.done, does.calls))
stopped_run writing guest fault.OutFault log does = failed_behind writing guest log does
stopped_run writing guest (fault.OutOfMemory _) log does = tt

-- ---- stages

-- a stage blames who was at fault
blames : IsSort IsToBlame
blames = record {
  later = to_blame;
  wants = λ log. tt;
  usage = λ log. tt;
  elf = refused_elf;
  load = refused_load;
  run = stopped_run;
  write = refused_write;
}

abbrev Blames : {A : Type 0} → (Log → Result A Status → Type 0) → Type 0
Blames Stage = AllSuch IsToBlame Stage

wants_blame : (s : Status) (log : Log) → s ≡ status.OutOfMemory memory → IsToBlame s log
wants_blame = wanting IsToBlame blames

-- ---- the report on waiting

refused_put : (name text : List ℕ) (answer : Result (Unit {0}) PutError)
    → StopsSo (λ s. IsToBlame s (asking (Put name text answer ∷ []))) (put_fault name answer)
refused_put name text (Ok done) = none_stops _
refused_put name text (Err put.Failed) = some_stops _ _ (text, ([], refl))
refused_put name text (Err (put.OutOfMemory _)) = some_stops _ _ tt

waits_blame : (w : Watching) (guest : Program) → Blames (PutsWaits w guest)
waits_blame Nothing guest = gives_such IsToBlame blames tt
waits_blame (Contexts callers) guest = gives_such IsToBlame blames tt
waits_blame Addresses guest = gives_such IsToBlame blames tt
waits_blame Waits guest = by
  where
    by : Blames (PutsWaits Waits guest)
    by log s (inl wants) = wants_blame s log (in_err wants.comes)
    by log s (inr has) =
        subst (IsToBlame s) (sym has.log_is)
        (has_such IsToBlame blames _ _ (refused_put (waits_name guest.options.base) has.text has.answer) s has.passes)

-- ---- a report

-- a file that isn't read
refused_lines : (name : List ℕ) (bad : Option FormatError) (behind : Option ReadFault) (f : ReadFault) (log : Log)
    → or_else (option_map (reading.refusal_of name) bad) behind ≡ Some f
    → ((g : ReadFault) → behind ≡ Some g → IsToBlame (read_status g) log) → IsToBlame (read_status f) log
refused_lines name None behind f log is more = more f is
refused_lines name (Some bad) behind f log is more =
    subst (λ g. IsToBlame (read_status g) log) (same_Some _ _ is) (by bad)
  where
    by : (bad : FormatError) → IsToBlame (read_status (reading.refusal_of name bad)) log
    by (format.OutOfMemory _) = tt
    by _ = tt

other_events : (name : List ℕ) (agreed : Bool) (log : Log) (g : ReadFault)
    → (if agreed then None else Some (read.EventsDiffer name)) ≡ Some g → IsToBlame (read_status g) log
other_events name true log g is = absurd (cc)
other_events name false log g is = subst (λ h. IsToBlame (read_status h) log) (same_Some _ _ is) tt

refused_file : (wanted : WantedFile) (before : List (List ℕ)) (found : Load) (f : ReadFault)
    → reading.file_fault wanted before found ≡ Some f
    → IsToBlame (read_status f) (asking (Loaded wanted.name wanted.limit found ∷ []))
refused_file wanted before (Ok bytes) f is =
    refused_lines wanted.name (first_bad_of bytes)
    (reading.events_fault wanted.name before (reading.events_of bytes)) f _ is
    (λ g same. other_events wanted.name (agree before (reading.events_of bytes)) _ g same)
refused_file wanted before (Err load.Failed) f is =
    subst (λ g. IsToBlame (read_status g) (asking (Loaded wanted.name wanted.limit (Err load.Failed) ∷ [])))
    (same_Some _ _ is) (wanted.limit, ([], refl))
refused_file wanted before (Err (load.TooLong len)) f is =
    subst (λ g. IsToBlame (read_status g) (asking (Loaded wanted.name wanted.limit (Err (load.TooLong len)) ∷ [])))
    (same_Some _ _ is) (wanted.limit, ([], refl))
refused_file wanted before (Err (load.OutOfMemory refused)) f is =
    subst (λ g. IsToBlame (read_status g) (asking (Loaded wanted.name wanted.limit (Err (load.OutOfMemory refused)) ∷ [])))
    (same_Some _ _ is) tt

abbrev fault_in : {X : Type 0} → Result X ReadFault → ReadFault
fault_in (Ok x) = read.OutOfMemory memory
fault_in (Err f) = f

reads_blame : (first : Contents) (files : List WantedFile) (calls : List Call) (f : ReadFault)
    → Reads first files calls (Err f) → IsToBlame (read_status f) (asking calls)
reads_blame first [] calls f (none, inl ok) = absurd (cc ok)
reads_blame first [] calls f (none, inr wants) =
    subst (λ g. IsToBlame (read_status g) (asking calls)) (sym (ap fault_in wants)) tt
reads_blame first (wanted ∷ files) calls f (inl at) =
    subst (λ g. IsToBlame (read_status g) (asking calls)) (sym (ap fault_in at.result_is))
    (by at.calls_are at.why)
  where
    wanting_blames : at.fault ≡ read.OutOfMemory memory → IsToBlame (read_status at.fault) (asking calls)
    wanting_blames wants = subst (λ g. IsToBlame (read_status g) (asking calls)) (sym wants) tt

    by : IsAsked wanted at.found calls → HasFault (reading.file_fault wanted first.events at.found) at.fault
        → IsToBlame (read_status at.fault) (asking calls)
    by asked (inl wants) = wanting_blames wants
    by (inl one) (inr stops) =
        subst (λ cs. IsToBlame (read_status at.fault) (asking cs)) (sym one)
        (refused_file wanted first.events at.found at.fault stops)
    by (inr (none, wants)) (inr stops) =
        wanting_blames (sym (same_Some _ _
        (ap (reading.file_fault wanted first.events) (sym wants) ∙ stops)))
reads_blame first (wanted ∷ files) calls f (inr (next, later, goes, more)) =
    subst (λ cs. IsToBlame (read_status f) (asking cs)) (sym goes.calls_are)
    (to_blame (read_status f) (asking (Loaded wanted.name wanted.limit (Ok goes.bytes) ∷ [])) (asking later)
    (reads_blame next files later f more))

read_blames : (first : Contents) (files : List WantedFile) → Blames (ReadsAll first files)
read_blames first files log s all = by all.found all.reads all.result_is
  where
    by : (found : Result Contents ReadFault) → Reads first files all.calls found → Err s ≡ read_as found
        → IsToBlame s log
    by (Ok p) reads is = absurd (cc is)
    by (Err f) reads is =
        subst (λ t. IsToBlame t log) (sym (in_err is))
        (subst (λ l. IsToBlame (read_status f) l) (sym all.log_is) (reads_blame first files all.calls f reads))

-- ---- the summary of a demonstration

no_totals : (p : Contents) → Blames (Quiet (MakesTotals p))
no_totals p log s makes = by makes.comes.0 makes.comes.2
  where
    by : (error : SumError) → totals_fault (Err error) ≡ Some s → IsToBlame s log
    by (sum.SumLimit event) = some_stops (λ t. IsToBlame t log) _ tt s
    by (sum.OutOfMemory _) = some_stops (λ t. IsToBlame t log) _ tt s

sums_blame : (size len code : ℕ) (run : RunEnd) → Blames (SumsUp size len code run)
sums_blame size len code run =
    then_such IsToBlame blames _ _ (read_blames _ _) (λ p.
    then_such IsToBlame blames _ _ (no_totals p) (λ totals. writes_such IsToBlame blames _))

-- ---- commands

-- what it comes to blames who was at fault
abbrev pub MeetsBlame : (Log → Result Status Status → Type 0) → Type 0
MeetsBlame Stage = (log : Log) (r : Result Status Status) → Stage log r → IsToBlame (final_status r) log

then_met : {A : Type 0} (First : Log → Result A Status → Type 0) (Next : A → Log → Result Status Status → Type 0)
    → Blames First → ((came : A) → MeetsBlame (Next came)) → MeetsBlame (Then First Next)
then_met First Next first next log r (Stops t is stops) =
    subst (λ q. IsToBlame (final_status q) log) (sym is) (first log t stops)
then_met First Next first next log r (Goes came before later is ran goes) =
    subst (IsToBlame (final_status r)) (sym is) (to_blame (final_status r) before later (next came later r goes))

gives_met : (s : Status) → ((log : Log) → IsToBlame s log) → MeetsBlame (Gives s)
gives_met s none log r given = subst (λ q. IsToBlame (final_status q) log) (sym given.comes) (none log)

end_met : (stop : End) → MeetsBlame (Gives (end_status stop))
end_met stop = gives_met (end_status stop) (by stop)
  where
    by : (stop : End) (log : Log) → IsToBlame (end_status stop) log
    by (end.Exited code) log = exits code log
      where
        exits : (code : ℕ) (log : Log) → IsToBlame (end_status (end.Exited code)) log
        exits zero log = tt
        exits (suc code) log = tt
    by _ log = tt

demo_met : (size len : ℕ) (run : RunEnd) (stop : End) → MeetsBlame (SumsUpIf size len run stop)
demo_met size len run (end.Exited code) =
    then_met _ _ (sums_blame size len code run) (λ summed. gives_met status.Done (λ log. tt))
demo_met size len run stop = end_met stop

unmade_demo : (size : ℕ) → Blames (Quiet (MakesDemo size))
unmade_demo size log s makes = wants_blame s log makes.comes

pub asked_blames : (asked : Request) → MeetsBlame (DoesAsked asked)
asked_blames (words.Run job watching) =
    then_met _ _ (job_such IsToBlame blames _ job) (λ ran.
    then_met _ _ (waits_blame watching ran.0) (λ put. end_met ran.1.end))
asked_blames (words.Report job positions view) =
    then_met _ _ (job_such IsToBlame blames _ job) (λ ran.
    then_met _ _ (read_blames _ _) (λ p.
    then_met _ _ (report_such IsToBlame blames view p (λ position log over. tt)) (λ shown. end_met ran.1.end)))
asked_blames (words.Annotate names view) =
    then_met _ _ (read_blames _ _) (λ p.
    then_met _ _ (report_such IsToBlame blames view p (λ position log over. tt)) (λ shown. gives_met status.Done (λ log. tt)))
asked_blames (words.Demo size) =
    then_met _ _ (unmade_demo size) (λ file.
    then_met _ _ (run_such IsToBlame blames _ _ file []) (λ ran. demo_met size (length file) ran.1 ran.1.end))
asked_blames words.Usage = gives_met status.Usage (λ log. tt)

-- ---- the line

abbrev pub lined : Log → List Wrote → Log
lined work line = done_then work (record nothing_done { err = line })

same_calls : (work : Log) (call : Call) → EndsWith work.calls call → EndsWith (work.calls ++ []) call
same_calls work call (front, is) = (front, append-nil work.calls ∙ is)

no_line : (line : List Wrote) → AreWritesOf {U = Unit {0}} [] line (Ok tt) → line ≡ []
no_line [] are = refl
no_line (wrote ∷ line) are = absurd (by wrote.answer are.1)
  where
    by : (answer : Result ℕ WriteError)
        → OnAnswer answer
        (λ count. (0 < count) × (count ≤ 0) × AreWritesOf {U = Unit {0}} (drop count []) line (Ok tt))
        (λ error. (line ≡ []) × ⊥) → ⊥
    by (Ok count) next = omega (arith, next.0, next.1)
    by (Err error) next = next.1

silent : message_of status.OutFault ≡ []
unfolding message_of
silent = refl

-- behind a line that was written
behind_line : (s : Status) (work : Log) (line : List Wrote)
    → AreWritesOf {U = Unit {0}} (message_of s) line (Ok tt) → IsToBlame s work → IsToBlame s (lined work line)
behind_line s work line are = blame_as s work (lined work line) (same_calls work) by
  where
    as_before : LastWrite work.out ⊎ LastWrite work.err → LastWrite (work.out ++ []) ⊎ LastWrite (work.err ++ [])
    as_before (inl out) = inl (subst LastWrite (sym (append-nil work.out)) out)
    as_before (inr err) = inr (subst LastWrite (sym (append-nil work.err)) err)

    by : s ≡ status.OutFault → LastWrite work.out ⊎ LastWrite work.err
        → LastWrite (work.out ++ []) ⊎ LastWrite (work.err ++ line)
    by is last =
        subst (λ (l : List Wrote). LastWrite (work.out ++ []) ⊎ LastWrite (work.err ++ l))
        (sym (no_line line
        (subst (λ bytes. AreWritesOf {U = Unit {0}} bytes line (Ok tt)) (ap message_of is ∙ silent) are)))
        (as_before last)

-- behind one that was not
failed_line : (s : Status) (work : Log) (line : List Wrote) → LastWrite line → IsToBlame s work
    → IsToBlame s (lined work line)
failed_line s work line last =
    blame_as s work (lined work line) (same_calls work) (λ _ _. inr (last_behind work.err line last))

pub line_blames : (found : Status) (work : Log) (line : List Wrote) (answer : Result (Unit {0}) WriteError)
    → AreWritesOrWants (message_of found) line answer → IsToBlame found work
    → IsToBlame (after_line found answer) (lined work line)
line_blames found work line (Ok done) (inl are) is = behind_line found work line are is
line_blames found work line (Ok done) (inr wants) is = absurd (cc wants.1)
line_blames found work line (Err write.Failed) (inr wants) is = absurd (not_failed wants.1)
line_blames found work line (Err write.Failed) (inl are) is = by (is_finished found)
  where
    last : LastWrite line
    last = failed_write (message_of found) line are

    by : (finished : Bool) → IsToBlame (if finished then status.OutFault else found) (lined work line)
    by true = inr (last_behind work.err line last)
    by false = failed_line found work line last is
line_blames found work line (Err (write.OutOfMemory _)) are is = tt
