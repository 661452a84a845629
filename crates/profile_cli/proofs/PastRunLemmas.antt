-- Behind a run that came to its end the report is on the run, or the work stops.
use Rattle.std.proofs.Common.{◌≡◌, ◌⊎◌, ℕ, ◌++◌, List, [], ◌∷◌, take, Option, None, Some, option_map, IfOk, IfSome}
use Rattle.std.proofs.Common.{Result, Ok, Err, refl, sym, ap, subst, ◌∙◌, arith, inl, inr, append-nil}
use Rattle.std.proofs.lemmas.List.{take_all}
use Rattle.outside.specs.Files.{Files, Rose}
use Rattle.outside.specs.Outside.{Holds, Leaves, Named, Outside, Output, Stream, and_then, nothing, with_files}
use Rattle.outside.specs.Write.{taken_more}
use Rattle.outside.specs.declared.sink.WriteError.{WriteError}
use Rattle.outside.specs.declared.sink.WriteError.TheVariants as write
use Rattle.elf_read.specs.Image.{image_of}
use Rattle.elf_read.specs.Refusal.{refusal}
use Rattle.elf_read.specs.declared.error.ElfError.{ElfError}
use Rattle.sym_map.specs.SymbolMap.{IsSound, SymbolMap}
use Rattle.cg_read.specs.Profiles.{Contents, IsProfile}
use Rattle.annotate.specs.Report.{IsReportOf}
use Rattle.annotate.specs.declared.error.ReportError.{ReportError}
use Rattle.annotate.specs.declared.error.ReportError.TheVariants as report
use Rattle.profile_files.specs.Joined.{no_rows}
use Rattle.profile_files.specs.Loads.{IsLoad}
use Rattle.outside.specs.Load.{Load, bytes_of}
use Rattle.outside.specs.declared.folder.LoadError.TheVariants as load
use Rattle.event_costs.specs.Costs.{event_names, events_shown}
use Rattle.profile_files.specs.Reading.{IsReading}
use Rattle.profile_files.specs.WantedFile.{WantedFile}
use Rattle.profile_files.specs.declared.fault.ReadFault.{ReadFault}
use Rattle.profile_run.specs.Program.{Program, head_of_run, CanRun}
use Rattle.profile_run.specs.Parts.{ArePartsOf, Writing}
use Rattle.profile_run.specs.Runs.{RunEnd, IsWhole, Runs}
use Rattle.profile_run.specs.Trace.{Makes, sent_bytes, steps_of}
use Rattle.profile_run.specs.declared.run_fault.RunFault.{RunFault}
use Rattle.reads_back.specs.Joined.{no_rows_of}
use Rattle.run_laws.specs.OwnParts.{IsOwnFault, with_their_lengths}
use Rattle.profile_cli.proofs.Others.{none_over, more_taken}
use Rattle.report_laws.specs.Exact.{parts_wanted}
use Rattle.profile_cli.proofs.Others.{same_parts}
use Rattle.command_status.specs.Ends.{end_status}
use Rattle.command_status.specs.Lines.{message_of}
use Rattle.command_status.proofs.EndLemmas.{message_of-end}
use Rattle.command_status.specs.declared.status.Status.{Status}
use Rattle.command_status.specs.declared.status.Status.TheVariants.{LoadFault, OutFault, OutOfMemory}
use Rattle.command_words.specs.Request.{Job, Positions, View, watching_at}
use Rattle.command_words.specs.Within.{IsJob}
use Rattle.command_steps.specs.Annotate.{IsMade, IsShown, IsTaken, read_fault, read_status, report_fault}
use Rattle.command_steps.specs.Annotate.{report_options, reporting, text_of, write_fault, AreTextsFor, IsSortPlace}
use Rattle.command_steps.specs.Annotate.{ReportOutcome}
use Rattle.profile_cli.specs.Course.{Course, RunOutcome}
use Rattle.outside.specs.Limits.{text_limit, file_limit}
use Rattle.command_steps.specs.Loading.{IsLoadIf, input_fault, load_fault}
use Rattle.command_steps.specs.Gates.{Outcome, at_gate, gates_outcome}
use Rattle.profile_cli.specs.HasRun.{HasRun, RunFiles}
use Rattle.profile_cli.specs.Headline.{IsExactReport, ReportOn}
use Rattle.profile_cli.specs.Order.{elf_fault, elf_status, fault_status, last_status, run_fault}
use Rattle.profile_cli.specs.Order.{run_gate, run_status}
use Rattle.profile_cli.specs.OwnReport.{IsReported, parts_to_read, once_put, reporting_own}
use Rattle.profile_cli.specs.Program.{IsMapOf, guest_of}
use Rattle.profile_cli.specs.Reply.{IsRan, IsRun, guest_met}
use Rattle.profile_cli.specs.Watching.{files_at, parts_asked}
use Rattle.profile_cli.specs.Words.{program_of}
use Rattle.profile_cli.proofs.ReadBackLemmas.{CanBeReadBack, IsReadAs, entries_small, none_first, own_files}
use Rattle.profile_cli.proofs.ReadBackLemmas.{report_on, own_read, texts_over}
use Rattle.byte_text.specs.Memory.{memory}

-- ---- gates behind the run put nothing

pub record IsQuiet (output : Output) : Type 0 where
  pub files : output.files ≡ []
  pub refused : output.refused ≡ None

pub quiet_gate : (stops : Option Status) (rest : Outcome) → IsQuiet rest.output
    → IsQuiet (at_gate stops nothing rest).output
quiet_gate (Some stop) rest quiet = record { files = refl; refused = refl }
quiet_gate None rest quiet = record { files = quiet.files; refused = quiet.refused }

pub quiet_write : (stops : Option Status) (bytes : List ℕ) (last : Status)
    → IsQuiet (at_gate stops (record nothing { out = bytes }) (gates_outcome [] last)).output
quiet_write (Some stop) bytes last = record { files = refl; refused = refl }
quiet_write None bytes last = record { files = refl; refused = refl }

quiet_reporting : (shown : Option ReportOutcome) (last : Status) → IsQuiet (gates_outcome (reporting shown) last).output
quiet_reporting None last = record { files = refl; refused = refl }
quiet_reporting (Some s) last =
    quiet_gate (report_fault s.report) _ (quiet_write (write_fault s.written) (take s.count (text_of s.report)) last)

quiet_report : (found : Result Contents ReadFault) (shown : Option ReportOutcome) (last : Status)
    → IsQuiet (gates_outcome (reporting_own found shown) last).output
quiet_report found shown last =
    quiet_gate (read_fault found) (gates_outcome (reporting shown) last) (quiet_reporting shown last)

-- ---- behind the run

-- what the work comes to before the line is written
pub record IsWorked (old : Outside) (job : Job) (positions : Positions) (view : View) (found : Status)
    (mid : Outside) : Type 0 where
  pub run : HasRun old job (files_at positions) found mid
  pub can : CanRun run.run.guest
  pub report_on : ReportOn run.run.guest run.run.trace view
  pub sources : AreTextsFor view.auto mid.files old.load_faults mid.load_faults report_on.report.profile report_on.texts
  pub out : mid.out.taken ≡ taken_more old.out.taken (sent_bytes 1 run.run.trace ++ report_on.text)
  pub err : mid.err.taken ≡ taken_more old.err.taken (sent_bytes 2 run.run.trace)

-- the work came to this, after this was put out
pub record At (old : Outside) (found : Status) (mid : Outside) (before : Output) (after : Outcome) : Type 0 where
  pub status_is : found ≡ after.status
  pub leaves : Leaves old (and_then before after.output) mid

-- ---- what was loaded

pub loaded_is : (name : List ℕ) (l : Load) → load_fault name l ≡ None → l ≡ Ok (bytes_of l)
loaded_is name (Ok bytes) none = refl
loaded_is name (Err load.Failed) none = absurd (cc)
loaded_is name (Err (load.TooLong len)) none = absurd (cc)
loaded_is name (Err (load.OutOfMemory _)) none = absurd (cc)

pub fed_is : (old mid : Outside) (name : Option (List ℕ)) (l : Load)
    → IsLoadIf old.files name text_limit old.load_faults mid.load_faults l → input_fault name l ≡ None
    → l ≡ Ok (bytes_of l)
fed_is old mid None l is none = is ∙ ap (λ (k : Load). let o : Load = Ok (bytes_of k) in o) (sym is)
fed_is old mid (Some name) l is none = loaded_is name l none

pub accepted_is : (refused : Option ElfError) → option_map elf_status refused ≡ None → refused ≡ None
accepted_is None none = refl
accepted_is (Some error) none = absurd (cc)

-- ---- the gates

-- Where the work behind the run stops, its status is of the sort that is given; else the report is on the run.
module _ (old : Outside) (job : Job) (positions : Positions) (view : View) (contents : Files)
    (told : old.files ≡ Some contents)
    (within : IsJob job) (found : Status) (mid : Outside) (Stops : Status → Type 0) (wants : Stops (OutOfMemory memory))
    (lost : (name : List ℕ) → Rose old.load_faults mid.load_faults → Stops (LoadFault name))
    (unwritten : Rose old.out.faults mid.out.faults → Stops OutFault) where
  abbrev Goal : Type 0
  Goal = Stops found ⊎ IsWorked old job positions view found mid

  abbrev parts : Program → Writing
  parts = parts_asked (watching_at positions)

  abbrev back : CanBeReadBack parts
  back = own_read positions

  module _ (program input : List ℕ)
      (loaded : IsLoad old.files (program_of job.args) file_limit old.load_faults mid.load_faults (Ok program))
      (fed : IsLoadIf old.files job.input text_limit old.load_faults mid.load_faults (Ok input))
      (syms : SymbolMap) (symbols : IsMapOf (image_of program) syms) (ended : RunEnd) (output : Output) where
    abbrev guest : Program
    guest = guest_of job (image_of program) input syms

    module _ (ran : IsWhole (parts guest) guest ended output) (can : CanRun guest) where
      abbrev last : Status
      last = end_status ended.end

      abbrev put : List Named
      put = (parts guest).whole (steps_of ran.trace) ran.stop.tried

      makes : Makes guest ran.trace
      makes = record { last = ran.is.last; run = ran.is.run }

      module _ (holds : mid.files ≡ option_map (with_files put) old.files) where
        -- the report is written
        written_on : (p : Contents) → IsReadAs guest ran.trace p → (s : ReportOutcome) (text : List ℕ)
            → IsReportOf p (report_options view s.sort) s.texts text → IsSortPlace view.sort p s.sort
            → AreTextsFor view.auto mid.files old.load_faults mid.load_faults p s.texts
            → (written : Result (Unit {0}) WriteError)
            → IsTaken text old.out.faults mid.out.faults s.count written
            → At old found mid output (at_gate (write_fault written) (record nothing { out = take s.count text })
            (gates_outcome [] last))
            → Goal
        written_on p is s text reports sorted sources (Err write.Failed) taken at =
            inl (subst Stops (sym at.status_is) (unwritten taken.0))
        written_on p is s text reports sorted sources (Err (write.OutOfMemory memory)) taken at =
            inl (subst Stops (sym at.status_is) wants)
        written_on p is s text reports sorted sources (Ok done) taken at = inr (record {
          run = record {
            program = program;
            loaded = loaded;
            input = input;
            fed = fed;
            run = record {
              syms = syms;
              symbols = symbols;
              guest = guest;
              guest_is = refl;
              trace = ran.trace;
              stop = ran.stop;
              is = ran.is;
            };
            status_is = at.status_is ∙ ap end_status ran.end;
            files = holds
                ∙ ap (λ files. option_map (with_files files) old.files)
                (own_files positions guest ran.trace ran.stop);
          };
          can = can;
          report_on = report_on guest can ran.trace makes view p is s.sort s.texts text reports sorted;
          sources = texts_over view.auto mid.files old.load_faults mid.load_faults p is.profile s.texts
              is.files sources;
          out = at.leaves.out
              ∙ (λ i. taken_more old.out.taken ((ran.output i).out ++ (append-nil (take s.count text) i)))
              ∙ ap (λ t. taken_more old.out.taken (sent_bytes 1 ran.trace ++ t))
              (take_all s.count text (omega (arith, taken)));
          err = at.leaves.err
              ∙ (λ i. taken_more old.err.taken ((ran.output i).err ++ []))
              ∙ ap (taken_more old.err.taken) (append-nil (sent_bytes 2 ran.trace));
        })

        -- the report is made
        made_on : (p : Contents) → IsReadAs guest ran.trace p → (s : ReportOutcome)
            → (made : Result (List ℕ) ReportError)
            → IsMade p (report_options view s.sort) s.texts made → IsSortPlace view.sort p s.sort
            → AreTextsFor view.auto mid.files old.load_faults mid.load_faults p s.texts
            → IsTaken (text_of made) old.out.faults mid.out.faults s.count s.written
            → At old found mid output (at_gate (report_fault made) nothing
            (at_gate (write_fault s.written) (record nothing { out = take s.count (text_of made) }) (gates_outcome [] last)))
            → Goal
        made_on p is s (Err (report.SumLimit position)) over sorted sources taken at =
            absurd (none_first p position
            (is.within (λ place sum of_sum.
            none_over guest can ran.trace makes is.profile is.of_run place sum of_sum)) over)
        made_on p is s (Err (report.OutOfMemory _)) over sorted sources taken at =
            inl (subst Stops (sym at.status_is) wants)
        made_on p is s (Ok text) made sorted sources taken at =
            written_on p is s text made.1 sorted sources s.written taken
            (record { status_is = at.status_is; leaves = at.leaves })

        shown_on : (p : Contents) → IsReadAs guest ran.trace p → (shown : Option ReportOutcome)
            → IfSome shown (λ s. IsShown (once_put old mid) view p mid s)
            → At old found mid output (gates_outcome (reporting shown) last) → Goal
        shown_on p is None known at = inl (subst Stops (sym at.status_is) wants)
        shown_on p is (Some s) known at = made_on p is s s.report known.report known.sort known.texts known.written at

        own_reading : (answer : Result Contents ReadFault)
            → IsReading mid.files old.load_faults mid.load_faults (no_rows_of (head_of_run guest))
            (parts_wanted job.base ended.parts) answer
            → IsReading (Some (with_files put contents)) old.load_faults mid.load_faults
            (no_rows_of (head_of_run guest)) (with_their_lengths put) answer
        own_reading answer reading =
            subst (λ (wanted : List WantedFile). IsReading (Some (with_files put contents)) old.load_faults mid.load_faults
            (no_rows_of (head_of_run guest)) wanted answer)
            (same_parts job.base put ended.parts
            (subst (λ (o : Output). ArePartsOf job.base o.files ended.parts) ran.output ran.parts))
            (subst (λ files. IsReading files old.load_faults mid.load_faults (no_rows_of (head_of_run guest))
            (parts_wanted job.base ended.parts) answer) (holds ∙ ap (option_map (with_files put)) told) reading)

        own_stops : (refused : ReadFault) → IsOwnFault old.load_faults mid.load_faults refused
            → Stops (read_status refused)
        own_stops refused (inl is) = subst (λ r. Stops (read_status r)) (sym is) wants
        own_stops refused (inr failed) =
            subst (λ r. Stops (read_status r)) (sym failed.1) (lost failed.0 failed.2)

        read_on : (answer : Result Contents ReadFault)
            → IsReading mid.files old.load_faults mid.load_faults (no_rows_of (head_of_run guest))
            (parts_wanted job.base ended.parts) answer
            → IfOk answer IsProfile → (shown : Option ReportOutcome)
            → IfSome shown (λ s. IfOk answer (λ p. IsShown (once_put old mid) view p mid s))
            → At old found mid output (gates_outcome (reporting_own answer shown) last) → Goal
        read_on (Err refused) reading profile shown known at =
            inl (subst Stops (sym at.status_is)
            (own_stops refused
            (back.refused guest can (entries_small (image_of program) syms symbols) ran.trace makes ran.stop contents
            old.load_faults mid.load_faults refused
            (own_reading (Err refused) reading))))
        read_on (Ok p) reading profile shown known at =
            shown_on p
            (back.read guest can (entries_small (image_of program) syms symbols) ran.trace makes ran.stop contents
            old.load_faults mid.load_faults p profile
            (own_reading (Ok p) reading)) shown known (record { status_is = at.status_is; leaves = at.leaves })

      -- what the folder holds once the parts were put
      holds_on : (rest : Outcome) → IsQuiet rest.output → At old found mid output rest
          → mid.files ≡ option_map (with_files put) old.files
      holds_on rest quiet at =
          let P : List Named → Option (List ℕ) → Type 0
          = λ files refused. Holds (output.files ++ files) refused old.files mid.files in
          let all : Holds (output.files ++ []) None old.files mid.files
          = subst (λ files. P files None) quiet.files (subst (P rest.output.files) quiet.refused at.leaves.files) in
          all ∙ ap (λ files. option_map (with_files files) old.files)
          (append-nil output.files ∙ ap (λ (o : Output). o.files) ran.output)

  -- the guest ran, or was refused
  pub ran_on : (program input : List ℕ)
      (loaded : IsLoad old.files (program_of job.args) file_limit old.load_faults mid.load_faults (Ok program))
      (fed : IsLoadIf old.files job.input text_limit old.load_faults mid.load_faults (Ok input))
      → refusal program ≡ None
      → ((syms : SymbolMap) (refused : RunFault) (output : Output)
      → Runs (parts (guest_of job (image_of program) input syms)) (guest_of job (image_of program) input syms) old
      (Err refused) output mid → Stops (fault_status job.base refused))
      → (syms : SymbolMap) (symbols : IsMapOf (image_of program) syms) → IsSound syms
      → (stop : Result RunEnd RunFault) (output : Output)
      → Runs (parts (guest_of job (image_of program) input syms)) (guest_of job (image_of program) input syms) old
      stop output mid
      → (answer : Result Contents ReadFault)
      → IsReading mid.files old.load_faults mid.load_faults (no_rows (events_shown job.branches event_names))
      (parts_to_read job stop) answer
      → IfOk answer IsProfile → (shown : Option ReportOutcome)
      → IfSome shown (λ s. IfOk answer (λ p. IsShown (once_put old mid) view p mid s))
      → At old found mid nothing (at_gate (run_fault job.base stop) output
      (gates_outcome (reporting_own answer shown) (run_status job.base stop)))
      → Goal
  ran_on program input loaded fed accepted cut syms symbols sound (Err refused) output runs answer reading profile shown
      known at = inl (subst Stops (sym at.status_is) (cut syms refused output runs))
  ran_on program input loaded fed accepted cut syms symbols sound (Ok ended) output runs answer reading
      profile shown known
      at =
      let can : CanRun (guest_of job (image_of program) input syms)
      = record { accepted = accepted; image = refl; sound = sound; budget = within.budget.most_of } in
      let rest : Outcome = gates_outcome (reporting_own answer shown) (end_status ended.end) in
      let behind : At old found mid output rest = record { status_is = at.status_is; leaves = at.leaves } in
      read_on program input loaded fed syms symbols ended output runs.1 can
      (holds_on program input loaded fed syms symbols ended output runs.1 can rest
      (quiet_report answer shown (end_status ended.end)) behind)
      answer reading profile shown known behind

  pub run_on : (met : Course) → load_fault (program_of job.args) met.program ≡ None
      → elf_fault (bytes_of met.program) ≡ None
      → input_fault job.input met.input ≡ None
      → ((syms : SymbolMap) (refused : RunFault) (output : Output)
      → Runs (parts (guest_met job met syms)) (guest_met job met syms) old (Err refused) output mid
      → Stops (fault_status job.base refused))
      → IsRun parts old job met mid → IfSome met.run (IsReported old job view met mid)
      → At old found mid nothing (gates_outcome (run_gate job met.run ∷ reporting_own met.profile met.report)
      (last_status job met.run)) → Goal
  run_on met program_none elf_none input_none cut is reported at = by met.run is.run reported at
    where
      by : (ran : Option RunOutcome) → IfSome ran (IsRan parts old job met mid)
          → IfSome ran (IsReported old job view met mid)
          → At old found mid nothing (gates_outcome (run_gate job ran ∷ reporting_own met.profile met.report)
          (last_status job ran)) → Goal
      by None met_ran known at_run = inl (subst Stops (sym at_run.status_is) wants)
      by (Some ran) met_ran known at_run =
          ran_on (bytes_of met.program) (bytes_of met.input)
          (subst (IsLoad old.files (program_of job.args) file_limit old.load_faults mid.load_faults)
          (loaded_is (program_of job.args) met.program program_none) is.program)
          (subst (IsLoadIf old.files job.input text_limit old.load_faults mid.load_faults)
          (fed_is old mid job.input met.input is.input input_none) is.input)
          (accepted_is (refusal (bytes_of met.program)) elf_none)
          cut ran.syms met_ran.0 met_ran.1 ran.stop ran.output
          met_ran.2 met.profile known.reading known.profile met.report known.report at_run

-- ---- the line behind it

-- the run stays as it is
abbrev pub same_run : (old new : Outside) (job : Job) (put : RunFiles) (found status : Status) (err : Stream)
    → HasRun old job put found (record new { err = err }) → status ≡ found → HasRun old job put status new
same_run old new job put found status err has is = record {
  program = has.program;
  loaded = has.loaded;
  input = has.input;
  fed = has.fed;
  run = has.run;
  status_is = is ∙ has.status_is;
  files = has.files;
}

-- the report is exact once the line is written
abbrev pub exact_of : (old new : Outside) (job : Job) (positions : Positions) (view : View) (found status : Status)
    (err : Stream) → IsWorked old job positions view found (record new { err = err }) → status ≡ found
    → new.err.taken ≡ taken_more err.taken (message_of found)
    → IsExactReport old job (files_at positions) view status new
exact_of old new job positions view found status err w is written = record {
  run = same_run old new job (files_at positions) found status err w.run is;
  report_on = w.report_on;
  sources = w.sources;
  out = w.out;
  err = written ∙ ap (λ t. taken_more t (message_of found)) w.err
      ∙ more_taken old.err.taken (sent_bytes 2 w.run.run.trace) (message_of found)
      ∙ ap (λ t. taken_more old.err.taken (sent_bytes 2 w.run.run.trace ++ t))
      (ap message_of w.run.status_is ∙ message_of-end w.run.run.stop.end);
}
