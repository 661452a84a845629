-- Where the folder tells its contents, the reply to `annotate` is the one that its files give.
use Rattle.std.proofs.Common.{◌≡◌, ◌≢◌, ◌⊎◌, ℕ, ◌<◌, ◌≤◌, if◌then◌else◌, Bool, true, false, IfOk, IfSome, List, []}
use Rattle.std.proofs.Common.{◌∷◌, length, map, take, Option, Some, None, Result, Ok, Err, inl, inr, refl, sym, ap}
use Rattle.std.proofs.Common.{subst, ◌∙◌, arith}
use Rattle.std.proofs.Math.Seq.{take-length}
use Rattle.std.proofs.lemmas.Bool.{cases_lt}
use Rattle.outside.specs.Files.{Files, Rose}
use Rattle.outside.specs.Outside.{Leaves, Outside, Stream, and_then, nothing}
use Rattle.outside.specs.Write.{WritesAll, taken_more}
use Rattle.outside.specs.declared.sink.WriteError.{WriteError}
use Rattle.outside.specs.declared.sink.WriteError.TheVariants as write
use Rattle.cg_read.specs.Profiles.{Contents, has_text}
use Rattle.cycles.specs.Limits.{AreAllWithin, IsFirstOver}
use Rattle.profile_files.specs.Joined.{no_rows}
use Rattle.profile_files.specs.WantedFile.{with_limit}
use Rattle.profile_files.specs.declared.fault.ReadFault.{ReadFault}
use Rattle.profile_files.specs.declared.fault.ReadFault.TheVariants as read
use Rattle.profile_files.proofs.CompleteLemmas.{IsComplete-from}
use Rattle.annotate.specs.Report.{SourceTexts}
use Rattle.annotate.specs.declared.error.ReportError.{ReportError}
use Rattle.annotate.specs.declared.error.ReportError.TheVariants as report
use Rattle.command_status.specs.Lines.{message_of}
use Rattle.command_status.specs.Numbers.{is_finished}
use Rattle.command_status.specs.declared.status.Status.{Status}
use Rattle.command_status.specs.declared.status.Status.TheVariants.{Done, SumLimit, Usage, OutOfMemory}
use Rattle.command_words.specs.Request.{View}
use Rattle.command_steps.specs.Annotate.{AreTextsOf, IsMade, IsShown, IsSortPlace, IsTaken, annotating, profile_limit}
use Rattle.command_steps.specs.Annotate.{read_fault, read_status, report_options, reporting, sort_fault, text_of}
use Rattle.command_steps.specs.Annotate.{Annotates, ReportOutcome}
use Rattle.command_steps.specs.Certain.{Decides, IsCalm, IsCertainReport, IsReportDue, ReportsWhole}
use Rattle.command_steps.specs.Gates.{Outcome, check, first_stop, gates_outcome}
use Rattle.command_steps.specs.Saying.{Says, after_line}
use Rattle.command_steps.proofs.AnswerLemmas.{IsRefusal, before_line, never_wanting, stays}
use Rattle.std.proofs.lemmas.List.{append-nil}
use Rattle.command_steps.proofs.OutsideLemmas.{Leaves-nothing}
use Rattle.byte_text.specs.Memory.{memory}

-- ---- the first sum that is too large

none_over : (p : Contents) (position : ℕ) → AreAllWithin p → IsFirstOver p position → ⊥
none_over p position all first =
    let below = all position first.too_large.sum first.too_large.of_profile in
    let above = first.too_large.too_large in omega (arith, below, above)

not_after : (p : Contents) (i j : ℕ) → IsFirstOver p i → IsFirstOver p j → i < j → ⊥
not_after p i j one other before =
    let below = other.first i one.too_large.sum before one.too_large.of_profile in
    let above = one.too_large.too_large in omega (arith, below, above)

only_one : (p : Contents) (i j : ℕ) → IsFirstOver p i → IsFirstOver p j → i ≡ j
only_one p i j one other = by (cases_lt i j) (cases_lt j i)
  where
    by : (i < j) ⊎ (j ≤ i) → (j < i) ⊎ (i ≤ j) → i ≡ j
    by (inl before) also = absurd (not_after p i j one other before)
    by (inr late) (inl before) = absurd (not_after p j i other one before)
    by (inr late) (inr early) = omega (arith, late, early)

-- ---- refusals

read_refuses : (fault : ReadFault) → is_finished (read_status fault) ≡ false
read_refuses (read.LoadFault name) = refl
read_refuses (read.TooLong name len) = refl
read_refuses (read.FormatRefused name error) = refl
read_refuses (read.EventsDiffer name) = refl
read_refuses (read.OutOfMemory _) = refl

sort_refuses : (event : Option (List ℕ)) (p : Contents) → IsRefusal (sort_fault event (Ok p))
sort_refuses None p = tt
sort_refuses (Some event) p = by (has_text p.events event)
  where
    by : (found : Bool) → IsRefusal (if found then None else Some Usage)
    by true = tt
    by false = refl

silent : message_of Done ≡ []
unfolding message_of
silent = refl

-- ---- the report on a profile

-- The line after the work, where memory was not wanting: what was found, and what is answered.
record Line (old new : Outside) (err : Stream) (found status : Status) : Type 0 where
  answer : Result (Unit {0}) WriteError
  status_is : status ≡ after_line found answer
  written : WritesAll err.taken (message_of found) err.faults new.err.faults answer new.err.taken
  known : status ≢ OutOfMemory memory

-- a refusal that was found stays
refused : (old new : Outside) (err : Stream) (found status stop : Status) → Line old new err found status
    → is_finished stop ≡ false → found ≡ stop
    → status ≡ stop
refused old new err found status stop line refuses is =
    stays found status line.answer (ap is_finished is ∙ refuses) line.known line.status_is ∙ is

wanting : (old new : Outside) (err : Stream) (found status : Status) → Line old new err found status
    → found ≡ (OutOfMemory memory) → ⊥
wanting old new err found status line is = never_wanting found status line.answer line.known line.status_is is

-- nothing is said after a report that was written
unsaid : (found status : Status) (answer : Result (Unit {0}) WriteError) (old new : Stream) → found ≡ Done
    → status ≢ (OutOfMemory memory) → status ≡ after_line found answer
    → WritesAll old.taken (message_of found) old.faults new.faults answer new.taken
    → (status ≡ Done) × (new.taken ≡ taken_more old.taken [])
unsaid found status answer old new done known is written =
    by answer is
    (subst (λ bytes. WritesAll old.taken bytes old.faults new.faults answer new.taken)
    (ap message_of done ∙ silent) written)
  where
    by : (answer : Result (Unit {0}) WriteError) → status ≡ after_line found answer
        → WritesAll old.taken [] old.faults new.faults answer new.taken
        → (status ≡ Done) × (new.taken ≡ taken_more old.taken [])
    by (Ok _) is written = (is ∙ done, written)
    by (Err write.Failed) is written = let none = written.1.1 in absurd (omega (arith, none))
    by (Err (write.OutOfMemory _)) is written = absurd (known is)

module _ (old new : Outside) (err : Stream) (view : View) (p : Contents) (found status : Status)
    (line : Line old new err found status) where
  abbrev outcome_of : ℕ → SourceTexts → Result (List ℕ) ReportError → Result (Unit {0}) WriteError → ℕ → Outcome
  outcome_of sort texts report written count =
      gates_outcome (reporting (Some (record {
        sort = sort;
        texts = texts;
        report = report;
        written = written;
        count = count;
      })))
      Done

  whole : (sort : ℕ) (texts : SourceTexts) (text : List ℕ) → IsSortPlace view.sort p sort
      → AreTextsOf old view p (before_line new err) texts
      → IsMade p (report_options view sort) texts (Ok text) → found ≡ Done
      → Leaves old (and_then (record nothing { out = take (length text) text }) nothing) (before_line new err)
      → ReportsWhole old view p status new
  whole sort texts text sorted sources made is leaves =
      let said = unsaid found status line.answer err new.err is line.known line.status_is line.written in
      record {
        status_is = said.0;
        sort = sort;
        sorted = sorted;
        texts = texts;
        sources = sources;
        report = text;
        is = made.1;
        leaves = record {
          files = leaves.files;
          out = leaves.out
              ∙ ap (λ bytes. taken_more old.out.taken bytes)
              (append-nil (take (length text) text) ∙ take-length text);
          err = said.1 ∙ sym (Leaves-nothing (before_line new err) (before_line new err) refl refl refl).err ∙ leaves.err;
        };
      }

  written_whole : (sort : ℕ) (texts : SourceTexts) (text : List ℕ) (written : Result (Unit {0}) WriteError) (count : ℕ)
      → IsSortPlace view.sort p sort → AreTextsOf old view p (before_line new err) texts
      → IsMade p (report_options view sort) texts (Ok text)
      → IsTaken text old.out.faults new.out.faults count written → IsCalm old new
      → found ≡ (outcome_of sort texts (Ok text) written count).status
      → Leaves old (outcome_of sort texts (Ok text) written count).output (before_line new err)
      → ReportsWhole old view p status new
  written_whole sort texts text (Ok done) count sorted sources made taken calm is leaves =
      whole sort texts text sorted sources made is
      (subst (λ n. Leaves old (and_then (record nothing { out = take n text }) nothing) (before_line new err))
      taken leaves)
  written_whole sort texts text (Err write.Failed) count sorted sources made taken calm is leaves =
      absurd (calm.out taken.0)
  written_whole sort texts text (Err (write.OutOfMemory _)) count sorted sources made taken calm is leaves =
      absurd (wanting old new err found status line is)

  due : (sort : ℕ) (texts : SourceTexts) (report : Result (List ℕ) ReportError) (written : Result (Unit {0}) WriteError)
      (count : ℕ)
      → IsSortPlace view.sort p sort → AreTextsOf old view p (before_line new err) texts
      → IsMade p (report_options view sort) texts report
      → IsTaken (text_of report) old.out.faults new.out.faults count written
      → found ≡ (outcome_of sort texts report written count).status
      → Leaves old (outcome_of sort texts report written count).output (before_line new err)
      → IsReportDue old view p status new
  due sort texts (Ok text) written count sorted sources made taken is leaves = record {
    too_large = λ position first. absurd (none_over p position made.0 first);
    within = λ all calm. written_whole sort texts text written count sorted sources made taken calm is leaves;
  }
  due sort texts (Err (report.SumLimit k)) written count sorted sources made taken is leaves = record {
    too_large = λ position first.
        refused old new err found status (SumLimit k) line refl is
        ∙ ap (λ n. SumLimit n) (only_one p k position made first);
    within = λ all calm. absurd (none_over p k all made);
  }
  due sort texts (Err (report.OutOfMemory _)) written count sorted sources made taken is leaves =
      absurd (wanting old new err found status line is)

  due_if : (shown : Option ReportOutcome) → IfSome shown (λ s. IsShown old view p (before_line new err) s)
      → found ≡ (gates_outcome (reporting shown) Done).status
      → Leaves old (gates_outcome (reporting shown) Done).output (before_line new err)
      → IsReportDue old view p status new
  due_if None shows is leaves = absurd (wanting old new err found status line is)
  due_if (Some shown) shows is leaves =
      due shown.sort shown.texts shown.report shown.written shown.count shows.sort shows.texts shows.report
      shows.written is leaves

  -- the event to sort by is in the profile, or not
  by_sort : (stop : Option Status) (shown : Option ReportOutcome) → IsRefusal stop
      → IfSome shown (λ s. IsShown old view p (before_line new err) s)
      → found ≡ (gates_outcome (check None ∷ check stop ∷ reporting shown) Done).status
      → Leaves old (gates_outcome (check None ∷ check stop ∷ reporting shown) Done).output (before_line new err)
      → Decides (first_stop (check None ∷ check stop ∷ [])) (IsReportDue old view p status new) status
  by_sort (Some stop) shown refuses shows is leaves = refused old new err found status stop line refuses is
  by_sort None shown refuses shows is leaves = due_if shown shows is leaves

by_read : (old new : Outside) (err : Stream) (view : View) (found : Result Contents ReadFault) (shown : Option ReportOutcome)
    (before status : Status)
    → Line old new err before status
    → IfSome shown (λ s. IfOk found (λ p. IsShown old view p (before_line new err) s))
    → before ≡ (gates_outcome (annotating view found shown) Done).status
    → Leaves old (gates_outcome (annotating view found shown) Done).output (before_line new err)
    → Decides (first_stop (check (read_fault found) ∷ check (sort_fault view.sort found) ∷ []))
    (IfOk found (λ p. IsReportDue old view p status new)) status
by_read old new err view (Ok p) shown before status line shows is leaves =
    by_sort old new err view p before status line (sort_fault view.sort (Ok p)) shown
    (sort_refuses view.sort p) shows is
    leaves
by_read old new err view (Err fault) shown before status line shows is leaves =
    refused old new err before status (read_status fault) line (read_refuses fault) is

pub certain_report : (old new : Outside) (err : Stream) (files : Files) (names : List (List ℕ)) (view : View)
    (found status : Status) → (work : Annotates old names view found (before_line new err))
    → Says found err status new.err → old.files ≡ Some files → (Rose old.load_faults new.load_faults → ⊥)
    → status ≢ OutOfMemory memory → IsCertainReport old files names view status new
certain_report old new err files names view found status work says told calm known =
    let line : Line old new err found status = record {
      answer = says.answer;
      status_is = says.status_is;
      written = says.written;
      known = known;
    } in record {
      found = work.found;
      answers = IsComplete-from old.files old.load_faults new.load_faults (no_rows [])
          (map (with_limit profile_limit) names) work.found work.met.reading files told calm
          (λ none.
          wanting old new err found status line
          (work.status_is
          ∙ ap (λ (f : Result Contents ReadFault). (gates_outcome (annotating view f work.report) Done).status) none));
      decides = by_read old new err view work.found work.report found status line work.met.report work.status_is
          work.leaves;
    }
