-- Where the folder tells its contents, and nothing failed, the reply to `demo` is the one that its program gives.
use Rattle.std.proofs.Common.{◌≡◌, ◌≢◌, ◌⊎◌, ℕ, ◌++◌, if◌then◌else◌, Bool, true, List, [], ◌∷◌, None, Some, Err, refl}
use Rattle.std.proofs.Common.{sym, ap, subst, ◌∙◌, inl, inr, append-nil}
use Rattle.outside.specs.Files.{Files, Rose}
use Rattle.outside.specs.Outside.{Leaves, Outside, Output}
use Rattle.outside.specs.Write.{taken_more}
use Rattle.elf_read.specs.Image.{image_of}
use Rattle.sym_map.specs.SymbolMap.{SymbolMap}
use Rattle.demo_make.specs.Program.{IsFileOf, demo}
use Rattle.profile_run.specs.Parts.{plain_parts}
use Rattle.profile_run.specs.Runs.{Runs}
use Rattle.profile_run.specs.Trace.{sent_bytes}
use Rattle.profile_run.specs.declared.run_fault.RunFault.{RunFault}
use Rattle.command_status.specs.Lines.{message_of}
use Rattle.command_status.specs.declared.status.Status.{Status}
use Rattle.command_status.specs.declared.status.Status.TheVariants.{OutOfMemory}
use Rattle.command_words.specs.Request.{Demo}
use Rattle.command_steps.specs.Certain.{IsCalm}
use Rattle.profile_cli.specs.Course.{Course}
use Rattle.profile_cli.specs.Demo.{demo_guest, demo_job}
use Rattle.profile_cli.specs.ExactDemo.{IsExactDemo}
use Rattle.command_steps.specs.Gates.{Outcome, check, outcome, gates_outcome}
use Rattle.profile_cli.specs.Order.{behind_demo, fault_status, run_gate, work}
use Rattle.profile_cli.specs.Reply.{Replies}
use Rattle.profile_cli.proofs.Others.{before_line, calm_before, never_wanting, line_is_written, more_taken, rose_from}
use Rattle.profile_cli.proofs.AnswerLemmas.{only_wants}
use Rattle.profile_cli.proofs.DemoPages.{demo_arguments, demo_pages}
use Rattle.profile_cli.proofs.PastDemoLemmas.{demo_on}
use Rattle.byte_text.specs.Memory.{memory}

-- what the work comes to where the words were read
by_words : (size : ℕ) (met : Course) → met.words_read ≡ true
    → outcome (work (Demo size) met)
    ≡ gates_outcome (check None ∷ run_gate demo_job met.run ∷ (behind_demo size met met.run).gates)
    (behind_demo size met met.run).last
by_words size met read =
    ap (λ (b : Bool). gates_outcome (check (if b then None else Some (OutOfMemory memory))
    ∷ run_gate demo_job met.run ∷ (behind_demo size met met.run).gates) (behind_demo size met met.run).last) read

module _ (old new : Outside) (files : Files) (size : ℕ) (status : Status) (reply : Replies old (Demo size) status new)
    (read : reply.works.course.words_read ≡ true) (told : old.files ≡ Some files)
    (calm : Rose old.load_faults new.load_faults → ⊥) (known : status ≢ (OutOfMemory memory)) (still : IsCalm old new) where
  abbrev mid : Outside
  mid = before_line new reply.err

  abbrev met : Course
  met = reply.works.course

  still_then : IsCalm old mid
  still_then = calm_before old new reply.err reply.says.never_falls still

  -- the program fits, so its run is not refused
  fits : (file : List ℕ) (syms : SymbolMap) (refused : RunFault) (output : Output) → IsFileOf (demo size) file
      → Runs (plain_parts (demo_guest file syms)) (demo_guest file syms) old (Err refused) output mid
      → fault_status demo_job.base refused ≡ OutOfMemory memory
  fits file syms refused output made runs =
      only_wants plain_parts old mid demo_job (image_of file) [] syms demo_arguments (demo_pages size file made)
      still_then refused output runs

  -- the line is written behind it
  with_line : IsExactDemo old size reply.found [] mid
      → (status ≡ reply.found) × (new.err.taken ≡ taken_more reply.err.taken (message_of reply.found))
      → IsExactDemo old size status (message_of status) new
  with_line exact line = record {
    file = exact.file;
    made = exact.made;
    run = exact.run;
    status_is = line.0 ∙ exact.status_is;
    files = exact.files;
    out = exact.out;
    err = line.1 ∙ ap (λ t. taken_more t (message_of reply.found)) exact.err
        ∙ more_taken old.err.taken (sent_bytes 2 exact.run.trace ++ []) (message_of reply.found)
        ∙ (λ i. taken_more old.err.taken ((append-nil (sent_bytes 2 exact.run.trace) i) ++ message_of ((sym line.0) i)));
  }

  pub certain_demo : IsExactDemo old size status (message_of status) new
  certain_demo =
      by (demo_on old mid size files told reply.found (λ s. s ≡ (OutOfMemory memory)) refl (λ name rose. absurd (calm rose))
      (λ rose. absurd (still.out rose)) met fits reply.works.met
      (record {
        status_is = reply.works.status_is ∙ ap (λ (o : Outcome). o.status) comes;
        leaves = subst (λ (o : Outcome). Leaves old o.output mid) comes reply.works.leaves;
      }))
    where
      comes : outcome (work (Demo size) met)
          ≡ gates_outcome (check None ∷ run_gate demo_job met.run ∷ (behind_demo size met met.run).gates)
          (behind_demo size met met.run).last
      comes = by_words size met read

      by : (reply.found ≡ (OutOfMemory memory)) ⊎ IsExactDemo old size reply.found [] mid
          → IsExactDemo old size status (message_of status) new
      by (inl none) = absurd (never_wanting reply.found status reply.says.answer known reply.says.status_is none)
      by (inr exact) =
          with_line exact
          (line_is_written reply.found status reply.says.answer reply.err new.err (message_of reply.found)
          (λ rose. still.err (rose_from old.err.faults reply.err.faults new.err.faults reply.never_falls rose)) known
          reply.says.status_is reply.says.written)
