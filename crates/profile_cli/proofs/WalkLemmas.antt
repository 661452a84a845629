-- The gates before a run, walked through, and the line behind the work.
use Rattle.std.proofs.Common.{◌≡◌, ◌⊎◌, ℕ, ◌++◌, List, Bool, true, false, if◌then◌else◌, nat_lt, min, ◌-◌, ◌^◌, ◌∷◌}
use Rattle.std.proofs.Common.{Option, None, Some, Result, Ok, Err, refl, sym, ap, subst, ◌∙◌, inl}
use Rattle.outside.specs.Outside.{Outside, Output, Stream, nothing}
use Rattle.outside.specs.Write.{WritesAll, taken_more}
use Rattle.outside.specs.declared.sink.WriteError.{WriteError}
use Rattle.outside.specs.declared.sink.WriteError.TheVariants as write
use Rattle.elf_read.specs.Image.{image_of}
use Rattle.elf_read.specs.Refusal.{refusal}
use Rattle.guest_load.specs.Arguments.{arguments_len}
use Rattle.guest_load.specs.Segments.{pages_of}
use Rattle.outside.specs.Load.{bytes_of}
use Rattle.command_status.specs.Ends.{end_status}
use Rattle.command_status.specs.Lines.{message_of}
use Rattle.command_status.specs.Numbers.{is_finished, is_short}
use Rattle.command_status.specs.declared.status.Status.{Status}
use Rattle.command_status.specs.declared.status.Status.TheVariants.{ArgsTooLong, GuestFull, OutFault, OutOfMemory}
use Rattle.event_costs.specs.declared.outcome.End.{End}
use Rattle.event_costs.specs.declared.outcome.End.TheVariants as end
use Rattle.command_words.specs.Request.{Job}
use Rattle.profile_cli.specs.Course.{Course}
use Rattle.command_steps.specs.Gates.{Gate, Outcome, at_gate, check, gates_outcome}
use Rattle.profile_cli.specs.Order.{arguments_fault, elf_fault, last_status, loading, pages_fault, reading, run_gate}
use Rattle.command_steps.specs.Loading.{input_fault, load_fault}
use Rattle.command_steps.specs.Saying.{Says, after_line}
use Rattle.profile_cli.specs.Words.{program_of}
use Rattle.profile_cli.proofs.PastRunLemmas.{At}
use Rattle.profile_cli.proofs.ShortLemmas.{IsShort, StopsSo, elf_stops, if_stops, input_stops, load_stops}
use Rattle.profile_cli.proofs.ShortLemmas.{unless_stops}
use Rattle.byte_text.specs.Memory.{memory}

-- ---- the gates before the run

-- such are the statuses with which the gates before the run stop
pub record LoadingStops (Stops : Status → Type 0) (job : Job) (met : Course) : Type 0 where
  pub wanting : Stops (OutOfMemory memory)
  pub program : StopsSo Stops (load_fault (program_of job.args) met.program)
  pub elf : StopsSo Stops (elf_fault (bytes_of met.program))
  pub input : StopsSo Stops (input_fault job.input met.input)
  pub arguments : (len : ℕ) → Stops (ArgsTooLong len)
  pub pages : Stops GuestFull

pub loading_short : (job : Job) (met : Course) → LoadingStops IsShort job met
loading_short job met = record {
  wanting = refl;
  program = load_stops (program_of job.args) met.program;
  elf = elf_stops (refusal (bytes_of met.program));
  input = input_stops job.input met.input;
  arguments = λ len. refl;
  pages = refl;
}

module _ (Stops : Status → Type 0) (old : Outside) (job : Job) (found : Status) (mid : Outside) (W : Type 0) where
  gate : (before : Output) (stops : Option Status) (rest : Outcome) → StopsSo Stops stops
      → (stops ≡ None → At old found mid before rest → Stops found ⊎ W)
      → At old found mid before (at_gate stops nothing rest) → Stops found ⊎ W
  gate before None rest such on at = on refl (record { status_is = at.status_is; leaves = at.leaves })
  gate before (Some stop) rest such on at = inl (subst Stops (sym at.status_is) (such stop refl))

  -- all gates before the run
  pub loading_on : (met : Course) → LoadingStops Stops job met → (gates : List Gate)
      → (load_fault (program_of job.args) met.program ≡ None → elf_fault (bytes_of met.program) ≡ None
      → input_fault job.input met.input ≡ None
      → At old found mid nothing (gates_outcome (run_gate job met.run ∷ gates) (last_status job met.run)) → Stops found ⊎ W)
      → At old found mid nothing
      (gates_outcome (reading met ++ loading job met ++ run_gate job met.run ∷ gates) (last_status job met.run))
      → Stops found ⊎ W
  loading_on met such gates on at =
      let last = last_status job met.run in
      let g6 = run_gate job met.run ∷ gates in
      let g5 = check (pages_fault (image_of (bytes_of met.program))) ∷ g6 in
      let g4 = check (arguments_fault job.args) ∷ g5 in
      let g3 = check (input_fault job.input met.input) ∷ g4 in
      let g2 = check (elf_fault (bytes_of met.program)) ∷ g3 in
      let g1 = check (load_fault (program_of job.args) met.program) ∷ g2 in
      gate nothing (if met.words_read then None else Some (OutOfMemory memory)) (gates_outcome g1 last)
      (unless_stops Stops met.words_read (OutOfMemory memory) such.wanting)
      (λ words a1. gate nothing (load_fault (program_of job.args) met.program) (gates_outcome g2 last) such.program
      (λ program a2. gate nothing (elf_fault (bytes_of met.program)) (gates_outcome g3 last) such.elf
      (λ elf_none a3. gate nothing (input_fault job.input met.input) (gates_outcome g4 last) such.input
      (λ input a4. gate nothing (arguments_fault job.args) (gates_outcome g5 last)
      (if_stops Stops (nat_lt 65536 (arguments_len job.args))
      (ArgsTooLong (min (arguments_len job.args) (2 ^ 64 - 1))) (such.arguments _))
      (λ args a5. gate nothing (pages_fault (image_of (bytes_of met.program))) (gates_outcome g6 last)
      (if_stops Stops (nat_lt 65536 (pages_of (image_of (bytes_of met.program)))) GuestFull such.pages)
      (λ pages a6. on program elf_none input a6) a5) a4) a3) a2) a1) at

-- ---- the line

pub end_finishes : (end : End) → is_finished (end_status end) ≡ true
end_finishes (end.Exited code) = refl
end_finishes _ = refl

pub short_line : (found : Status) (answer : Result (Unit {0}) WriteError) → IsShort found
    → IsShort (after_line found answer)
short_line found (Ok done) short = short
short_line found (Err write.Failed) short = by (is_finished found)
  where
    by : (b : Bool) → IsShort (if b then OutFault else found)
    by true = refl
    by false = short
short_line found (Err (write.OutOfMemory _)) short = refl

pub not_short : (status : Status) → IsShort status → is_short status ≡ false → ⊥
not_short status short long = by (sym short ∙ long)
  where
    by : true ≡ false → ⊥
    by e = cc

-- Where the work came to an end of the guest and the whole is not short, the line is written.
pub line_written : (found status : Status) (old new : Stream) → Says found old status new → (end : End)
    → found ≡ end_status end → is_short status ≡ false
    → (status ≡ found) × (new.taken ≡ taken_more old.taken (message_of found))
line_written found status old new says end is long = by says.answer says.written says.status_is
  where
    by : (answer : Result (Unit {0}) WriteError)
        → WritesAll old.taken (message_of found) old.faults new.faults answer new.taken
        → status ≡ after_line found answer
        → (status ≡ found) × (new.taken ≡ taken_more old.taken (message_of found))
    by (Ok done) written same = (same, written)
    by (Err (write.OutOfMemory _)) written same =
        absurd (not_short status (subst IsShort (sym same) refl) long)
    by (Err write.Failed) written same =
        let finished : is_finished found ≡ true = ap is_finished is ∙ end_finishes end in
        absurd (not_short status
        (subst IsShort (sym (same ∙ ap (λ (b : Bool). if b then OutFault else found) finished)) refl) long)

-- Where the whole is not short, neither was the work.
pub work_short : (found status : Status) (old new : Stream) → Says found old status new → IsShort found
    → is_short status ≡ false → ⊥
work_short found status old new says short long =
    not_short status (subst IsShort (sym says.status_is) (short_line found says.answer short)) long
