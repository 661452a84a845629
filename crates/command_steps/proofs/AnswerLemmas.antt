-- The status that is answered, from the one that was found before the line was written.
use Rattle.std.proofs.Common.{◌≡◌, ◌≢◌, ◌⊎◌, ℕ, ◌≤◌, if◌then◌else◌, Bool, false, List, Option, Result, Ok, Err, ap}
use Rattle.std.proofs.Common.{◌∙◌, IfSome, arith}
use Rattle.outside.specs.Files.{Rose}
use Rattle.outside.specs.Outside.{Outside, Stream}
use Rattle.outside.specs.Write.{WritesAll, taken_more}
use Rattle.outside.specs.declared.sink.WriteError.{WriteError}
use Rattle.outside.specs.declared.sink.WriteError.TheVariants as write
use Rattle.command_status.specs.Numbers.{is_finished}
use Rattle.command_status.specs.declared.status.Status.{Status}
use Rattle.command_status.specs.declared.status.Status.TheVariants.{OutFault, OutOfMemory}
use Rattle.command_steps.specs.Certain.{IsCalm}
use Rattle.command_steps.specs.Saying.{after_line}
use Rattle.byte_text.specs.Memory.{memory}

-- a gate that stops, does so with none of these
abbrev pub IsRefusal : Option Status → Type 0
IsRefusal stops = IfSome stops (λ status. is_finished status ≡ false)

-- a refusal stays
pub stays : {U : Type 0} (found status : Status) (answer : Result U WriteError) → is_finished found ≡ false
    → status ≢ OutOfMemory memory
    → status ≡ after_line found answer → status ≡ found
stays found status (Ok _) unfinished known is = is
stays found status (Err write.Failed) unfinished known is =
    is ∙ ap (λ (b : Bool). if b then OutFault else found) unfinished
stays found status (Err (write.OutOfMemory _)) unfinished known is = absurd (known is)

-- where memory was not wanting in the end, it never was
pub never_wanting : {U : Type 0} (found status : Status) (answer : Result U WriteError) → status ≢ OutOfMemory memory
    → status ≡ after_line found answer
    → found ≢ OutOfMemory memory
never_wanting found status answer known is none =
    known (stays found status answer (ap is_finished none) known is ∙ none)

-- where no write failed, the line was written, and the status is what was found
pub line_is_written : {U : Type 0} (found status : Status) (answer : Result U WriteError) (old new : Stream) (bytes : List ℕ)
    → (Rose old.faults new.faults → ⊥) → status ≢ OutOfMemory memory
    → status ≡ after_line found answer → WritesAll old.taken bytes old.faults new.faults answer new.taken
    → (status ≡ found) × (new.taken ≡ taken_more old.taken bytes)
line_is_written found status (Ok _) old new bytes calm known is written = (is, written)
line_is_written found status (Err write.Failed) old new bytes calm known is written = absurd (calm written.0)
line_is_written found status (Err (write.OutOfMemory _)) old new bytes calm known is written = absurd (known is)

-- the outside after the work and before the line
abbrev pub before_line : Outside → Stream → Outside
before_line new err = record new { err = err }

rose_later : (before mid now : ℕ) → mid ≤ now → Rose before mid → Rose before now
rose_later before mid now late rose = omega (arith, late, rose)

pub calm_before : (old new : Outside) (err : Stream) → err.faults ≤ new.err.faults → IsCalm old new
    → IsCalm old (before_line new err)
calm_before old new err late calm = record {
  puts = calm.puts;
  out = calm.out;
  err = λ rose. calm.err (rose_later old.err.faults err.faults new.err.faults late rose);
}
