-- The line that tells how a command ended.
use Rattle.std.specs.Prelude.{◌≡◌, ◌≤◌, if◌then◌else◌, Result, Ok, Err, ◌⊎◌, ◌++◌, List, ◌∷◌, Option}
use Rattle.outside.specs.Outside.{Stream}
use Rattle.outside.specs.Write.{WritesAll}
use Rattle.outside.specs.declared.sink.WriteError.{WriteError}
use Rattle.outside.specs.declared.sink.WriteError.TheVariants as write
use Rattle.command_status.specs.Lines.{message_of}
use Rattle.command_status.specs.declared.status.Status.{Status}
use Rattle.command_status.specs.declared.status.Status.TheVariants.{OutFault, OutOfMemory}
use Rattle.command_status.specs.Numbers.{is_finished}
use Rattle.byte_text.specs.Memory.{memory}
use Rattle.outside.specs.Journal.{TellsMore, Wrote}
use Rattle.command_steps.specs.Stages.{AreWritesOrWants}

-- A line that can't be written is a fault of its own only where there was no refusal before. Want of memory always is.
abbrev pub after_line : {U : Type 0} → Status → Result U WriteError → Status
after_line found (Ok _) = found
after_line found (Err write.Failed) = if is_finished found then OutFault else found
after_line found (Err (write.OutOfMemory _)) = OutOfMemory memory

-- Once the work has come to its status, the line is written to the sink of errors.
pub record Says (found : Status) (old : Stream) (status : Status) (new : Stream) : Type 0 where
  pub answer : Result (Unit {0}) WriteError
  pub written : WritesAll old.taken (message_of found) old.faults new.faults answer new.taken
  pub status_is : status ≡ after_line found answer
  pub never_falls : old.faults ≤ new.faults

-- The line on how the work ended was written.
pub record TellsLine (found : Status) (old : Option (List Wrote)) (status : Status) (new : Option (List Wrote)) : Type 0
  where
    pub line : List Wrote
    pub answer : Result (Unit {0}) WriteError
    pub writes : AreWritesOrWants (message_of found) line answer
    pub status_is : status ≡ after_line found answer
    pub tells : TellsMore old line new
