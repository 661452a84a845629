-- What a run may answer, with its cause, and what it has put out then.
use Rattle.std.specs.Prelude.{◌≡◌, ℕ, ◌+◌, ◌<◌, ◌≤◌, ◌⊎◌, List, [], ◌∷◌, ◌++◌, length, None, Option, Some, Result, Ok}
use Rattle.std.specs.Prelude.{Err}
use Rattle.outside.specs.Files.{Rose}
use Rattle.outside.specs.Outside.{Leaves, Log, Named, Outside, Output, Tells, nothing, nothing_done, puts_of}
use Rattle.outside.specs.Journal.{AreWritten, AreWrittenTo, Call, Put}
use Rattle.outside.specs.declared.folder.PutError.TheVariants as put
use Rattle.outside.specs.declared.sink.WriteError.{WriteError}
use Rattle.outside.specs.declared.sink.WriteError.TheVariants as write
use Rattle.event_costs.specs.declared.outcome.End.{End}
use Rattle.guest_mem.specs.Memory.{page_limit}
use Rattle.guest_load.specs.Arguments.{NeedsTooMany, arguments_len, arguments_limit}
use Rattle.guest_load.specs.Segments.{pages_of}
use Rattle.part_dump.specs.Cuts.{cuts}
use Rattle.part_dump.specs.Dumps.{IsUnput}
use Rattle.part_dump.specs.Files.{IsFront, part_name}
use Rattle.profile_run.specs.Program.{Fits, Program}
use Rattle.profile_run.specs.Parts.{ArePartsOf, Writing}
use Rattle.profile_run.specs.Trace.{IsTraceOf, Makes, Stop, RunStep, bytes_to, piece_to, pieces, sent_bytes, steps_of}
use Rattle.profile_run.specs.declared.run_end.PartFile.{PartFile}
use Rattle.profile_run.specs.declared.run_fault.RunFault.{RunFault}
use Rattle.profile_run.specs.declared.run_fault.RunFault.TheVariants as fault

-- how a run ended, how many steps it made, how many threads there were, and its parts in the order of their puts
pub record RunEnd : Type 0 where
  pub end : End
  pub steps : ℕ
  pub threads : ℕ
  pub parts : List PartFile

-- all that a trace puts out
abbrev pub whole_output : Writing → List RunStep → Stop → Output
whole_output writing trace stop = record {
  files = writing.whole (steps_of trace) stop.tried;
  refused = None;
  out = sent_bytes 1 trace;
  err = sent_bytes 2 trace;
}

abbrev pub IsFrontOf : List ℕ → List ℕ → Type 0
IsFrontOf taken all = (rest : List ℕ) × (all ≡ taken ++ rest)

-- A front of each was put out, and only the file that follows may have been refused.
pub record IsCut (output all : Output) : Type 0 where
  pub files : IsFront output.files output.refused all.files
  pub out : IsFrontOf output.out all.out
  pub err : IsFrontOf output.err all.err

-- the run stopped early, and has put out a front of all that its trace puts out
pub record IsCutShort (writing : Writing) (guest : Program) (output : Output) : Type 0 where
  pub trace : List RunStep
  pub stop : Stop
  pub is : IsTraceOf guest trace stop
  pub cut : IsCut output (whole_output writing trace stop)

-- These are the steps up to the end of the part of this number: a cut stands after them, or they are all.
abbrev pub EndsPart : Program → ℕ → List RunStep → Type 0
EndsPart guest part past =
    ((length (cuts guest.syms guest.options.dump_points (steps_of past)).closed ≡ part)
    × ((cuts guest.syms guest.options.dump_points (steps_of past)).recent ≡ []))
    ⊎ ((length (cuts guest.syms guest.options.dump_points (steps_of past)).closed + 1 ≡ part)
    × ((stop : Stop) × IsTraceOf guest past stop))

-- The put of a part was refused: just the bytes of the steps up to that part's end were written.
pub record IsAtPut (guest : Program) (part thread : ℕ) (output : Output) : Type 0 where
  pub past : List RunStep
  pub makes : Makes guest past
  pub ends : EndsPart guest part past
  pub refused : output.refused ≡ Some (part_name guest.options.base part thread)
  pub out : output.out ≡ sent_bytes 1 past
  pub err : output.err ≡ sent_bytes 2 past

-- A write of a step's bytes was refused: all files of the cuts before the step stand, and the bytes of the steps before
-- it were written, and a front of its own that is not the whole.
pub record IsAtWrite (writing : Writing) (guest : Program) (output : Output) : Type 0 where
  pub past : List RunStep
  pub last : RunStep
  pub makes : Makes guest (past ++ last ∷ [])
  pub files : output.files ≡ writing.at_cuts (steps_of past)
  pub refused : output.refused ≡ None
  pub written : ℕ × List ℕ
  pub is : last.output ≡ Some written
  pub count : List ℕ
  pub front : IsFrontOf count written.1
  pub short : length count < length written.1
  pub out : output.out ≡ sent_bytes 1 past ++ bytes_to 1 (Some (written.0, count))
  pub err : output.err ≡ sent_bytes 2 past ++ bytes_to 2 (Some (written.0, count))

-- The run came to its end: it has put out all that its trace puts out, and lists the parts.
pub record IsWhole (writing : Writing) (guest : Program) (run : RunEnd) (done : Output) : Type 0 where
  pub trace : List RunStep
  pub stop : Stop
  pub is : IsTraceOf guest trace stop
  pub end : run.end ≡ stop.end
  pub steps : run.steps ≡ length trace
  pub threads : run.threads ≡ is.last.0.kernel.guest.made
  pub parts : ArePartsOf guest.options.base done.files run.parts
  pub output : done ≡ whole_output writing trace stop

-- From how a run stopped, what it has put out, and the outside before and after.
abbrev pub Runs : Writing → Program → Outside → Result RunEnd RunFault → Output → Outside → Type 0
Runs writing guest old (Ok run) output new = Fits guest × IsWhole writing guest run output
Runs writing guest old (Err (fault.ArgsTooLong len)) output new = NeedsTooMany guest.args len × (output ≡ nothing)
Runs writing guest old (Err fault.GuestFull) output new =
    (arguments_len guest.args ≤ arguments_limit) × (page_limit < pages_of guest.image) × (output ≡ nothing)
Runs writing guest old (Err (fault.PutFault part thread)) output new =
    Fits guest × Rose old.put_faults new.put_faults
    × IsCutShort writing guest output × IsAtPut guest part thread.0 output
Runs writing guest old (Err fault.OutFault) output new =
    Fits guest × (Rose old.out.faults new.out.faults ⊎ Rose old.err.faults new.err.faults)
    × IsCutShort writing guest output × IsAtWrite writing guest output
Runs writing guest old (Err (fault.OutOfMemory memory)) output new =
    (Fits guest × IsCutShort writing guest output) ⊎ (output ≡ nothing)

-- ---- what was done, call by call

-- All that the trace asks for: its files were put one after another, and its pieces written, each whole before the next.
pub record HasDone (writing : Writing) (guest : Program) (log : Log) : Type 0 where
  pub trace : List RunStep
  pub stop : Stop
  pub is : IsTraceOf guest trace stop
  pub calls : log.calls ≡ puts_of (writing.whole (steps_of trace) stop.tried)
  pub out : AreWritten (pieces 1 trace) log.out
  pub err : AreWritten (pieces 2 trace) log.err

-- The put of a part failed: the files before it were put, and the pieces of just the steps up to its end were written.
pub record HasFailedAt (writing : Writing) (guest : Program) (part thread : ℕ) (log : Log) : Type 0 where
  pub trace : List RunStep
  pub stop : Stop
  pub is : IsTraceOf guest trace stop
  pub done : List Named
  pub text : List ℕ
  pub rest : List Named
  pub files : writing.whole (steps_of trace) stop.tried
      ≡ done ++ (part_name guest.options.base part thread, text) ∷ rest
  pub calls : log.calls ≡ puts_of done ++ Put (part_name guest.options.base part thread) text (Err put.Failed) ∷ []
  pub past : List RunStep
  pub later : List RunStep
  pub steps : trace ≡ past ++ later
  pub ends : EndsPart guest part past
  pub out : AreWritten (pieces 1 past) log.out
  pub err : AreWritten (pieces 2 past) log.err

-- A write of a step's piece to one of the sinks failed: the files of the cuts before the step were put, and the pieces
-- of the steps before it were written.
pub record HasFailedBehind (writing : Writing) (guest : Program) (log : Log) : Type 0 where
  pub trace : List RunStep
  pub stop : Stop
  pub is : IsTraceOf guest trace stop
  pub past : List RunStep
  pub last : RunStep
  pub later : List RunStep
  pub steps : trace ≡ past ++ last ∷ later
  pub rest : List Named
  pub files : writing.whole (steps_of trace) stop.tried ≡ writing.at_cuts (steps_of past) ++ rest
  pub calls : log.calls ≡ puts_of (writing.at_cuts (steps_of past))
  pub piece : ℕ × List ℕ
  pub is_piece : last.output ≡ Some piece
  pub to : (piece.0 ≡ 1) ⊎ (piece.0 ≡ 2)
  pub out : AreWrittenTo write.Failed (pieces 1 past) (piece_to 1 last.output) log.out
  pub err : AreWrittenTo write.Failed (pieces 2 past) (piece_to 2 last.output) log.err

-- These are the first steps of a trace, and the next one, if there is one, outputs this.
abbrev pub IsFrontOfTrace : List RunStep → Option (ℕ × List ℕ) → List RunStep → Type 0
IsFrontOfTrace past None trace = (later : List RunStep) × (trace ≡ past ++ later)
IsFrontOfTrace past (Some output) trace =
    (next : RunStep) × (later : List RunStep) × (next.output ≡ Some output) × (trace ≡ past ++ next ∷ later)

-- the put of the first of these files, for which memory was wanting; or nothing
abbrev pub AreUnput : List Named → List Call → Type 0
AreUnput [] calls = calls ≡ []
AreUnput (file ∷ files) calls = IsUnput file.0 file.1 calls

-- Memory was wanting: a front of the trace's files was put, and the put of the next one may have been refused; and the
-- pieces of some first steps were written, but for the last one's, which may have been cut.
pub record HasDoneSome (writing : Writing) (guest : Program) (log : Log) : Type 0 where
  pub trace : List RunStep
  pub stop : Stop
  pub is : IsTraceOf guest trace stop
  pub done : List Named
  pub rest : List Named
  pub files : writing.whole (steps_of trace) stop.tried ≡ done ++ rest
  pub unput : List Call
  pub are_unput : AreUnput rest unput
  pub calls : log.calls ≡ puts_of done ++ unput
  pub past : List RunStep
  pub last : Option (ℕ × List ℕ)
  pub front : IsFrontOfTrace past last trace
  pub error : WriteError
  pub out : AreWrittenTo error (pieces 1 past) (piece_to 1 last) log.out
  pub err : AreWrittenTo error (pieces 2 past) (piece_to 2 last) log.err

abbrev pub Does : Writing → Program → Result RunEnd RunFault → Log → Type 0
Does writing guest (Ok run) log = HasDone writing guest log
Does writing guest (Err (fault.ArgsTooLong len)) log = log ≡ nothing_done
Does writing guest (Err fault.GuestFull) log = log ≡ nothing_done
Does writing guest (Err (fault.PutFault part thread)) log = HasFailedAt writing guest part thread.0 log
Does writing guest (Err fault.OutFault) log = HasFailedBehind writing guest log
Does writing guest (Err (fault.OutOfMemory _)) log = HasDoneSome writing guest log ⊎ (log ≡ nothing_done)

-- A run may answer so, and leaves this: it has put out something that fits the answer, and nothing else has changed; and
-- what it has done, call by call, is told, and nothing else.
pub record Answers (writing : Writing) (guest : Program) (old : Outside) (answer : Result RunEnd RunFault)
    (new : Outside) : Type 0 where
  pub output : Output
  pub runs : Runs writing guest old answer output new
  pub leaves : Leaves old output new
  pub log : Log
  pub does : Does writing guest answer log
  pub tells : Tells old log new
