-- Folders that keep the calls that were made of them, and sinks that keep the writes, as contracts see them.
use Rattle.std.specs.Prelude.{List, map, Option, option_map, string_bytes}
use Rattle.outside.specs.Load.{load_of}
use Rattle.outside.specs.Journal.{Call, Loaded, Put, Wrote}
use Rattle.outside.specs.declared.call_journal.FolderCall.{FolderCall}
use Rattle.outside.specs.declared.call_journal.FolderCall.TheVariants as entry
use Rattle.outside.specs.declared.call_journal.SinkWrite.{SinkWrite}

-- a folder, and the calls that were made of it, as long as they are kept
pub record Traced (F : Type 0) : Type 0 where
  pub folder : F
  pub calls : Option (List Call)

-- a sink, and the writes that were made to it, as long as they are kept
pub record TracedSink (S : Type 0) : Type 0 where
  pub sink : S
  pub writes : Option (List Wrote)

abbrev pub call_of : FolderCall → Call
call_of (entry.Loaded name limit answer) = Loaded (string_bytes name) limit (load_of answer)
call_of (entry.Put name bytes answer) = Put (string_bytes name) bytes.items answer

abbrev pub wrote_of : SinkWrite → Wrote
wrote_of write = record { piece = write.piece.items; answer = write.answer }

-- what is told of the calls that are kept, and of the writes
abbrev pub calls_in : Option (List FolderCall) → Option (List Call)
calls_in kept = option_map (map call_of) kept

abbrev pub writes_in : Option (List SinkWrite) → Option (List Wrote)
writes_in kept = option_map (map wrote_of) kept
