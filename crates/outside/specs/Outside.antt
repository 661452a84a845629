-- The outside of a command: a folder and two sinks; and what the command has put out to them.
use Rattle.std.specs.Prelude.{◌≡◌, ℕ, List, [], ◌∷◌, ◌++◌, map, Option, Some, None, option_map, Ok}
use Rattle.outside.specs.Files.{Files, SameBut, with_file}
use Rattle.outside.specs.Journal.{Call, Put, TellsMore, Wrote}
use Rattle.outside.specs.Write.{taken_more}
use Rattle.outside.specs.declared.folder.Folder as folder
use Rattle.outside.specs.declared.sink.Sink as sink

-- a sink: the bytes that it has taken and the writes that were made to it, where it tells them, and its count of faults
pub record Stream : Type 0 where
  pub taken : Option (List ℕ)
  pub writes : Option (List Wrote)
  pub faults : ℕ

-- a folder, that is its contents and the calls that were made of it, where it tells them, and its two counts of faults;
-- and the two sinks
pub record Outside : Type 0 where
  pub files : Option Files
  pub calls : Option (List Call)
  pub load_faults : ℕ
  pub put_faults : ℕ
  pub out : Stream
  pub err : Stream

abbrev pub stream_of : {S : Type 0} → sink.Ghosts S → S → Stream
stream_of s sink = record { taken = s.taken sink; writes = s.writes sink; faults = s.faults sink }

-- a folder beside two streams
abbrev pub outside_with : {F : Type 0} → folder.Ghosts F → F → Stream → Stream → Outside
outside_with f folder out err = record {
  files = f.contents folder;
  calls = f.calls folder;
  load_faults = f.load_faults folder;
  put_faults = f.put_faults folder;
  out = out;
  err = err;
}

-- a folder and two sinks
abbrev pub outside_of : {F O E : Type 0} → folder.Ghosts F → sink.Ghosts O → sink.Ghosts E → F → O → E → Outside
outside_of f o e folder out err = outside_with f folder (stream_of o out) (stream_of e err)

abbrev pub with_out : Outside → Stream → Outside
with_out outside out = record outside { out = out }

-- what a folder tells: its contents, and the calls that were made of it
pub record Shelf : Type 0 where
  pub files : Option Files
  pub calls : Option (List Call)

abbrev pub shelf_of : {F : Type 0} → folder.Ghosts F → F → Shelf
shelf_of f folder = record { files = f.contents folder; calls = f.calls folder }

abbrev pub shelf : Outside → Shelf
shelf outside = record { files = outside.files; calls = outside.calls }

-- a name and the bytes under it
abbrev pub Named : Type 0
Named = List ℕ × List ℕ

-- What a command has put out: the files that were put whole, in their order, the name of the one whose put was refused,
-- if one was, and the bytes that each sink has taken.
pub record Output : Type 0 where
  pub files : List Named
  pub refused : Option (List ℕ)
  pub out : List ℕ
  pub err : List ℕ

abbrev pub nothing : Output
nothing = record { files = []; refused = None; out = []; err = [] }

-- the one, and then the other
abbrev pub and_then : Output → Output → Output
and_then first next =
    record {
      files = first.files ++ next.files;
      refused = next.refused;
      out = first.out ++ next.out;
      err = first.err
          ++ next.err;
    }

-- the files once these were put, one after another
abbrev pub with_files : List Named → Files → Files
with_files [] files = files
with_files (pair ∷ pairs) files = with_files pairs (with_file files pair.0 pair.1)

-- The folder holds these files besides, and nothing else has changed but the file whose put was refused, if one was:
-- under its name may stand anything, or nothing.
abbrev pub Holds : List Named → Option (List ℕ) → Option Files → Option Files → Type 0
Holds pairs None old new = new ≡ option_map (with_files pairs) old
Holds pairs (Some name) old new = SameBut name (option_map (with_files pairs) old) new

-- What was put out, and nothing else, is the difference between the outside before and after.
pub record Leaves (old : Outside) (output : Output) (new : Outside) : Type 0 where
  pub files : Holds output.files output.refused old.files new.files
  pub out : new.out.taken ≡ taken_more old.out.taken output.out
  pub err : new.err.taken ≡ taken_more old.err.taken output.err

-- ---- what is told of it

-- What was done at the outside: the calls that were made of the folder, and the writes to each sink.
pub record Log : Type 0 where
  pub calls : List Call
  pub out : List Wrote
  pub err : List Wrote

abbrev pub nothing_done : Log
nothing_done = record { calls = []; out = []; err = [] }

-- the one, and then the other
abbrev pub done_then : Log → Log → Log
done_then first next =
    record { calls = first.calls ++ next.calls; out = first.out ++ next.out; err = first.err ++ next.err }

-- That was done, and nothing else, where it is still told afterwards.
pub record Tells (old : Outside) (log : Log) (new : Outside) : Type 0 where
  pub calls : TellsMore old.calls log.calls new.calls
  pub out : TellsMore old.out.writes log.out new.out.writes
  pub err : TellsMore old.err.writes log.err new.err.writes

-- the calls by which these files are put whole
abbrev pub puts_of : List Named → List Call
puts_of files = map (λ file. Put file.0 file.1 (Ok tt)) files
