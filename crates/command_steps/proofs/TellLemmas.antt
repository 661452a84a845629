-- What is told of each stage, and of each command.
use Rattle.std.proofs.Common.{◌≡◌, ◌⊎◌, ℕ, Bool, true, false, IfOk, List, [], ◌∷◌, Option, Result, Ok, Err, inl, inr}
use Rattle.std.proofs.Common.{refl, sym, ap, subst, ◌∙◌, ◌++◌}
use Rattle.std.specs.Result.{IsErrAnd}
use Rattle.byte_text.specs.Memory.{memory}
use Rattle.byte_text.specs.declared.memory.OutOfMemory.{OutOfMemory as Wanting}
use Rattle.outside.specs.Outside.{Log, Outside, Stream, nothing_done}
use Rattle.outside.specs.Journal.{TellsMore, TellsWrites, Wrote}
use Rattle.outside.specs.declared.folder.LoadError.TheVariants as load
use Rattle.outside.specs.declared.sink.WriteError.{WriteError}
use Rattle.outside.specs.declared.sink.WriteError.TheVariants as write
use Rattle.cg_read.specs.Profiles.{Contents, IsProfile}
use Rattle.profile_files.specs.Calls.{Reads, TellsReading}
use Rattle.profile_files.specs.WantedFile.{WantedFile}
use Rattle.profile_files.specs.declared.fault.ReadFault.{ReadFault}
use Rattle.profile_files.specs.declared.fault.ReadFault.TheVariants as read
use Rattle.annotate.specs.Files.{AreFilesShown}
use Rattle.annotate.specs.Report.{SourceTexts}
use Rattle.source_files.specs.Sources.{AreSources, TellsSources, loads_of}
use Rattle.command_status.specs.Lines.{message_of}
use Rattle.command_status.specs.declared.status.Status.{Status}
use Rattle.command_status.specs.declared.status.Status.TheVariants.{Done, OutOfMemory}
use Rattle.command_steps.specs.Annotate.{write_fault}
use Rattle.command_steps.specs.Saying.{after_line, TellsLine}
use Rattle.command_steps.specs.Stages.{Did, Gives, IsGate, LoadsTexts, ReadsAll, Then, WritesText, asking, read_as}
use Rattle.command_steps.specs.Stages.{writing}
use Rattle.command_steps.specs.inner.ReportStages.{or_wanting}
use Rattle.command_steps.specs.ReportStages.{reported}
use Rattle.command_steps.proofs.LookupLemmas.{names_of}
use Rattle.command_steps.proofs.StageLemmas.{did_exit, did_quietly, nothing_told, tells_calls, tells_none, tells_writes}

-- ---- profiles are read

-- what was asked of the folder
pub did_read : (old new : Outside) (first : Contents) (files : List WantedFile) (found : Result Contents ReadFault)
    (result : Result Contents Status) → TellsReading first files found old.calls new.calls → IfOk found IsProfile
    → new.out ≡ old.out → new.err ≡ old.err → result ≡ read_as found → Did (ReadsAll first files) old result new
did_read old new first files found result (calls, reads, told) profile out err is = record {
  log = asking calls;
  stage = record {
    calls = calls;
    found = found;
    reads = reads;
    profile = profile;
    log_is = refl;
    result_is = is;
  };
  tells = tells_calls old new calls told out err;
}

-- the same, as its files and events are handed on
pub did_read_of : (old new : Outside) (first handed : Contents) (files given : List WantedFile)
    (found : Result Contents ReadFault) (result : Result Contents Status) → handed ≡ first → given ≡ files
    → TellsReading handed given found old.calls new.calls → IfOk found IsProfile → new.out ≡ old.out
    → new.err ≡ old.err → result ≡ read_as found → Did (ReadsAll first files) old result new
did_read_of old new first handed files given found result same are told profile out err is =
    did_read old new first files found result
    (subst (λ f. TellsReading f files found old.calls new.calls) same
    (subst (λ fs. TellsReading handed fs found old.calls new.calls) are told)) profile out err is

-- memory was wanting before it
none_read : (first : Contents) (files : List WantedFile) → Reads first files [] (Err (read.OutOfMemory memory))
none_read first [] = (refl, inr refl)
none_read first (wanted ∷ files) = inl (record {
  found = Err (load.OutOfMemory memory);
  calls_are = inr (refl, refl);
  fault = read.OutOfMemory memory;
  why = inl refl;
  result_is = refl;
})

pub did_not_read : (old : Outside) (first : Contents) (files : List WantedFile) (result : Result Contents Status)
    → IsErrAnd result (λ s. s ≡ OutOfMemory memory) → Did (ReadsAll first files) old result old
did_not_read old first files result wants =
    did_exit old old (OutOfMemory memory) result wants
    (did_read old old first files (Err (read.OutOfMemory memory)) (Err (OutOfMemory memory))
    ([], none_read first files, nothing_told old.calls) tt refl refl refl)

-- ---- a report

-- source texts are loaded
pub did_texts : (old new : Outside) (asked : Bool) (p : Contents) (names : List (List ℕ))
    (result : Result SourceTexts Wanting) → asked ≡ true → AreFilesShown p names
    → TellsSources names result old.calls new.calls
    → IfOk result (AreSources old.files old.load_faults new.load_faults names) → new.out ≡ old.out → new.err ≡ old.err
    → Did (LoadsTexts asked p) old (or_wanting result) new
did_texts old new asked p names result is shown told loaded out err =
    subst (λ b. Did (LoadsTexts b p) old (or_wanting result) new) (sym is) (by result told loaded)
  where
    by : (result : Result SourceTexts Wanting) → TellsSources names result old.calls new.calls
        → IfOk result (AreSources old.files old.load_faults new.load_faults names)
        → Did (LoadsTexts true p) old (or_wanting result) new
    by (Ok texts) told loaded = record {
      log = asking (loads_of texts);
      stage = (
        subst (AreFilesShown p) (names_of old.files old.load_faults new.load_faults names texts loaded.loaded) shown,
        refl,
      );
      tells = tells_calls old new (loads_of texts) told out err;
    }
    by (Err refused) (texts, rest, last, are, unloaded, told) loaded = record {
      log = asking (loads_of texts ++ last);
      stage = (
        refl,
        inr (record {
          texts = texts;
          rest = rest;
          files = subst (AreFilesShown p) are shown;
          last = last;
          unloaded = unloaded;
          log_is = refl;
        }),
      );
      tells = tells_calls old new (loads_of texts ++ last) told out err;
    }

-- memory was wanting for their names
pub did_not_list : (old : Outside) (asked : Bool) (p : Contents) (why : Wanting) (result : Result SourceTexts Wanting)
    → asked ≡ true → IsErrAnd result (λ refused. refused ≡ why) → Did (LoadsTexts asked p) old (or_wanting result) old
did_not_list old asked p why (Ok texts) is none = absurd none
did_not_list old asked p why (Err refused) is none =
    subst (λ b. Did (LoadsTexts b p) old (Err (OutOfMemory memory)) old) (sym is)
    (record { log = nothing_done; stage = (refl, inl refl); tells = tells_none old })

-- they aren't asked for
pub no_texts : (old : Outside) (asked : Bool) (p : Contents) (texts : SourceTexts) → asked ≡ false → texts ≡ []
    → Did (LoadsTexts asked p) old (Ok texts) old
no_texts old asked p texts is none =
    subst (λ b. Did (LoadsTexts b p) old (Ok texts) old) (sym is) (did_quietly old (Ok texts) (ap Ok none))

-- bytes are written
pub did_write : (old new : Outside) (bytes : List ℕ) (answer : Result (Unit {0}) WriteError)
    (result : Result (Unit {0}) Status) → TellsWrites old.out.writes bytes answer new.out.writes
    → new.calls ≡ old.calls → new.err ≡ old.err → IsGate (write_fault answer) result
    → Did (WritesText bytes) old result new
did_write old new bytes answer result (writes, are, told) calls err gate = record {
  log = writing writes;
  stage = record { writes = writes; answer = answer; are = inl are; log_is = refl; gate = gate };
  tells = tells_writes old new writes told calls err;
}

-- the same bytes
pub did_write_as : {old new : Outside} {result : Result (Unit {0}) Status} (bytes text : List ℕ) → bytes ≡ text
    → Did (WritesText bytes) old result new → Did (WritesText text) old result new
did_write_as {old} {new} {result} bytes text same = subst (λ t. Did (WritesText t) old result new) same

-- where it stops for want of memory before the first write
pub did_not_write : (old : Outside) (bytes : List ℕ) (result : Result (Unit {0}) Status)
    → IsErrAnd result (λ s. s ≡ OutOfMemory memory) → Did (WritesText bytes) old result old
did_not_write old bytes result wants =
    did_exit old old (OutOfMemory memory) result wants
    (record {
      log = nothing_done;
      stage = record {
        writes = [];
        answer = Err (write.OutOfMemory memory);
        are = inr (refl, refl);
        log_is = refl;
        gate = refl;
      };
      tells = tells_none old;
    })

-- a line for which there was no memory
pub unsaid_line : (found : Status) (told : Option (List Wrote)) → TellsLine found told (OutOfMemory memory) told
unsaid_line found told = record {
  line = [];
  answer = Err (write.OutOfMemory memory);
  writes = inr (refl, refl);
  status_is = refl;
  tells = nothing_told told;
}

-- one that was written, or not
pub said_line : (found status : Status) (old new : Option (List Wrote)) (answer : Result (Unit {0}) WriteError)
    → TellsWrites old (message_of found) answer new → status ≡ after_line found answer
    → TellsLine found old status new
said_line found status old new answer (line, writes, told) is =
    record { line = line; answer = answer; writes = inl writes; status_is = is; tells = told }
