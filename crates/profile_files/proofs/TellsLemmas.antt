-- The reading goes on by one file, or stops at it, call by call.
use Rattle.std.proofs.Common.{◌≡◌, ℕ, ◌++◌, true, List, [], ◌∷◌, Option, Result, Ok, Err}
use Rattle.std.proofs.Common.{inl, inr, refl, sym, ap, subst, ◌∙◌}
use Rattle.std.specs.Result.{IsErrAnd}
use Rattle.outside.specs.Files.{Files}
use Rattle.outside.specs.Load.{Load, bytes_of}
use Rattle.outside.specs.Journal.{Call, Loaded, TellsMore}
use Rattle.outside.specs.declared.folder.LoadError.TheVariants as load
use Rattle.outside.proofs.JournalLemmas.{tells_nothing_more, tells_then}
use Rattle.cg_read.specs.Merge.{IsJoined, agree}
use Rattle.cg_read.specs.Profiles.{Contents}
use Rattle.profile_files.specs.Calls.{HasFault, IsAsked, TellsReading}
use Rattle.profile_files.specs.Joined.{no_rows}
use Rattle.profile_files.specs.Reading.{events_fault, events_of, file_fault, format_fault, load_fault}
use Rattle.profile_files.specs.WantedFile.{WantedFile}
use Rattle.profile_files.specs.declared.fault.ReadFault.{ReadFault}
use Rattle.profile_files.specs.declared.fault.ReadFault.TheVariants.{OutOfMemory}
use Rattle.profile_files.specs.inner.Stages.{Asks, ReadsFile}
use Rattle.profile_files.proofs.BlankLemmas.{blank_agrees, blank_joined}
use Rattle.profile_files.proofs.ReadingLemmas.{first_two, unjoined_fault}
use Rattle.byte_text.specs.Memory.{memory}

-- one file is read and joined, and then the rest
TellsReading-more : (told : Option Files) (before now : ℕ) (old mid new : Option (List Call)) (wanted : WantedFile)
    (joined read next : Contents) (files : List WantedFile) (result : Result Contents ReadFault)
    → ReadsFile (Asks told before now old mid wanted) wanted (Ok read) → agree joined.events read.events ≡ true
    → IsJoined joined read next → TellsReading next files result mid new
    → TellsReading joined (wanted ∷ files) result old new
TellsReading-more told before now old mid new wanted joined read next files result reads agrees joins rest =
    let own : List Call = Loaded wanted.name wanted.limit (Ok reads.0) ∷ [] in (
      own ++ rest.0,
      inr (
        next,
        rest.0,
        record {
          bytes = reads.0;
          calls_are = refl;
          read = read;
          reads = reads.2;
          agrees = agrees;
          joins = joins;
        },
        rest.1,
      ),
      tells_then old mid new own rest.0 reads.1.calls rest.2,
    )

-- the file has this fault
stops : (old new : Option (List Call)) (wanted : WantedFile) (joined : Contents) (files : List WantedFile) (found : Load)
    (fault : ReadFault) (calls : List Call) → IsAsked wanted found calls → TellsMore old calls new
    → HasFault (file_fault wanted joined.events found) fault
    → TellsReading joined (wanted ∷ files) (Err fault) old new
stops old new wanted joined files found fault calls asked tells has = (
  calls,
  inl (record { found = found; calls_are = asked; fault = fault; why = has; result_is = refl }),
  tells,
)

-- memory was wanting before the first load
pub TellsReading-wanting : (joined : Contents) (files : List WantedFile) (fault : ReadFault) (told : Option (List Call))
    → fault ≡ (OutOfMemory memory) → TellsReading joined files (Err fault) told told
TellsReading-wanting joined [] fault told is = ([], (refl, inr (ap (λ (f : ReadFault). Err f) is)), tells_nothing_more told)
TellsReading-wanting joined (wanted ∷ files) fault told is =
    stops told told wanted joined files (Err (load.OutOfMemory memory)) fault [] (inr (refl, refl))
    (tells_nothing_more told) (inl is)

-- there is none to read
pub TellsReading-none : (first joined : Contents) (files : List WantedFile) (told : Option (List Call))
    → files ≡ [] → joined ≡ first → TellsReading first files (Ok joined) told told
TellsReading-none first joined files told none same =
    subst (λ f. TellsReading first f (Ok joined) told told) (sym none)
    ([], (refl, inl (ap (λ (c : Contents). Ok c) same)), tells_nothing_more told)

-- an answer that is this fault
pub TellsReading-exit : (first : Contents) (files : List WantedFile) (fault : ReadFault) (result : Result Contents ReadFault)
    (old new : Option (List Call))
    → IsErrAnd result (λ f. f ≡ fault) → TellsReading first files (Err fault) old new
    → TellsReading first files result old new
TellsReading-exit first files fault (Ok joined) old new is tells = absurd is
TellsReading-exit first files fault (Err other) old new is tells =
    subst (λ f. TellsReading first files (Err f) old new) (sym is) tells

pub TellsReading-unread : (told : Option Files) (before now : ℕ) (old new : Option (List Call)) (joined : Contents)
    (files : List WantedFile) (wanted : WantedFile) (rest : List WantedFile) (fault : ReadFault)
    → files ≡ wanted ∷ rest → ReadsFile (Asks told before now old new wanted) wanted (Err fault)
    → TellsReading joined files (Err fault) old new
TellsReading-unread told before now old new joined files wanted rest fault is reads =
    subst (λ f. TellsReading joined f (Err fault) old new) (sym is)
    (stops old new wanted joined rest reads.0 fault (Loaded wanted.name wanted.limit reads.0 ∷ []) (inl refl)
    reads.1.calls
    (first_two (load_fault wanted.name reads.0) (format_fault wanted.name (bytes_of reads.0))
    (events_fault wanted.name joined.events (events_of (bytes_of reads.0))) fault reads.2))

-- ---- the loop over the files

-- What is told of the files so far: what is told of those that are left is told of all.
pub record Tells (first : Contents) (files : List WantedFile) (old : Option (List Call)) (joined : Contents)
    (left : List WantedFile) (now : Option (List Call)) : Type 0 where
  pub goes : (result : Result Contents ReadFault) (new : Option (List Call))
      → TellsReading joined left result now new → TellsReading first files result old new

-- one more file is read and joined
pub Tells-more : (told : Option Files) (before now : ℕ) (first : Contents) (files : List WantedFile)
    (old mid new : Option (List Call)) (joined read next : Contents) (left : List WantedFile) (wanted : WantedFile)
    (rest : List WantedFile)
    → Tells first files old joined left mid → left ≡ wanted ∷ rest
    → ReadsFile (Asks told before now mid new wanted) wanted (Ok read) → agree joined.events read.events ≡ true
    → IsJoined joined read next → Tells first files old next rest new
Tells-more told before now first files old mid new joined read next left wanted rest tells is reads agrees joins
    = record {
      goes = λ result end later.
          tells.goes result end
          (subst (λ l. TellsReading joined l result mid end) (sym is)
          (TellsReading-more told before now mid new end wanted joined read next rest result reads agrees joins later));
    }

-- none is left
pub Tells-whole : (first : Contents) (files : List WantedFile) (old now : Option (List Call)) (joined : Contents)
    (left : List WantedFile)
    → Tells first files old joined left now → left ≡ [] → TellsReading first files (Ok joined) old now
Tells-whole first files old now joined left tells none =
    tells.goes (Ok joined) now
    (TellsReading-none joined joined left now none refl)

-- a file isn't joined
pub Tells-unjoined : (told : Option Files) (before now : ℕ) (first : Contents) (files : List WantedFile)
    (old mid new : Option (List Call)) (joined read : Contents) (left : List WantedFile) (wanted : WantedFile)
    (rest : List WantedFile) (fault : ReadFault)
    → Tells first files old joined left mid → left ≡ wanted ∷ rest
    → ReadsFile (Asks told before now mid new wanted) wanted (Ok read)
    → HasFault (events_fault wanted.name joined.events read.events) fault
    → TellsReading first files (Err fault) old new
Tells-unjoined told before now first files old mid new joined read left wanted rest fault tells is reads has =
    tells.goes (Err fault) new
    (subst (λ l. TellsReading joined l (Err fault) mid new) (sym is)
    (stops mid new wanted joined rest (Ok reads.0) fault (Loaded wanted.name wanted.limit (Ok reads.0) ∷ [])
    (inl refl) reads.1.calls
    (unjoined_fault wanted joined.events reads.0 read fault reads.2 has)))

-- ---- the first file

-- Where there are no events before it, what the first file reads as is what is joined.
pub TellsReading-first : (told : Option Files) (before now : ℕ) (old mid new : Option (List Call))
    (names : List (List ℕ)) (files : List WantedFile) (wanted : WantedFile) (rest : List WantedFile) (read : Contents)
    (result : Result Contents ReadFault)
    → names ≡ [] → files ≡ wanted ∷ rest → ReadsFile (Asks told before now old mid wanted) wanted (Ok read)
    → TellsReading read rest result mid new → TellsReading (no_rows names) files result old new
TellsReading-first told before now old mid new names files wanted rest read result none is reads later =
    subst (λ n. TellsReading (no_rows n) files result old new) (sym none)
    (subst (λ f. TellsReading (no_rows []) f result old new) (sym is)
    (TellsReading-more told before now old mid new wanted (no_rows []) read read rest result reads
    (blank_agrees read.events) (blank_joined read reads.2.says.profile) later))
