-- The reading goes on by one file, or stops at it.
use Rattle.std.proofs.Common.{◌≡◌, ℕ, ◌+◌, ◌≤◌, ◌<◌, if◌then◌else◌, Bool, true, List, []}
use Rattle.std.proofs.Common.{◌∷◌, length, map, drop, get_or, Option, Some, None}
use Rattle.std.proofs.Common.{option_map, unwrap_or, Result, Ok, Err}
use Rattle.std.proofs.Common.{◌==◌, Bor, suc, inl, inr, refl, sym, ap, subst, ◌∙◌, arith}
use Rattle.std.proofs.lemmas.Bool.{eqb-true}
use Rattle.std.proofs.lemmas.List.{drop_more}
use Rattle.std.specs.Result.{IsErrAnd}
use Rattle.outside.specs.Files.{Files}
use Rattle.outside.specs.Journal.{Call}
use Rattle.cg_read.specs.Meaning.{or_else}
use Rattle.cg_read.specs.Merge.{IsJoined, agree, longer}
use Rattle.cg_read.specs.Profiles.{Contents}
use Rattle.cg_read.specs.AddressReading.{ReadsLines}
use Rattle.profile_files.specs.Joined.{no_rows}
use Rattle.profile_files.specs.Loads.{AreLoads, IsLoad}
use Rattle.outside.specs.Load.{Load, bytes_of}
use Rattle.profile_files.specs.Reading.{Answers, IsReading, events_fault, events_of, file_fault, format_fault, refusal_of}
use Rattle.profile_files.specs.Reading.{load_fault, reading_fault}
use Rattle.profile_files.specs.WantedFile.{WantedFile}
use Rattle.profile_files.specs.declared.fault.ReadFault.{ReadFault}
use Rattle.profile_files.specs.declared.fault.ReadFault.TheVariants.{EventsDiffer, OutOfMemory}
use Rattle.profile_files.proofs.BlankLemmas.{blank_agrees, blank_joined}
use Rattle.profile_files.proofs.LoadLemmas.{IsLoad-within}
use Rattle.profile_files.specs.Calls.{HasFault}
use Rattle.profile_files.specs.inner.Stages.{Asks, ReadsFile}
use Rattle.byte_text.specs.Memory.{memory}

-- ---- loads within a longer call

AreLoads-within : (told : Option Files) (before from to now : ℕ) (files : List WantedFile) (loads : List Load)
    → before ≤ from → to ≤ now → AreLoads told from to files loads → AreLoads told before now files loads
AreLoads-within told before from to now files [] early late met = tt
AreLoads-within told before from to now [] (found ∷ loads) early late met = met
AreLoads-within told before from to now (wanted ∷ files) (found ∷ loads) early late met = (
  IsLoad-within told wanted.name wanted.limit before from to now found early late met.0,
  AreLoads-within told before from to now files loads early late met.1,
)

pub IsReading-within : (told : Option Files) (before from to now : ℕ) (first : Contents) (files : List WantedFile)
    (result : Result Contents ReadFault)
    → before ≤ from → to ≤ now → IsReading told from to first files result
    → IsReading told before now first files result
IsReading-within told before from to now first files result early late reading = record {
  loads = reading.loads;
  met = AreLoads-within told before from to now files reading.loads early late reading.met;
  answers = reading.answers;
}

-- ---- one file that has no fault

-- the events in a file are those of the profile that it reads as
pub events_read : (bytes : List ℕ) (read : Contents) → ReadsLines bytes read → events_of bytes ≡ read.events
events_read bytes read reads = ap (λ names. unwrap_or names []) reads.says.events

no_format_fault : (name : List ℕ) (bytes : List ℕ) (read : Contents) → ReadsLines bytes read
    → format_fault name bytes ≡ None
no_format_fault name bytes read reads = ap (λ bad. option_map (refusal_of name) bad) reads.sound

agreeing : (name : List ℕ) (before own : List (List ℕ)) → agree before own ≡ true → events_fault name before own ≡ None
agreeing name before own same = ap (λ (b : Bool). if b then None else Some (EventsDiffer name)) same

-- A file that reads as a profile and agrees with what was joined before has no fault.
sound : (wanted : WantedFile) (before : List (List ℕ)) (bytes : List ℕ) (read : Contents) → ReadsLines bytes read
    → agree before read.events ≡ true
    → file_fault wanted before (Ok bytes) ≡ None
sound wanted before bytes read reads same =
    ap (λ fault. or_else fault (events_fault wanted.name before (events_of bytes)))
    (no_format_fault wanted.name bytes read reads)
    ∙ ap (λ names. events_fault wanted.name before names) (events_read bytes read reads)
    ∙ agreeing wanted.name before read.events same

-- The reading goes on behind it.
passes : (wanted : WantedFile) (joined read next : Contents) (bytes : List ℕ) (files : List WantedFile) (loads : List Load)
    → ReadsLines bytes read → agree joined.events read.events ≡ true → IsJoined joined read next
    → reading_fault joined.events (wanted ∷ files) (Ok bytes ∷ loads) ≡ reading_fault next.events files loads
passes wanted joined read next bytes files loads reads same joins =
    ap (λ fault. or_else fault (reading_fault (longer joined.events (events_of bytes)) files loads))
    (sound wanted joined.events bytes read reads same)
    ∙ ap (λ names. reading_fault (longer joined.events names) files loads) (events_read bytes read reads)
    ∙ ap (λ names. reading_fault names files loads) (sym joins.events)

-- the answer to all files, from the answer to those behind it
Answers-more : (wanted : WantedFile) (joined read next : Contents) (bytes : List ℕ) (files : List WantedFile)
    (loads : List Load) (result : Result Contents ReadFault)
    → ReadsLines bytes read → agree joined.events read.events ≡ true → IsJoined joined read next
    → Answers next files loads result → Answers joined (wanted ∷ files) (Ok bytes ∷ loads) result
Answers-more wanted joined read next bytes files loads (Ok whole) reads same joins answers = (
  passes wanted joined read next bytes files loads reads same joins ∙ answers.0,
  ap (λ n. suc n) answers.1,
  (read, next, reads, joins, answers.2),
)
Answers-more wanted joined read next bytes files loads (Err fault) reads same joins answers =
    answers ∙ ap (λ f. unwrap_or f (OutOfMemory memory))
    (sym (passes wanted joined read next bytes files loads reads same joins))

pub IsReading-more : (told : Option Files) (before now : ℕ) (wanted : WantedFile) (joined read next : Contents)
    (bytes : List ℕ) (files : List WantedFile) (result : Result Contents ReadFault)
    → IsLoad told wanted.name wanted.limit before now (Ok bytes) → ReadsLines bytes read
    → agree joined.events read.events ≡ true → IsJoined joined read next
    → IsReading told before now next files result → IsReading told before now joined (wanted ∷ files) result
IsReading-more told before now wanted joined read next bytes files result is reads same joins rest = record {
  loads = Ok bytes ∷ rest.loads;
  met = (is, rest.met);
  answers = Answers-more wanted joined read next bytes files rest.loads result reads same joins rest.answers;
}

-- ---- where the reading stops

-- memory was wanting
pub IsReading-wanting : (told : Option Files) (before now : ℕ) (joined : Contents) (files : List WantedFile)
    (fault : ReadFault)
    → fault ≡ (OutOfMemory memory) → IsReading told before now joined files (Err fault)
IsReading-wanting told before now joined [] fault is = record { loads = []; met = tt; answers = is }
IsReading-wanting told before now joined (wanted ∷ files) fault is = record { loads = []; met = tt; answers = is }

-- the file has this fault
stops : (told : Option Files) (before now : ℕ) (wanted : WantedFile) (joined : Contents) (files : List WantedFile)
    (found : Load) (fault : ReadFault)
    → IsLoad told wanted.name wanted.limit before now found
    → HasFault (file_fault wanted joined.events found) fault
    → IsReading told before now joined (wanted ∷ files) (Err fault)
stops told before now wanted joined files found fault is (inl wanting) =
    IsReading-wanting told before now joined (wanted ∷ files) fault wanting
stops told before now wanted joined files found fault is (inr stop) = record {
  loads = found ∷ [];
  met = (is, tt);
  answers = sym (ap
      (λ f. unwrap_or (or_else f (reading_fault (longer joined.events (events_of (bytes_of found))) files []))
      (OutOfMemory memory)) stop);
}

-- a fault of the first two kinds is the file's
pub first_two : (loaded read events : Option ReadFault) (fault : ReadFault) → HasFault (or_else loaded read) fault
    → HasFault (or_else loaded (or_else read events)) fault
first_two loaded read events fault (inl wanting) = inl wanting
first_two (Some f) read events fault (inr stop) = inr stop
first_two None (Some f) events fault (inr stop) = inr stop
first_two None None events fault (inr stop) = inl (absurd (cc))

pub IsReading-unread : (told : Option Files) (before now : ℕ) (wanted : WantedFile) (joined : Contents)
    (files : List WantedFile) (fault : ReadFault)
    → ReadsFile (IsLoad told wanted.name wanted.limit before now) wanted (Err fault)
    → IsReading told before now joined (wanted ∷ files) (Err fault)
IsReading-unread told before now wanted joined files fault reads =
    stops told before now wanted joined files reads.0 fault reads.1
    (first_two (load_fault wanted.name reads.0) (format_fault wanted.name (bytes_of reads.0))
    (events_fault wanted.name joined.events (events_of (bytes_of reads.0))) fault reads.2)

pub unjoined_fault : (wanted : WantedFile) (before : List (List ℕ)) (bytes : List ℕ) (read : Contents) (fault : ReadFault)
    → ReadsLines bytes read
    → HasFault (events_fault wanted.name before read.events) fault
    → HasFault (file_fault wanted before (Ok bytes)) fault
unjoined_fault wanted before bytes read fault reads (inl wanting) = inl wanting
unjoined_fault wanted before bytes read fault reads (inr stop) =
    inr (ap (λ f. or_else f (events_fault wanted.name before (events_of bytes)))
    (no_format_fault wanted.name bytes read reads)
    ∙ ap (λ names. events_fault wanted.name before names) (events_read bytes read reads)
    ∙ stop)

pub IsReading-unjoined : (told : Option Files) (before now : ℕ) (wanted : WantedFile) (joined read : Contents)
    (bytes : List ℕ) (files : List WantedFile) (fault : ReadFault)
    → IsLoad told wanted.name wanted.limit before now (Ok bytes) → ReadsLines bytes read
    → HasFault (events_fault wanted.name joined.events read.events) fault
    → IsReading told before now joined (wanted ∷ files) (Err fault)
IsReading-unjoined told before now wanted joined read bytes files fault is reads has =
    stops told before now wanted joined files (Ok bytes) fault is
    (unjoined_fault wanted joined.events bytes read fault reads has)

-- ---- the loop over the files

-- What the files so far came to: an answer to the files that are left is one to all.
pub record Stands (told : Option Files) (before now : ℕ) (first : Contents) (files : List WantedFile) (joined : Contents)
    (left : List WantedFile) : Type 0 where
  pub early : before ≤ now
  pub goes : (later : ℕ) (result : Result Contents ReadFault) → now ≤ later
      → IsReading told before later joined left result
      → IsReading told before later first files result

-- one more file is read and joined
pub Stands-more : (told seen : Option Files) (before from to : ℕ) (first : Contents) (files : List WantedFile)
    (joined read next : Contents) (left : List WantedFile) (wanted : WantedFile) (rest : List WantedFile) (old new : Option (List Call))
    → Stands told before from first files joined left → seen ≡ told → left ≡ wanted ∷ rest → from ≤ to
    → ReadsFile (Asks seen from to old new wanted) wanted (Ok read) → agree joined.events read.events ≡ true → IsJoined joined read next
    → Stands told before to first files next rest
Stands-more told seen before from to first files joined read next left wanted rest old new stands same is later
    reads agrees joins
    = record {
      early = let a = stands.early in omega arith;
      goes = λ end result late reading.
          stands.goes end result (omega arith)
          (subst (λ l. IsReading told before end joined l result) (sym is)
          (IsReading-more told before end wanted joined read next reads.0 rest result
          (IsLoad-within told wanted.name wanted.limit before from to end (Ok reads.0) stands.early late
          (subst (λ t. IsLoad t wanted.name wanted.limit from to (Ok reads.0)) same reads.1.is)) reads.2 agrees
          joins reading));
    }

-- a file isn't read
pub Stands-unread : (told seen : Option Files) (before from to : ℕ) (first : Contents) (files : List WantedFile)
    (joined : Contents) (left : List WantedFile) (wanted : WantedFile) (rest : List WantedFile) (fault : ReadFault)
    (old new : Option (List Call))
    → Stands told before from first files joined left → seen ≡ told → left ≡ wanted ∷ rest → from ≤ to
    → ReadsFile (Asks seen from to old new wanted) wanted (Err fault) → IsReading told before to first files (Err fault)
Stands-unread told seen before from to first files joined left wanted rest fault old new stands same is later reads =
    stands.goes to (Err fault) later
    (subst (λ l. IsReading told before to joined l (Err fault)) (sym is)
    (IsReading-unread told before to wanted joined rest fault (
      reads.0,
      IsLoad-within told wanted.name wanted.limit before from to to reads.0 stands.early (omega arith)
          (subst (λ t. IsLoad t wanted.name wanted.limit from to reads.0) same reads.1.is),
      reads.2,
    )))

-- a file isn't joined
pub Stands-unjoined : (told seen : Option Files) (before from to : ℕ) (first : Contents) (files : List WantedFile)
    (joined read : Contents) (left : List WantedFile) (wanted : WantedFile) (rest : List WantedFile) (fault : ReadFault)
    (old new : Option (List Call))
    → Stands told before from first files joined left → seen ≡ told → left ≡ wanted ∷ rest → from ≤ to
    → ReadsFile (Asks seen from to old new wanted) wanted (Ok read) → HasFault (events_fault wanted.name joined.events read.events) fault
    → IsReading told before to first files (Err fault)
Stands-unjoined told seen before from to first files joined read left wanted rest fault old new stands same is later reads has =
    stands.goes to (Err fault) later
    (subst (λ l. IsReading told before to joined l (Err fault)) (sym is)
    (IsReading-unjoined told before to wanted joined read reads.0 rest fault
    (IsLoad-within told wanted.name wanted.limit before from to to (Ok reads.0) stands.early (omega arith)
    (subst (λ t. IsLoad t wanted.name wanted.limit from to (Ok reads.0)) same reads.1.is)) reads.2 has))

-- an answer that is this fault
pub IsReading-exit : (told : Option Files) (before now : ℕ) (first : Contents) (files : List WantedFile)
    (fault : ReadFault) (result : Result Contents ReadFault)
    → IsErrAnd result (λ f. f ≡ fault) → IsReading told before now first files (Err fault)
    → IsReading told before now first files result
IsReading-exit told before now first files fault (Ok joined) is reading = absurd is
IsReading-exit told before now first files fault (Err other) is reading =
    subst (λ f. IsReading told before now first files (Err f)) (sym is) reading

-- the files that are left, from an element of the list on
pub files_left : (files : List WantedFile) (i : ℕ) (wanted : WantedFile) → i < length files
    → wanted ≡ get_or files i wanted
    → drop i files ≡ wanted ∷ drop (i + 1) files
files_left files i wanted within is =
    drop_more files i wanted within ∙ ap (λ w. w ∷ drop (i + 1) files) (sym is)

-- ---- the first file

pub no_names : (names : List (Bor (List ℕ))) → true ≡ (length names == 0) → map (λ name. name.now) names ≡ []
no_names [] none = refl
no_names (name ∷ names) none =
    let is : length (name ∷ names) ≡ 0 = eqb-true (length (name ∷ names)) 0 (sym none) in absurd (omega arith)

-- Where there are no events before it, what the first file reads as is what is joined.
pub first_read : (told seen : Option Files) (before from now : ℕ) (names : List (List ℕ)) (files : List WantedFile)
    (wanted : WantedFile) (rest : List WantedFile) (read : Contents) (result : Result Contents ReadFault)
    (old new : Option (List Call))
    → names ≡ [] → files ≡ wanted ∷ rest → seen ≡ told → before ≤ from → from ≤ now
    → ReadsFile (Asks told before from old new wanted) wanted (Ok read) → IsReading seen from now read rest result
    → IsReading told before now (no_rows names) files result
first_read told seen before from now names files wanted rest read result old new none is same early late reads reading =
    subst (λ n. IsReading told before now (no_rows n) files result) (sym none)
    (subst (λ f. IsReading told before now (no_rows []) f result) (sym is)
    (IsReading-more told before now wanted (no_rows []) read read reads.0 rest result
    (IsLoad-within told wanted.name wanted.limit before before from now (Ok reads.0) (omega arith) late reads.1.is)
    reads.2 (blank_agrees read.events) (blank_joined read reads.2.says.profile)
    (IsReading-within told before from now now read rest result early (omega arith)
    (subst (λ t. IsReading t from now read rest result) same reading))))

-- It isn't read.
pub first_unread : (told : Option Files) (before now : ℕ) (first : Contents) (files : List WantedFile) (wanted : WantedFile)
    (rest : List WantedFile) (fault : ReadFault) (old new : Option (List Call))
    → files ≡ wanted ∷ rest → ReadsFile (Asks told before now old new wanted) wanted (Err fault)
    → IsReading told before now first files (Err fault)
first_unread told before now first files wanted rest fault old new is reads =
    subst (λ f. IsReading told before now first f (Err fault)) (sym is)
    (IsReading-unread told before now wanted first rest fault (reads.0, reads.1.is, reads.2))
