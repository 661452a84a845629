-- Whose fault a status is: the last call of its kind was answered so.
use Rattle.std.specs.Prelude.{◌≡◌, ◌⊎◌, ℕ, ◌++◌, List, [], ◌∷◌, Err}
use Rattle.outside.specs.Outside.{Log}
use Rattle.outside.specs.Journal.{Call, Loaded, Put, Wrote}
use Rattle.outside.specs.declared.folder.LoadError.{LoadError}
use Rattle.outside.specs.declared.folder.LoadError.TheVariants as load
use Rattle.outside.specs.declared.folder.PutError.TheVariants as put
use Rattle.outside.specs.declared.sink.WriteError.TheVariants as write
use Rattle.command_status.specs.declared.status.Status.{Status}
use Rattle.command_status.specs.declared.status.Status.TheVariants.{LoadFault, OutFault, PutFault, TooLong}

-- this is the last of these
abbrev pub EndsWith : {X : Type 0} → List X → X → Type 0
EndsWith {X} xs x = (before : List X) × (xs ≡ before ++ x ∷ [])

-- a load of this name, which was refused so
abbrev pub LastLoad : List Call → List ℕ → LoadError → Type 0
LastLoad calls name error = (limit : ℕ) × EndsWith calls (Loaded name limit (Err error))

-- a put under this name that failed
abbrev pub LastPut : List Call → List ℕ → Type 0
LastPut calls name = (bytes : List ℕ) × EndsWith calls (Put name bytes (Err put.Failed))

-- a write that failed
abbrev pub LastWrite : List Wrote → Type 0
LastWrite writes = (piece : List ℕ) × EndsWith writes (record { piece = piece; answer = Err write.Failed })

-- Nothing is called behind the call that a status blames.
abbrev pub IsToBlame : Status → Log → Type 0
IsToBlame (LoadFault name) log = LastLoad log.calls name load.Failed
IsToBlame (TooLong name len) log = LastLoad log.calls name (load.TooLong len)
IsToBlame (PutFault name) log = LastPut log.calls name
IsToBlame OutFault log = LastWrite log.out ⊎ LastWrite log.err
IsToBlame _ log = Unit {0}
