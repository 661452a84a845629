-- What one read and one write of bytes answer.
use Rattle.std.specs.Prelude.{◌≡◌, ℕ, ◌<◌, ◌≤◌, ◌++◌, List, length, Result, Ok, Err, Vec}
use Rattle.std.specs.declared.alloc.Global.{Global}
use Rattle.outside.specs.declared.folder.LoadError.{LoadError}
use Rattle.outside.specs.declared.folder.LoadError.TheVariants as load
use Rattle.outside.specs.declared.sink.WriteError.{WriteError}
use Rattle.outside.specs.declared.sink.WriteError.TheVariants as write

-- what a read of a real file answers: at most so many bytes, or a length above that
abbrev pub IsReadWithin : ℕ → Result (Vec ℕ Global) LoadError → Type 0
IsReadWithin limit (Ok bytes) = length bytes.items ≤ limit
IsReadWithin limit (Err (load.TooLong len)) = limit < len
IsReadWithin limit (Err load.Failed) = Unit {0}
IsReadWithin limit (Err (load.OutOfMemory _)) = Unit {0}

-- the whole piece was taken, or none of it for want of memory
abbrev pub TakesWhole : List ℕ → List ℕ → Result ℕ WriteError → List ℕ → Type 0
TakesWhole old piece (Ok count) new = (count ≡ length piece) × (new ≡ old ++ piece)
TakesWhole old piece (Err write.Failed) new = ⊥
TakesWhole old piece (Err (write.OutOfMemory _)) new = new ≡ old
