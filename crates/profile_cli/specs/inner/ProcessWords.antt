-- The words that are made of a process's arguments.
use Rattle.std.specs.Prelude.{◌≡◌, ◌≢◌, [], Result, Ok, Err, String, Vec}
use Rattle.std.specs.IoError.{error_kind}
use Rattle.std.specs.Vec.Iter.{into_iter_items}
use Rattle.std.specs.declared.alloc.Global.{Global}
use Rattle.std.specs.declared.io.Error.{Error}
use Rattle.std.specs.declared.io.ErrorKind.TheVariants as kind
use Rattle.std.specs.declared.vec.IntoIter.{IntoIter}

-- the arguments, or memory for them was refused; none, where they can't be read for another reason
abbrev pub AreWords : {M : Type 0} → Result (IntoIter (String Global) Global) Error
    → Result (Vec (String Global) Global) M → Type 0
AreWords (Ok args) (Ok words) = words.items ≡ into_iter_items args
AreWords (Ok args) (Err _) = Unit {0}
AreWords (Err error) (Ok words) = (error_kind error ≢ kind.OutOfMemory) × (words.items ≡ [])
AreWords (Err error) (Err _) = error_kind error ≡ kind.OutOfMemory
