-- A file of a folder in memory is set.
use Rattle.std.proofs.Common.{◌≡◌, ℕ, List, true, false, Some, Result, Ok, Err, is_err, ap}
use Rattle.std.specs.Prelude.{unwrap_or}
use Rattle.outside.specs.Files.{Files, SameBut, with_file}
use Rattle.outside.specs.Put.{PutAnswers}
use Rattle.outside.specs.declared.folder.PutError.{PutError}
use Rattle.outside.specs.declared.folder.PutError.TheVariants as put

pub put_done : {U : Type 0} (old new : Files) (name bytes : List ℕ) (before now : ℕ) (r : Result U PutError)
    → is_err r ≡ false → PutAnswers (Some old) name bytes before now r (Some new) → new ≡ with_file old name bytes
put_done old new name bytes before now (Ok u) is answer = ap (λ o. unwrap_or o new) answer
put_done old new name bytes before now (Err e) is answer = cc (is)

pub put_refused : {U : Type 0} (old new : Files) (name bytes : List ℕ) (before now : ℕ) (r : Result U PutError)
    → is_err r ≡ true → PutAnswers (Some old) name bytes before now r (Some new)
    → SameBut name (Some old) (Some new)
put_refused old new name bytes before now (Ok u) is answer = cc (is)
put_refused old new name bytes before now (Err put.Failed) is answer = answer.1
put_refused old new name bytes before now (Err (put.OutOfMemory _)) is answer = answer
