-- The exit status of a process, and what it leaves.
use Rattle.std.specs.Prelude.{◌≡◌, ◌≢◌, ◌⊎◌, ℕ, Result, Ok, Err, String, map, string_bytes}
use Rattle.std.specs.IoError.{error_kind}
use Rattle.std.specs.Vec.Iter.{into_iter_items}
use Rattle.std.specs.declared.alloc.Global.{Global}
use Rattle.std.specs.declared.io.Error.{Error}
use Rattle.std.specs.declared.io.ErrorKind.TheVariants as kind
use Rattle.std.specs.declared.vec.IntoIter.{IntoIter}
use Rattle.command_status.specs.Numbers.{number_of}
use Rattle.command_status.specs.declared.status.Status.{Status}
use Rattle.command_words.specs.Request.{Request, Usage, read_request}
use Rattle.outside.specs.Outside.{Outside}
use Rattle.profile_cli.specs.Profile.{IsReply}

-- There is a status so replied, and this is its number.
pub record RepliesWith (old : Outside) (words : Request) (number : ℕ) (new : Outside) : Type 0 where
  pub status : Status
  pub reply : IsReply old words status new
  pub number_is : number ≡ number_of status

-- Memory for the words was refused, and nothing has been touched.
pub record WantsMemory (old : Outside) (number : ℕ) (new : Outside) : Type 0 where
  pub number_is : number ≡ 20
  pub same : new ≡ old

-- The words are the arguments of the process, and none is left out. Where they can't be read as text they are faulty.
abbrev pub ExitsWith : Outside → Result (IntoIter (String Global) Global) Error → ℕ → Outside → Type 0
ExitsWith old (Ok args) number new =
    RepliesWith old (read_request (map (λ word. string_bytes word) (into_iter_items args))) number new
    ⊎ WantsMemory old number new
ExitsWith old (Err error) number new = ((error_kind error ≢ kind.OutOfMemory) × RepliesWith old Usage number new)
    ⊎ ((error_kind error ≡ kind.OutOfMemory) × WantsMemory old number new)
