-- From the arguments of a process to its exit status.
use Rattle.std.proofs.Common.{◌≡◌, ℕ, List, Result, Ok, Err, String, Vec, string_bytes, map, inl, inr, refl, subst}
use Rattle.std.proofs.Common.{◌∙◌}
use Rattle.std.specs.declared.alloc.Global.{Global}
use Rattle.std.specs.declared.io.Error.{Error}
use Rattle.std.specs.declared.vec.IntoIter.{IntoIter}
use Rattle.command_status.specs.Numbers.{number_of}
use Rattle.command_status.specs.declared.status.Status.{Status}
use Rattle.command_words.specs.Request.{read_request}
use Rattle.outside.specs.Outside.{Outside}
use Rattle.profile_cli.specs.Exit.{ExitsWith}
use Rattle.profile_cli.specs.inner.ProcessWords.{AreWords}
use Rattle.profile_cli.specs.Profile.{IsReply}

-- the exit of a reply to the words
pub exits_replied : (M : Type 0) (old new : Outside) (args : Result (IntoIter (String Global) Global) Error)
    (words : Vec (String Global) Global) (given : List (String Global)) (status : Status) (number : ℕ)
    → AreWords {M = M} args (Ok words) → given ≡ words.items → number ≡ number_of status
    → IsReply old (read_request (map (λ word. string_bytes word) given)) status new → ExitsWith old args number new
exits_replied M old new (Ok args) words given status number are is number_is reply =
    inl (record {
      status = status;
      reply = subst (λ ws. IsReply old (read_request (map (λ word. string_bytes word) ws)) status new) (is ∙ are) reply;
      number_is = number_is;
    })
exits_replied M old new (Err error) words given status number are is number_is reply =
    inl (
      are.0,
      record {
        status = status;
        reply = subst (λ ws. IsReply old (read_request (map (λ word. string_bytes word) ws)) status new) (is ∙ are.1) reply;
        number_is = number_is;
      },
    )

-- the exit where memory for the words was refused
pub exits_unasked : {M : Type 0} (old : Outside) (args : Result (IntoIter (String Global) Global) Error) (refused : M)
    (number : ℕ) → AreWords args (Err refused) → number ≡ 20 → ExitsWith old args number old
exits_unasked old (Ok args) refused number are is = inr (record { number_is = is; same = refl })
exits_unasked old (Err error) refused number are is = inr (are, record { number_is = is; same = refl })
