-- The line on how a command ended.
use Rattle.std.proofs.Common.{◌≡◌, ◌<◌, ◌++◌, false, if◌then◌else◌, Bool, Err, [], length, codes, refl, sym, subst}
use Rattle.std.proofs.Common.{arith}
use Rattle.outside.specs.Outside.{Stream}
use Rattle.outside.specs.declared.sink.WriteError.TheVariants.{OutOfMemory}
use Rattle.command_status.specs.Lines.{is_silent, message_of, text_of}
use Rattle.command_status.specs.declared.status.Status.{Status}
use Rattle.command_status.specs.declared.status.Status.TheVariants as status
use Rattle.command_steps.specs.Saying.{Says}
use Rattle.outside.proofs.WriteLemmas.{taken_nothing}
use Rattle.byte_text.specs.Memory.{memory}

-- what is told has a text
has_text : (found : Status) → is_silent found ≡ false → 0 < length (message_of found)
unfolding message_of
has_text found told =
    subst (λ (silent : Bool). 0 < length (if silent then [] else codes "cgprof: " ++ text_of found ++ codes "\n"))
    (sym told) (omega arith)

-- it was not made for want of memory
pub Says-unmade : (found : Status) (sink : Stream) → is_silent found ≡ false → Says found sink (status.OutOfMemory memory) sink
Says-unmade found sink told = record {
  answer = Err (OutOfMemory memory);
  written = (0, has_text found told, taken_nothing sink.taken);
  status_is = refl;
  never_falls = omega arith;
}
