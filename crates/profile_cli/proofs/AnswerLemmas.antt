-- The status that is answered, from the one that was found before the line was written.
use Rattle.std.proofs.Common.{◌≡◌, ◌≢◌, ◌⊎◌, ℕ, ◌≤◌, if◌then◌else◌, List, None, Err, ◌∙◌, inl, inr, refl, sym}
use Rattle.std.proofs.lemmas.Option.{none-some}
use Rattle.outside.specs.Files.{Rose}
use Rattle.outside.specs.Outside.{Outside, Output}
use Rattle.elf_read.specs.Image.{Image}
use Rattle.sym_map.specs.SymbolMap.{SymbolMap}
use Rattle.profile_run.specs.Program.{Program}
use Rattle.profile_run.specs.Parts.{Writing}
use Rattle.profile_run.specs.Runs.{Runs}
use Rattle.profile_run.specs.declared.run_fault.RunFault.{RunFault}
use Rattle.profile_run.specs.declared.run_fault.RunFault.TheVariants as fault
use Rattle.command_words.specs.Request.{Job}
use Rattle.command_status.specs.declared.status.Status.TheVariants.{OutFault, OutOfMemory}
use Rattle.command_status.specs.declared.status.Status.TheVariants as wanted
use Rattle.command_steps.specs.Certain.{IsCalm}
use Rattle.profile_cli.specs.Order.{arguments_fault, fault_status, pages_fault}
use Rattle.profile_cli.specs.Program.{guest_of}
use Rattle.profile_cli.proofs.LoadLemmas.{many_arguments, many_pages}
use Rattle.byte_text.specs.Memory.{memory}

-- where no put and no write failed, a guest that fits is refused for want of memory alone
pub only_wants : (parts : Program → Writing) (old mid : Outside) (job : Job) (image : Image) (input : List ℕ)
    (syms : SymbolMap) → arguments_fault job.args ≡ None → pages_fault image ≡ None → IsCalm old mid
    → (refused : RunFault) (output : Output)
    → Runs (parts (guest_of job image input syms)) (guest_of job image input syms) old (Err refused) output mid
    → fault_status job.base refused ≡ OutOfMemory memory
only_wants parts old mid job image input syms few small still (fault.ArgsTooLong len) output runs =
    absurd (none-some (wanted.ArgsTooLong len) (sym few ∙ many_arguments job.args len runs.0))
only_wants parts old mid job image input syms few small still fault.GuestFull output runs =
    absurd (none-some wanted.GuestFull (sym small ∙ many_pages image runs.1))
only_wants parts old mid job image input syms few small still (fault.PutFault part thread) output runs =
    absurd (still.puts runs.1)
only_wants parts old mid job image input syms few small still fault.OutFault output runs = absurd (either runs.1)
  where
    either : Rose old.out.faults mid.out.faults ⊎ Rose old.err.faults mid.err.faults → ⊥
    either (inl rose) = still.out rose
    either (inr rose) = still.err rose
only_wants parts old mid job image input syms few small still (fault.OutOfMemory _) output runs = refl
