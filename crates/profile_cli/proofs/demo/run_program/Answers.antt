use Rattle.std.proofs.Common.{◌∙◌, refl}
use Rattle.profile_cli.proofs.DemoLemmas.{DemoStopped-wanting, RunsDemo-elf, RunsDemo-exit, job_is_job, only_wanting}
use Rattle.part_dump.specs.Plain.{plain}
use Rattle.profile_cli.proofs.OutsideLemmas.{Leaves-nothing}
use Rattle.profile_cli.proofs.Others.{nobody_is}
use Rattle.profile_cli.proofs.TellLemmas.{demo_not_run, told_demo_run}
use Rattle.profile_cli.proofs.WatchLemmas.{nobody_writes, plain_watched}
use Rattle.profile_cli.proofs.demo.run_program.Goals as goal

pub returns-in_err-elf-clause-ran : goal.returns-in_err-elf-clause-ran
returns-in_err-elf-clause-ran g c =
    RunsDemo-exit _ _ _ _ c.from_residual.result c.from_residual.ensures.1
    (DemoStopped-wanting _ _ _ _ (only_wanting _ _ c.requires.accepted c.in_err-elf.ensures)
    (Leaves-nothing _ _ refl refl refl))

pub run_elf-requires-clause-within : goal.run_elf-requires-clause-within
run_elf-requires-clause-within g c = job_is_job _ c.requires.job

pub returns-clause-ran : goal.returns-clause-ran
returns-clause-ran g c =
    RunsDemo-elf _ _ (nobody_is.parts c.new.result ∙ plain_watched plain nobody_writes c.new.result) _ _ _ _
    c.new-input.result.items c.in_ok-elf.elf c.run_elf.result c.requires.job c.new-input.ensures.items
    c.in_ok-elf.ensures.1 c.run_elf.ensures.ran

pub returns-in_err-elf-clause-told : goal.returns-in_err-elf-clause-told
returns-in_err-elf-clause-told g c =
    demo_not_run _ _ _ c.from_residual.result c.from_residual.ensures.1
    (only_wanting _ _ c.requires.accepted c.in_err-elf.ensures)

pub returns-clause-told : goal.returns-clause-told
returns-clause-told g c =
    told_demo_run _ _ _ _ c.new-input.result.items c.in_ok-elf.elf _ _ c.run_elf.result
    (nobody_is.parts c.new.result ∙ plain_watched plain nobody_writes c.new.result) c.requires.job
    c.new-input.ensures.items c.in_ok-elf.ensures.1 c.run_elf.ensures.ran
