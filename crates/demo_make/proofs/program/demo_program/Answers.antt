-- A program can be made of the parts, and the file is one of them.
use Rattle.std.proofs.Common.{◌≡◌, ◌∙◌, IfOk, length, subst}
use Rattle.std.proofs.lemmas.Result.{IfOk-weaker}
use Rattle.prog_make.specs.Parts.{Parts}
use Rattle.demo_make.specs.Program.{IsFileOf, demo}
use Rattle.demo_make.proofs.Lengths.{demo-len}
use Rattle.demo_make.proofs.Places.{stand}
use Rattle.demo_make.proofs.Sound.{demo-sound}
use Rattle.demo_make.proofs.program.demo_program.Goals as goal

pub make_elf-requires : goal.make_elf-requires
make_elf-requires c = rw c.in_ok-parts_of.ensures (demo-sound c.args.size)

pub returns-clause-places : goal.returns-clause-places
returns-clause-places c = stand c.args.size

pub returns-clause-file : goal.returns-clause-file
returns-clause-file c =
    subst (λ (parts : Parts). IfOk c.make_elf-2.result (λ file. IsFileOf parts file.items)) c.in_ok-parts_of.ensures
    c.make_elf-2.ensures

pub returns-clause-len : goal.returns-clause-len
returns-clause-len c = IfOk-weaker c.make_elf-2.result (λ file. IsFileOf (demo c.args.size) file.items)
    (λ file. length file.items ≡ 4958) (λ file is. is.len ∙ demo-len c.args.size) (returns-clause-file c)

pub returns-in_err-parts_of-clause-places : goal.returns-in_err-parts_of-clause-places
returns-in_err-parts_of-clause-places c = stand c.args.size
