-- The bytes are those of a file that was made, which reads back.
use Rattle.std.proofs.Common.{◌≡◌, rules}
use Rattle.prog_make.specs.inner.ElfFile.{file_of}
use Rattle.prog_make.proofs.FullRead.{is_made}
use Rattle.prog_make.proofs.Fit.{parts_fit}
use Rattle.prog_make.proofs.elf.make_elf.Goals as goal

pub file_of-requires : goal.file_of-requires
file_of-requires c = parts_fit c.args.parts.now c.requires

pub returns : goal.returns
returns c =
    let e : c.file.inside.bytes.items ≡ file_of c.args.parts.now = search rules in
    rw e (is_made c.args.parts.now (parts_fit c.args.parts.now c.requires) (search rules))
