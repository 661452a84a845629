use Rattle.std.proofs.Common.{subst}
use Rattle.elf_read.specs.Image.{Image}
use Rattle.elf_read.specs.Overlaps.{IsApart}
use Rattle.elf_read.proofs.elf.Elf.file.Goals as goal

pub returns-clause-apart : goal.returns-clause-apart
returns-clause-apart c =
    subst (λ (v : Image). IsApart v.segments) c.self.view_is
    (subst IsApart c.self.invariant.segments_are c.self.invariant.apart)
