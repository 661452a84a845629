-- Which bytes are refused, and why.
use Rattle.std.specs.Prelude.{ℕ, List, [], ◌∷◌, Option}
use Rattle.elf_read.specs.declared.error.ElfError.{ElfError}
use Rattle.elf_read.specs.Checks.{first_fault, whole_fault}
use Rattle.elf_read.specs.Header.{header_of, magic_fault, kind_fault}
use Rattle.elf_read.specs.Overlaps.{apart_fault}
use Rattle.elf_read.specs.Programs.{programs_end, programs_fault, segments_of, entry_fault}
use Rattle.elf_read.specs.Standard.{header_len}
use Rattle.elf_read.specs.Sections.{sections_whole_fault, sections_fault}

-- the first check that the bytes fail, or nothing
unfoldable pub refusal : List ℕ → Option ElfError
refusal bytes =
    first_fault (
    whole_fault bytes header_len
    ∷ magic_fault bytes
    ∷ kind_fault bytes
    ∷ whole_fault bytes (programs_end bytes)
    ∷ programs_fault bytes
    ∷ apart_fault (segments_of bytes)
    ∷ sections_whole_fault bytes
    ∷ sections_fault bytes
    ∷ entry_fault (header_of bytes).entry (segments_of bytes)
    ∷ [])
