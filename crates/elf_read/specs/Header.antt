-- The ELF header (gABI, ELF Header), and the checks on it.
use Rattle.std.specs.Prelude.{ℕ, List, [], ◌∷◌, Option, Some, None, Bool, not, nat_eq, slice_index, ◌==◌, ◌&&◌}
use Rattle.std.specs.Prelude.{if◌then◌else◌}
use Rattle.std.specs.List.{starts_with}
use Rattle.elf_read.specs.declared.error.ElfError.{ElfError}
use Rattle.elf_read.specs.declared.error.ElfError.TheVariants.{NotElf, NotThisKind}
use Rattle.elf_read.specs.declared.error.Field.{Field}
use Rattle.elf_read.specs.declared.error.Field.TheVariants.{Class, ByteOrder, IdentVersion, Kind, Machine, Version}
use Rattle.elf_read.specs.declared.error.Field.TheVariants.{PhSize, ShSize}
use Rattle.elf_read.specs.declared.header.FileHeader.{FileHeader}
use Rattle.elf_read.specs.Standard.{elfmag, elfclass32, elfdata2lsb, ev_current, et_exec, em_riscv, program_header_len}
use Rattle.elf_read.specs.Standard.{section_header_len}
use Rattle.elf_read.specs.Numbers.{half_at, word_at}
use Rattle.elf_read.specs.Checks.{first_fault}

-- the fields e_entry, e_phoff, e_shoff, e_phnum, e_shnum and e_shstrndx
abbrev pub header_of : List ℕ → FileHeader
header_of bytes = record {
  entry = word_at bytes 24;
  program_offset = word_at bytes 28;
  section_offset = word_at bytes 32;
  program_count = half_at bytes 44;
  section_count = half_at bytes 48;
  names_index = half_at bytes 50;
}

-- the file begins with the magic number
unfoldable pub magic_fault : List ℕ → Option ElfError
magic_fault bytes =
    if starts_with nat_eq bytes elfmag then None else Some NotElf

-- a field has the one value that it may have
abbrev pub field_fault : Field → ℕ → ℕ → Option ElfError
field_fault field value want = if value == want then None else Some (NotThisKind field value)

-- e_phentsize, where there are program headers
abbrev pub program_size_fault : List ℕ → Option ElfError
program_size_fault bytes =
    if (header_of bytes).program_count == 0 then None else field_fault PhSize (half_at bytes 42) program_header_len

-- the file has section headers
abbrev pub has_sections : FileHeader → Bool
has_sections h = not (h.section_count == 0) && not (h.section_offset == 0)

-- e_shentsize, where there are section headers
abbrev pub section_size_fault : List ℕ → Option ElfError
section_size_fault bytes =
    if has_sections (header_of bytes) then field_fault ShSize (half_at bytes 46) section_header_len else None

-- an executable (ET_EXEC) for 32-bit RISC-V (EM_RISCV), with the low byte first, in the one version of the format
unfoldable pub kind_fault : List ℕ → Option ElfError
kind_fault bytes =
    first_fault (
    field_fault Class (slice_index bytes 4) elfclass32
    ∷ field_fault ByteOrder (slice_index bytes 5) elfdata2lsb
    ∷ field_fault IdentVersion (slice_index bytes 6) ev_current
    ∷ field_fault Kind (half_at bytes 16) et_exec
    ∷ field_fault Machine (half_at bytes 18) em_riscv
    ∷ field_fault Version (word_at bytes 20) ev_current
    ∷ program_size_fault bytes
    ∷ section_size_fault bytes
    ∷ [])
