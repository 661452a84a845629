-- The ELF header as bytes (gABI, ELF Header).
use Rattle.std.specs.Prelude.{ℕ, List, [], ◌∷◌, ◌++◌}
use Rattle.elf_read.specs.Standard.{elfmag, elfclass32, elfdata2lsb, ev_current, et_exec, em_riscv, header_len}
use Rattle.elf_read.specs.Standard.{program_header_len, section_header_len}
use Rattle.prog_make.specs.declared.header.Header.{Header}
use Rattle.prog_make.specs.Encoding.{halves_bytes, words_bytes}

-- e_ident: the magic number, 32 bits, the low byte first, the version
abbrev pub identification : List ℕ
identification = elfmag ++ (elfclass32 ∷ elfdata2lsb ∷ ev_current ∷ 0 ∷ 0 ∷ 0 ∷ 0 ∷ 0 ∷ 0 ∷ 0 ∷ 0 ∷ 0 ∷ [])

-- e_type and e_machine; e_version, e_entry, e_phoff, e_shoff and e_flags; e_ehsize, e_phentsize, e_phnum,
-- e_shentsize, e_shnum and e_shstrndx
unfoldable pub header_bytes : Header → List ℕ
header_bytes h =
    identification ++ (halves_bytes (et_exec ∷ em_riscv ∷ []) ++
    (words_bytes (ev_current ∷ h.entry ∷ header_len ∷ h.section_offset ∷ 0 ∷ [])
    ++ halves_bytes (header_len ∷ program_header_len ∷ h.program_count ∷ section_header_len ∷ h.section_count ∷
    h.names_index ∷ [])))
