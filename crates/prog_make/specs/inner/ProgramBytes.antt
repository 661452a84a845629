-- The program header table as bytes (gABI, Program Header).
use Rattle.std.specs.Prelude.{ℕ, List, [], ◌∷◌}
use Rattle.std.specs.List.{flat_map}
use Rattle.elf_read.specs.declared.program.Segment.{Segment}
use Rattle.prog_make.specs.Encoding.{words_bytes}

-- p_type, p_offset, p_vaddr, p_paddr, p_filesz, p_memsz, p_flags and p_align
unfoldable pub program_bytes : Segment → List ℕ
program_bytes s = words_bytes (1 ∷ s.offset ∷ s.addr ∷ s.addr ∷ s.file_len ∷ s.mem_len ∷ s.flags ∷ 1 ∷ [])

abbrev pub programs_bytes : List Segment → List ℕ
programs_bytes segments = flat_map program_bytes segments
