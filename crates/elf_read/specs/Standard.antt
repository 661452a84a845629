-- The numbers that the standard has names for (gABI: ELF Header, Program Header, Section Header, Symbol Table), each
-- under its name, and the addresses that segments may have.
use Rattle.std.specs.Prelude.{ℕ, List, [], ◌∷◌, Bool, not, bit_and, ◌==◌}

-- flags, of a segment or a section, have this one
abbrev pub has_flag : ℕ → ℕ → Bool
has_flag flag flags = not (bit_and flags flag == 0)

-- ---- the ELF header

-- ELFMAG0 to ELFMAG3
abbrev pub elfmag : List ℕ
elfmag = 0x7f ∷ 0x45 ∷ 0x4c ∷ 0x46 ∷ []

-- 32 bits
abbrev pub elfclass32 : ℕ
elfclass32 = 1

-- the low byte first
abbrev pub elfdata2lsb : ℕ
elfdata2lsb = 1

-- the one version of the format
abbrev pub ev_current : ℕ
ev_current = 1

-- an executable
abbrev pub et_exec : ℕ
et_exec = 2

-- RISC-V
abbrev pub em_riscv : ℕ
em_riscv = 243

-- ---- lengths in bytes: of the ELF header, of a program header, of a section header and of a symbol

abbrev pub header_len : ℕ
header_len = 52

abbrev pub program_header_len : ℕ
program_header_len = 32

abbrev pub section_header_len : ℕ
section_header_len = 40

abbrev pub symbol_len : ℕ
symbol_len = 16

-- ---- program headers

abbrev pub pt_interp : ℕ
pt_interp = 3

-- execute, write and read
abbrev pub pf_x : ℕ
pf_x = 1

abbrev pub pf_w : ℕ
pf_w = 2

abbrev pub pf_r : ℕ
pf_r = 4

-- the first address that a segment may have
abbrev pub lowest_addr : ℕ
lowest_addr = 0x1000

-- the address after the last one
abbrev pub addr_limit : ℕ
addr_limit = 0x4000_0000

-- ---- section headers

abbrev pub sht_progbits : ℕ
sht_progbits = 1

abbrev pub sht_strtab : ℕ
sht_strtab = 3

abbrev pub shf_write : ℕ
shf_write = 1

abbrev pub shf_alloc : ℕ
shf_alloc = 2

abbrev pub shf_compressed : ℕ
shf_compressed = 0x800

-- ---- symbols

abbrev pub stb_local : ℕ
stb_local = 0
