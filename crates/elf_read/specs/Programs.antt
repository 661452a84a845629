-- The program header table (gABI, Program Header) and the segments that it describes.
use Rattle.std.specs.Prelude.{ℕ, zero, suc, ◌<◌, ◌≤◌, ◌-◌, ◌+◌, ◌*◌, List, [], ◌++◌, length, Option, Some, None, Bool}
use Rattle.std.specs.Prelude.{not, nat_lt, nat_le, ◌==◌, ◌&&◌, ◌%◌, if◌then◌else◌}
use Rattle.std.specs.Option.{option_to_list, option_map}
use Rattle.std.specs.List.{list_any, find}
use Rattle.elf_read.specs.declared.error.ElfError.{ElfError}
use Rattle.elf_read.specs.declared.error.ElfError.TheVariants.{Interp, BadSegment, NoEntry}
use Rattle.elf_read.specs.declared.header.FileHeader.{FileHeader}
use Rattle.elf_read.specs.declared.program.ProgramHeader.{ProgramHeader}
use Rattle.elf_read.specs.declared.program.Segment.{Segment}
use Rattle.elf_read.specs.Standard.{program_header_len, pt_interp, pf_x, lowest_addr, addr_limit, has_flag}
use Rattle.elf_read.specs.Numbers.{word_at}
use Rattle.elf_read.specs.Checks.{table, first_fault, whole_fault}
use Rattle.elf_read.specs.Header.{header_of}

-- where the program headers end
abbrev pub headers_end : FileHeader → ℕ
headers_end h = h.program_offset + program_header_len * h.program_count

abbrev pub programs_end : List ℕ → ℕ
programs_end bytes = headers_end (header_of bytes)

-- the fields p_type, p_offset, p_vaddr, p_filesz, p_memsz and p_flags of the header at a place
abbrev pub program_header_at : List ℕ → ℕ → ProgramHeader
program_header_at bytes place = record {
  kind = word_at bytes place;
  offset = word_at bytes (place + 4);
  addr = word_at bytes (place + 8);
  file_len = word_at bytes (place + 16);
  mem_len = word_at bytes (place + 20);
  flags = word_at bytes (place + 24);
}

-- program header k
unfoldable pub program_header : List ℕ → ℕ → ProgramHeader
program_header bytes k = program_header_at bytes ((header_of bytes).program_offset + program_header_len * k)

-- the segment of a header: PT_LOAD, with memory
abbrev pub segment_of : ProgramHeader → Option Segment
segment_of h =
    if (h.kind == 1) && not (h.mem_len == 0)
    then Some (record { offset = h.offset; addr = h.addr; file_len = h.file_len; mem_len = h.mem_len; flags = h.flags })
    else None

-- the segments among the first n program headers
unfoldable pub segments_among : List ℕ → ℕ → List Segment
segments_among bytes zero = []
segments_among bytes (suc n) = segments_among bytes n ++ option_to_list (segment_of (program_header bytes n))

-- the segments of the file
abbrev pub segments_of : List ℕ → List Segment
segments_of bytes = segments_among bytes (header_of bytes).program_count

-- a segment has no more bytes in the file than in memory, and lies among the addresses that segments may have
abbrev pub is_placed : Segment → Bool
is_placed s = nat_le s.file_len s.mem_len && nat_le lowest_addr s.addr && nat_le (s.addr + s.mem_len) addr_limit

-- the same as facts, of a segment whose bytes are in the file
pub record IsPlaced (bytes : List ℕ) (s : Segment) : Type 0 where
  pub loaded : 0 < s.mem_len
  pub sizes : s.file_len ≤ s.mem_len
  pub low : lowest_addr ≤ s.addr
  pub high : s.addr + s.mem_len ≤ addr_limit
  pub in_file : s.offset + s.file_len ≤ length bytes

-- what is wrong with the segment of this number
abbrev pub segment_fault : List ℕ → ℕ → Segment → Option ElfError
segment_fault bytes number s =
    if is_placed s then whole_fault bytes (s.offset + s.file_len) else Some (BadSegment number)

-- the same where there is a segment
abbrev pub loaded_fault : List ℕ → ℕ → Option Segment → Option ElfError
loaded_fault bytes number None = None
loaded_fault bytes number (Some s) = segment_fault bytes number s

-- what is wrong with a program header that follows so many segments: PT_INTERP, or a wrong segment
abbrev pub program_fault_after : List ℕ → ℕ → ProgramHeader → Option ElfError
program_fault_after bytes number h =
    if h.kind == pt_interp then Some Interp else loaded_fault bytes number (segment_of h)

-- what is wrong with program header k; segments are numbered from 0 among the segments
unfoldable pub program_fault : List ℕ → ℕ → Option ElfError
program_fault bytes k = program_fault_after bytes (length (segments_among bytes k)) (program_header bytes k)

-- the first fault of a program header, in their order
abbrev pub programs_fault : List ℕ → Option ElfError
programs_fault bytes = first_fault (table (program_fault bytes) (header_of bytes).program_count)

-- the address lies in the segment
abbrev pub covers : ℕ → Segment → Bool
covers a s = nat_le s.addr a && nat_lt a (s.addr + s.mem_len)

-- instructions may be fetched at the address
abbrev pub is_code : ℕ → Segment → Bool
is_code a s = covers a s && has_flag pf_x s.flags

-- the entry is the place of an instruction
abbrev pub entry_fault : ℕ → List Segment → Option ElfError
entry_fault entry segments =
    if (entry % 4 == 0) && list_any (is_code entry) segments then None else Some NoEntry

-- the file bytes of the segment hold all program headers
abbrev pub holds_headers : FileHeader → Segment → Bool
holds_headers h s = nat_le s.offset h.program_offset && nat_le (headers_end h) (s.offset + s.file_len)

-- the address of the program headers in a segment that holds them
abbrev pub headers_addr_in : FileHeader → Segment → ℕ
headers_addr_in h s = s.addr + h.program_offset - s.offset

-- their address in the first segment that holds them
abbrev pub headers_addr_of : FileHeader → List Segment → Option ℕ
headers_addr_of h segments = option_map (headers_addr_in h) (find (holds_headers h) segments)
