-- The section header table (gABI, Section Header) and the sections that it describes.
use Rattle.std.specs.Prelude.{◌≢◌, ℕ, ◌+◌, ◌*◌, ◌≤◌, List, [], ◌∷◌, length, Option, Some, None, Bool, not, nat_eq}
use Rattle.std.specs.Prelude.{nat_lt, min, slice_range, ◌==◌, ◌&&◌, ◌||◌, if◌then◌else◌}
use Rattle.std.specs.List.{starts_with}
use Rattle.std.specs.Str.{bytes_eq}
use Rattle.std.specs.Prelude.{codes}
use Rattle.elf_read.specs.declared.error.ElfError.{ElfError}
use Rattle.elf_read.specs.declared.error.ElfError.TheVariants.{Compressed}
use Rattle.elf_read.specs.declared.section.SectionHeader.{SectionHeader}
use Rattle.elf_read.specs.declared.section.Section.{Section}
use Rattle.elf_read.specs.declared.text.Range.{Range}
use Rattle.elf_read.specs.Standard.{section_header_len, shf_compressed, has_flag}
use Rattle.elf_read.specs.Numbers.{word_at}
use Rattle.elf_read.specs.Checks.{table, first_fault, whole_fault}
use Rattle.elf_read.specs.Header.{header_of, has_sections}
use Rattle.elf_read.specs.Strings.{part_of, nothing, string_at}

-- how many sections the file has
abbrev pub section_count : List ℕ → ℕ
section_count bytes = if has_sections (header_of bytes) then (header_of bytes).section_count else 0

-- where the section headers end
abbrev pub sections_end : List ℕ → ℕ
sections_end bytes = (header_of bytes).section_offset + section_header_len * (header_of bytes).section_count

-- the fields sh_name, sh_type, sh_flags, sh_addr, sh_offset, sh_size and sh_link of the header at a place
abbrev pub section_header_at : List ℕ → ℕ → SectionHeader
section_header_at bytes place = record {
  name = word_at bytes place;
  kind = word_at bytes (place + 4);
  flags = word_at bytes (place + 8);
  addr = word_at bytes (place + 12);
  offset = word_at bytes (place + 16);
  size = word_at bytes (place + 20);
  link = word_at bytes (place + 24);
}

-- section header k
unfoldable pub section_header : List ℕ → ℕ → SectionHeader
section_header bytes k = section_header_at bytes ((header_of bytes).section_offset + section_header_len * k)

-- a section of the type has bytes in the file: it is neither SHT_NULL nor SHT_NOBITS
abbrev pub has_bytes : ℕ → Bool
has_bytes kind = not (kind == 0) && not (kind == 8)

-- the bytes of a section that are in the file
abbrev pub content_of : List ℕ → SectionHeader → Range
content_of bytes h =
    if has_bytes h.kind then record { start = h.offset; end = min (h.offset + h.size) (length bytes) } else nothing

-- the strings of the section of this index, of which there are none where there is no such section
unfoldable pub strings_of : List ℕ → ℕ → Range
strings_of bytes k = if nat_lt k (section_count bytes) then content_of bytes (section_header bytes k) else nothing

-- the strings that the names of sections are among: those of the section e_shstrndx
abbrev pub names_of : List ℕ → Range
names_of bytes = strings_of bytes (header_of bytes).names_index

-- the name of a section that has bytes; one without bytes has no name
abbrev pub section_name : List ℕ → SectionHeader → Range
section_name bytes h = if has_bytes h.kind then string_at bytes (names_of bytes) h.name else nothing

abbrev pub section_of : List ℕ → SectionHeader → Section
section_of bytes h =
    record { name = section_name bytes h; kind = h.kind; flags = h.flags; addr = h.addr; offset = h.offset; size = h.size }

-- a section that isn't of the type SHT_NULL or SHT_NOBITS has its bytes in the file
abbrev pub IsHeld : List ℕ → Section → Type 0
IsHeld bytes s = s.kind ≢ 0 → s.kind ≢ 8 → s.offset + s.size ≤ length bytes

-- the bytes of a section
abbrev pub bytes_of : List ℕ → Section → List ℕ
bytes_of bytes s = if has_bytes s.kind then slice_range bytes s.offset (s.offset + s.size) else []

-- section k
unfoldable pub section_at : List ℕ → ℕ → Section
section_at bytes k = section_of bytes (section_header bytes k)

-- the sections of the file
abbrev pub sections_of : List ℕ → List Section
sections_of bytes = table (section_at bytes) (section_count bytes)

-- the section has this name
abbrev pub is_named : List ℕ → List ℕ → Section → Bool
is_named bytes name s = bytes_eq (part_of bytes s.name) name

-- the section headers end within the file
abbrev pub sections_whole_fault : List ℕ → Option ElfError
sections_whole_fault bytes =
    if has_sections (header_of bytes) then whole_fault bytes (sections_end bytes) else None

-- the bytes of a section end within the file
abbrev pub content_fault : List ℕ → SectionHeader → Option ElfError
content_fault bytes h = if has_bytes h.kind then whole_fault bytes (h.offset + h.size) else None

-- how the names of compressed sections once began
unfoldable pub old_compressed : List ℕ
old_compressed = codes ".zdebug_"

-- the content is compressed: SHF_COMPRESSED is set, or the name tells it
abbrev pub is_compressed : List ℕ → SectionHeader → Bool
is_compressed bytes h =
    has_flag shf_compressed h.flags || starts_with nat_eq (part_of bytes (section_name bytes h)) old_compressed

-- the section of index k isn't compressed
abbrev pub compressed_fault : List ℕ → ℕ → SectionHeader → Option ElfError
compressed_fault bytes k h = if is_compressed bytes h then Some (Compressed k) else None

-- what is wrong with the section of index k, which has this header
abbrev pub header_fault : List ℕ → ℕ → SectionHeader → Option ElfError
header_fault bytes k h = first_fault (content_fault bytes h ∷ compressed_fault bytes k h ∷ [])

-- what is wrong with section k
unfoldable pub section_fault : List ℕ → ℕ → Option ElfError
section_fault bytes k = header_fault bytes k (section_header bytes k)

-- the first fault of a section, in their order
abbrev pub sections_fault : List ℕ → Option ElfError
sections_fault bytes = first_fault (table (section_fault bytes) (section_count bytes))
