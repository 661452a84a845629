-- The bytes of a file.
use Rattle.std.specs.Prelude.{ℕ, ◌+◌, List, [], ◌∷◌, ◌++◌, length}
use Rattle.std.specs.List.{flat_map}
use Rattle.prog_make.specs.declared.function_part.FunctionPart.{FunctionPart}
use Rattle.prog_make.specs.declared.header.Header.{Header}
use Rattle.prog_make.specs.SegmentContent.{SegmentContent}
use Rattle.prog_make.specs.Parts.{Parts}
use Rattle.prog_make.specs.inner.FileHeader.{header_bytes}
use Rattle.prog_make.specs.Programs.{file_segments}
use Rattle.prog_make.specs.inner.ProgramBytes.{programs_bytes}
use Rattle.prog_make.specs.inner.Tail.{headers_offset, tail_of}

-- the ELF header, the program headers, the bytes of the segments, and what follows them
abbrev pub elf_file : Header → List SegmentContent → List ℕ → List ℕ
elf_file h segments tail = header_bytes h ++
    (programs_bytes (file_segments segments) ++ (flat_map (λ s. s.bytes) segments ++ tail))

-- the header of a file without sections
abbrev pub plain_header : Parts → Header
plain_header parts = record {
  entry = parts.entry;
  program_count = length parts.segments;
  section_offset = 0;
  section_count = 0;
  names_index = 0;
}

-- the header of a file with sections
abbrev pub full_header : Parts → Header
full_header parts = record {
  entry = parts.entry;
  program_count = length parts.segments;
  section_offset = headers_offset parts;
  section_count = 5 + length parts.segments;
  names_index = 4;
}

-- a file without functions has no sections
abbrev pub plain_file : Parts → List ℕ
plain_file parts = elf_file (plain_header parts) parts.segments []

abbrev pub full_file : Parts → List ℕ
full_file parts = elf_file (full_header parts) parts.segments (tail_of parts)

-- with sections where there are functions
abbrev pub file_for : Parts → List FunctionPart → List ℕ
file_for parts [] = plain_file parts
file_for parts (f ∷ functions) = full_file parts

-- the file of a program
abbrev pub file_of : Parts → List ℕ
file_of parts = file_for parts parts.functions
