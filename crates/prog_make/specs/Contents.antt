-- What a made file holds, in the words of its readers.
use Rattle.std.specs.Prelude.{◌≡◌, ℕ, ◌+◌, ◌-◌, ◌/◌, ◌≢◌, ◌≤◌, ◌&&◌, List, [], ◌∷◌, map, bit_and, slice_range, find, codes}
use Rattle.std.specs.Prelude.{length, None, IsSomeAnd, slice_get}
use Rattle.std.specs.List.{All}
use Rattle.std.specs.Option.{option_map_or}
use Rattle.elf_read.specs.declared.program.Segment.{Segment}
use Rattle.elf_read.specs.declared.section.Section.{Section}
use Rattle.elf_read.specs.declared.symbol.Symbol.{Symbol}
use Rattle.elf_read.specs.Image.{image_of, content_of}
use Rattle.elf_read.specs.Standard.{stb_local}
use Rattle.elf_read.specs.Refusal.{refusal}
use Rattle.elf_read.specs.Strings.{part_of}
use Rattle.dwarf_line.specs.Program.{SequenceOf}
use Rattle.dwarf_line.specs.LineRow.{LineRow, FileLine, line_at}
use Rattle.dwarf_line.specs.FileText.{unknown}
use Rattle.dwarf_line.specs.Unit.{line_sequences}
use Rattle.prog_make.specs.declared.function_part.FunctionPart.{FunctionPart}
use Rattle.prog_make.specs.SegmentContent.{SegmentContent}
use Rattle.prog_make.specs.Parts.{Parts}
use Rattle.prog_make.specs.Functions.{lies_in, has_lines, section_number}
use Rattle.prog_make.specs.Lengths.{file_len}

-- a segment of a file, with its bytes
abbrev pub segment_in : List ℕ → Segment → SegmentContent
segment_in file s = record {
  addr = s.addr;
  bytes = slice_range file s.offset (s.offset + s.file_len);
  mem_len = s.mem_len;
  flags = s.flags;
}

-- a symbol with its name
pub record NamedSymbol : Type 0 where
  pub name : List ℕ
  pub value : ℕ
  pub size : ℕ
  pub kind : ℕ
  pub binding : ℕ
  pub section : ℕ

abbrev pub symbol_in : List ℕ → Symbol → NamedSymbol
symbol_in file s = record {
  name = part_of file s.name;
  value = s.value;
  size = s.size;
  kind = s.kind;
  binding = s.binding;
  section = s.section;
}

-- STN_UNDEF, the first symbol of each table
abbrev pub undefined_symbol : NamedSymbol
undefined_symbol = record {
  name = [];
  value = 0;
  size = 0;
  kind = 0;
  binding = stb_local;
  section = 0;
}

-- the symbol of a function
abbrev pub function_symbol : List SegmentContent → FunctionPart → NamedSymbol
function_symbol segments f = record {
  name = f.name;
  value = f.addr;
  size = f.size;
  kind = 2;
  binding = 1;
  section = section_number segments f;
}

-- a symbol table of functions; without functions there is none
abbrev pub symbols_for : List SegmentContent → List FunctionPart → List NamedSymbol
symbols_for segments [] = []
symbols_for segments (f ∷ functions) =
    undefined_symbol ∷ function_symbol segments f ∷ map (function_symbol segments) functions

-- the symbols of a program
abbrev pub function_symbols : Parts → List NamedSymbol
function_symbols parts = symbols_for parts.segments parts.functions

-- a function's code lies in a section of code
pub record HasCode (s : Section) (f : FunctionPart) : Type 0 where
  pub executable : bit_and s.flags 4 ≢ 0
  pub begins : s.addr ≤ f.addr
  pub ends : f.addr + f.size ≤ s.addr + s.size

-- the line table of a file
abbrev pub lines_of : List ℕ → List (SequenceOf LineRow)
lines_of file =
    line_sequences (record {
      line_str = content_of (image_of file) (codes ".debug_line_str");
      strings = content_of (image_of file) (codes ".debug_str");
    })
    (content_of (image_of file) (codes ".debug_line"))

-- the line of an address of a function: one for each instruction
abbrev pub function_line : List ℕ → ℕ → FunctionPart → FileLine
function_line file a f = record { file = file; line = f.first_line + (a - f.addr) / 4 }

-- the line of an address: that of the function with lines that it lies in, and else none
abbrev pub line_made : Parts → ℕ → FileLine
line_made parts a =
    option_map_or (function_line parts.file a) (find (λ f. has_lines f && lies_in a f) parts.functions)
    (record { file = unknown; line = 0 })

-- the bytes are a file of these parts, as its readers read it
pub record IsFileOf (parts : Parts) (file : List ℕ) : Type 0 where
  pub accepted : refusal file ≡ None
  -- there are so many of them
  pub len : length file ≡ file_len parts
  pub entry : (image_of file).entry ≡ parts.entry
  -- its segments are these, with their bytes
  pub segments : map (segment_in file) (image_of file).segments ≡ parts.segments
  -- and its symbols those of the functions
  pub symbols : map (symbol_in file) (image_of file).symbols ≡ function_symbols parts
  -- each function lies in a section of code
  pub code : All (λ f. IsSomeAnd (slice_get (image_of file).sections (section_number parts.segments f))
      (λ s. HasCode s f)) parts.functions
  -- each instruction of a function has its line, and no other address has one
  pub lines : (a : ℕ) → line_at (lines_of file) a ≡ line_made parts a
