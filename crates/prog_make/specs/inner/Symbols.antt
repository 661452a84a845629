-- The symbol table as bytes (gABI, Symbol Table).
use Rattle.std.specs.Prelude.{ℕ, ◌+◌, ◌*◌, List, [], ◌∷◌, ◌++◌, length}
use Rattle.std.specs.List.{flat_map}
use Rattle.prog_make.specs.declared.function_part.FunctionPart.{FunctionPart}
use Rattle.prog_make.specs.declared.symbol.SymbolEntry.{SymbolEntry}
use Rattle.prog_make.specs.SegmentContent.{SegmentContent}
use Rattle.prog_make.specs.Encoding.{half_bytes, words_bytes}
use Rattle.prog_make.specs.Functions.{section_number}

-- st_name, st_value, st_size, st_info, st_other and st_shndx
unfoldable pub symbol_bytes : SymbolEntry → List ℕ
symbol_bytes e = words_bytes (e.name ∷ e.value ∷ e.size ∷ []) ++ (e.info ∷ 0 ∷ half_bytes e.section)

-- STN_UNDEF, the symbol that stands for none
abbrev pub undefined_entry : SymbolEntry
undefined_entry = record { name = 0; value = 0; size = 0; info = 0; section = 0 }

-- st_info, of a binding and a type
abbrev pub symbol_info : ℕ → ℕ → ℕ
symbol_info binding kind = 16 * binding + kind

-- the symbols of functions, whose names stand one after the other from a place on
abbrev pub entries_from : ℕ → List SegmentContent → List FunctionPart → List SymbolEntry
entries_from place segments [] = []
entries_from place segments (f ∷ functions) =
    record {
      name = place;
      value = f.addr;
      size = f.size;
      info = symbol_info 1 2;
      section = section_number segments f;
    }
    ∷ entries_from (place + length f.name + 1) segments functions

abbrev pub symbol_entries : List SegmentContent → List FunctionPart → List SymbolEntry
symbol_entries segments functions = undefined_entry ∷ entries_from 1 segments functions

abbrev pub symbols_bytes : List SymbolEntry → List ℕ
symbols_bytes entries = flat_map symbol_bytes entries
