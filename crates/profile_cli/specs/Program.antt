-- The program that a job runs: its symbols, and the guest.
use Rattle.std.specs.Prelude.{◌≡◌, ℕ, ◌^◌, ◌<◌, ◌↔◌, Contains, List, codes, length}
use Rattle.std.specs.Cmp.Lexicographic.{slice_cmp}
use Rattle.std.specs.List.Sorted.{IsStrictlySortedBy}
use Rattle.std.specs.Ordering.{nat_cmp}
use Rattle.elf_read.specs.Image.{Image, content_of}
use Rattle.dwarf_line.specs.LineRow.{LineRow}
use Rattle.dwarf_line.specs.Program.{SequenceOf}
use Rattle.dwarf_line.specs.Unit.{line_sequences}
use Rattle.event_costs.specs.declared.numbers.FuncId.{FuncId}
use Rattle.sym_map.specs.Places.{Identity, IsEntryOf, files_of, functions_of, is_entry, location_at}
use Rattle.sym_map.specs.SymbolMap.{SymbolMap, by_identity, entry_of, identities, identity_of}
use Rattle.sym_map.specs.SymbolMap.{is_entry_at, location_of, place_of}
use Rattle.profile_run.specs.Program.{Program, Options}
use Rattle.command_words.specs.Request.{Job}

-- the rows of a program's line table, from its sections
abbrev pub lines_of : Image → List (SequenceOf LineRow)
lines_of image =
    line_sequences
    (record { line_str = content_of image (codes ".debug_line_str"); strings = content_of image (codes ".debug_str") })
    (content_of image (codes ".debug_line"))

-- The map says of every address what the program's symbols and its line table say, and has just their functions and
-- files, in order.
pub record IsMapOf (image : Image) (map : SymbolMap) : Type 0 where
  pub places : (address : ℕ) → address < 2 ^ 32
      → location_of map (place_of map address) ≡ location_at image (lines_of image) address
  pub entry_addresses : (address : ℕ) → address < 2 ^ 32 → is_entry_at map address ≡ is_entry image address
  pub entries : (func : FuncId) → func.0 < length map.functions
      → IsEntryOf image (lines_of image) (identity_of map func) (entry_of map func)
  pub functions : (identity : Identity)
      → Contains (identities map) identity ↔ Contains (functions_of image (lines_of image)) identity
  pub functions_rise : IsStrictlySortedBy by_identity (identities map)
  pub files : (name : List ℕ) → Contains map.files name ↔ Contains (files_of (lines_of image)) name
  pub files_rise : IsStrictlySortedBy (slice_cmp nat_cmp) map.files

-- what the options of a job ask of its run
abbrev pub options_of : Job → Options
options_of job = record {
  base = job.base;
  budget = job.budget;
  quantum = job.quantum;
  seed = job.seed;
  shapes = record { i1 = job.i1; d1 = job.d1; ll = job.ll };
  dump_points = record { every = job.every; before = job.before; after = job.after };
  branch = job.branches;
}

-- the guest of a job, whose program is this, with this input and this map of its symbols
abbrev pub guest_of : Job → Image → List ℕ → SymbolMap → Program
guest_of job image input syms =
    record { image = image; syms = syms; args = job.args; input = input; options = options_of job }
