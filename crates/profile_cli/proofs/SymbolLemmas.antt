-- The map of a program's symbols.
use Rattle.std.proofs.Common.{◌≡◌, ℕ, ◌^◌, ◌<◌, ◌↔◌, Contains, IfOk, List, Result, Ok, Err, codes, ap, subst, ◌∙◌}
use Rattle.std.specs.Cmp.Lexicographic.{slice_cmp}
use Rattle.std.specs.List.Sorted.{IsStrictlySortedBy}
use Rattle.std.specs.Ordering.{nat_cmp}
use Rattle.byte_text.specs.declared.memory.OutOfMemory.{OutOfMemory}
use Rattle.event_costs.specs.declared.numbers.FuncId.{FuncId}
use Rattle.elf_read.specs.Image.{Image, content_of}
use Rattle.dwarf_line.specs.LineRow.{LineRow}
use Rattle.dwarf_line.specs.Program.{SequenceOf}
use Rattle.dwarf_line.specs.Unit.{line_sequences}
use Rattle.sym_map.specs.Places.{Identity, IsEntryOf, files_of, functions_of, is_entry, location_at}
use Rattle.sym_map.specs.SymbolMap.{IsFunc, SymbolMap, by_identity, entry_of, identities, identity_of}
use Rattle.sym_map.specs.SymbolMap.{is_entry_at, location_of, place_of}
use Rattle.profile_cli.specs.Program.{IsMapOf, lines_of}

-- the rows of the sections, where these are their bytes
pub lines-read : (image : Image) (lines : List (SequenceOf LineRow)) (section line_str strings : List ℕ)
    → lines ≡ line_sequences (record { line_str = line_str; strings = strings }) section
    → section ≡ content_of image (codes ".debug_line") → line_str ≡ content_of image (codes ".debug_line_str")
    → strings ≡ content_of image (codes ".debug_str")
    → lines ≡ lines_of image
lines-read image lines section line_str strings is first second third =
    is ∙ ap (λ s. line_sequences (record { line_str = line_str; strings = strings }) s) first
    ∙ ap (λ l. line_sequences (record { line_str = l; strings = strings }) (content_of image (codes ".debug_line")))
    second
    ∙ ap (λ s. line_sequences (record { line_str = content_of image (codes ".debug_line_str"); strings = s })
    (content_of image (codes ".debug_line"))) third

-- what is built of the rows is the program's
pub IsMapOf-built : (image : Image) (lines : List (SequenceOf LineRow)) (result : Result SymbolMap OutOfMemory)
    → lines ≡ lines_of image
    → IfOk result (λ m. (address : ℕ) → address < 2 ^ 32
    → location_of m (place_of m address) ≡ location_at image lines address)
    → IfOk result (λ m. (address : ℕ) → address < 2 ^ 32 → is_entry_at m address ≡ is_entry image address)
    → IfOk result (λ m. (func : FuncId) → IsFunc m func
    → IsEntryOf image lines (identity_of m func) (entry_of m func))
    → IfOk result (λ m. (identity : Identity)
    → Contains (identities m) identity ↔ Contains (functions_of image lines) identity)
    → IfOk result (λ m. IsStrictlySortedBy by_identity (identities m))
    → IfOk result (λ m. (name : List ℕ) → Contains m.files name ↔ Contains (files_of lines) name)
    → IfOk result (λ m. IsStrictlySortedBy (slice_cmp nat_cmp) m.files) → IfOk result (IsMapOf image)
IsMapOf-built image lines (Ok m) is places entry_addresses entries functions functions_rise files files_rise = record {
  places = subst (λ l. (address : ℕ) → address < 2 ^ 32
      → location_of m (place_of m address) ≡ location_at image l address) is places;
  entry_addresses = entry_addresses;
  entries = subst (λ l. (func : FuncId) → IsFunc m func → IsEntryOf image l (identity_of m func) (entry_of m func)) is
      entries;
  functions = subst (λ l. (identity : Identity)
      → Contains (identities m) identity ↔ Contains (functions_of image l) identity) is functions;
  functions_rise = functions_rise;
  files = subst (λ l. (name : List ℕ) → Contains m.files name ↔ Contains (files_of l) name) is files;
  files_rise = files_rise;
}
IsMapOf-built image lines (Err refused) is places entry_addresses entries functions functions_rise files files_rise = tt
