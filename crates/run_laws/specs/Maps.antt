-- Maps that tell the same of code.
use Rattle.std.specs.Prelude.{◌≡◌, ℕ, ◌<◌, ◌^◌}
use Rattle.event_costs.specs.declared.numbers.FuncId.{FuncId}
use Rattle.sym_map.specs.SymbolMap.{IsFunc, SymbolMap, entry_line_of, entry_of, is_entry_at, place_of}
use Rattle.profile_run.specs.Program.{Program}

-- Two maps have the same functions and files, the same entries of these functions, and say the same of every address
-- of 32 bits.
pub record TellTheSame (m n : SymbolMap) : Type 0 where
  pub functions : m.functions ≡ n.functions
  pub files : m.files ≡ n.files
  pub entries : (func : FuncId) → IsFunc m func → entry_of m func ≡ entry_of n func
  pub entry_lines : (func : FuncId) → IsFunc m func → entry_line_of m func ≡ entry_line_of n func
  pub places : (address : ℕ) → address < 2 ^ 32 → place_of m address ≡ place_of n address
  pub entry_addresses : (address : ℕ) → address < 2 ^ 32 → is_entry_at m address ≡ is_entry_at n address

-- the same guest, whose code another map tells
abbrev pub with_map : SymbolMap → Program → Program
with_map syms guest = record guest { syms = syms }
