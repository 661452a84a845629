-- What holds of every map, as it is kept.
use Rattle.std.specs.Prelude.{◌≡◌, ℕ, ◌<◌, ◌^◌, List, length, slice_index_or, Option, IfSome, All}
use Rattle.std.specs.Cmp.Lexicographic.{slice_cmp}
use Rattle.std.specs.List.Sorted.{IsStrictlySortedBy}
use Rattle.std.specs.Ordering.{nat_cmp}
use Rattle.event_costs.specs.Keys.{Place}
use Rattle.sym_map.specs.declared.function.Function.{Function}
use Rattle.sym_map.specs.declared.range.Here.{Here}
use Rattle.sym_map.specs.FunctionOrder.{by_function}
use Rattle.sym_map.specs.inner.Ranges.{AddressRanges, here_at}
use Rattle.sym_map.specs.SymbolMap.{IsCleaned}
use Rattle.sym_map.specs.inner.Rising.{AllRise}

-- all numbers of what is known of an address are in range
pub record IsKnown (functions : List Function) (files : List (List ℕ)) (here : Here) : Type 0 where
  pub symbol : IfSome here.symbol (λ symbol. symbol.func.0 < length functions)
  pub line : IfSome here.line (λ line. line.file.0 < length files)
  pub line_limit : IfSome here.line (λ line. line.line < 2 ^ 32)

-- what holds of every map
pub record IsMap (functions : List Function) (files : List (List ℕ)) (entries : List (Option ℕ)) (ranges : AddressRanges)
    (unknown : Place) : Type 0 where
  pub functions_rise : IsStrictlySortedBy by_function functions
  pub few_functions : length functions < 2 ^ 32
  pub homes : (k : ℕ) (d : Function) → k < length functions → (slice_index_or functions k d).home.0 < length files
  pub files_rise : IsStrictlySortedBy (slice_cmp nat_cmp) files
  pub few_files : length files < 2 ^ 32
  pub functions_cleaned : All (λ function. IsCleaned function.name) functions
  pub files_cleaned : All IsCleaned files
  pub as_many : length entries ≡ length functions
  pub entry_limit : All (λ entry. IfSome entry (λ address. address < 2 ^ 32)) entries
  pub ranges_rise : AllRise ranges
  pub here_known : (address : ℕ) → address < 2 ^ 32 → IsKnown functions files (here_at ranges address)
  pub unknown_func : unknown.func.0 < length functions
  pub unknown_file : unknown.file.0 < length files
