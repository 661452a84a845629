-- Functions as names in files.
use Rattle.std.proofs.Common.{◌≡◌, ℕ, List, [], ◌∷◌, map, Some, refl, ap, ◌∙◌, option_map, subst}
use Rattle.std.specs.Prelude.{slice_get}
use Rattle.std.specs.List.{AllByRecursion}
use Rattle.std.specs.List.Sorted.{IsStrictlySortedBy}
use Rattle.std.specs.declared.cmp.Ordering.TheVariants.{Less}
use Rattle.std.proofs.lemmas.Option.{slice_get-map}
use Rattle.event_costs.specs.declared.numbers.FileId.{FileId}
use Rattle.name_numbers.specs.Keys.{NumberEach}
use Rattle.name_numbers.specs.FileNames.{by_file_name, file_name, unknown_in}
use Rattle.name_numbers.specs.declared.file_names.FileName.{FileName}
use Rattle.name_numbers.specs.declared.file_names.RankInFile.{RankInFile}
use Rattle.sym_map.proofs.Members.{Alike, Alike-map, Alike-refl, Alike-trans}
use Rattle.sym_map.proofs.Numbers.{nested, numbers_mapped}
use Rattle.sym_map.specs.FunctionOrder.{by_function}
use Rattle.sym_map.specs.declared.function.Function.{Function}
use Rattle.sym_map.specs.declared.range.Range.{Range}
use Rattle.sym_map.specs.inner.Functions.{key_of}
use Rattle.sym_map.specs.inner.NameKeys.{name_key, function_named, function_of_name}
use Rattle.sym_map.specs.inner.Naming.{NumberedSymbol}
use Rattle.sym_map.specs.inner.Ranking.{named_in}
use Rattle.sym_map.specs.inner.SymbolTable.{unknown_key}

pub functions_rise : (names : List FileName) → IsStrictlySortedBy by_file_name names
    → IsStrictlySortedBy by_function (map function_of_name names)
unfolding IsStrictlySortedBy
functions_rise [] sorted = sorted
functions_rise (name ∷ names) sorted = (above names sorted.0, functions_rise names sorted.1)
  where
    above : (ns : List FileName) → AllByRecursion (λ n. by_file_name name n ≡ Less) ns
        → AllByRecursion (λ f. by_function (function_of_name name) f ≡ Less) (map function_of_name ns)
    above [] less = less
    above (n ∷ ns) less = (less.0, above ns less.1)

module _ (names : List (List ℕ)) (keys : List RankInFile) where
  all_named : map function_of_name (map (file_name names) keys) ≡ map (function_named names) keys
  all_named = nested (file_name names) function_of_name keys

  pub functions_alike : (file : FileId) (made : List FileName) → Alike made (unknown_in file.0 ∷ map (file_name names) keys)
      → Alike (map function_of_name made) (unknown_key file ∷ map (function_named names) keys)
  functions_alike file made alike =
      Alike-trans (map function_of_name made) (map function_of_name (unknown_in file.0 ∷ map (file_name names) keys))
      (unknown_key file ∷ map (function_named names) keys)
      (Alike-map function_of_name made (unknown_in file.0 ∷ map (file_name names) keys) alike)
      (Alike-refl (map function_of_name (unknown_in file.0 ∷ map (file_name names) keys))
      (unknown_key file ∷ map (function_named names) keys)
      (ap (λ (fs : List Function). unknown_key file ∷ fs) all_named))

  pub functions_each : (made : List FileName) (numbers : List ℕ) → NumberEach made numbers (map (file_name names) keys)
      → NumberEach (map function_of_name made) numbers (map (function_named names) keys)
  functions_each made numbers each =
      subst (NumberEach (map function_of_name made) numbers) all_named
      (numbers_mapped function_of_name made numbers (map (file_name names) keys) each)

pub unknown_at : (made : List FileName) (number : ℕ) (file : FileId) → slice_get made number ≡ Some (unknown_in file.0)
    → slice_get (map function_of_name made) number ≡ Some (unknown_key file)
unknown_at made number file at = slice_get-map function_of_name made number ∙ ap (option_map function_of_name) at

-- ---- functions by the ranks of their names

pub functions_by_rank : (names : List (List ℕ)) (ranges : List Range) (unknown : FileId) (rs : List NumberedSymbol)
    → map (function_named names) (map (name_key ranges unknown) rs)
    ≡ map (key_of ranges unknown) (map (named_in names) rs)
functions_by_rank names ranges unknown [] = refl
functions_by_rank names ranges unknown (r ∷ rs) =
    ap (λ (fs : List Function). key_of ranges unknown (named_in names r) ∷ fs)
    (functions_by_rank names ranges unknown rs)
