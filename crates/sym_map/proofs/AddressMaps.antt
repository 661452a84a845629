-- The map that tells code by its addresses is as every map is.
use Rattle.std.proofs.Common.{◌<◌, ◌^◌, ℕ, List, Option, length, arith}
use Rattle.std.proofs.lemmas.Bool.Decides.{nat_tests}
use Rattle.event_costs.specs.Keys.{Place}
use Rattle.sym_map.specs.declared.function.Function.{Function}
use Rattle.sym_map.specs.AddressMap.{address_line}
use Rattle.sym_map.specs.inner.Ranges.{AddressRanges, lines_by_address}
use Rattle.sym_map.specs.inner.Maps.{IsMap}

pub address_is_map : (functions : List Function) (files : List (List ℕ)) (entries : List (Option ℕ))
    (ranges : AddressRanges) (unknown : Place) → IsMap functions files entries ranges unknown
    → IsMap functions files entries (lines_by_address ranges) unknown
address_is_map functions files entries ranges unknown is = record {
  functions_rise = is.functions_rise;
  few_functions = is.few_functions;
  homes = is.homes;
  files_rise = is.files_rise;
  few_files = is.few_files;
  functions_cleaned = is.functions_cleaned;
  files_cleaned = is.files_cleaned;
  as_many = is.as_many;
  entry_limit = is.entry_limit;
  ranges_rise = record { symbols = is.ranges_rise.symbols; lines = is.ranges_rise.lines };
  here_known = λ address small. record {
    symbol = (is.here_known address small).symbol;
    line = some (is.unknown_file);
    line_limit = fits address;
  };
  unknown_func = is.unknown_func;
  unknown_file = is.unknown_file;
}
  where
    some : {i : ℕ} → i < length files → 0 < length files
    some below = omega (arith, below)

    fits : (address : ℕ) → address_line address < 2 ^ 32
    fits address = grind (arith, nat_tests)
