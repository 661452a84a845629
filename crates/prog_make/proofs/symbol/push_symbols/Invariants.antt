-- What is written, with the symbols still to come, is the whole, and so are their names.
use Rattle.std.proofs.Common.{◌≡◌, ◌+◌, ◌++◌, ◌≤◌, length, drop}
use Rattle.std.specs.List.{flat_map}
use Rattle.prog_make.specs.inner.Strings.{with_zero, name_strings}
use Rattle.prog_make.specs.inner.Symbols.{entries_from, symbol_entries, symbols_bytes}
use Rattle.prog_make.proofs.symbol.push_symbols.Given as goal

abbrev pub invariant-functions : goal.invariant-functions
invariant-functions l = record {
  written : l.out ++ symbols_bytes (entries_from l.name l.segments (drop l.function-index l.functions))
      ≡ l.fn.out ++ symbols_bytes (symbol_entries l.segments l.functions);
  segment : l.segment ≤ length l.segments;
  room : l.name + length (flat_map (λ f. with_zero f.name) (drop l.function-index l.functions))
      ≡ length (name_strings l.functions);
}
