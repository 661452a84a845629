use Rattle.std.proofs.Common.{◌<◌, length, Some, sym, ap, ◌∙◌, arith}
use Rattle.std.specs.List.{slice_get}
use Rattle.elf_read.specs.Image.{Image}
use Rattle.elf_read.specs.Symbols.{symbol_in, symbol_table_of}
use Rattle.elf_read.proofs.TableLemmas.{length-table, slice_get-table}
use Rattle.elf_read.proofs.elf.Elf.symbol.Goals as goal

pub symbol-requires-clause-index : goal.symbol-requires-clause-index
symbol-requires-clause-index c =
    let b = c.self.inside.bytes.now in
    omega (
      arith,
      ap (λ t. t.count) c.self.invariant.symbols_are,
      length-table (symbol_in b (symbol_table_of b))
          (symbol_table_of b).count,
      ap (λ (v : Image). length v.symbols) c.self.view_is,
    )

pub returns-clause-symbol : goal.returns-clause-symbol
returns-clause-symbol c =
    let b = c.self.inside.bytes.now in
    let t = symbol_table_of b in
    let below : c.args.i < t.count
    = omega (arith, length-table (symbol_in b t) t.count, ap (λ (v : Image). length v.symbols) c.self.view_is) in
    ap (λ (v : Image). slice_get v.symbols c.args.i) (sym c.self.view_is)
    ∙ slice_get-table (symbol_in b t) t.count c.args.i below
    ∙ ap Some (ap (λ u. symbol_in b u c.args.i) (sym c.self.invariant.symbols_are) ∙ sym c.symbol.ensures.symbol)
