use Rattle.std.proofs.Common.{length, sym, ap, ◌∙◌}
use Rattle.elf_read.specs.Image.{Image}
use Rattle.elf_read.specs.Symbols.{symbol_in, symbol_table_of}
use Rattle.elf_read.proofs.TableLemmas.{length-table}
use Rattle.elf_read.proofs.elf.Elf.symbol_count.Goals as goal

pub returns-clause-count : goal.returns-clause-count
returns-clause-count c =
    let b = c.self.inside.bytes.now in
    ap (λ t. t.count) c.self.invariant.symbols_are
    ∙ sym (length-table (symbol_in b (symbol_table_of b)) (symbol_table_of b).count)
    ∙ ap (λ (v : Image). length v.symbols) c.self.view_is

pub returns-clause-few : goal.returns-clause-few
returns-clause-few c = c.self.invariant.few_symbols
