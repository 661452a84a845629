-- Functions by the numbers of their files, and symbols by the numbers of their functions.
use Rattle.std.specs.Prelude.{ℕ, Bool, List, find, Option}
use Rattle.std.specs.Option.{option_map_or}
use Rattle.elf_read.specs.declared.symbol.Symbol.{Symbol}
use Rattle.byte_text.specs.Names.{clean_name}
use Rattle.event_costs.specs.declared.numbers.FileId.{FileId}
use Rattle.sym_map.specs.declared.function.Function.{Function}
use Rattle.sym_map.specs.declared.range.Range.{Range}
use Rattle.sym_map.specs.declared.range.Cover.{Cover}
use Rattle.sym_map.specs.declared.range.Cover.TheVariants as what
use Rattle.sym_map.specs.inner.Naming.{NamedSymbol, NumberedSymbol}
use Rattle.sym_map.specs.inner.Ranges.{line_of, cover_at}

-- the number of the file in which an address's line is
abbrev pub home_at : List Range → FileId → ℕ → FileId
home_at ranges unknown address = option_map_or (λ line. line.file) (line_of (cover_at ranges address)) unknown

-- the function of a symbol, by the number of its file
abbrev pub key_of : List Range → FileId → NamedSymbol → Function
key_of ranges unknown symbol = record { home = home_at ranges unknown symbol.symbol.value; name = clean_name symbol.name }

-- the symbol that is found, as it is seen
abbrev pub symbol_cover : Option NumberedSymbol → Cover
symbol_cover placed = option_map_or (λ p. what.Symbol (record { func = record { 0 = p.number }; value = p.symbol.value }))
    placed what.Nothing

-- the first symbol that passes, as it is seen
abbrev pub first_cover : (Symbol → Bool) → List NumberedSymbol → Cover
first_cover test placed = symbol_cover (find (λ p. test p.symbol) placed)
