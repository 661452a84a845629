-- The preference of candidates by the ranks of their names.
use Rattle.std.specs.Prelude.{ℕ, List, [], slice_index_or}
use Rattle.std.specs.Ordering.{nat_cmp, ordering_then}
use Rattle.std.specs.declared.cmp.Ordering.{Ordering}
use Rattle.sym_map.specs.Symbols.{binding_rank}
use Rattle.sym_map.specs.inner.Naming.{NamedSymbol, NumberedSymbol}

abbrev pub by_rank : NumberedSymbol → NumberedSymbol → Ordering
by_rank x y =
    ordering_then
    (ordering_then (nat_cmp y.symbol.value x.symbol.value)
    (nat_cmp (binding_rank x.symbol.binding) (binding_rank y.symbol.binding)))
    (nat_cmp x.number y.number)

-- the candidate with the name that its number stands for among these
abbrev pub named_in : List (List ℕ) → NumberedSymbol → NamedSymbol
named_in names ranked = record { symbol = ranked.symbol; name = slice_index_or names ranked.number [] }
