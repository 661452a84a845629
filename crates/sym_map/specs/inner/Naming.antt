-- Symbols with their names or without them, in the order of preference.
use Rattle.std.specs.Prelude.{ℕ, List, map, Bool}
use Rattle.std.specs.Ordering.{nat_cmp, is_lt, ordering_then}
use Rattle.std.specs.Cmp.Lexicographic.{slice_cmp}
use Rattle.std.specs.declared.cmp.Ordering.{Ordering}
use Rattle.elf_read.specs.declared.symbol.Symbol.{Symbol}
use Rattle.elf_read.specs.Image.{Image}
use Rattle.name_numbers.specs.declared.text_place.TextPlace.{TextPlace}
use Rattle.sym_map.specs.Symbols.{symbol_name, binding_rank, candidates}

-- a symbol with the bytes of its name
pub record NamedSymbol : Type 0 where
  pub symbol : Symbol
  pub name : List ℕ

abbrev pub with_name : Image → Symbol → NamedSymbol
with_name image symbol = record { symbol = symbol; name = symbol_name image symbol }

-- the symbol without the place of its name
abbrev pub nameless : Symbol → Symbol
nameless symbol = record {
  name = record { start = 0; end = 0 };
  value = symbol.value;
  size = symbol.size;
  kind = symbol.kind;
  binding = symbol.binding;
  section = symbol.section;
}

-- the same, with the bytes of the name beside it
abbrev pub name_beside : Image → Symbol → NamedSymbol
name_beside image symbol = record { symbol = nameless symbol; name = symbol_name image symbol }

-- a symbol without its name, and the number of its name or of its function
pub record NumberedSymbol : Type 0 where
  pub symbol : Symbol
  pub number : ℕ

-- the preference of named symbols
abbrev pub by_preference : NamedSymbol → NamedSymbol → Ordering
by_preference x y =
    ordering_then (nat_cmp y.symbol.value x.symbol.value)
    (ordering_then (nat_cmp (binding_rank x.symbol.binding) (binding_rank y.symbol.binding))
    (slice_cmp nat_cmp x.name y.name))

abbrev pub is_preferred : NamedSymbol → NamedSymbol → Bool
is_preferred x y = is_lt (by_preference x y)

-- all candidates with their names
abbrev pub candidates_with_names : Image → List NamedSymbol
candidates_with_names image = map (name_beside image) (candidates image)

-- where a symbol's name stands
abbrev pub place_of_text : Symbol → TextPlace
place_of_text symbol = record { start = symbol.name.start; end = symbol.name.end }
