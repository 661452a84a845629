use Rattle.std.proofs.Common.{◌≡◌, ℕ, take, map, length}
use Rattle.sym_map.specs.inner.Functions.{first_cover}
use Rattle.sym_map.specs.inner.Limits.{limit_of, AreLowest}
use Rattle.sym_map.specs.inner.Naming.{NumberedSymbol}
use Rattle.sym_map.specs.inner.Spans.{or_below, cover}
use Rattle.sym_map.specs.Symbols.{covers_unsized}
use Rattle.sym_map.proofs.symbol_span.push_unsized.Given as goal

abbrev pub invariant-placed : goal.invariant-placed
invariant-placed l = record {
  passed : AreLowest (map (λ (p : NumberedSymbol). limit_of p.symbol) (take l.one-index l.placed))
      l.limits.sections.items;
  all : length l.limits.sections.items ≡ length l.elf.sections;
  cover : (address : ℕ)
      → cover l.spans.items address ≡ or_below (cover l.initial.spans.items address)
      (first_cover (covers_unsized l.elf address) (take l.one-index l.placed));
}
