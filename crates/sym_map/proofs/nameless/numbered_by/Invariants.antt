use Rattle.std.proofs.Common.{◌≡◌, map, take}
use Rattle.sym_map.specs.inner.Naming.{NumberedSymbol}
use Rattle.sym_map.proofs.nameless.numbered_by.Given as goal

abbrev pub invariant-numbered : goal.invariant-numbered
invariant-numbered l = record {
  symbols : map (λ (c : NumberedSymbol). c.symbol) l.numbered.items
      ≡ map (λ (c : NumberedSymbol). c.symbol) l.initial.numbered.items;
  numbers : map (λ (c : NumberedSymbol). c.number) (take l.i l.numbered.items) ≡ take l.i l.numbers;
}
