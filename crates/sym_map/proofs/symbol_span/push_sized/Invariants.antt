use Rattle.std.proofs.Common.{◌≡◌, ℕ, take}
use Rattle.sym_map.specs.inner.Functions.{first_cover}
use Rattle.sym_map.specs.inner.Spans.{or_below, cover}
use Rattle.sym_map.specs.Symbols.{covers_sized}
use Rattle.sym_map.proofs.symbol_span.push_sized.Given as goal

abbrev pub invariant-placed : goal.invariant-placed
invariant-placed l = (address : ℕ)
    → cover l.spans.items address ≡ or_below (cover l.initial.spans.items address)
    (first_cover (covers_sized address) (take l.one-index l.placed))
